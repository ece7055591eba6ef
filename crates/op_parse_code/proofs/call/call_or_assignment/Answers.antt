use Rattle.op_parse_code.proofs.Calls.{call_target, call_value, call_alone, call_assigns, front_begins}
use Rattle.op_parse_code.proofs.Errors.{passed}
use Rattle.op_tree.specs.Ends.{begins_designator}
use Rattle.op_parse_code.proofs.call.call_or_assignment.Goals as goal

pub returns-in_err-target-clause-refused : goal.returns-in_err-target-clause-refused
returns-in_err-target-clause-refused c = passed c.from_residual.result c.from_residual.ensures.1 (λ y e. rw e (call_target c.args.left c.args.end _ _ (front_begins begins_designator _ c.requires) c.in_err-target.ensures.refused))

pub returns-in_default-clause-whole : goal.returns-in_default-clause-whole
returns-in_default-clause-whole c = rw c.call_statement_node.ensures (call_alone c.args.left _ _ _ c.in_ok-target.ensures.whole c.in_default.ensures.stands)

pub returns-in_err-value-clause-refused : goal.returns-in_err-value-clause-refused
returns-in_err-value-clause-refused c = passed c.from_residual-in_err-value.result c.from_residual-in_err-value.ensures.1 (λ y e. rw e (call_value c.args.left c.args.end _ _ _ _ _ _ (front_begins begins_designator _ c.requires) c.in_ok-target.ensures.whole c.in-Some.ensures.stands c.in_err-value.ensures.refused))

pub returns-clause-whole : goal.returns-clause-whole
returns-clause-whole c = rw c.assign_node.ensures (call_assigns c.args.left _ _ _ _ _ _ _ c.in_ok-target.ensures.whole c.in-Some.ensures.stands c.in_ok-value.ensures.whole)
