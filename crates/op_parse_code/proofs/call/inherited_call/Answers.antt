use Rattle.std.proofs.Common.{sym, ◌∙◌}
use Rattle.op_parse_code.proofs.Calls.{front_begins, front_not, inherited_alone, inherited_call_refuses, inherited_call_whole}
use Rattle.op_parse_code.proofs.Errors.{passed}
use Rattle.op_tree.specs.Ends.{begins_designator}
use Rattle.op_parse_code.proofs.call.inherited_call.Goals as goal

pub returns-then-not-begins_designator-clause-whole : goal.returns-then-not-begins_designator-clause-whole
returns-then-not-begins_designator-clause-whole c = inherited_alone c.args.position c.args.left _ (front_not begins_designator _ (sym c.begins_designator.ensures ∙ c.if-not-begins_designator.true))

pub returns-in_err-call-clause-refused : goal.returns-in_err-call-clause-refused
returns-in_err-call-clause-refused c = passed c.from_residual.result c.from_residual.ensures.1 (λ y e. rw e (inherited_call_refuses c.args.position c.args.left c.args.end _ _ (front_begins begins_designator _ (sym c.begins_designator.ensures ∙ c.if-not-begins_designator.false)) c.in_err-call.ensures.refused))

pub returns-clause-whole : goal.returns-clause-whole
returns-clause-whole c = rw c.inherited_call_node.ensures (inherited_call_whole c.args.position c.args.left _ _ _ c.in_ok-call.ensures.whole)
