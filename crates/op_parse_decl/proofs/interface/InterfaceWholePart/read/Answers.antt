use Rattle.std.proofs.Common.{refl}
use Rattle.op_parse_code.proofs.Errors.{passed}
use Rattle.op_parse_decl.proofs.Begins.{interface_opens, made_refused}
use Rattle.op_parse_decl.proofs.Refusals.{form_told}
use Rattle.op_parse_code.specs.Refusal.{refused_at}
use Rattle.op_parse_decl.proofs.ClassParts.{interface_property, property_no_end}
use Rattle.op_parse_decl.proofs.Combining.{first, after, marked_is, unmarked_refused}
use Rattle.op_parse_decl.specs.Combined.{then_, nothing, unmarked}
use Rattle.op_parse_decl.specs.InterfaceParts.{ends_of_parts, known_head, known_methods, made_interface, methods_of_parts}
use Rattle.op_tree.specs.Terminal.{terminals}
use Rattle.op_parse_decl.proofs.interface.InterfaceWholePart.read.Goals as goal

pub returns-in_err-head-clause-refused : goal.returns-in_err-head-clause-refused
returns-in_err-head-clause-refused c = passed c.from_residual.result c.from_residual.ensures.1 (λ y e. rw e (made_refused made_interface interface_opens (first c.in_err-head.ensures.refused)))

pub returns-in-Some-clause-whole : goal.returns-in-Some-clause-whole
returns-in-Some-clause-whole c = rw c.bodiless-definition.ensures (ends_of_parts _ (then_ c.in_ok-head.ensures.whole (marked_is _ _ _ _ _ _ _ _ _ c.in-Some.ensures.mark.1 nothing)))

pub returns-in_err-methods-clause-refused : goal.returns-in_err-methods-clause-refused
returns-in_err-methods-clause-refused c = passed c.from_residual-in_err-methods.result c.from_residual-in_err-methods.ensures.1 (λ y e. rw e (made_refused made_interface interface_opens (after known_head c.in_ok-head.ensures.whole (unmarked_refused _ _ _ _ _ _ _ c.in_default.ensures.mark (first c.in_err-methods.ensures.refused)))))

pub returns-in-Some-behind_mark-clause-refused : goal.returns-in-Some-behind_mark-clause-refused
returns-in-Some-behind_mark-clause-refused c = form_told (refused_at 9 0 c.args.setting.end (terminals c.in_ok-methods.behind.now)) refl refl (interface_property c.in_ok-head.ensures.whole c.in_ok-methods.ensures.whole c.in-Some-behind_mark.ensures.mark.1) c.left_out.ensures (made_refused made_interface interface_opens (after known_head c.in_ok-head.ensures.whole (unmarked_refused _ _ _ _ _ _ _ c.in_default.ensures.mark (after known_methods c.in_ok-methods.ensures.whole (property_no_end c.in-Some-behind_mark.ensures.mark.1)))))

pub returns-in_err-rest-clause-refused : goal.returns-in_err-rest-clause-refused
returns-in_err-rest-clause-refused c = passed c.from_residual-in_err-rest.result c.from_residual-in_err-rest.ensures.1 (λ y e. rw e (made_refused made_interface interface_opens (after known_head c.in_ok-head.ensures.whole (unmarked_refused _ _ _ _ _ _ _ c.in_default.ensures.mark (after known_methods c.in_ok-methods.ensures.whole c.in_err-rest.ensures.refused)))))

pub returns-clause-whole : goal.returns-clause-whole
returns-clause-whole c = methods_of_parts _ (then_ c.in_ok-head.ensures.whole (unmarked c.in_default.ensures.mark (then_ c.in_ok-methods.ensures.whole c.in_ok-rest.ensures.whole)))
