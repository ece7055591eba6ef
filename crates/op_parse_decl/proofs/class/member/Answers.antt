use Rattle.std.proofs.Common.{sym, ◌∙◌}
use Rattle.op_parse_code.proofs.Calls.{front_not}
use Rattle.op_parse_code.proofs.Errors.{passed}
use Rattle.op_parse_code.specs.Opening.{is_identifier}
use Rattle.op_parse_decl.proofs.Classes.{default_told, method_refused, property_refused}
use Rattle.op_tree.specs.HeadingGrammar.{is_class_method, is_class_property}
use Rattle.op_parse_decl.proofs.class.member.Goals as goal

pub returns-in_err-property-clause-refused : goal.returns-in_err-property-clause-refused
returns-in_err-property-clause-refused c = passed c.from_residual.result c.from_residual.ensures.1 (λ y e. rw e (property_refused c.args.setting.left c.args.setting.end _ _ _ _ c.in-Some.ensures.mark.1 c.in_err-property.ensures.refused))

pub returns-in-Some-form_behind_property-clause-refused : goal.returns-in-Some-form_behind_property-clause-refused
returns-in-Some-form_behind_property-clause-refused c = default_told c.args.setting.left c.args.setting.end _ _ _ _ _ c.in_ok-property.ensures.whole c.in-Some-form_behind_property.ensures c.left_out.ensures

pub returns-in-Some-clause-whole : goal.returns-in-Some-clause-whole
returns-in-Some-clause-whole c = (is_class_property c.in_ok-property.ensures.whole, tt)

pub returns-in_err-method-clause-refused : goal.returns-in_err-method-clause-refused
returns-in_err-method-clause-refused c = passed c.from_residual-in_err-method.result c.from_residual-in_err-method.ensures.1 (λ y e. rw e (method_refused c.args.setting.left c.args.setting.end _ _ c.requires.no_end c.in_default.ensures.mark (front_not is_identifier _ (sym c.begins_name.ensures ∙ c.if-begins_name.false)) c.in_err-method.ensures.refused))

pub returns-clause-whole : goal.returns-clause-whole
returns-clause-whole c = (is_class_method c.in_ok-method.ensures.whole.0, c.in_ok-method.ensures.whole.1)
