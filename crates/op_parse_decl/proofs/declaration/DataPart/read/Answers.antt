use Rattle.op_parse_code.proofs.Errors.{passed}
use Rattle.op_parse_code.specs.declared.mark.Mark.TheVariants as mark
use Rattle.op_parse_decl.proofs.Begins.{data_opens, made_refused}
use Rattle.op_parse_decl.proofs.Combining.{after, first, mark_is, mark_refused, marked_is, marked_refused, unmarked_refused}
use Rattle.op_parse_decl.specs.Combined.{then_, unmarked}
use Rattle.op_parse_decl.specs.DeclarationParts.{constants_of_parts, made_data, types_of_parts, variable_list_of_parts}
use Rattle.op_parse_decl.specs.Known.{known_stands}
use Rattle.op_parse_decl.proofs.declaration.DataPart.read.Goals as goal

pub returns-in_err-constants-clause-refused : goal.returns-in_err-constants-clause-refused
returns-in_err-constants-clause-refused c = passed c.from_residual.result c.from_residual.ensures.1 (λ y e. rw e (made_refused made_data data_opens (marked_refused _ _ _ _ _ _ _ _ _ c.in-Some.ensures.mark.1 c.in_err-constants.ensures.refused)))

pub returns-in-Some-clause-whole : goal.returns-in-Some-clause-whole
returns-in-Some-clause-whole c = constants_of_parts (marked_is _ _ _ _ _ _ _ _ _ c.in-Some.ensures.mark.1 c.in_ok-constants.ensures.whole)

pub returns-in_err-variables-clause-refused : goal.returns-in_err-variables-clause-refused
returns-in_err-variables-clause-refused c = passed c.from_residual-in_err-variables.result c.from_residual-in_err-variables.ensures.1 (λ y e. rw e (made_refused made_data data_opens (unmarked_refused _ _ _ _ _ _ _ c.in_default.ensures.mark (marked_refused _ _ _ _ _ _ _ _ _ c.in-Some-behind_mark.ensures.mark.1 c.in_err-variables.ensures.refused))))

pub returns-in-Some-behind_mark-clause-whole : goal.returns-in-Some-behind_mark-clause-whole
returns-in-Some-behind_mark-clause-whole c = variable_list_of_parts (unmarked c.in_default.ensures.mark (marked_is _ _ _ _ _ _ _ _ _ c.in-Some-behind_mark.ensures.mark.1 c.in_ok-variables.ensures.whole))

pub returns-in_err-after-clause-refused : goal.returns-in_err-after-clause-refused
returns-in_err-after-clause-refused c = passed c.from_residual-in_err-after.result c.from_residual-in_err-after.ensures.1 (λ y e. rw e (made_refused made_data data_opens (unmarked_refused _ _ _ _ _ _ _ c.in_default.ensures.mark (unmarked_refused _ _ _ _ _ _ _ c.in_default-behind_mark.ensures.mark (first (mark_refused _ _ _ _ _ (c.in_err-after.ensures.refused _)))))))

pub returns-in_err-types-clause-refused : goal.returns-in_err-types-clause-refused
returns-in_err-types-clause-refused c = passed c.from_residual-in_err-types.result c.from_residual-in_err-types.ensures.1 (λ y e. rw e (made_refused made_data data_opens (unmarked_refused _ _ _ _ _ _ _ c.in_default.ensures.mark (unmarked_refused _ _ _ _ _ _ _ c.in_default-behind_mark.ensures.mark (after (known_stands mark.Type_) (mark_is _ _ _ _ _ c.in_ok-after.ensures.mark.1) c.in_err-types.ensures.refused)))))

pub returns-clause-whole : goal.returns-clause-whole
returns-clause-whole c = types_of_parts (unmarked c.in_default.ensures.mark (unmarked c.in_default-behind_mark.ensures.mark (then_ (mark_is _ _ _ _ _ c.in_ok-after.ensures.mark.1) c.in_ok-types.ensures.whole)))
