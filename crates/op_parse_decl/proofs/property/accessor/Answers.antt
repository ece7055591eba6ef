use Rattle.std.proofs.Common.{refl, sym, ◌∙◌}
use Rattle.op_parse_code.proofs.Errors.{passed}
use Rattle.op_parse_code.proofs.Names.{empty_not}
use Rattle.op_parse_code.specs.Opening.{is_word}
use Rattle.op_parse_decl.proofs.ClassParts.{accessor_refused, accessor_whole}
use Rattle.op_parse_decl.proofs.property.accessor.Goals as goal

pub returns-in_default-clause-whole : goal.returns-in_default-clause-whole
returns-in_default-clause-whole c = λ d. (refl, empty_not (is_word c.args.word.now) c.args.tokens.now c.in_default.ensures.cases)

pub returns-then-not-is_word-clause-whole : goal.returns-then-not-is_word-clause-whole
returns-then-not-is_word-clause-whole c = λ d. (refl, rw c.in-Some.ensures.cases.0 (sym c.is_word.ensures ∙ c.if-not-is_word.true))

pub returns-in_err-name-clause-refused : goal.returns-in_err-name-clause-refused
returns-in_err-name-clause-refused c = passed c.from_residual.result c.from_residual.ensures.1 (λ y e. λ d. rw (e, c.in-Some.ensures.cases.0) (accessor_refused _ d c.args.setting.end _ _ _ _ (sym c.is_word.ensures ∙ c.if-not-is_word.false) (c.in_err-name.ensures.refused d)))

pub returns-clause-whole : goal.returns-clause-whole
returns-clause-whole c = λ d. rw c.in-Some.ensures.cases.0 (accessor_whole _ d _ _ _ _ _ (sym c.is_word.ensures ∙ c.if-not-is_word.false) c.in_ok-name.ensures.name)
