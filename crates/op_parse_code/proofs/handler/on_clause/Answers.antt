use Rattle.std.proofs.Common.{sym, ◌∙◌, refl}
use Rattle.op_parse_code.proofs.Errors.{passed}
use Rattle.op_parse_code.proofs.Handlers.{on_missing, on_name_missing, on_class_refuses, on_class_missing, on_variable_refuses, on_class_whole, on_variable_whole}
use Rattle.op_parse_code.proofs.Names.{none_left}
use Rattle.op_parse_code.proofs.handler.on_clause.Goals as goal

pub returns-in_default-clause-refused : goal.returns-in_default-clause-refused
returns-in_default-clause-refused c = λ d. on_missing d c.args.end _ _ (rw (none_left c.args.tokens.now c.in_default.ensures.cases) refl) c.syntax.ensures

pub returns-then-not-is_word-clause-refused : goal.returns-then-not-is_word-clause-refused
returns-then-not-is_word-clause-refused c = λ d. on_missing d c.args.end _ _ (rw c.in-Some.ensures.cases.0 (sym c.is_word.ensures ∙ c.if-not-is_word.true)) c.syntax-then-not-is_word.ensures

pub returns-in_err-first-clause-refused : goal.returns-in_err-first-clause-refused
returns-in_err-first-clause-refused c = passed c.from_residual.result c.from_residual.ensures.1 (λ y e. λ d. rw (e, c.in-Some.ensures.cases.0) (on_name_missing d c.args.end _ _ _ _ (sym c.is_word.ensures ∙ c.if-not-is_word.false) (c.in_err-first.ensures.refused d)))

pub returns-in_err-class-in-Some-behind_mark-clause-refused : goal.returns-in_err-class-in-Some-behind_mark-clause-refused
returns-in_err-class-in-Some-behind_mark-clause-refused c = passed c.from_residual-in_err-class-in-Some-behind_mark.result c.from_residual-in_err-class-in-Some-behind_mark.ensures.1 (λ y e. λ d. rw (e, c.in-Some.ensures.cases.0) (on_class_missing d c.args.end _ _ _ _ _ _ _ _ (sym c.is_word.ensures ∙ c.if-not-is_word.false) c.in_ok-first.ensures.name c.in-Some-behind_mark.ensures.mark.1 (c.in_err-class-in-Some-behind_mark.ensures.refused d)))

pub returns-in_err-second-in-Some-behind_mark-clause-refused : goal.returns-in_err-second-in-Some-behind_mark-clause-refused
returns-in_err-second-in-Some-behind_mark-clause-refused c = passed c.from_residual-in_err-second-in-Some-behind_mark.result c.from_residual-in_err-second-in-Some-behind_mark.ensures.1 (λ y e. λ d. rw (e, c.in-Some.ensures.cases.0) (on_variable_refuses d c.args.end _ _ _ _ _ _ _ _ _ _ (sym c.is_word.ensures ∙ c.if-not-is_word.false) c.in_ok-first.ensures.name c.in-Some-behind_mark.ensures.mark.1 c.in_ok-class-in-Some-behind_mark.ensures.name (c.in_err-second-in-Some-behind_mark.ensures.refused d)))

pub returns-in_ok-second-in-Some-behind_mark-clause-whole : goal.returns-in_ok-second-in-Some-behind_mark-clause-whole
returns-in_ok-second-in-Some-behind_mark-clause-whole c = rw (c.class_of.ensures, c.in-Some.ensures.cases.0) (on_variable_whole _ _ _ _ _ _ _ _ _ _ _ (sym c.is_word.ensures ∙ c.if-not-is_word.false) c.in_ok-first.ensures.name c.in-Some-behind_mark.ensures.mark.1 c.in_ok-class-in-Some-behind_mark.ensures.name c.in_ok-second-in-Some-behind_mark.ensures.whole)

pub returns-in_err-second-in-None-clause-refused : goal.returns-in_err-second-in-None-clause-refused
returns-in_err-second-in-None-clause-refused c = passed c.from_residual-in_err-second-in-None.result c.from_residual-in_err-second-in-None.ensures.1 (λ y e. λ d. rw (e, c.in-Some.ensures.cases.0) (on_class_refuses d c.args.end _ _ _ _ _ _ (sym c.is_word.ensures ∙ c.if-not-is_word.false) c.in_ok-first.ensures.name c.in-None.ensures.mark (c.in_err-second-in-None.ensures.refused d)))

pub returns-in_ok-second-in-None-clause-whole : goal.returns-in_ok-second-in-None-clause-whole
returns-in_ok-second-in-None-clause-whole c = rw (c.class_of-in-None.ensures, c.in-Some.ensures.cases.0) (on_class_whole _ _ _ _ _ _ _ (sym c.is_word.ensures ∙ c.if-not-is_word.false) c.in_ok-first.ensures.name c.in_ok-second-in-None.ensures.whole)
