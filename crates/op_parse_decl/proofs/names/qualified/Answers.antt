use Rattle.op_parse_code.proofs.Errors.{passed}
use Rattle.op_parse_decl.proofs.NameLists.{qualified_first, qualified_second, qualified_dot, qualified_whole}
use Rattle.op_tree.specs.NameGrammar.{is_unqualified}
use Rattle.op_parse_decl.proofs.names.qualified.Goals as goal

pub returns-in_err-first-clause-refused : goal.returns-in_err-first-clause-refused
returns-in_err-first-clause-refused c = passed c.from_residual.result c.from_residual.ensures.1 (λ y e. λ d. rw e (qualified_first d c.args.setting.end _ _ (c.in_err-first.ensures.refused d)))

pub returns-in_default-clause-whole : goal.returns-in_default-clause-whole
returns-in_default-clause-whole c = λ d. (is_unqualified c.in_ok-first.ensures.name, c.in_default.ensures.mark)

pub returns-in_err-second-clause-refused : goal.returns-in_err-second-clause-refused
returns-in_err-second-clause-refused c = passed c.from_residual-in_err-second.result c.from_residual-in_err-second.ensures.1 (λ y e. λ d. rw e (qualified_second d c.args.setting.end _ _ _ _ _ _ c.in_ok-first.ensures.name c.in-Some.ensures.mark.1 (c.in_err-second.ensures.refused d)))

pub returns-in_err-no_dot-clause-refused : goal.returns-in_err-no_dot-clause-refused
returns-in_err-no_dot-clause-refused c = passed c.from_residual-in_err-no_dot.result c.from_residual-in_err-no_dot.ensures.1 (λ y e. λ d. rw e (qualified_dot d c.args.setting.end _ _ _ _ _ _ _ _ c.in_ok-first.ensures.name c.in-Some.ensures.mark.1 c.in_ok-second.ensures.name (c.in_err-no_dot.ensures.refused d)))

pub returns-clause-whole : goal.returns-clause-whole
returns-clause-whole c = λ d. qualified_whole d _ _ _ _ _ _ _ c.in_ok-first.ensures.name c.in-Some.ensures.mark.1 c.in_ok-second.ensures.name c.in_ok-no_dot.ensures.stops
