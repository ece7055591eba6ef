use Rattle.op_parse_code.proofs.Errors.{ok_weaker, err_weaker}
use Rattle.op_parse_code.proofs.Parts.{match_of, refuses_free}
use Rattle.op_parse_code.proofs.Told.{told_refusal}
use Rattle.op_parse_code.specs.WholeStatement.{SomeStatement}
use Rattle.op_tree.proofs.StatementUnique.{unique_statement}
use Rattle.op_parse_code.proofs.part.statement.Goals as goal

pub returns-clause-only : goal.returns-clause-only
returns-clause-only c = λ e r f h. match_of _ _ c.statement_part.result (ok_weaker c.statement_part.result c.statement_part.ensures.whole (λ x w. unique_statement w.0 f w.1 h)) (err_weaker c.statement_part.result c.statement_part.ensures.refused (λ y w. refuses_free SomeStatement _ _ _ y e r (f, h) w))

pub returns-clause-told : goal.returns-clause-told
returns-clause-told c = err_weaker c.statement_part.result c.statement_part.ensures.refused (λ y w. told_refusal w)
