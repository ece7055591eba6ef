use Rattle.op_parse_code.proofs.Errors.{ok_weaker, err_weaker}
use Rattle.op_parse_code.proofs.Parts.{match_of, refuses_free}
use Rattle.op_parse_code.proofs.Told.{told_refusal}
use Rattle.op_parse_code.specs.Whole.{Chain}
use Rattle.op_tree.proofs.ExpressionUnique.{unique_chain}
use Rattle.op_tree.specs.declared.operator.Level.TheVariants.{Additive}
use Rattle.op_parse_code.proofs.part.simple.Goals as goal

pub returns-clause-only : goal.returns-clause-only
returns-clause-only c = λ e r f h. match_of _ _ c.part.result (ok_weaker c.part.result c.part.ensures.whole (λ x w. unique_chain w.0 f w.1 h)) (err_weaker c.part.result c.part.ensures.refused (λ y w. refuses_free (Chain Additive) _ _ _ y e r (f, h) w))

pub returns-clause-told : goal.returns-clause-told
returns-clause-told c = err_weaker c.part.result c.part.ensures.refused (λ y w. told_refusal w)
