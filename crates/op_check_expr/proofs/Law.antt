-- What `expr` answers is what the judgement of the expression says.
use Rattle.std.proofs.Common.{Err, IfErr, Ok, Result}
use Rattle.op_core.proofs.Agreeing.{first_broken, holds_map, none_broken}
use Rattle.op_core.specs.declared.error.CheckError.{CheckError}
use Rattle.op_core.specs.declared.error.CheckError.TheVariants.{Refused, NoMemory}
use Rattle.op_core.specs.declared.expression.CoreExpr.{CoreExpr}
use Rattle.op_judgement.proofs.Judging.{agrees}
use Rattle.op_judgement.proofs.Told.{all_told, told_in}
use Rattle.op_judgement.specs.Judgement.{RefusalHasText, Judgement, checked}
use Rattle.op_check_expr.specs.Phrases.{ExprIs, ExprMeans}
use Rattle.op_check_expr.specs.Values.{Value}

-- an answer that is what the expression means is one by the rules
pub means_law : (j : Judgement Value) (r : Result CoreExpr CheckError) → ExprIs (checked j) r → ExprMeans j r
means_law j (Ok e) is = let h = agrees j in (((holds_map h.0) _).0 is.0, none_broken _ _ h.1 is.1)
means_law j (Err (Refused f)) is = let h = agrees j in first_broken _ _ f h.1 is
means_law j (Err NoMemory) is = tt

-- and what it is refused by has a text
pub expr_told : (j : Judgement Value) (r : Result CoreExpr CheckError) → ExprIs (checked j) r → IfErr r RefusalHasText
expr_told j (Ok e) is = tt
expr_told j (Err (Refused f)) is = told_in (checked j).faults (all_told j) f is.is_in
expr_told j (Err NoMemory) is = tt
