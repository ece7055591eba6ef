-- The answer of the whole call.
use Rattle.std.proofs.Common.{◌≡◌, Option, None, Some, Result, Err, sym, subst}
use Rattle.std.specs.Option.{option_map}
use Rattle.op_base.specs.declared.rule.Refusal.{Refusal}
use Rattle.op_core.specs.Expression.{expr_of}
use Rattle.op_core.specs.Faults.{Checked, FirstIs, or_typed}
use Rattle.op_core.specs.declared.error.CheckError.{CheckError}
use Rattle.op_core.specs.declared.expression.CoreExpr.{CoreExpr}
use Rattle.op_check_expr.specs.Phrases.{ExprIs, failure}
use Rattle.op_check_expr.specs.Values.{Value, tree_of}

pub by_first : (c : Checked Value) (e : CoreExpr) (r : Result CoreExpr CheckError) (first : Option Refusal) → FirstIs c.faults first → r ≡ or_typed first e → option_map tree_of c.typed ≡ Some (expr_of e) → ExprIs c r
by_first c e r None h q t = subst (ExprIs c) (sym q) (t, h)
by_first c e r (Some f) h q t = subst (ExprIs c) (sym q) h

pub by_failure : (c : Checked Value) (first : Option Refusal) → FirstIs c.faults first → ExprIs c (Err (failure first))
by_failure c None h = tt
by_failure c (Some f) h = h
