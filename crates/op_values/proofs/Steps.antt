-- The steps of a typed tree.
use Rattle.std.proofs.Common.{◌≡◌, ℕ, List, [], ◌∷◌, ◌++◌, length, refl, ap, ◌∙◌}
use Rattle.std.proofs.lemmas.List.{nil_from_length}
use Rattle.op_core.proofs.Nodes.{list_nodes}
use Rattle.op_core.specs.Expression.{expr_of}
use Rattle.op_core.specs.Nodes.{steps_of}
use Rattle.op_core.specs.Typing.{type_after, type_of}
use Rattle.op_core.specs.declared.expression.CoreExpr.{CoreExpr, out-CoreExpr}
use Rattle.op_core.specs.declared.expression.Step.{Step}
use Rattle.op_core.specs.declared.ids.TypeId.{TypeId}

last_after : (of : TypeId) (front : List Step) (x : Step) → type_after of (steps_of (front ++ x ∷ [])) ≡ x.of
last_after of [] x = refl
last_after of (y ∷ ys) x = last_after y.of ys x

pub type_behind : (e : CoreExpr) (front : List Step) (x : Step) → (out-CoreExpr e).steps.items ≡ front ++ x ∷ [] → type_of (expr_of e) ≡ x.of
type_behind e front x is =
    ap type_of (list_nodes.expr_says e)
    ∙ ap (λ xs. type_after (out-CoreExpr e).of (steps_of xs)) is
    ∙ last_after (out-CoreExpr e).of front x

pub type_alone : (e : CoreExpr) → length (out-CoreExpr e).steps.items ≡ 0 → type_of (expr_of e) ≡ (out-CoreExpr e).of
type_alone e is =
    ap type_of (list_nodes.expr_says e)
    ∙ ap (λ xs. type_after (out-CoreExpr e).of (steps_of xs)) (nil_from_length (out-CoreExpr e).steps.items is)
