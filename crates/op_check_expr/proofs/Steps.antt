-- The types along the steps of a typed tree, and whether they lead to a place.
use Rattle.std.proofs.Common.{◌≡◌, ℕ, ◌<◌, ◌+◌, Bool, List, [], ◌∷◌, ◌++◌, length, drop, get_or, refl, sym, ap, ◌∙◌, Option}
use Rattle.std.proofs.lemmas.List.{nil_from_length}
use Rattle.op_core.proofs.Nodes.{list_nodes, next_step}
use Rattle.op_core.specs.Expression.{Expression as Tree, expr_of, expression, root_of, action_of}
use Rattle.op_core.specs.Nodes.{steps_of}
use Rattle.op_core.specs.Sizes.{type_at}
use Rattle.op_core.specs.Typing as typing
use Rattle.op_core.specs.declared.expression.CoreExpr.{CoreExpr, out-CoreExpr}
use Rattle.op_core.specs.declared.expression.Step.{Step}
use Rattle.op_core.specs.declared.ids.TypeId.{TypeId}
use Rattle.op_core.specs.declared.program.Core.{Core}
use Rattle.op_core.specs.declared.types.CoreType.{CoreType}
use Rattle.op_check_expr.specs.Places as places
use Rattle.op_check_expr.specs.Places.{leads}

last_after : (of : TypeId) (front : List Step) (x : Step) → typing.type_after of (steps_of (front ++ x ∷ [])) ≡ x.of
last_after of [] x = refl
last_after of (y ∷ ys) x = last_after y.of ys x

pub type_behind : (e : CoreExpr) (front : List Step) (x : Step) → (out-CoreExpr e).steps.items ≡ front ++ x ∷ [] → typing.type_of (expr_of e) ≡ x.of
type_behind e front x is =
    ap typing.type_of (list_nodes.expr_says e)
    ∙ ap (λ xs. typing.type_after (out-CoreExpr e).of (steps_of xs)) is
    ∙ last_after (out-CoreExpr e).of front x

pub type_alone : (e : CoreExpr) → length (out-CoreExpr e).steps.items ≡ 0 → typing.type_of (expr_of e) ≡ (out-CoreExpr e).of
type_alone e is =
    ap typing.type_of (list_nodes.expr_says e)
    ∙ ap (λ xs. typing.type_after (out-CoreExpr e).of (steps_of xs)) (nil_from_length (out-CoreExpr e).steps.items is)

pub leads_whole : (chars : Bool) (core : Core) (so_far : Bool) (e : CoreExpr) (items : List Step) → items ≡ (out-CoreExpr e).steps.items → typing.is_place_after chars core (out-CoreExpr e).of (steps_of items) so_far ≡ leads chars core so_far (expr_of e)
leads_whole chars core so_far e items is =
    ap (λ xs. typing.is_place_after chars core (out-CoreExpr e).of (steps_of xs) so_far) is
    ∙ sym (ap (leads chars core so_far) (list_nodes.expr_says e))

pub leads_next : (chars : Bool) (core : Core) (of : TypeId) (list : List Step) (k : ℕ) (x : Step) (so_far next : Bool) (t : Option CoreType) → k < length list → x ≡ get_or list k x → t ≡ type_at core of → next ≡ typing.leads_on chars t (action_of x.action) so_far → typing.is_place_after chars core x.of (steps_of (drop (k + 1) list)) next ≡ typing.is_place_after chars core of (steps_of (drop k list)) so_far
leads_next chars core of list k x so_far next t h is e f =
    ap (typing.is_place_after chars core x.of (steps_of (drop (k + 1) list))) (f ∙ ap (λ t. typing.leads_on chars t (action_of x.action) so_far) e)
    ∙ sym (ap (λ ss. typing.is_place_after chars core of ss so_far) (next_step list k x h is))

pub root_said : (e : CoreExpr) → places.root_of (expr_of e) ≡ root_of (out-CoreExpr e).root
root_said e = ap places.root_of (list_nodes.expr_says e)

place_by : (chars : Bool) (core : Core) (e : Tree) → typing.is_place chars core e ≡ leads chars core (typing.is_variable (places.root_of e)) e
place_by chars core (expression root of others) = refl

pub place_leads : (chars : Bool) (core : Core) (e : CoreExpr) → typing.is_place chars core (expr_of e) ≡ leads chars core (typing.is_variable (root_of (out-CoreExpr e).root)) (expr_of e)
place_leads chars core e = place_by chars core (expr_of e) ∙ ap (λ r. leads chars core (typing.is_variable r) (expr_of e)) (root_said e)
