-- What may leave a loop is found part by part.
use Rattle.std.proofs.Common.{◌≡◌, Bool, true, false, List, [], ◌∷◌, Option, Some, None, refl, sym, subst, ap, ◌∙◌}
use Rattle.std.specs.List.{fold}
use Rattle.std.specs.Prelude.{not, unwrap_or}
use Rattle.op_base.specs.declared.place.Place.{Place}
use Rattle.op_check_expr.specs.declared.scope.Around.{Around}
use Rattle.op_check_expr.specs.declared.scope.Around.TheVariants.{Loop, Handler, Finally}
use Rattle.op_core.specs.Relations.{Agrees}
use Rattle.op_judgement.proofs.Judging.{agrees}
use Rattle.op_judgement.specs.Judgement.{Breaks, Means, by_entry, by_test, checked, fine}
use Rattle.op_judgement.specs.declared.rules.LanguageRule.TheVariants.{LeavesFinally, NoLoop}
use Rattle.op_check_stmt.specs.Leaving.{by_reach, entered, in_finally, leaves, may_leave, reach_of, within_loop}
use Rattle.op_check_stmt.specs.declared.leaving.Reach.{Reach}
use Rattle.op_check_stmt.specs.declared.leaving.Reach.TheVariants.{Nowhere, Inside, Beyond}

-- how far the loop is within further parts, of which one is a finally part or none is
abbrev past : Reach → Bool → Reach
past r true = entered r Finally
past r false = r

abbrev ahead : Reach → List Around → Option (List Around) → Reach
ahead r around None = past r (in_finally around)
ahead r around (Some parts) = past Inside (in_finally parts)

in_loop : (parts : List Around) (o : Option (List Around)) → ahead Inside parts o ≡ past Inside (in_finally (unwrap_or o parts))
in_loop parts None = refl
in_loop parts (Some more) = refl

twice : (r : Reach) (b : Bool) → past (entered r Finally) b ≡ entered r Finally
twice r false = refl
twice Nowhere true = refl
twice Inside true = refl
twice Beyond true = refl

in_finally_part : (r : Reach) (parts : List Around) (o : Option (List Around)) → ahead (entered r Finally) parts o ≡ ahead r (Finally ∷ parts) o
in_finally_part r parts None = twice r (in_finally parts)
in_finally_part r parts (Some more) = refl

in_handler : (r : Reach) (parts : List Around) (o : Option (List Around)) → ahead r parts o ≡ ahead r (Handler ∷ parts) o
in_handler r parts None = refl
in_handler r parts (Some more) = refl

reached : (r : Reach) (around : List Around) → fold entered r around ≡ ahead r around (within_loop around)
reached r [] = refl
reached r (Loop variable ∷ parts) = reached Inside parts ∙ in_loop parts (within_loop parts)
reached r (Handler ∷ parts) = reached r parts ∙ in_handler r parts (within_loop parts)
reached r (Finally ∷ parts) = reached (entered r Finally) parts ∙ in_finally_part r parts (within_loop parts)

left : {A : Type 0} (place : Place) (x : A) (b : Bool) → checked (by_reach place x (past Inside b)) ≡ checked (by_test LeavesFinally place (fine x) (not b))
left place x true = refl
left place x false = refl

nowhere : (b : Bool) → past Nowhere b ≡ Nowhere
nowhere true = refl
nowhere false = refl

by_loop : {A : Type 0} (place : Place) (x : A) (around : List Around) (o : Option (List Around)) → checked (by_reach place x (ahead Nowhere around o)) ≡ checked (by_entry NoLoop place (λ parts. by_test LeavesFinally place (fine x) (may_leave parts)) o)
by_loop place x around None = ap (λ r. checked (by_reach place x r)) (nowhere (in_finally around))
by_loop place x around (Some parts) = left place x (in_finally parts)

pub leaving_law : {A : Type 0} (place : Place) (x : A) (around : List Around) → Agrees (checked (by_reach place x (reach_of around))) (Means (leaves place x around)) (Breaks (leaves place x around))
leaving_law place x around =
    subst (λ c. Agrees c (Means (leaves place x around)) (Breaks (leaves place x around)))
    (sym (ap (λ r. checked (by_reach place x r)) (reached Nowhere around) ∙ by_loop place x around (within_loop around))) (agrees (leaves place x around))
