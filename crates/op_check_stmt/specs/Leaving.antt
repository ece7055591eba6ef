-- Which loops and routines a statement may leave (Free Pascal Reference Guide, "The Try..finally statement", and "Break",
-- "Continue" and "Exit" of unit System).
use Rattle.std.specs.Prelude.{Bool, true, false, not, List, [], ◌∷◌, Option, Some, None, unwrap_or}
use Rattle.std.specs.List.{fold, list_any}
use Rattle.op_base.specs.declared.place.Place.{Place}
use Rattle.op_check_expr.specs.declared.scope.Around.{Around}
use Rattle.op_check_expr.specs.declared.scope.Around.TheVariants.{Loop, Handler, Finally}
use Rattle.op_core.specs.Statement.{Statement, break, continue}
use Rattle.op_judgement.specs.Judgement.{Judgement, by_entry, by_test, fine, refused}
use Rattle.op_judgement.specs.declared.rules.LanguageRule.TheVariants.{LeavesFinally, NoLoop}
use Rattle.op_check_stmt.specs.declared.leaving.Jump.{Jump}
use Rattle.op_check_stmt.specs.declared.leaving.Jump.TheVariants.{Break, Continue}
use Rattle.op_check_stmt.specs.declared.leaving.Reach.{Reach}
use Rattle.op_check_stmt.specs.declared.leaving.Reach.TheVariants.{Nowhere, Inside, Beyond}

abbrev pub jump_of : Jump → Statement
jump_of Break = break
jump_of Continue = continue

abbrev pub is_finally : Around → Bool
is_finally Finally = true
is_finally _ = false

-- whether leaving the routine would leave a finally part
abbrev pub in_finally : List Around → Bool
in_finally around = list_any is_finally around

-- none of these parts is a finally part
abbrev pub may_leave : List Around → Bool
may_leave parts = not (in_finally parts)

-- the parts that stand within the innermost loop, if there is one
abbrev pub within_loop : List Around → Option (List Around)
within_loop [] = None
within_loop (Loop counter ∷ parts) = Some (unwrap_or (within_loop parts) parts)
within_loop (part ∷ parts) = within_loop parts

-- what leaves a loop, or its turn, at the word
abbrev pub leaves : {A : Type 0} → Place → A → List Around → Judgement A
leaves place statement around = by_entry NoLoop place (λ parts. by_test LeavesFinally place (fine statement) (may_leave parts)) (within_loop around)

-- ---- the same, part by part

-- how far the innermost loop is, with one more part round the place
abbrev pub entered : Reach → Around → Reach
entered reach (Loop counter) = Inside
entered reach Handler = reach
entered Nowhere Finally = Nowhere
entered Inside Finally = Beyond
entered Beyond Finally = Beyond

abbrev pub reach_of : List Around → Reach
reach_of around = fold entered Nowhere around

abbrev pub by_reach : {A : Type 0} → Place → A → Reach → Judgement A
by_reach place statement Nowhere = refused NoLoop place
by_reach place statement Inside = fine statement
by_reach place statement Beyond = refused LeavesFinally place
