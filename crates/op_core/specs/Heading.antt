-- Which headings are the same.
use Rattle.std.specs.Prelude.{ℕ, Bool, true, false, ◌&&◌, List, [], ◌∷◌, Option, Some, None, slice_get}
use Rattle.op_core.specs.Rows.{rows}
use Rattle.op_core.specs.Types.{is_one_type}
use Rattle.op_core.specs.declared.ids.TypeId.{TypeId}
use Rattle.op_core.specs.declared.program.Core.{Core}
use Rattle.op_core.specs.declared.routine.Parameter.{Parameter}
use Rattle.op_core.specs.declared.routine.Routine.{Routine}
use Rattle.op_core.specs.declared.types.CoreType.{CoreType}
use Rattle.op_tree.specs.declared.heading.ParameterMode.{ParameterMode}
use Rattle.op_tree.specs.declared.heading.ParameterMode.TheVariants.{Value, Var, Const_, Out}
use Rattle.op_tree.specs.declared.heading.RoutineKind.{RoutineKind}
use Rattle.op_tree.specs.declared.heading.RoutineKind.TheVariants.{Procedure, Function, Constructor, Destructor}

abbrev pub same_kind : RoutineKind → RoutineKind → Bool
same_kind Procedure Procedure = true
same_kind Function Function = true
same_kind Constructor Constructor = true
same_kind Destructor Destructor = true
same_kind _ _ = false

abbrev pub same_mode : ParameterMode → ParameterMode → Bool
same_mode Value Value = true
same_mode Var Var = true
same_mode Const_ Const_ = true
same_mode Out Out = true
same_mode _ _ = false

-- the names are not asked
abbrev pub same_parameter : List CoreType → Parameter → Parameter → Bool
same_parameter types a b = same_mode a.mode b.mode && is_one_type types a.of b.of

abbrev pub same_parameters : List CoreType → List Parameter → List Parameter → Bool
same_parameters types [] [] = true
same_parameters types (x ∷ xs) (y ∷ ys) = same_parameter types x y && same_parameters types xs ys
same_parameters types _ _ = false

abbrev pub same_result : List CoreType → Option TypeId → Option TypeId → Bool
same_result types None None = true
same_result types (Some a) (Some b) = is_one_type types a b
same_result types _ _ = false

-- Two headings are the same where their kinds are, their parameters one by one, and what they give.
abbrev pub is_same_heading : Core → Routine → Routine → Bool
is_same_heading core a b =
    same_kind a.kind b.kind
    && same_result core.types a.result b.result
    && same_parameters core.types (rows core.parameters a.parameters) (rows core.parameters b.parameters)

abbrev pub if_both : Core → Option Routine → Option Routine → Bool
if_both core (Some a) (Some b) = is_same_heading core a b
if_both core _ _ = false

-- the headings of two routines, by their numbers
abbrev pub same_headings : Core → ℕ → ℕ → Bool
same_headings core a b = if_both core (slice_get core.routines a) (slice_get core.routines b)
