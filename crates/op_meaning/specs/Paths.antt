-- Paths: how a program comes to a place. A path begins with a variable or a temporary and goes on by fields and elements; it is
-- followed in the step that uses it, and each index is tested in its turn. (Free Pascal Reference Guide, "Record types", "Arrays" and
-- "Variable parameters"; Programmer's Guide, "$R : Range checking".)
use Rattle.std.specs.Prelude.{ℕ, ℤ, ◌-ℤ◌, nat_abs, List, [], ◌∷◌, ◌++◌, slice_get, if◌then◌else◌, ◌-◌}
use Rattle.op_core.specs.declared.ids.TypeId.{TypeId}
use Rattle.op_core.specs.declared.ids.VariableId.{VariableId}
use Rattle.op_core.specs.declared.program.Core.{Core}
use Rattle.op_meaning.specs.Errors.{failed}
use Rattle.op_meaning.specs.Numbers.{between}
use Rattle.op_meaning.specs.Shapes.{is_local, refers, variables_of}
use Rattle.op_meaning.specs.Values.{Place, Reached, reached, failing, global, local, temporary, all_of, part_at}
use Rattle.op_meaning.specs.World.{World, number_at}

-- where a path begins: with a global variable, a variable of the activation under way, what its variable parameter stands for, or a
-- temporary
pub data Root : Type 0 where
  in_global : (variable : ℕ) → Root
  in_local : (variable : ℕ) → Root
  through : (variable : ℕ) → Root
  in_temporary : (of : TypeId) → (n : ℕ) → Root

-- a field of a record of the type, or the element of an array of the type whose index, from low to high, is in a temporary
pub data Step : Type 0 where
  field : (of : TypeId) → (number : ℕ) → Step
  element : (of : TypeId) → (low high : ℤ) → (index : ℕ) → Step

pub record Path : Type 0 where
  pub root : Root
  pub steps : List Step

abbrev pub path_to : Root → Path
path_to root = record { root = root; steps = [] }

abbrev pub with_step : Step → Path → Path
with_step s p = record p { steps = p.steps ++ s ∷ [] }

-- a variable by its row; those of an activation are counted from the first one of its routine
abbrev pub root_of : Core → ℕ → VariableId → Root
root_of core r v =
    if is_local core r v
    then (if refers (slice_get core.variables v.0) then through (v.0 - (variables_of core r).first) else in_local (v.0 - (variables_of core r).first))
    else in_global v.0

-- ---- where a path leads

abbrev pub place_of_root : World → Root → Place
place_of_root w (in_global v) = all_of (global v)
place_of_root w (in_local v) = all_of (local w.depth v)
place_of_root w (through v) = w.bound w.depth v
place_of_root w (in_temporary of n) = all_of (temporary w.depth of n)

-- error 201 where an index is out of its range
abbrev pub place_from : World → Place → List Step → Reached Place
place_from w p [] = reached p
place_from w p (field of k ∷ steps) = place_from w (part_at k p) steps
place_from w p (element of low high t ∷ steps) =
    if between low high (number_at w t) then place_from w (part_at (nat_abs (number_at w t -ℤ low)) p) steps else failing 201

abbrev pub place_of : World → Path → Reached Place
place_of w path = place_from w (place_of_root w path.root) path.steps

-- what is done at a place, or the error that is met on the way there
abbrev pub at_place : Core → Reached Place → (Place → World) → World → World
at_place core (failing error) f w = failed core error w
at_place core (reached p) f w = f p
