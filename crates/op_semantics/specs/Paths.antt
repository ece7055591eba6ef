-- Paths: how a program comes to a place. A path begins with a variable or a temporary and goes on by fields and elements; it is
-- followed in the step that uses it, and each index and each instance is tested in its turn. (Free Pascal Reference Guide, "Record
-- types", "Arrays", "Classes", "Open array parameters" and "Variable parameters"; Programmer's Guide, "$R : Range checking".)
use Rattle.std.specs.Prelude.{ℕ, ℤ, pos, ◌-ℤ◌, nat_abs, List, [], ◌∷◌, ◌++◌, Option, Some, None, slice_get, if◌then◌else◌, ◌-◌}
use Rattle.op_core.specs.declared.ids.TypeId.{TypeId}
use Rattle.op_core.specs.declared.ids.VariableId.{VariableId}
use Rattle.op_core.specs.declared.program.Core.{Core}
use Rattle.op_semantics.specs.Errors.{failed}
use Rattle.op_meaning.specs.Numbers.{between}
use Rattle.op_semantics.specs.Shapes.{is_local, refers, variables_of}
use Rattle.op_meaning.specs.Values.{Value, array, instance, count_of, Holder, Place, Reached, reached, failing, and_then, global, local, temporary, object, all_of, part_at}
use Rattle.op_semantics.specs.World.{World, Object, fields, Dead, number_at, value_at}

-- where a path begins: with a global variable, a variable of the activation under way, what its variable parameter stands for, or a
-- temporary
pub data Root : Type 0 where
  in_global : (variable : ℕ) → Root
  in_local : (variable : ℕ) → Root
  through : (variable : ℕ) → Root
  in_temporary : (of : TypeId) → (n : ℕ) → Root

-- A field of a record of the type, or the element of an array of the type whose index, from low to high, is in a temporary. Of what is at the
-- place so far: the element of the dynamic array of the type, and that of an open array whose elements are there, by a temporary with the
-- index; and a field of the instance.
pub data Step : Type 0 where
  field : (of : TypeId) → (number : ℕ) → Step
  element : (of : TypeId) → (low high : ℤ) → (index : ℕ) → Step
  of_array : (of : TypeId) → (index : ℕ) → Step
  of_open : (of : TypeId) → (index : ℕ) → Step
  of_instance : (number : ℕ) → Step

pub record Path : Type 0 where
  pub root : Root
  pub steps : List Step

abbrev pub path_to : Root → Path
path_to root = record { root = root; steps = [] }

abbrev pub with_step : Step → Path → Path
with_step s p = record p { steps = p.steps ++ s ∷ [] }

-- a variable by its row; those of an activation are counted from the first one of its routine
abbrev pub root_of : Core → ℕ → VariableId → Root
root_of core r v =
    if is_local core r v
    then (if refers core (slice_get core.variables v.0) then through (v.0 - (variables_of core r).first) else in_local (v.0 - (variables_of core r).first))
    else in_global v.0

-- ---- where a path leads

-- what is in an instance is no more there when that is dead
abbrev pub alive_by : Object → Place → Reached Place
alive_by (fields c Dead) p = failing 216
alive_by o p = reached p

abbrev pub used_in : World → Holder → Place → Reached Place
used_in w (object n) p = alive_by (w.objects n) p
used_in w h p = reached p

-- what a variable parameter stands for, at each use
abbrev pub used_place : World → Place → Reached Place
used_place w p = used_in w p.holder p

abbrev pub place_of_root : World → Root → Reached Place
place_of_root w (in_global v) = reached (all_of (global v))
place_of_root w (in_local v) = reached (all_of (local w.depth v))
place_of_root w (through v) = used_place w (w.bound w.depth v)
place_of_root w (in_temporary of n) = reached (all_of (temporary w.depth of n))

-- how many elements an array has, and where they are; nil has none
abbrev pub length_in : World → Value → ℕ
length_in w (array (Some n)) = count_of (w.memory (object n))
length_in w v = 0

abbrev pub elements_in : Value → Place
elements_in (array (Some n)) = all_of (object n)
elements_in v = all_of (object 0)

-- one of so many parts, or error 201
abbrev pub part_among : ℕ → ℤ → Place → Reached Place
part_among count k p = if between (pos 0) (pos count -ℤ pos 1) k then reached (part_at (nat_abs k) p) else failing 201

-- nil, and what is dead, has no fields
abbrev pub field_in : World → Value → ℕ → Reached Place
field_in w (instance holds (Some i)) k = alive_by (w.objects i) (part_at k (all_of (object i)))
field_in w v k = failing 216

-- error 201 where an index is out of its range
abbrev pub place_from : World → Place → List Step → Reached Place
place_from w p [] = reached p
place_from w p (field of k ∷ steps) = place_from w (part_at k p) steps
place_from w p (element of low high t ∷ steps) =
    if between low high (number_at w t) then place_from w (part_at (nat_abs (number_at w t -ℤ low)) p) steps else failing 201
place_from w p (of_array of t ∷ steps) =
    and_then (part_among (length_in w (value_at w p)) (number_at w t) (elements_in (value_at w p))) (λ q. place_from w q steps)
place_from w p (of_open of t ∷ steps) = and_then (part_among (count_of (value_at w p)) (number_at w t) p) (λ q. place_from w q steps)
place_from w p (of_instance k ∷ steps) = and_then (field_in w (value_at w p) k) (λ q. place_from w q steps)

abbrev pub place_of : World → Path → Reached Place
place_of w path = and_then (place_of_root w path.root) (λ p. place_from w p path.steps)

-- where a path leads to nowhere there is an error
abbrev pub at_place : Core → Reached Place → (Place → World) → World → World
at_place core (reached p) f w = f p
at_place core (failing n) f w = failed core n w

-- ---- what lies in a dynamic array

-- The type of the array that a place lies in, as far as its path tells: the last array or instance on it decides, and with none the
-- variable parameter that it begins with does not count.
abbrev pub array_on : Option TypeId → List Step → Option TypeId
array_on so_far [] = so_far
array_on so_far (of_array of t ∷ steps) = array_on (Some of) steps
array_on so_far (of_instance k ∷ steps) = array_on None steps
array_on so_far (field of k ∷ steps) = array_on so_far steps
array_on so_far (element of low high t ∷ steps) = array_on so_far steps
array_on so_far (of_open of t ∷ steps) = array_on so_far steps
