-- Who holds what. The holders of a name are all places of a state that contain it, found by a walk over the whole state: there are no
-- counts. (Free Pascal Reference Guide, "Managed types" and "Reference counting".)
use Rattle.std.specs.Prelude.{ℕ, zero, suc, Bool, false, ◌&&◌, ◌||◌, List, [], ◌∷◌, ◌++◌, length, Option, Some, None, nat_eq, nat_lt, if◌then◌else◌}
use Rattle.std.specs.List.{flat_map}
use Rattle.op_core.specs.declared.program.Core.{Core}
use Rattle.op_semantics.specs.Frames.{Program, StateOver, CallerOver, Rules}
use Rattle.op_semantics.specs.Shapes.{variables_of}
use Rattle.op_meaning.specs.Values.{Value, parts, text, line, array, instance, named, Holder, global, local, temporary, object, Place, all_of, part_at}
use Rattle.op_semantics.specs.World.{World, Object, elements, fields, Dead, Temporary}

-- ---- what a value contains

abbrev pub is_name : Option ℕ → ℕ → Bool
is_name None y = false
is_name (Some n) y = nat_eq n y

-- a string and an array are held by what contains their name, an instance by an interface alone
abbrev pub names : Value → ℕ → Bool
names (text (named n)) y = nat_eq n y
names (line n) y = nat_eq n y
names (array n) y = is_name n y
names (instance holds n) y = holds && is_name n y
names _ y = false

-- what there is of so many parts, in order
unfoldable pub each : {A : Type 0} → ℕ → (ℕ → List A) → List A
each zero of = []
each (suc n) of = each n of ++ of n

unfoldable pub any_below : ℕ → (ℕ → Bool) → Bool
any_below zero test = false
any_below (suc n) test = any_below n test || test n

-- the places in a value that contain the name
abbrev pub places_in : ℕ → Place → Value → List Place
places_in y p (parts count part) = each count (λ k. places_in y (part_at k p) (part k))
places_in y p v = if names v y then p ∷ [] else []

-- ---- what holds

abbrev pub in_holder : World → ℕ → Holder → List Place
in_holder w y h = places_in y (all_of h) (w.memory h)

-- the temporaries of an activation that have to be ended
abbrev pub holders_in_temporaries : World → ℕ → ℕ → List Temporary → List Place
holders_in_temporaries w y d [] = []
holders_in_temporaries w y d (t ∷ made) = holders_in_temporaries w y d made ++ in_holder w y (temporary d t.of t.n)

-- the variables of an activation of a routine: its parameters, its locals and its result. What a variable parameter stands for is
-- elsewhere.
abbrev pub holders_in_variables : Core → World → ℕ → ℕ → ℕ → List Place
holders_in_variables core w y d r = each (variables_of core r).count (λ v. in_holder w y (local d v))

abbrev pub holders_in_activation : Core → World → ℕ → ℕ → ℕ → List Temporary → List Place
holders_in_activation core w y d r made = holders_in_variables core w y d r ++ holders_in_temporaries w y d made

-- the activations that wait; the last one of the list is the lowest
abbrev pub holders_in_callers : {Work : Type 0} → Core → World → ℕ → List (CallerOver Work) → List Place
holders_in_callers core w y [] = []
holders_in_callers core w y (c ∷ cs) = holders_in_callers core w y cs ++ holders_in_activation core w y (length cs) c.routine c.made

-- under a name: the elements of an array, also of one that is walked over, and the fields of an instance that is not dead
abbrev pub holders_in_object : World → ℕ → ℕ → Object → List Place
holders_in_object w y n (elements of count) = in_holder w y (object n)
holders_in_object w y n (fields c Dead) = []
holders_in_object w y n (fields c phase) = in_holder w y (object n)
holders_in_object w y n _ = []

-- ---- the whole state

-- globals, activations from the lowest one up, and all names that were given
abbrev pub holders : {Work Counts : Type 0} → Core → StateOver Work Counts → ℕ → List Place
holders core s y =
    flat_map (λ v. in_holder s.world y (global v.0)) core.globals
    ++ holders_in_callers core s.world y s.callers
    ++ holders_in_activation core s.world y (length s.callers) s.routine s.world.made
    ++ each s.world.next (λ n. holders_in_object s.world y n (s.world.objects n))

-- the rules of a machine that looks for the holders of a name when it has to know how many there are
abbrev pub searching : {Work : Type 0} → Program → (ℕ → Work) → Rules Work (Unit {0})
searching p body = record { program = p; body = body; number = λ s y. length (holders p.core s y); more = λ y s. s; less = λ y s. s }

abbrev pub is_held : {Work Counts : Type 0} → Rules Work Counts → StateOver Work Counts → ℕ → Bool
is_held rules s y = nat_lt 0 (rules.number s y)
