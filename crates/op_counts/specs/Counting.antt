-- How many places contain a name, as a sum over the holders of a state: each adds how often the name stands in its value. Which holders a
-- state has is a list that no value decides, so a write changes one term of the sum. (Free Pascal Reference Guide, "Managed types" and
-- "Reference counting".)
use Rattle.std.specs.List.{count_by, sum_by}
use Rattle.std.specs.Prelude.{◌≡◌, ℕ, zero, suc, ◌+◌, ◌<◌, Bool, true, false, List, [], ◌∷◌, ◌++◌, length, map, nat_eq, if◌then◌else◌}
use Rattle.op_core.specs.declared.program.Core.{Core}
use Rattle.op_meaning.specs.Frames.{StateOver, CallerOver, Handed, a_value, a_place, with_world}
use Rattle.op_meaning.specs.Holding.{each, names}
use Rattle.op_meaning.specs.Shapes.{variables_of}
use Rattle.op_meaning.specs.Values.{Value, parts, Holder, global, local, temporary, object, Place, Spot, count_of, part_of, same_holder}
use Rattle.op_meaning.specs.World.{World, Object, elements, fields, Dead, Temporary, value_at, with_value}

-- ---- in one value

-- the sum of so many numbers
unfoldable pub sum_below : ℕ → (ℕ → ℕ) → ℕ
sum_below zero f = 0
sum_below (suc n) f = sum_below n f + f n

-- in how many parts of a value the name stands
abbrev pub count_in : ℕ → Value → ℕ
count_in y (parts count part) = sum_below count (λ k. count_in y (part k))
count_in y v = if names v y then 1 else 0

-- the path leads to a part that is there
abbrev pub Leads : List ℕ → Value → Type 0
Leads [] v = Unit {0}
Leads (k ∷ ks) v = (k < count_of v) × Leads ks (part_of k v)

abbrev pub split_by : Bool → Type 0 → Type 0
split_by true Further = Further
split_by false Further = Unit {0}

-- neither of the paths leads into the part that the other one leads to
abbrev pub AreApart : List ℕ → List ℕ → Type 0
AreApart [] b = ⊥
AreApart (j ∷ a) [] = ⊥
AreApart (j ∷ a) (k ∷ b) = split_by (nat_eq j k) (AreApart a b)

-- ---- the holders of a state, in the order in which `holders` looks through them

abbrev pub listed_variables : Core → ℕ → ℕ → List Holder
listed_variables core d r = each (variables_of core r).count (λ v. local d v ∷ [])

abbrev pub listed_temporaries : ℕ → List Temporary → List Holder
listed_temporaries d [] = []
listed_temporaries d (t ∷ made) = listed_temporaries d made ++ temporary d t.of t.n ∷ []

abbrev pub listed_activation : Core → ℕ → ℕ → List Temporary → List Holder
listed_activation core d r made = listed_variables core d r ++ listed_temporaries d made

abbrev pub listed_callers : {Work : Type 0} → Core → List (CallerOver Work) → List Holder
listed_callers core [] = []
listed_callers core (c ∷ cs) = listed_callers core cs ++ listed_activation core (length cs) c.routine c.made

abbrev pub listed_object : ℕ → Object → List Holder
listed_object n (elements of count) = object n ∷ []
listed_object n (fields c Dead) = []
listed_object n (fields c phase) = object n ∷ []
listed_object n _ = []

abbrev pub listed : {Work Counts : Type 0} → Core → StateOver Work Counts → List Holder
listed core s =
    map (λ v. global v.0) core.globals
    ++ listed_callers core s.callers
    ++ listed_activation core (length s.callers) s.routine s.world.made
    ++ each s.world.next (λ n. listed_object n (s.world.objects n))

-- under the name is an array, or an instance that is not dead
abbrev pub IsListed : World → ℕ → Type 0
IsListed w n = listed_object n (w.objects n) ≡ object n ∷ []

-- how often a holder is listed
abbrev pub times : Holder → List Holder → ℕ
times h hs = count_by (λ g. same_holder g h) hs

-- ---- the sum

abbrev pub count_over : World → ℕ → List Holder → ℕ
count_over w y hs = sum_by (λ h. count_in y (w.memory h)) hs

-- how many places contain the name
abbrev pub held : {Work Counts : Type 0} → Core → StateOver Work Counts → ℕ → ℕ
held core s y = count_over s.world y (listed core s)

-- what is written at the place is counted in place of what stands there
abbrev pub IsCountedWrite : {Work Counts : Type 0} → Core → StateOver Work Counts → Place → Value → ℕ → Type 0
IsCountedWrite core s q new y = held core (with_world (with_value q new s.world) s) y + count_in y (value_at s.world q) ≡ held core s y + count_in y new

-- how often the name stands in what an activation is given
abbrev pub given_count : ℕ → List Handed → ℕ
given_count y [] = 0
given_count y (a_value v ∷ given) = count_in y v + given_count y given
given_count y (a_place q ∷ given) = given_count y given

-- how often it stands at places, as at those that are walked over
abbrev pub count_at : World → ℕ → List Spot → ℕ
count_at w y qs = sum_by (λ q. count_in y (value_at w q.at)) qs
