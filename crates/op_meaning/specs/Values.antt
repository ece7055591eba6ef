-- Values, what holds them, and places in them. A value is a number, the parts of a record or of an array, a string, or the name of
-- an array or of an instance; a place is a part of what a variable, a temporary, an array or an instance has. Nothing here has an
-- address or a size. (Free Pascal Reference Guide, "Types" and "Variables".)
use Rattle.std.specs.Prelude.{ℕ, ℤ, pos, Bool, false, ◌&&◌, List, [], ◌∷◌, ◌++◌, Option, None, nat_eq, if◌then◌else◌}
use Rattle.op_core.specs.Types.{is_same}
use Rattle.op_core.specs.declared.ids.TypeId.{TypeId}

-- ---- values

-- A string is empty, a literal, or bytes under a name; who stores a string shares its name. ("Ansistrings".)
pub data Text : Type 0 where
  empty : Text
  literal : (bytes : List ℕ) → Text
  named : (name : ℕ) → Text

-- what the text of a program has: no literal is empty
abbrev pub text_of_literal : List ℕ → Text
text_of_literal [] = empty
text_of_literal (b ∷ bytes) = literal (b ∷ bytes)

-- Integers, Booleans, Chars, values of enumerations and sets are numbers: a set has the bit k for each element k. A record or an
-- array with bounds has so many parts, counted from 0. Dynamic arrays, classes and interfaces are references: what stands under
-- the name is elsewhere, and None is nil. ("Ordinal types", "Set types", "Record types", "Arrays", "Classes", "Interfaces".)
pub data Value : Type 0 where
  number : (n : ℤ) → Value
  parts : (count : ℕ) → (part : ℕ → Value) → Value
  text : (text : Text) → Value
  -- a line that is being read, by its name
  line : (name : ℕ) → Value
  array : (name : Option ℕ) → Value
  -- of an interface, which holds its instance, or of a class, which does not
  instance : (holds : Bool) → (name : Option ℕ) → Value

-- what is come to, or the run-time error that is met on the way
pub data Reached (A : Type 0) : Type 0 where
  reached : (value : A) → Reached A
  failing : (error : ℕ) → Reached A

abbrev pub and_then : {A B : Type 0} → Reached A → (A → Reached B) → Reached B
and_then (reached x) f = f x
and_then (failing error) f = failing error

abbrev pub number_in : Value → ℤ
number_in (number n) = n
number_in _ = pos 0

abbrev pub count_of : Value → ℕ
count_of (parts count part) = count
count_of _ = 0

abbrev pub part_of : ℕ → Value → Value
part_of k (parts count part) = part k
part_of k _ = number (pos 0)

abbrev pub with_part : ℕ → Value → Value → Value
with_part k new v = parts (count_of v) (λ j. if nat_eq j k then new else part_of j v)

-- the part to which the numbers lead one after the other
abbrev pub get : List ℕ → Value → Value
get [] v = v
get (k ∷ ks) v = get ks (part_of k v)

-- the value in which that part is another one
abbrev pub put : List ℕ → Value → Value → Value
put [] new v = new
put (k ∷ ks) new v = with_part k (put ks new (part_of k v)) v

-- what is left of a value that is ended: the empty string and nil; numbers stay
abbrev pub emptied : Value → Value
emptied (number n) = number n
emptied (parts count part) = parts count (λ k. emptied (part k))
emptied (text t) = text empty
emptied (line n) = text empty
emptied (array n) = array None
emptied (instance holds n) = instance holds None

-- ---- places

-- What holds a value: a global variable; a variable of the activation with so many below it; one of its temporaries, by its type and
-- its number; an array or an instance, by its name. ("Variables".)
pub data Holder : Type 0 where
  global : (variable : ℕ) → Holder
  local : (depth variable : ℕ) → Holder
  temporary : (depth : ℕ) → (of : TypeId) → (n : ℕ) → Holder
  object : (name : ℕ) → Holder

abbrev pub same_holder : Holder → Holder → Bool
same_holder (global v) (global w) = nat_eq v w
same_holder (local d v) (local e w) = nat_eq d e && nat_eq v w
same_holder (temporary d of n) (temporary e to m) = nat_eq d e && is_same of to && nat_eq n m
same_holder (object v) (object w) = nat_eq v w
same_holder _ _ = false

-- a part of what a holder has: of its field or element with this number, and so on
pub record Place : Type 0 where
  pub holder : Holder
  pub path : List ℕ

abbrev pub all_of : Holder → Place
all_of h = record { holder = h; path = [] }

abbrev pub part_at : ℕ → Place → Place
part_at k p = record p { path = p.path ++ k ∷ [] }

-- a place that has to be ended, by the type of what stands there
pub record Spot : Type 0 where
  pub at : Place
  pub of : TypeId
