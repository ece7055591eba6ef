-- How units are found by their names, and the numbers that were reached.
use Rattle.std.specs.Prelude.{◌≡◌, ℕ, suc, Bool, false, nat_eq, nat_lt, List, [], ◌∷◌, Option, Some, None, if◌then◌else◌, slice_get, Vec}
use Rattle.std.specs.List.{list_any}
use Rattle.std.specs.Option.{option_map}
use Rattle.std.specs.Str.{bytes_eq}
use Rattle.std.specs.declared.alloc.Global.{Global}
use Rattle.indexmap.specs.IndexMap.{IndexMap, get}
use Rattle.op_check_unit.specs.declared.uses.Export.{Export}
use Rattle.op_tree.specs.File.{File, UnitFile, program, unit}
use Rattle.op_core.specs.FieldNames.{lower}

-- ---- the first number of a name

-- there is a name, and it is spelled so in small letters
abbrev pub is_spelled : List ℕ → Option (List ℕ) → Bool
is_spelled letters None = false
is_spelled letters (Some name) = bytes_eq (lower name) letters

-- the number of the first of these whose name is spelled so
abbrev pub first_spelled : {A : Type 0} → (A → Option (List ℕ)) → List ℕ → List A → Option ℕ
first_spelled name letters [] = None
first_spelled name letters (x ∷ xs) = if is_spelled letters (name x) then Some 0 else option_map suc (first_spelled name letters xs)

abbrev pub same : Vec ℕ Global → Vec ℕ Global → Bool
same a b = bytes_eq a.items b.items

-- each name in small letters has the number of the first of these that has it
abbrev pub Finds : {A S : Type 0} → (A → Option (List ℕ)) → List A → IndexMap (Vec ℕ Global) ℕ S → Type 0
Finds name xs numbers = (key : Vec ℕ Global) → get same numbers key ≡ first_spelled name key.items xs

-- the number that these letters have
abbrev pub Found : {S : Type 0} → IndexMap (Vec ℕ Global) ℕ S → List ℕ → Option ℕ → Type 0
Found numbers letters k = (key : Vec ℕ Global) × (key.items ≡ letters) × (k ≡ get same numbers key)

-- the smaller one of a number and another one, if that is there
abbrev pub earliest : ℕ → Option ℕ → ℕ
earliest k None = k
earliest k (Some j) = if nat_lt j k then j else k

-- a number has this name from now on, if there is one
abbrev pub Notes : {S : Type 0} → IndexMap (Vec ℕ Global) ℕ S → IndexMap (Vec ℕ Global) ℕ S → Option (List ℕ) → ℕ → Type 0
Notes old new name k = (key : Vec ℕ Global) → get same new key ≡ (if is_spelled key.items name then Some (earliest k (get same old key)) else get same old key)

-- ---- what has a name

abbrev pub exported_name : Option Export → Option (List ℕ)
exported_name None = None
exported_name (Some e) = Some e.unit

abbrev pub unit_name : File → Option (List ℕ)
unit_name (program p) = None
unit_name (unit u) = Some u.name.text

abbrev pub unit_in : File → Option UnitFile
unit_in (program p) = None
unit_in (unit u) = Some u

-- ---- numbers that were reached

-- for the first numbers it is marked which are among these
abbrev pub Marks : List ℕ → List Bool → Type 0
Marks numbers marks = (k : ℕ) (mark : Bool) → slice_get marks k ≡ Some mark → mark ≡ list_any (λ j. nat_eq j k) numbers
