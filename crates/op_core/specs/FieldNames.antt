-- The fields of records by their names.
use Rattle.std.specs.Prelude.{◌≡◌, ℕ, ◌+◌, ◌≤◌, Bool, nat_eq, List, length, map, position, take, drop, Some, Vec}
use Rattle.std.specs.Char.{to_ascii_lowercase}
use Rattle.std.specs.Str.{bytes_eq, str_eq_ignore_ascii_case}
use Rattle.std.specs.declared.alloc.Global.{Global}
use Rattle.indexmap.specs.IndexMap.{IndexMap, get}
use Rattle.op_core.specs.declared.fields.RecordNames.{RecordNames}
use Rattle.op_core.specs.declared.types.Field.{Field}

-- names are the same whatever the case of their letters
abbrev pub lower : List ℕ → List ℕ
lower name = map to_ascii_lowercase name

-- the name is that of the field
abbrev pub is_named : List ℕ → Field → Bool
is_named name f = str_eq_ignore_ascii_case f.name.text name

-- ---- the index

-- the name of the field is spelled so in small letters
abbrev pub is_spelled : List ℕ → Field → Bool
is_spelled letters f = bytes_eq (lower f.name.text) letters

-- each name in small letters has the position of the first of these fields that has it
abbrev pub Finds : {S : Type 0} → List Field → IndexMap (Vec ℕ Global) ℕ S → Type 0
Finds fields positions = (key : Vec ℕ Global) → get (λ a b. bytes_eq a.items b.items) positions key ≡ position (is_spelled key.items) fields

-- the fields of each record are there, so many from the number of the first one on, and are found by their names
pub record AreFound {S : Type 0} (fields : List Field) (records : IndexMap ℕ RecordNames S) : Type 0 where
  pub found : (first : ℕ) (names : RecordNames) → get nat_eq records first ≡ Some names → (first + names.count ≤ length fields) × Finds (take names.count (drop first fields)) names.positions
