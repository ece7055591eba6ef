-- The names of units and of their files.
use Rattle.std.specs.Prelude.{◌≡◌, ℕ, Bool, true, false, ◌||◌, List, [], ◌∷◌, ◌++◌, ◌⊎◌, codes, map, nat_eq}
use Rattle.std.specs.Char.{to_ascii_lowercase}
use Rattle.std.specs.List.{list_any}
use Rattle.std.specs.Str.{bytes_eq}
use Rattle.op_tree.specs.declared.file.Tree.{Tree}
use Rattle.op_tree.specs.declared.file.Tree.TheVariants as tree
use Rattle.op_tree.specs.declared.position.Name.{Name}
use Rattle.op_units.specs.declared.uses.Use.{Use}

-- names are the same whatever the case of their letters
abbrev pub lower : List ℕ → List ℕ
lower name = map to_ascii_lowercase name

-- the name is one of these
abbrev pub is_among : List ℕ → List (List ℕ) → Bool
is_among name names = list_any (bytes_eq name) names

-- each of the names is one of the others
abbrev pub AreAmong : List (List ℕ) → List (List ℕ) → Type 0
AreAmong names others = (name : List ℕ) → is_among name names ≡ true → is_among name others ≡ true

-- ---- files

-- the file of a unit, by its name in small letters
abbrev pub file_of_unit : List ℕ → List ℕ
file_of_unit unit = unit ++ codes ".pas"

-- a file's name up to and including its last slash
pub record IsFolder (name folder : List ℕ) : Type 0 where
  pub bare : List ℕ
  pub parts : name ≡ folder ++ bare
  pub last : list_any (nat_eq 47) bare ≡ false
  pub ends : (folder ≡ []) ⊎ ((front : List ℕ) × (folder ≡ front ++ 47 ∷ []))

-- ---- units without a file

abbrev pub is_system : List ℕ → Bool
is_system name = bytes_eq name (codes "system")

abbrev pub is_sysutils : List ℕ → Bool
is_sysutils name = bytes_eq name (codes "sysutils")

abbrev pub is_built_in : List ℕ → Bool
is_built_in name = is_system name || is_sysutils name

-- ---- uses lists

abbrev pub use_of : Name → Use
use_of name = record { name = lower name.text; place = name.position.place }

-- what a file uses in its interface part; a program has none
abbrev pub interface_uses : Tree → List Use
interface_uses (tree.Program p) = []
interface_uses (tree.Unit u) = map use_of u.interface_uses

-- what it uses in its other part
abbrev pub implementation_uses : Tree → List Use
implementation_uses (tree.Program p) = map use_of p.uses
implementation_uses (tree.Unit u) = map use_of u.uses

-- in the order in which the names stand
abbrev pub uses_of : Tree → List Use
uses_of t = interface_uses t ++ implementation_uses t

abbrev pub name_of : Use → List ℕ
name_of u = u.name

-- ---- interface parts

-- one of the lists has the name
abbrev pub is_listed : List ℕ → List (List (List ℕ)) → Bool
is_listed name lists = list_any (is_among name) lists

-- each name that a list has is one of the names
abbrev pub AreGathered : List (List (List ℕ)) → List (List ℕ) → Type 0
AreGathered lists names = (name : List ℕ) → is_listed name lists ≡ true → is_among name names ≡ true

-- one of the uses has the name
abbrev pub is_used : List ℕ → List Use → Bool
is_used name uses = list_any (λ used. bytes_eq name used.name) uses

-- no list has the name, and none of the uses has it
abbrev pub Lack : List (List (List ℕ)) → List ℕ → List Use → Type 0
Lack lists name uses = (is_listed name lists ≡ false) × (is_used name uses ≡ false)
