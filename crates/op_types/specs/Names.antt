-- What names stand for.
pub use Rattle.op_core.specs.FieldNames.{lower}
use Rattle.std.specs.Prelude.{◌≡◌, ◌++◌, ℕ, suc, List, [], ◌∷◌, Option, Some, None, if◌then◌else◌, map, slice_get, take, Vec}
use Rattle.std.specs.Option.{option_flatten, option_map, option_or}
use Rattle.std.specs.Str.{bytes_eq}
use Rattle.std.specs.declared.alloc.Global.{Global}
use Rattle.indexmap.specs.IndexMap.{IndexMap, get}
use Rattle.op_types.specs.declared.names.Declared.{Declared}
use Rattle.op_types.specs.declared.visible.Meaning.{Meaning}

-- a declaration, its name in small letters
pub record Named : Type 0 where
  pub name : List ℕ
  pub meaning : Meaning

-- a name stands for what was declared last under it
abbrev pub meaning_of : List Named → List ℕ → Option Meaning
meaning_of [] name = None
meaning_of (n ∷ ns) name = option_or (meaning_of ns name) (if bytes_eq n.name name then Some n.meaning else None)

-- the number of the last of these declarations that is one of the name
abbrev pub last_named : List Named → List ℕ → Option ℕ
last_named [] name = None
last_named (n ∷ ns) name = option_or (option_map suc (last_named ns name)) (if bytes_eq n.name name then Some 0 else None)

-- the names of these lists, one list behind the other
abbrev pub all_of : List (List Named) → List Named
all_of [] = []
all_of (ns ∷ more) = ns ++ all_of more

-- the names that a scope takes over, if any
abbrev pub taken_over : Option (List Named) → List Named
taken_over None = []
taken_over (Some names) = names

-- ---- the index

abbrev pub named : Declared → Named
named d = record { name = d.name.items; meaning = d.meaning }

-- the number of the last of these declarations that is one of the name
abbrev pub last_at : List Declared → List ℕ → Option ℕ
last_at ds name = last_named (map named ds) name

-- the index has the last declaration of each name, each declaration the one before it of its name
pub record Agrees {S : Type 0} (ds : List Declared) (newest : IndexMap (Vec ℕ Global) (Option ℕ) S) : Type 0 where
  pub finds : (key : Vec ℕ Global) → option_flatten (get (λ a b. bytes_eq a.items b.items) newest key) ≡ last_at ds key.items
  pub hides : (n : ℕ) (d : Declared) → slice_get ds n ≡ Some d → d.hides ≡ last_at (take n ds) d.name.items
