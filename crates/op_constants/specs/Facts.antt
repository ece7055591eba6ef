-- What is proved of values in memory.
use Rattle.std.specs.Prelude.{◌≡◌, ◌<◌, ◌≤◌, ◌⊎◌, ℕ, ◌+◌, List, ◌++◌, Some, slice_get, get_or}
use Rattle.op_core.specs.Initial.{FirstValue}
use Rattle.op_core.specs.Sizes.{KeepsExtents}
use Rattle.op_core.specs.declared.ids.TypeId.{TypeId}
use Rattle.op_core.specs.declared.program.Core.{Core}
use Rattle.op_core.specs.declared.types.CoreType.TheVariants.{Integer}
use Rattle.op_core.specs.declared.types.IntegerKind.TheVariants.{Signed8}
use Rattle.op_meaning.specs.Paths.{Step, place_from}
use Rattle.op_meaning.specs.Shapes.{zero_of, first_of}
use Rattle.op_meaning.specs.Values.{Value, Place, number_in, get, put, reached}
use Rattle.op_meaning.specs.World.{World}
use Rattle.op_constants.specs.Arranged.{Arranged, IsSmall}
use Rattle.op_constants.specs.FirstBytes.{first_bytes, first_number}
use Rattle.op_constants.specs.FirstFits.{FirstFits}
use Rattle.op_constants.specs.Lies.{Arrangement, bytes_in, IsArranged, Lies, Leads, arrangement_of}
use Rattle.op_constants.specs.Offsets.{size_in}
use Rattle.op_constants.specs.Reaching.{Reaches, distance}

-- Values and their parts: a part lies where its path leads; the same bytes, there or elsewhere, are the same value; and where a value lies
-- at a part's address and all other bytes stay, it is put there.
pub record ArePlaced : Type 0 where
  pub part : (l to : Arrangement) (path : List ℕ) (v : Value) (memory : ℕ → ℕ) (a d : ℕ) → Leads l path to d → Lies l v memory a → Lies to (get path v) memory (a + d)
  pub within : (l to : Arrangement) (path : List ℕ) (d : ℕ) → IsArranged l → Leads l path to d → IsArranged to × (d + bytes_in to ≤ bytes_in l)
  pub copied : (l : Arrangement) (v : Value) (old new : ℕ → ℕ) (a b : ℕ) → IsArranged l → ((x : ℕ) → x < bytes_in l → new (b + x) ≡ old (a + x)) → Lies l v old a → Lies l v new b
  pub put : (l to : Arrangement) (path : List ℕ) (v w : Value) (old new : ℕ → ℕ) (a d : ℕ) → IsArranged l → Leads l path to d → ((x : ℕ) → (x < a + d) ⊎ (a + d + bytes_in to ≤ x) → new x ≡ old x) → Lies to w new (a + d) → Lies l v old a → Lies l (put path w v) new a

-- The types of a program are arranged, and a path leads as far behind the beginning of what it starts from as its steps say.
abbrev pub TypesArranged : Type 0
TypesArranged = (core : Core) → KeepsExtents core → (of : TypeId) → IsSmall core of → Arranged core of (arrangement_of core of)

abbrev pub PathsLead : Type 0
PathsLead =
    (core : Core) → KeepsExtents core → slice_get core.types 0 ≡ Some (Integer Signed8)
    → (w : World) (of last : TypeId) (steps : List Step) (p q : Place) → IsSmall core of → Reaches core of steps last → place_from w p steps ≡ reached q
    → (ks : List ℕ) × (q ≡ record { holder = p.holder; path = p.path ++ ks }) × Leads (arrangement_of core of) ks (arrangement_of core last) (distance core w steps)

-- What variables begin with: zeros are the zero value of the type, and the bytes of a first value are that value.
abbrev pub ZerosLie : Type 0
ZerosLie =
    (core : Core) → KeepsExtents core → (of : TypeId) → IsSmall core of → (memory : ℕ → ℕ) (a : ℕ)
    → ((x : ℕ) → x < size_in core of → memory (a + x) ≡ 0) → Lies (arrangement_of core of) (zero_of core of) memory a

abbrev pub FirstValuesLie : Type 0
FirstValuesLie =
    (core : Core) → KeepsExtents core → (of : TypeId) → IsSmall core of → (v : FirstValue) → FirstFits core of v → (memory : ℕ → ℕ) (a : ℕ)
    → ((x : ℕ) → x < size_in core of → memory (a + x) ≡ get_or (first_bytes core of v) x 0) → Lies (arrangement_of core of) (first_of core of v) memory a

-- the number of a first value, whatever its type is
abbrev pub FirstNumbers : Type 0
FirstNumbers = (core : Core) (of : TypeId) (v : FirstValue) → number_in (first_of core of v) ≡ first_number v
