-- The fields of a record lie in order, apart and within, each at its alignment.
use Rattle.std.proofs.Common.{◌≡◌, ◌<◌, ◌≤◌, ℕ, zero, suc, ◌+◌, ◌-◌, ◌*◌, ◌%◌, ◌^◌, max, List, [], ◌∷◌, length, map, Option, slice_get, subst, arith}
use Rattle.std.specs.List.{fold}
use Rattle.std.proofs.lemmas.Nat.{mul-le}
use Rattle.op_core.specs.Sizes.{extent_of, extended, aligned}
use Rattle.op_core.specs.declared.program.Core.{Core}
use Rattle.op_core.specs.declared.types.Extent.{Extent}
use Rattle.op_core.specs.declared.types.Field.{Field}
use Rattle.op_meaning.specs.Shapes.{field_type}
use Rattle.op_constants.specs.Arranged.{IsUnit}
use Rattle.op_constants.specs.Offsets.{offset_behind}
use Rattle.op_constants.proofs.Units.{below_cap, at_least, unit_max, aligned-of}

module _ (core : Core) where
  -- what the fields take, behind what is in front of them
  abbrev pub all : Extent → List Field → Extent
  all e fs = fold extended e (map (λ f. extent_of core f.of) fs)

  abbrev pub field_extent : Option Field → Extent
  field_extent f = extent_of core (field_type f)

  -- a field begins behind what is in front, and all in all are no less
  begins : (e : Extent) (f : Field) → (extended e (extent_of core f.of)).size < 2 ^ 32 - 1 → (e.size ≤ aligned (extent_of core f.of).alignment e.size) × ((extended e (extent_of core f.of)).size ≡ aligned (extent_of core f.of).alignment e.size + (extent_of core f.of).size)
  begins e f small =
      let whole = below_cap (aligned (extent_of core f.of).alignment e.size + (extent_of core f.of).size) small in
      (at_least (extent_of core f.of).alignment e.size (omega arith), whole)

  pub grows : (fs : List Field) (e : Extent) → (all e fs).size < 2 ^ 32 - 1 → e.size ≤ (all e fs).size
  grows [] e small = omega arith
  grows (f ∷ fs) e small =
      let more = grows fs (extended e (extent_of core f.of)) small in
      let (first, whole) = begins e f (omega arith) in
      omega arith

  pub field_within : (fs : List Field) (e : Extent) (k : ℕ) → k < length fs → (all e fs).size < 2 ^ 32 - 1 → (e.size ≤ offset_behind core e.size fs k) × (offset_behind core e.size fs k + (field_extent (slice_get fs k)).size ≤ (all e fs).size)
  field_within [] e k low small = absurd (omega arith)
  field_within (f ∷ fs) e zero low small =
      let more = grows fs (extended e (extent_of core f.of)) small in
      let (first, whole) = begins e f (omega arith) in
      (first, omega arith)
  field_within (f ∷ fs) e (suc k) low small =
      let more = grows fs (extended e (extent_of core f.of)) small in
      let (first, whole) = begins e f (omega arith) in
      let next = field_within fs (extended e (extent_of core f.of)) k (omega arith) small in
      let least = next.0 in
      (omega arith, next.1)

  pub fields_apart : (fs : List Field) (e : Extent) (j k : ℕ) → j < k → k < length fs → (all e fs).size < 2 ^ 32 - 1 → offset_behind core e.size fs j + (field_extent (slice_get fs j)).size ≤ offset_behind core e.size fs k
  fields_apart [] e j k order low small = absurd (omega arith)
  fields_apart (f ∷ fs) e j zero order low small = absurd (omega arith)
  fields_apart (f ∷ fs) e zero (suc k) order low small =
      let more = grows fs (extended e (extent_of core f.of)) small in
      let (first, whole) = begins e f (omega arith) in
      let next = (field_within fs (extended e (extent_of core f.of)) k (omega arith) small).0 in
      omega arith
  fields_apart (f ∷ fs) e (suc j) (suc k) order low small = fields_apart fs (extended e (extent_of core f.of)) j k (omega arith) (omega arith) small

  -- ---- alignments

  -- each of the fields is aligned as types are
  abbrev pub AreUnits : List Field → Type 0
  AreUnits fs = (k : ℕ) → k < length fs → IsUnit (field_extent (slice_get fs k)).alignment

  rest_units : (f : Field) (fs : List Field) → AreUnits (f ∷ fs) → AreUnits fs
  rest_units f fs each k low = each (suc k) (omega arith)

  pub all_unit : (fs : List Field) (e : Extent) → IsUnit e.alignment → AreUnits fs → IsUnit (all e fs).alignment
  all_unit [] e unit each = unit
  all_unit (f ∷ fs) e unit each = all_unit fs (extended e (extent_of core f.of)) (unit_max e.alignment (extent_of core f.of).alignment unit (each 0 (omega arith))) (rest_units f fs each)

  coarsest : (fs : List Field) (e : Extent) → e.alignment ≤ (all e fs).alignment
  coarsest [] e = omega arith
  coarsest (f ∷ fs) e =
      let more = coarsest fs (extended e (extent_of core f.of)) in
      let both : e.alignment ≤ max e.alignment (extent_of core f.of).alignment = grind arith in
      omega arith

  pub field_coarser : (fs : List Field) (e : Extent) (k : ℕ) → k < length fs → (field_extent (slice_get fs k)).alignment ≤ (all e fs).alignment
  field_coarser [] e k low = absurd (omega arith)
  field_coarser (f ∷ fs) e zero low =
      let more = coarsest fs (extended e (extent_of core f.of)) in
      let both : (extent_of core f.of).alignment ≤ max e.alignment (extent_of core f.of).alignment = grind arith in
      omega arith
  field_coarser (f ∷ fs) e (suc k) low = field_coarser fs (extended e (extent_of core f.of)) k (omega arith)

  pub field_aligned : (fs : List Field) (e : Extent) (k : ℕ) → k < length fs → (all e fs).size < 2 ^ 32 - 1 → AreUnits fs → offset_behind core e.size fs k % (field_extent (slice_get fs k)).alignment ≡ 0
  field_aligned [] e k low small each = absurd (omega arith)
  field_aligned (f ∷ fs) e zero low small each =
      let more = grows fs (extended e (extent_of core f.of)) small in
      let (first, whole) = begins e f (omega arith) in
      aligned-of (extent_of core f.of).alignment e.size (each 0 (omega arith)) (omega arith)
  field_aligned (f ∷ fs) e (suc k) low small each = field_aligned fs (extended e (extent_of core f.of)) k (omega arith) small (rest_units f fs each)

-- ---- elements

pub element_within : (count size k : ℕ) → k < count → count * size < 2 ^ 32 - 1 → k * size + size ≤ count * size
element_within count size k low small =
    let more = mul-le (suc k) size count size low (omega arith) in
    let e : suc k * size ≡ k * size + size = omega arith in
    subst (λ x. x ≤ count * size) e more

pub elements_apart : (size j k : ℕ) → j < k → j * size + size ≤ k * size
elements_apart size j k order =
    let before = mul-le (suc j) size k size order (omega arith) in
    let e : suc j * size ≡ j * size + size = omega arith in
    subst (λ s. s ≤ k * size) e before
