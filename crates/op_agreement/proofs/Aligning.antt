-- How values of a type are arranged tells their alignment, and parts of one arrangement are the same, or apart.
use Rattle.std.proofs.Common.{◌≡◌, ◌≤◌, ◌<◌, ◌⊎◌, inl, inr, ℕ, zero, suc, ◌+◌, ◌*◌, ◌%◌, max, List, [], ◌∷◌, length, Option, Some, slice_get, refl, sym, ap, ◌∙◌, subst, arith}
use Rattle.std.proofs.lemmas.Bool.{cases_lt}
use Rattle.op_constants.proofs.FieldOffsets.{all, field_aligned, field_coarser, field_extent}
use Rattle.op_constants.proofs.Lying.{leads_within}
use Rattle.op_constants.proofs.TypesArranged.{all_at, arranged_within, by_form, element_small, extent_kept, few, field_small, many_rows, none, unit_of}
use Rattle.op_constants.proofs.Units.{coarser, none_of, sum_of, times_of, unit_max}
use Rattle.op_constants.specs.Arranged.{IsSmall, IsUnit}
use Rattle.op_constants.specs.Lies.{Arrangement, IsArranged, Leads, arrangement_of, arrangement_within, bytes_in, in_parts, one_number}
use Rattle.op_constants.specs.Offsets.{alignment_in, offset_behind, size_in}
use Rattle.op_core.proofs.Rows.{there_is}
use Rattle.op_core.specs.Rows.{rows}
use Rattle.op_core.specs.Sizes.{IsBehind, KeepsExtents, extent_by, extent_of, extended, integer_size, range_of, type_at, values_of}
use Rattle.op_core.specs.declared.ids.Run.{Run}
use Rattle.op_core.specs.declared.ids.TypeId.{TypeId}
use Rattle.op_core.specs.declared.program.Core.{Core}
use Rattle.op_core.specs.declared.types.CoreType.TheVariants.{Integer, Boolean, Char, String, Record, Array, DynamicArray, Interface}
use Rattle.op_core.specs.declared.types.CoreType.{CoreType}
use Rattle.op_core.specs.declared.types.Extent.{Extent}
use Rattle.op_core.specs.declared.types.Field.{Field}
use Rattle.op_core.specs.declared.types.IntegerKind.TheVariants.{Signed8, Unsigned8, Signed16, Unsigned16, Signed32}
use Rattle.op_core.specs.declared.types.IntegerKind.{IntegerKind}
use Rattle.op_meaning.specs.Shapes.{field_type, no_type}

-- ---- two parts with one arrangement are the same bytes, or apart

pub leads_apart : (l to : Arrangement) (p q : List ℕ) (d e : ℕ) → IsArranged l → Leads l p to d → Leads l q to e → (d + bytes_in to ≤ e) ⊎ ((e + bytes_in to ≤ d) ⊎ (d ≡ e))
leads_apart l to [] q d e is (same, none) second =
    let within = leads_within l to q e is second in
    let size = ap bytes_in same in
    inr (inr (omega arith))
leads_apart l to (k ∷ p) [] d e is first (same, none) =
    let within = leads_within l to (k ∷ p) d is first in
    let size = ap bytes_in same in
    inr (inr (omega arith))
leads_apart (one_number kind) to (k ∷ p) (j ∷ q) d e is first second = absurd first
leads_apart (in_parts size count offset part) to (k ∷ p) (j ∷ q) d e is (low, x, far, leads) (less, y, further, others) =
    by (cases_lt k j) (cases_lt j k) (λ same. leads_apart (part k) to p q x y (is.0 k low).0 leads (subst (λ i. Leads (part i) q to y) (sym same) others))
  where
    same_part : k ≡ j → (x + bytes_in to ≤ y) ⊎ ((y + bytes_in to ≤ x) ⊎ (x ≡ y)) → (d + bytes_in to ≤ e) ⊎ ((e + bytes_in to ≤ d) ⊎ (d ≡ e))
    same_part same (inl before) = let at_ = ap offset same in inl (omega arith)
    same_part same (inr (inl behind)) = let at_ = ap offset same in inr (inl (omega arith))
    same_part same (inr (inr is_same)) = let at_ = ap offset same in inr (inr (omega arith))

    by : (k < j) ⊎ (j ≤ k) → (j < k) ⊎ (k ≤ j) → (k ≡ j → (x + bytes_in to ≤ y) ⊎ ((y + bytes_in to ≤ x) ⊎ (x ≡ y))) → (d + bytes_in to ≤ e) ⊎ ((e + bytes_in to ≤ d) ⊎ (d ≡ e))
    by (inl before) order inner =
        let inside = leads_within (part k) to p x (is.0 k low).0 leads in
        let apart = is.1 k j before less in
        inl (omega arith)
    by (inr more) (inl before) inner =
        let inside = leads_within (part j) to q y (is.0 j less).0 others in
        let apart = is.1 j k before low in
        inr (inl (omega arith))
    by (inr more) (inr fewer) inner =
        let same : k ≡ j = omega arith in
        same_part same (inner same)

-- ---- the alignment of an arrangement: the greatest of its parts

-- the greatest of so many numbers and one more
abbrev greatest : ℕ → (ℕ → ℕ) → ℕ → ℕ
greatest zero f a = a
greatest (suc n) f a = max (f n) (greatest n f a)

max_first : (a b : ℕ) → a ≤ max a b
max_first a b = grind arith

max_second : (a b : ℕ) → b ≤ max a b
max_second a b = grind arith

max_least : (a b m : ℕ) → a ≤ m → b ≤ m → max a b ≤ m
max_least a b m p q = grind arith

greatest_least : (n : ℕ) (f : ℕ → ℕ) (a m : ℕ) → a ≤ m → ((k : ℕ) → k < n → f k ≤ m) → greatest n f a ≤ m
greatest_least zero f a m less each = less
greatest_least (suc n) f a m less each = max_least (f n) (greatest n f a) m (each n (omega arith)) (greatest_least n f a m less (λ k low. each k (omega arith)))

greatest_first : (n : ℕ) (f : ℕ → ℕ) (a : ℕ) → a ≤ greatest n f a
greatest_first zero f a = omega arith
greatest_first (suc n) f a = let more = greatest_first n f a in let up = max_second (f n) (greatest n f a) in omega arith

greatest_each : (n : ℕ) (f : ℕ → ℕ) (a k : ℕ) → k < n → f k ≤ greatest n f a
greatest_each zero f a k low = absurd (omega arith)
greatest_each (suc n) f a k low = by (cases_lt k n) (λ less. greatest_each n f a k less)
  where
    by : (k < n) ⊎ (n ≤ k) → (k < n → f k ≤ greatest n f a) → f k ≤ max (f n) (greatest n f a)
    by (inl less) inner = let more = inner less in let up = max_second (f n) (greatest n f a) in omega arith
    by (inr last) inner = let same : n ≡ k = omega arith in subst (λ i. f i ≤ max (f n) (greatest n f a)) same (max_first (f n) (greatest n f a))

greatest_unit : (n : ℕ) (f : ℕ → ℕ) (a : ℕ) → IsUnit a → ((k : ℕ) → IsUnit (f k)) → IsUnit (greatest n f a)
greatest_unit zero f a unit each = unit
greatest_unit (suc n) f a unit each = unit_max (f n) (greatest n f a) (each n) (greatest_unit n f a unit each)

-- what an arrangement is aligned at
abbrev pub unit_in : Arrangement → ℕ
unit_in (one_number kind) = integer_size kind
unit_in (in_parts size count offset part) = greatest count (λ k. unit_in (part k)) (unit_in (part 0))

kind_unit : (kind : IntegerKind) → IsUnit (integer_size kind)
kind_unit Signed8 = inl refl
kind_unit Unsigned8 = inl refl
kind_unit Signed16 = inr (inl refl)
kind_unit Unsigned16 = inr (inl refl)
kind_unit Signed32 = inr (inr refl)

is_unit : (l : Arrangement) → IsUnit (unit_in l)
is_unit (one_number kind) = kind_unit kind
is_unit (in_parts size count offset part) = greatest_unit count (λ k. unit_in (part k)) (unit_in (part 0)) (is_unit (part 0)) (λ k. is_unit (part k))

unit_least : (a : ℕ) → IsUnit a → 1 ≤ a
unit_least a (inl e) = omega arith
unit_least a (inr (inl e)) = omega arith
unit_least a (inr (inr e)) = omega arith

-- no part is coarser than the whole
leads_coarser : (l to : Arrangement) (path : List ℕ) (d : ℕ) → Leads l path to d → unit_in to ≤ unit_in l
leads_coarser l to [] d (same, none) = let e = ap unit_in same in omega arith
leads_coarser (one_number kind) to (k ∷ path) d leads = absurd leads
leads_coarser (in_parts size count offset part) to (k ∷ path) d (low, e, far, leads) =
    let inner = leads_coarser (part k) to path e leads in
    let up = greatest_each count (λ k. unit_in (part k)) (unit_in (part 0)) k low in
    omega arith

-- each part begins at a multiple of its alignment
abbrev pub IsStepped : Arrangement → Type 0
IsStepped (one_number kind) = Unit {0}
IsStepped (in_parts size count offset part) = (k : ℕ) → k < count → IsStepped (part k) × (offset k % unit_in (part k) ≡ 0)

-- a part begins at a multiple of its alignment
leads_stepped : (l to : Arrangement) (path : List ℕ) (d : ℕ) → IsStepped l → Leads l path to d → d % unit_in to ≡ 0
leads_stepped l to [] d is (same, none) = subst (λ n. n % unit_in to ≡ 0) (sym none) (none_of (unit_in to) (is_unit to))
leads_stepped (one_number kind) to (k ∷ path) d is leads = absurd leads
leads_stepped (in_parts size count offset part) to (k ∷ path) d is (low, e, far, leads) =
    subst (λ n. n % unit_in to ≡ 0) (sym far)
    (sum_of (unit_in to) (offset k) e (is_unit to)
    (coarser (unit_in to) (unit_in (part k)) (offset k) (is_unit to) (is_unit (part k)) (leads_coarser (part k) to path e leads) (is k low).1)
    (leads_stepped (part k) to path e (is k low).0 leads))

-- ---- the types of a program

-- the alignment of all fields is the least that none of them passes
all_least : (core : Core) (fs : List Field) (e : Extent) (m : ℕ) → e.alignment ≤ m → ((k : ℕ) → k < length fs → (field_extent core (slice_get fs k)).alignment ≤ m) → (all core e fs).alignment ≤ m
all_least core [] e m less each = less
all_least core (f ∷ fs) e m less each =
    all_least core fs (extended e (extent_of core f.of)) m (max_least e.alignment (extent_of core f.of).alignment m less (each 0 (omega arith))) (λ k low. each (suc k) (omega arith))

module _ (core : Core) (keeps : KeepsExtents core) (first : slice_get core.types 0 ≡ Some (Integer Signed8)) where
  abbrev UnitIs : (TypeId → Arrangement) → TypeId → Option CoreType → Type 0
  UnitIs inner of t = unit_in (by_form core inner of t) ≡ alignment_in core of

  none_one : alignment_in core no_type ≡ 1
  none_one = ap (λ x. x.alignment) (extent_kept core keeps no_type (Integer Signed8) first)

  -- what a record without fields would have as its first part is a byte
  first_unit : (inner : TypeId → Arrangement) (fs : List Field) → ((k : ℕ) → k < length fs → unit_in (inner (field_type (slice_get fs k))) ≡ (field_extent core (slice_get fs k)).alignment) → unit_in (inner no_type) ≡ 1 → unit_in (inner (field_type (slice_get fs 0))) ≤ (all core none fs).alignment
  first_unit inner [] each byte = omega arith
  first_unit inner (f ∷ fs) each byte =
      let is = each 0 (omega arith) in
      let less = field_coarser core (f ∷ fs) none 0 (omega arith) in
      omega arith

  -- the alignment of a type is that of its arrangement
  record_unit : (inner : TypeId → Arrangement) (of : TypeId) (run : Run) → of.0 < length core.types → extent_of core of ≡ extent_by (extent_of core) core (Some (Record run)) → IsBehind core.fields core.interfaces of.0 (Record run) → ((part : TypeId) → part.0 < of.0 → unit_in (inner part) ≡ alignment_in core part) → 0 < of.0 → UnitIs inner of (Some (Record run))
  record_unit inner of run there kept behind parts some =
      let many = many_rows core.fields run behind.0 in
      let least = greatest_least run.count each_unit (each_unit 0) (all core none fs).alignment (first_unit inner fs each_is (parts no_type some ∙ none_one)) (λ k low. let is = each_is k (omega arith) in let less = field_coarser core fs none k (omega arith) in omega arith) in
      let one = unit_least (each_unit 0) (is_unit (inner (field_type (slice_get fs 0)))) in
      let up = greatest_first run.count each_unit (each_unit 0) in
      let most = all_least core fs none (greatest run.count each_unit (each_unit 0)) (omega arith) (λ k low. let is = each_is k low in let less = greatest_each run.count each_unit (each_unit 0) k (omega arith) in omega arith) in
      let alignment : alignment_in core of ≡ (all core none fs).alignment = ap (λ x. x.alignment) kept in
      omega arith
    where
      fs : List Field
      fs = rows core.fields run

      each_unit : ℕ → ℕ
      each_unit k = unit_in (inner (field_type (slice_get fs k)))

      each_is : (k : ℕ) → k < length fs → each_unit k ≡ (field_extent core (slice_get fs k)).alignment
      each_is k low =
          let (f, is) = there_is fs k low in
          let before = all_at (λ f. f.of.0 < of.0) fs k f low is behind.1 in
          subst (λ o. unit_in (inner (field_type o)) ≡ (field_extent core o).alignment) (sym is) (parts f.of before)

  array_unit : (inner : TypeId → Arrangement) (of index element : TypeId) → extent_of core of ≡ extent_by (extent_of core) core (Some (Array index element)) → unit_in (inner element) ≡ alignment_in core element → UnitIs inner of (Some (Array index element))
  array_unit inner of index element kept part =
      let count = values_of (range_of (type_at core index)) in
      let u = unit_in (inner element) in
      let least = greatest_least count (λ k. u) u u (omega arith) (λ k low. omega arith) in
      let most = greatest_first count (λ k. u) u in
      let alignment : alignment_in core of ≡ alignment_in core element = ap (λ x. x.alignment) kept in
      omega arith

  type_unit : (inner : TypeId → Arrangement) (of : TypeId) (t : CoreType) → of.0 < length core.types → type_at core of ≡ Some t → extent_of core of ≡ extent_by (extent_of core) core (Some t) → IsBehind core.fields core.interfaces of.0 t → ((part : TypeId) → part.0 < of.0 → unit_in (inner part) ≡ alignment_in core part) → UnitIs inner of (Some t)
  type_unit inner of (Integer kind) there is kept behind parts = sym (ap (λ x. x.alignment) kept)
  type_unit inner of Boolean there is kept behind parts = sym (ap (λ x. x.alignment) kept)
  type_unit inner of Char there is kept behind parts = sym (ap (λ x. x.alignment) kept)
  type_unit inner of (Record run) there is kept behind parts = record_unit inner of run there kept behind parts (some of.0 refl)
    where
      -- the first type is no record
      some : (n : ℕ) → of.0 ≡ n → 0 < of.0
      some zero e = let clash : Some (Integer Signed8) ≡ Some (Record run) = sym first ∙ ap (slice_get core.types) (sym e) ∙ is in absurd cc
      some (suc n) e = omega arith
  type_unit inner of (Array index element) there is kept behind parts = array_unit inner of index element kept (parts element behind.1)
  type_unit inner of (Interface i) there is kept behind parts = sym (ap (λ x. x.alignment) kept)
  type_unit inner of String there is kept behind parts = sym (ap (λ x. x.alignment) kept)
  type_unit inner of (DynamicArray element) there is kept behind parts = sym (ap (λ x. x.alignment) kept)
  type_unit inner of _ there is kept behind parts = sym (ap (λ x. x.alignment) kept)

  unit_within : (n : ℕ) (of : TypeId) → of.0 < n → of.0 < length core.types → unit_in (arrangement_within n core of) ≡ alignment_in core of
  unit_within zero of less there = absurd (omega arith)
  unit_within (suc n) of less there =
      let (t, e) = there_is core.types of.0 there in
      let all = type_unit (arrangement_within n core) of t there e (extent_kept core keeps of t e) (keeps.behind of.0 t e) (λ part before. unit_within n part (omega arith) (omega arith)) in
      subst (λ o. UnitIs (arrangement_within n core) of o) (sym e) all

  -- ---- parts of small values begin at multiples

  abbrev Stepped : (TypeId → Arrangement) → TypeId → Option CoreType → Type 0
  Stepped inner of t = IsStepped (by_form core inner of t)

  record_stepped : (inner : TypeId → Arrangement) (of : TypeId) (run : Run) → IsSmall core of → (kept : extent_of core of ≡ extent_by (extent_of core) core (Some (Record run))) → (behind : IsBehind core.fields core.interfaces of.0 (Record run)) → ((part : TypeId) → part.0 < of.0 → unit_in (inner part) ≡ alignment_in core part) → ((part : TypeId) → part.0 < of.0 → IsSmall core part → IsStepped (inner part)) → Stepped inner of (Some (Record run))
  record_stepped inner of run small kept behind units parts k low =
      let many = many_rows core.fields run behind.0 in
      let inside : k < length fs = omega arith in
      let (before, less) = field_small core keeps of run small kept behind k inside in
      let aligned = field_aligned core fs none k inside (few core keeps of run small kept behind) each_unit in
      (parts (field_type (slice_get fs k)) before less, subst (λ n. offset_behind core 0 fs k % n ≡ 0) (sym (units (field_type (slice_get fs k)) before)) aligned)
    where
      fs : List Field
      fs = rows core.fields run

      each_unit : (k : ℕ) → k < length fs → IsUnit (field_extent core (slice_get fs k)).alignment
      each_unit k low =
          let there = (field_small core keeps of run small kept behind k low).1.there in
          unit_of core keeps (field_type (slice_get fs k)) there

  array_stepped : (n : ℕ) (of index element : TypeId) → of.0 < suc n → IsSmall core of → (kept : extent_of core of ≡ extent_by (extent_of core) core (Some (Array index element))) → (behind : IsBehind core.fields core.interfaces of.0 (Array index element)) → (IsSmall core element → IsStepped (arrangement_within n core element)) → Stepped (arrangement_within n core) of (Some (Array index element))
  array_stepped n of index element less small kept behind part k low =
      let small_part = element_small core keeps of index element small kept behind (omega arith) in
      let before = behind.1 in
      let is = arranged_within core keeps n element (omega arith) small_part in
      (part small_part, subst (λ u. k * size_in core element % u ≡ 0) (sym (unit_within n element (omega arith) small_part.there)) (times_of (alignment_in core element) k (size_in core element) is.unit is.whole))

  type_stepped : (n : ℕ) (of : TypeId) (t : CoreType) → of.0 < suc n → IsSmall core of → extent_of core of ≡ extent_by (extent_of core) core (Some t) → IsBehind core.fields core.interfaces of.0 t → ((part : TypeId) → part.0 < of.0 → IsSmall core part → IsStepped (arrangement_within n core part)) → Stepped (arrangement_within n core) of (Some t)
  type_stepped n of (Integer kind) less small kept behind parts = tt
  type_stepped n of Boolean less small kept behind parts = tt
  type_stepped n of Char less small kept behind parts = tt
  type_stepped n of (Record run) less small kept behind parts = let there = small.there in record_stepped (arrangement_within n core) of run small kept behind (λ part before. unit_within n part (omega arith) (omega arith)) parts
  type_stepped n of (Array index element) less small kept behind parts = array_stepped n of index element less small kept behind (parts element behind.1)
  type_stepped n of (Interface i) less small kept behind parts = tt
  type_stepped n of String less small kept behind parts = tt
  type_stepped n of (DynamicArray element) less small kept behind parts = tt
  type_stepped n of _ less small kept behind parts = tt

  stepped_within : (n : ℕ) (of : TypeId) → of.0 < n → IsSmall core of → IsStepped (arrangement_within n core of)
  stepped_within zero of less small = absurd (omega arith)
  stepped_within (suc n) of less small =
      let (t, e) = there_is core.types of.0 small.there in
      let all = type_stepped n of t less small (extent_kept core keeps of t e) (keeps.behind of.0 t e) (λ part before fewer. stepped_within n part (omega arith) fewer) in
      subst (λ o. Stepped (arrangement_within n core) of o) (sym e) all

  -- a part stands at a multiple of its type's alignment behind the beginning
  pub part_aligned : (from of : TypeId) (path : List ℕ) (d : ℕ) → IsSmall core from → IsSmall core of → Leads (arrangement_of core from) path (arrangement_of core of) d → d % alignment_in core of ≡ 0
  part_aligned from of path d small part leads =
      subst (λ u. d % u ≡ 0) (unit_within (suc of.0) of (omega arith) part.there)
      (leads_stepped (arrangement_of core from) (arrangement_of core of) path d (stepped_within (suc from.0) from (omega arith) small) leads)

  -- and its alignment is no more than that of what it is a part of
  pub part_coarser : (from of : TypeId) (path : List ℕ) (d : ℕ) → IsSmall core from → IsSmall core of → Leads (arrangement_of core from) path (arrangement_of core of) d → alignment_in core of ≤ alignment_in core from
  part_coarser from of path d small part leads =
      let less = leads_coarser (arrangement_of core from) (arrangement_of core of) path d leads in
      let one = unit_within (suc of.0) of (omega arith) part.there in
      let other = unit_within (suc from.0) from (omega arith) small.there in
      omega arith
