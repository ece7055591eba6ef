-- Every type of a program is arranged, if its values are small enough.
use Rattle.std.proofs.Common.{◌≡◌, ◌<◌, ◌≤◌, ℕ, zero, suc, ◌+◌, ◌-◌, ◌*◌, ◌%◌, ◌^◌, Bool, true, false, List, length, length-take, length-drop, drop, Option, Some, slice_get, unwrap_or, refl, sym, ap, ◌∙◌, subst, arith, inl, inr}
use Rattle.std.specs.List.{All}
use Rattle.std.proofs.lemmas.Option.{slice_get-get_or}
use Rattle.op_core.proofs.Rows.{there_is}
use Rattle.op_core.specs.Rows.{rows}
use Rattle.op_core.specs.Sizes.{KeepsExtents, IsBehind, extent_by, plain, aligned, values_of, range_of, type_at, extent_of, integer_size}
use Rattle.op_core.specs.declared.ids.Run.{Run}
use Rattle.op_core.specs.declared.ids.TypeId.{TypeId}
use Rattle.op_core.specs.declared.program.Core.{Core}
use Rattle.op_core.specs.declared.types.CoreType.{CoreType}
use Rattle.op_core.specs.declared.types.CoreType.TheVariants.{Integer, Boolean, Char, String, Record, Array, DynamicArray, Interface}
use Rattle.op_core.specs.declared.types.Extent.{Extent}
use Rattle.op_core.specs.declared.types.Field.{Field}
use Rattle.op_core.specs.declared.types.IntegerKind.{IntegerKind}
use Rattle.op_core.specs.declared.types.IntegerKind.TheVariants.{Signed8, Unsigned8, Signed16, Unsigned16, Signed32}
use Rattle.op_meaning.specs.Shapes.{field_type, shape_by}
use Rattle.op_constants.specs.Arranged.{Arranged, IsSmall, IsUnit}
use Rattle.op_constants.specs.Lies.{Arrangement, one_number, in_parts, bytes_in, IsArranged, IsAligned, arrangement_by, arrangement_within, arrangement_of}
use Rattle.op_constants.specs.Offsets.{size_in, alignment_in, offset_behind}
use Rattle.op_constants.proofs.FieldOffsets.{all, field_extent, AreUnits, all_unit, field_aligned, field_coarser, field_within, fields_apart, element_within, elements_apart}
use Rattle.op_constants.proofs.Units.{below_cap, at_least, aligned-of, coarser, none_of, sum_of, times_of}

-- ---- rows

pub all_at : {A : Type 0} (P : A → Type 0) (xs : List A) (k : ℕ) (x : A) → k < length xs → slice_get xs k ≡ Some x → All P xs → P x
all_at P xs k x low e each = subst P (ap (λ o. unwrap_or o x) (sym (slice_get-get_or xs k x low) ∙ e)) (each k x low)

pub many_rows : {A : Type 0} (table : List A) (run : Run) → run.first + run.count ≤ length table → length (rows table run) ≡ run.count
many_rows table run room = omega (arith, length-take run.count (drop run.first table), length-drop run.first table)

-- the arrangement of a type of this form
abbrev pub by_form : Core → (TypeId → Arrangement) → TypeId → Option CoreType → Arrangement
by_form core inner of t = arrangement_by inner core (size_in core of) t (shape_by core t)

-- in front of the first field
abbrev pub none : Extent
none = record { size = 0; alignment = 1; managed = false }

module _ (core : Core) (keeps : KeepsExtents core) where
  -- ---- alignments

  plain_unit : (of : TypeId) (n : ℕ) → alignment_in core of ≡ n → IsUnit n → IsUnit (alignment_in core of)
  plain_unit of n is unit = subst IsUnit (sym is) unit

  type_unit : (of : TypeId) (t : CoreType) → of.0 < length core.types → extent_of core of ≡ extent_by (extent_of core) core (Some t) → IsBehind core.fields core.interfaces of.0 t → ((part : TypeId) → part.0 < of.0 → IsUnit (alignment_in core part)) → IsUnit (alignment_in core of)
  type_unit of (Integer Signed8) low kept behind parts = plain_unit of 1 (ap (λ x. x.alignment) kept) (inl refl)
  type_unit of (Integer Unsigned8) low kept behind parts = plain_unit of 1 (ap (λ x. x.alignment) kept) (inl refl)
  type_unit of (Integer Signed16) low kept behind parts = plain_unit of 2 (ap (λ x. x.alignment) kept) (inr (inl refl))
  type_unit of (Integer Unsigned16) low kept behind parts = plain_unit of 2 (ap (λ x. x.alignment) kept) (inr (inl refl))
  type_unit of (Integer Signed32) low kept behind parts = plain_unit of 4 (ap (λ x. x.alignment) kept) (inr (inr refl))
  type_unit of Boolean low kept behind parts = plain_unit of 1 (ap (λ x. x.alignment) kept) (inl refl)
  type_unit of Char low kept behind parts = plain_unit of 1 (ap (λ x. x.alignment) kept) (inl refl)
  type_unit of (Record run) low kept behind parts = subst IsUnit (sym (ap (λ x. x.alignment) kept)) (all_unit core (rows core.fields run) (record { size = 0; alignment = 1; managed = false }) (inl refl) each)
    where
      each : AreUnits core (rows core.fields run)
      each k low =
          let (f, is) = there_is (rows core.fields run) k low in
          let before = all_at (λ f. f.of.0 < of.0) (rows core.fields run) k f low is behind.1 in
          subst (λ o. IsUnit (field_extent core o).alignment) (sym is) (parts f.of before)
  type_unit of (Array index element) low kept behind parts = subst IsUnit (sym (ap (λ x. x.alignment) kept)) (parts element behind.1)
  type_unit of _ low kept behind parts = plain_unit of 4 (ap (λ x. x.alignment) kept) (inr (inr refl))

  -- what the extent of a type is
  pub extent_kept : (of : TypeId) (t : CoreType) → type_at core of ≡ Some t → extent_of core of ≡ extent_by (extent_of core) core (Some t)
  extent_kept of t e = ap (λ o. unwrap_or o (plain 4 false)) (keeps.each of.0 t e)

  unit_within : (n : ℕ) (of : TypeId) → of.0 < n → of.0 < length core.types → IsUnit (alignment_in core of)
  unit_within zero of few low = absurd (omega arith)
  unit_within (suc n) of few low =
      let (t, e) = there_is core.types of.0 low in
      type_unit of t low (extent_kept of t e) (keeps.behind of.0 t e) (λ part before. unit_within n part (omega arith) (omega arith))

  pub unit_of : (of : TypeId) → of.0 < length core.types → IsUnit (alignment_in core of)
  unit_of of low = unit_within (suc of.0) of (omega arith) low

  -- ---- numbers

  abbrev IsPlain : TypeId → ℕ → Type 0
  IsPlain of n = (size_in core of ≡ n) × (alignment_in core of ≡ n)

  number_arranged : (of : TypeId) (kind : IntegerKind) → IsPlain of (integer_size kind) → IsUnit (integer_size kind) → integer_size kind % integer_size kind ≡ 0 → Arranged core of (one_number kind)
  number_arranged of kind is unit self = record {
    arranged = tt;
    size = sym is.0;
    unit = subst IsUnit (sym is.1) unit;
    whole = subst (λ n. n % alignment_in core of ≡ 0) (sym is.0) (subst (λ n. integer_size kind % n ≡ 0) (sym is.1) self);
    aligned = λ a multiple. subst (λ n. a % n ≡ 0) is.1 multiple;
  }

  word_arranged : (of : TypeId) → IsPlain of 4 → Arranged core of (one_number Signed32)
  word_arranged of is = number_arranged of Signed32 is (inr (inr refl)) refl

  kind_arranged : (of : TypeId) (kind : IntegerKind) → IsPlain of (integer_size kind) → Arranged core of (one_number kind)
  kind_arranged of Signed8 is = number_arranged of Signed8 is (inl refl) refl
  kind_arranged of Unsigned8 is = number_arranged of Unsigned8 is (inl refl) refl
  kind_arranged of Signed16 is = number_arranged of Signed16 is (inr (inl refl)) refl
  kind_arranged of Unsigned16 is = number_arranged of Unsigned16 is (inr (inl refl)) refl
  kind_arranged of Signed32 is = word_arranged of is

  -- ---- records

  module _ (of : TypeId) (run : Run) (small : IsSmall core of)
      (kept : extent_of core of ≡ extent_by (extent_of core) core (Some (Record run)))
      (behind : IsBehind core.fields core.interfaces of.0 (Record run)) where
    abbrev pub fs : List Field
    fs = rows core.fields run

    abbrev pub fields : Extent
    fields = all core none fs

    pub many : length fs ≡ run.count
    many = many_rows core.fields run behind.0

    ends : size_in core of ≡ aligned fields.alignment fields.size
    ends = ap (λ x. x.size) kept

    pub whole : fields.size ≤ size_in core of
    whole = subst (λ s. fields.size ≤ s) (sym ends) (at_least fields.alignment fields.size (subst (λ s. s < 2 ^ 32 - 1) ends small.size))

    pub few : fields.size < 2 ^ 32 - 1
    few = let w = whole in let s = small.size in omega arith

    -- a field's type stands in front, and its values are small enough too
    pub field_small : (k : ℕ) → k < length fs → ((field_type (slice_get fs k)).0 < of.0) × IsSmall core (field_type (slice_get fs k))
    field_small k low =
        let (f, is) = there_is fs k low in
        let within = (field_within core fs none k low few).1 in
        let f1 = few in
        let before = all_at (λ f. f.of.0 < of.0) fs k f low is behind.1 in
        let there = small.there in
        let size : size_in core f.of < 2 ^ 32 - 1 = let same = ap (λ o. (field_extent core o).size) is in omega arith in
        subst (λ o. ((field_type o).0 < of.0) × IsSmall core (field_type o)) (sym is) (before, record { there = omega arith; size = size })

    units : AreUnits core fs
    units k low =
        let (f, is) = there_is fs k low in
        let before = all_at (λ f. f.of.0 < of.0) fs k f low is behind.1 in
        let there = small.there in
        subst (λ o. IsUnit (field_extent core o).alignment) (sym is) (unit_of f.of (omega arith))

    unit : IsUnit fields.alignment
    unit = all_unit core fs none (inl refl) units

    module _ (inner : TypeId → Arrangement) (parts : (part : TypeId) → part.0 < of.0 → IsSmall core part → Arranged core part (inner part)) where
      field_arranged : (k : ℕ) → k < length fs → Arranged core (field_type (slice_get fs k)) (inner (field_type (slice_get fs k)))
      field_arranged k low = let (before, less) = field_small k low in parts (field_type (slice_get fs k)) before less

      record_arranged : Arranged core of (in_parts (size_in core of) run.count (offset_behind core 0 fs) (λ k. inner (field_type (slice_get fs k))))
      record_arranged = record {
        arranged = (λ k low. by k (subst (λ n. k < n) (sym many) low), λ j k order low. apart j k order (subst (λ n. k < n) (sym many) low));
        size = refl;
        unit = subst IsUnit (sym alignment) unit;
        whole = subst (λ a. size_in core of % a ≡ 0) (sym alignment) (subst (λ s. s % fields.alignment ≡ 0) (sym ends) (aligned-of fields.alignment fields.size unit (subst (λ s. s < 2 ^ 32 - 1) ends small.size)));
        aligned = λ a multiple k low. at a (subst (λ n. a % n ≡ 0) alignment multiple) k (subst (λ n. k < n) (sym many) low);
      }
        where
          alignment : alignment_in core of ≡ fields.alignment
          alignment = ap (λ x. x.alignment) kept

          by : (k : ℕ) → k < length fs → IsArranged (inner (field_type (slice_get fs k))) × (offset_behind core 0 fs k + bytes_in (inner (field_type (slice_get fs k))) ≤ size_in core of)
          by k low =
              let field = field_arranged k low in
              let w = whole in
              let within = (field_within core fs none k low few).1 in
              let same = field.size in
              (field.arranged, omega arith)

          apart : (j k : ℕ) → j < k → k < length fs → offset_behind core 0 fs j + bytes_in (inner (field_type (slice_get fs j))) ≤ offset_behind core 0 fs k
          apart j k order low =
              let between = fields_apart core fs none j k order low few in
              let same = (field_arranged j (omega arith)).size in
              omega arith

          at : (a : ℕ) → a % fields.alignment ≡ 0 → (k : ℕ) → k < length fs → IsAligned (inner (field_type (slice_get fs k))) (a + offset_behind core 0 fs k)
          at a multiple k low =
              let field = field_arranged k low in
              let own = alignment_in core (field_type (slice_get fs k)) in
              field.aligned (a + offset_behind core 0 fs k)
              (sum_of own a (offset_behind core 0 fs k) field.unit
              (coarser own fields.alignment a field.unit unit (field_coarser core fs none k low) multiple)
              (field_aligned core fs none k low few units))

  -- ---- arrays

  module _ (of index element : TypeId) (small : IsSmall core of)
      (kept : extent_of core of ≡ extent_by (extent_of core) core (Some (Array index element)))
      (behind : IsBehind core.fields core.interfaces of.0 (Array index element)) where
    abbrev pub count : ℕ
    count = values_of (range_of (type_at core index))

    pub size_is : size_in core of ≡ count * size_in core element
    size_is = ap (λ x. x.size) kept ∙ below_cap (count * size_in core element) (subst (λ s. s < 2 ^ 32 - 1) (ap (λ x. x.size) kept) small.size)

    pub few_elements : count * size_in core element < 2 ^ 32 - 1
    few_elements = subst (λ s. s < 2 ^ 32 - 1) size_is small.size

    pub element_small : 0 < count → IsSmall core element
    element_small some =
        let within = element_within count (size_in core element) 0 some few_elements in
        let f = few_elements in
        let before = behind.1 in
        let there = small.there in
        record { there = omega arith; size = omega arith }

    element_unit : IsUnit (alignment_in core element)
    element_unit = let before = behind.1 in let there = small.there in unit_of element (omega arith)

    module _ (inner : TypeId → Arrangement) (parts : (part : TypeId) → part.0 < of.0 → IsSmall core part → Arranged core part (inner part)) where
      element_arranged : 0 < count → Arranged core element (inner element)
      element_arranged some = parts element behind.1 (element_small some)

      -- so many elements take a multiple of the alignment
      elements_whole : (n : ℕ) → n ≤ count → (n * size_in core element) % alignment_in core element ≡ 0
      elements_whole zero less = let none : 0 ≡ 0 * size_in core element = omega arith in subst (λ x. x % alignment_in core element ≡ 0) none (none_of (alignment_in core element) element_unit)
      elements_whole (suc n) less = times_of (alignment_in core element) (suc n) (size_in core element) element_unit (element_arranged (omega arith)).whole

      array_arranged : Arranged core of (in_parts (size_in core of) count (λ k. k * size_in core element) (λ k. inner element))
      array_arranged = record {
        arranged = (λ k low. by k low, λ j k order low. apart j k order low);
        size = refl;
        unit = subst IsUnit (sym alignment) element_unit;
        whole = subst (λ a. size_in core of % a ≡ 0) (sym alignment) (subst (λ s. s % alignment_in core element ≡ 0) (sym size_is) (elements_whole count (omega arith)));
        aligned = λ a multiple k low. at a (subst (λ n. a % n ≡ 0) alignment multiple) k low;
      }
        where
          alignment : alignment_in core of ≡ alignment_in core element
          alignment = ap (λ x. x.alignment) kept

          by : (k : ℕ) → k < count → IsArranged (inner element) × (k * size_in core element + bytes_in (inner element) ≤ size_in core of)
          by k low =
              let own = element_arranged (omega arith) in
              let within = element_within count (size_in core element) k low few_elements in
              (own.arranged, subst (λ s. k * size_in core element + s ≤ size_in core of) (sym own.size) (subst (λ s. k * size_in core element + size_in core element ≤ s) (sym size_is) within))

          apart : (j k : ℕ) → j < k → k < count → j * size_in core element + bytes_in (inner element) ≤ k * size_in core element
          apart j k order low =
              let own = element_arranged (omega arith) in
              subst (λ s. j * size_in core element + s ≤ k * size_in core element) (sym own.size) (elements_apart (size_in core element) j k order)

          at : (a : ℕ) → a % alignment_in core element ≡ 0 → (k : ℕ) → k < count → IsAligned (inner element) (a + k * size_in core element)
          at a multiple k low =
              let own = element_arranged (omega arith) in
              own.aligned (a + k * size_in core element) (sum_of (alignment_in core element) a (k * size_in core element) element_unit multiple (elements_whole k (omega arith)))

  -- ---- all types

  plain_at : (of : TypeId) (n : ℕ) (managed : Bool) → extent_of core of ≡ plain n managed → IsPlain of n
  plain_at of n managed kept = (ap (λ x. x.size) kept, ap (λ x. x.alignment) kept)

  type_arranged : (inner : TypeId → Arrangement) (of : TypeId) (t : CoreType) → IsSmall core of → extent_of core of ≡ extent_by (extent_of core) core (Some t) → IsBehind core.fields core.interfaces of.0 t → ((part : TypeId) → part.0 < of.0 → IsSmall core part → Arranged core part (inner part)) → Arranged core of (by_form core inner of (Some t))
  type_arranged inner of (Integer kind) small kept behind parts = kind_arranged of kind (plain_at of (integer_size kind) false kept)
  type_arranged inner of Boolean small kept behind parts = kind_arranged of Unsigned8 (plain_at of 1 false kept)
  type_arranged inner of Char small kept behind parts = kind_arranged of Unsigned8 (plain_at of 1 false kept)
  type_arranged inner of (Record run) small kept behind parts = record_arranged of run small kept behind inner parts
  type_arranged inner of (Array index element) small kept behind parts = array_arranged of index element small kept behind inner parts
  type_arranged inner of (Interface i) small kept behind parts = word_arranged of (plain_at of 4 _ kept)
  type_arranged inner of String small kept behind parts = word_arranged of (plain_at of 4 true kept)
  type_arranged inner of (DynamicArray element) small kept behind parts = word_arranged of (plain_at of 4 true kept)
  type_arranged inner of _ small kept behind parts = word_arranged of (plain_at of 4 false kept)

  pub arranged_within : (n : ℕ) (of : TypeId) → of.0 < n → IsSmall core of → Arranged core of (arrangement_within n core of)
  arranged_within zero of few small = absurd (omega arith)
  arranged_within (suc n) of few small =
      let (t, e) = there_is core.types of.0 small.there in
      let all = type_arranged (arrangement_within n core) of t small (extent_kept of t e) (keeps.behind of.0 t e) (λ part before less. arranged_within n part (omega arith) less) in
      subst (λ o. Arranged core of (by_form core (arrangement_within n core) of o)) (sym e) all

  pub type_is_arranged : (of : TypeId) → IsSmall core of → Arranged core of (arrangement_of core of)
  type_is_arranged of small = arranged_within (suc of.0) of (omega arith) small
