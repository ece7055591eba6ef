-- The bytes of a first value, at an address, are the value.
use Rattle.std.proofs.Common.{◌≡◌, ◌<◌, ℕ, zero, suc, ◌+◌, ◌-◌, ◌*◌, List, length, get_or, Some, slice_get, refl, sym, ap, ◌∙◌, subst, arith}
use Rattle.std.specs.Prelude.{pos}
use Rattle.op_core.proofs.Rows.{there_is}
use Rattle.op_core.specs.Initial.{FirstValue, constant, parts, FirstValues, no_values, values}
use Rattle.op_core.specs.Rows.{rows}
use Rattle.op_core.specs.Sizes.{KeepsExtents, IsBehind, extent_by, extent_of, range_of, type_at, values_of}
use Rattle.op_core.specs.declared.constant.Const.{Const}
use Rattle.op_core.specs.declared.constant.Const.TheVariants.{Ordinal, Text, Set, Nil}
use Rattle.op_core.specs.declared.ids.Run.{Run}
use Rattle.op_core.specs.declared.ids.TypeId.{TypeId}
use Rattle.op_core.specs.declared.program.Core.{Core}
use Rattle.op_core.specs.declared.types.CoreType.{CoreType}
use Rattle.op_core.specs.declared.types.CoreType.TheVariants.{Record, Array}
use Rattle.op_core.specs.declared.types.Field.{Field}
use Rattle.op_core.specs.declared.types.IntegerKind.TheVariants.{Signed32}
use Rattle.op_meaning.specs.Shapes.{Shape, single, composite, of_chars, of_elements, of_instance, shape_of, part_type, field_type, value_of_constant, first_of, nth_first, count_first, zero_of}
use Rattle.op_meaning.specs.Values.{Value, number, parts as value_parts, number_in}
use Rattle.op_rv.specs.State.{with_bytes}
use Rattle.op_rv.proofs.Memory.{with_bytes-within}
use Rattle.op_constants.specs.Arranged.{Arranged, IsSmall}
use Rattle.op_constants.specs.FirstBytes.{elements_bytes, fields_bytes, first_bytes, first_number, fitted, number_by, number_of_constant, parts_bytes}
use Rattle.op_constants.specs.FirstFits.{FirstFits, EachFits, NumberFits}
use Rattle.op_constants.specs.Lies.{Arrangement, bytes_in, IsArranged, Lies, arrangement_by, arrangement_within, arrangement_of}
use Rattle.op_constants.specs.Offsets.{size_in, offset_behind}
use Rattle.op_constants.proofs.FieldOffsets.{element_within, field_within}
use Rattle.op_constants.proofs.FirstRows.{part_byte, field_byte, element_byte, fitted-get, first-length}
use Rattle.op_constants.proofs.Numbers.{number_lies, zero_there}
use Rattle.op_constants.proofs.TypesArranged.{arranged_within, by_form, element_small, extent_kept, few, few_elements, field_small, many, none, size_is, type_is_arranged, whole}
use Rattle.op_constants.proofs.Zeros.{AreZeros, nothing_lies, zero_lies, zero-number}

-- a constant as a number
number-of : (core : Core) (of : TypeId) (c : Const) → number_in (value_of_constant core of c) ≡ number_of_constant c
number-of core of (Ordinal n) = refl
number-of core of (Text bytes) = refl
number-of core of (Set es) = refl
number-of core of Nil = zero-number (suc of.0) core of

pub first-number : (core : Core) (of : TypeId) (v : FirstValue) → number_in (first_of core of v) ≡ first_number v
first-number core of (constant c) = number-of core of c
first-number core of (parts vs) = refl

-- these bytes, and zeros behind them, stand at an address
abbrev pub AreThere : (ℕ → ℕ) → ℕ → ℕ → List ℕ → Type 0
AreThere memory a size bytes = (x : ℕ) → x < size → memory (a + x) ≡ get_or bytes x 0

fitted_there : (memory : ℕ → ℕ) (a size : ℕ) (bytes : List ℕ) → AreThere memory a size (fitted size bytes) → AreThere memory a size bytes
fitted_there memory a size bytes there x low = there x low ∙ fitted-get size x bytes low

module _ (core : Core) (keeps : KeepsExtents core) where
  -- ---- constants

  constant_lies : (c : Const) (n : ℕ) (of : TypeId) (s : Shape) (memory : ℕ → ℕ) (a : ℕ) → (l : Arrangement) → l ≡ arrangement_by (arrangement_within n core) core (size_in core of) (type_at core of) s → shape_of core of ≡ s → IsArranged l → bytes_in l ≡ size_in core of → NumberFits s (number_of_constant c) → AreThere memory a (size_in core of) (number_by s (number_of_constant c)) → Lies (arrangement_by (arrangement_within n core) core (size_in core of) (type_at core of) s) (value_of_constant core of c) memory a
  constant_lies c n of (single kind) memory a l is shape arranged size fits there =
      let many = ap bytes_in is in
      number-of core of c ∙ number_lies kind (number_of_constant c) memory a fits (λ x low. there x (omega arith))
  constant_lies c n of composite memory a l is shape arranged size fits there = by c
    where
      arrangement : Arrangement
      arrangement = arrangement_by (arrangement_within n core) core (size_in core of) (type_at core of) composite

      nothing : Lies arrangement (number (pos 0)) memory a
      nothing = nothing_lies arrangement memory a (subst IsArranged is arranged) there

      zeros : Lies arrangement (zero_of core of) memory a
      zeros =
          let whole : arrangement_within (suc n) core of ≡ arrangement = ap (arrangement_by (arrangement_within n core) core (size_in core of) (type_at core of)) shape in
          subst (λ l. Lies l (zero_of core of) memory a) whole (zero_lies (suc n) (suc of.0) core of memory a (subst IsArranged (is ∙ sym whole) arranged) (λ x low. there x (let many = ap bytes_in whole in omega arith)))

      by : (c : Const) → Lies arrangement (value_of_constant core of c) memory a
      by (Ordinal i) = nothing
      by (Text bytes) = nothing
      by (Set es) = nothing
      by Nil = zeros
  constant_lies c n of of_chars memory a l is shape arranged size fits there = let many = ap bytes_in is in number-of core of c ∙ fits ∙ zero_there Signed32 memory a (λ x low. there x (omega arith))
  constant_lies c n of of_elements memory a l is shape arranged size fits there = let many = ap bytes_in is in number-of core of c ∙ fits ∙ zero_there Signed32 memory a (λ x low. there x (omega arith))
  constant_lies c n of (of_instance holds) memory a l is shape arranged size fits there = let many = ap bytes_in is in number-of core of c ∙ fits ∙ zero_there Signed32 memory a (λ x low. there x (omega arith))

  -- ---- parts

  -- a part lies wherever its bytes are
  abbrev PartLies : FirstValues → ℕ → (ℕ → TypeId) → (ℕ → ℕ) → Type 0
  PartLies vs n types memory = (k b : ℕ) → (types k).0 < n → IsSmall core (types k) → ((x : ℕ) → x < size_in core (types k) → memory (b + x) ≡ part_byte core types vs k x) → Lies (arrangement_within n core (types k)) (nth_first core types vs k) memory b

  -- what has parts
  abbrev of_parts : FirstValues → CoreType → Value
  of_parts vs t = value_parts (count_first vs) (λ k. nth_first core (part_type core (Some t)) vs k)

  module _ (vs : FirstValues) (n : ℕ) (of : TypeId) (memory : ℕ → ℕ) (a : ℕ) (low : of.0 < suc n) (small : IsSmall core of) where
    record_lies : (run : Run) → type_at core of ≡ Some (Record run) → AreThere memory a (size_in core of) (fields_bytes core 0 (rows core.fields run) vs) → PartLies vs n (part_type core (Some (Record run))) memory → Lies (by_form core (arrangement_within n core) of (Some (Record run))) (of_parts vs (Record run)) memory a
    record_lies run e there each = λ k few_k. part k (subst (λ m. k < m) (sym count) few_k)
      where
        kept : extent_of core of ≡ extent_by (extent_of core) core (Some (Record run))
        kept = extent_kept core keeps of (Record run) e

        behind : IsBehind core.fields core.interfaces of.0 (Record run)
        behind = keeps.behind of.0 (Record run) e

        fs : List Field
        fs = rows core.fields run

        count : length fs ≡ run.count
        count = many core keeps of run small kept behind

        offset : ℕ → ℕ
        offset k = offset_behind core 0 fs k

        bytes : (k : ℕ) → k < length fs → (x : ℕ) → x < size_in core (field_type (slice_get fs k)) → memory (a + offset k + x) ≡ part_byte core (λ j. field_type (slice_get fs j)) vs k x
        bytes k inside x few_x =
            let all_few = few core keeps of run small kept behind in
            let within = (field_within core fs none k inside all_few).1 in
            let ends = whole core keeps of run small kept behind in
            let at : a + offset k + x ≡ a + (offset k + x) = omega arith in
            let none_before : offset k + x ≡ offset k - 0 + x = omega arith in
            ap memory at ∙ there (offset k + x) (omega arith) ∙ ap (λ i. get_or (fields_bytes core 0 fs vs) i 0) none_before ∙ field_byte core fs vs none k x inside few_x all_few

        part : (k : ℕ) → k < length fs → Lies (arrangement_within n core (field_type (slice_get fs k))) (nth_first core (λ j. field_type (slice_get fs j)) vs k) memory (a + offset k)
        part k inside =
            let (before, less) = field_small core keeps of run small kept behind k inside in
            each k (a + offset k) (omega arith) less (bytes k inside)

    array_lies : (index element : TypeId) → type_at core of ≡ Some (Array index element) → AreThere memory a (size_in core of) (elements_bytes core element vs) → PartLies vs n (part_type core (Some (Array index element))) memory → Lies (by_form core (arrangement_within n core) of (Some (Array index element))) (of_parts vs (Array index element)) memory a
    array_lies index element e there each = part
      where
        kept : extent_of core of ≡ extent_by (extent_of core) core (Some (Array index element))
        kept = extent_kept core keeps of (Array index element) e

        behind : IsBehind core.fields core.interfaces of.0 (Array index element)
        behind = keeps.behind of.0 (Array index element) e

        count : ℕ
        count = values_of (range_of (type_at core index))

        bytes : (k : ℕ) → k < count → (x : ℕ) → x < size_in core element → memory (a + k * size_in core element + x) ≡ part_byte core (λ j. element) vs k x
        bytes k inside x few_x =
            let within = element_within count (size_in core element) k inside (few_elements core keeps of index element small kept behind) in
            let ends = size_is core keeps of index element small kept behind in
            let at : a + k * size_in core element + x ≡ a + (k * size_in core element + x) = omega arith in
            ap memory at ∙ there (k * size_in core element + x) (omega arith) ∙ element_byte core element vs k x few_x

        part : (k : ℕ) → k < count → Lies (arrangement_within n core element) (nth_first core (λ j. element) vs k) memory (a + k * size_in core element)
        part k inside =
            let before = behind.1 in
            each k (a + k * size_in core element) (omega arith) (element_small core keeps of index element small kept behind (omega arith)) (bytes k inside)

    -- what is no record and no array has zeros
    parts_lie : (t : CoreType) → type_at core of ≡ Some t → Arranged core of (by_form core (arrangement_within n core) of (Some t)) → AreThere memory a (size_in core of) (parts_bytes core (Some t) vs) → PartLies vs n (part_type core (Some t)) memory → Lies (by_form core (arrangement_within n core) of (Some t)) (of_parts vs t) memory a
    parts_lie (Record run) e is there each = record_lies run e there each
    parts_lie (Array index element) e is there each = array_lies index element e there each
    parts_lie t e is there each = let many = is.size in nothing_lies (by_form core (arrangement_within n core) of (Some t)) memory a is.arranged (λ x few_x. there x (omega arith))

  parts_within : (n : ℕ) (of : TypeId) (memory : ℕ → ℕ) (a : ℕ) → of.0 < suc n → IsSmall core of → (vs : FirstValues) → AreThere memory a (size_in core of) (parts_bytes core (type_at core of) vs) → PartLies vs n (part_type core (type_at core of)) memory → Lies (arrangement_within (suc n) core of) (value_parts (count_first vs) (λ k. nth_first core (part_type core (type_at core of)) vs k)) memory a
  parts_within n of memory a low small vs =
      let (t, e) = there_is core.types of.0 small.there in
      let is = arranged_within core keeps (suc n) of low small in
      subst (λ o. AreThere memory a (size_in core of) (parts_bytes core o vs) → PartLies vs n (part_type core o) memory → Lies (by_form core (arrangement_within n core) of o) (value_parts (count_first vs) (λ k. nth_first core (part_type core o) vs k)) memory a) (sym e)
      (parts_lie vs n of memory a low small t e (subst (λ o. Arranged core of (by_form core (arrangement_within n core) of o)) e is))

  -- ---- all first values

  mutual
    first_within : (v : FirstValue) (n : ℕ) (of : TypeId) (memory : ℕ → ℕ) (a : ℕ) → of.0 < n → IsSmall core of → FirstFits core of v → AreThere memory a (size_in core of) (first_bytes core of v) → Lies (arrangement_within n core of) (first_of core of v) memory a
    first_within (constant c) zero of memory a low small fits there = absurd (omega arith)
    first_within (parts vs) zero of memory a low small fits there = absurd (omega arith)
    first_within (constant c) (suc n) of memory a low small fits there =
        let is = arranged_within core keeps (suc n) of low small in
        constant_lies c n of (shape_of core of) memory a (arrangement_within (suc n) core of) refl refl is.arranged is.size fits (fitted_there memory a (size_in core of) (number_by (shape_of core of) (number_of_constant c)) there)
    first_within (parts vs) (suc n) of memory a low small fits there = parts_within n of memory a low small vs (fitted_there memory a (size_in core of) (parts_bytes core (type_at core of) vs) there) (λ k b before less bytes. part_within vs n (part_type core (type_at core of)) k memory b before less fits bytes)

    part_within : (vs : FirstValues) (n : ℕ) (types : ℕ → TypeId) (k : ℕ) (memory : ℕ → ℕ) (b : ℕ) → (types k).0 < n → IsSmall core (types k) → EachFits core types vs → ((x : ℕ) → x < size_in core (types k) → memory (b + x) ≡ part_byte core types vs k x) → Lies (arrangement_within n core (types k)) (nth_first core types vs k) memory b
    part_within no_values n types k memory b low small fits there =
        let is = arranged_within core keeps n (types k) low small in
        nothing_lies (arrangement_within n core (types k)) memory b is.arranged (λ x few_x. there x (let many = is.size in omega arith))
    part_within (values v vs) n types zero memory b low small fits there = first_within v n (types 0) memory b low small fits.0 there
    part_within (values v vs) n types (suc k) memory b low small fits there = part_within vs n (λ j. types (suc j)) k memory b low small fits.1 there

  -- where a value of zeros is, the variable is as it begins
  pub zeros_lie : (of : TypeId) → IsSmall core of → (memory : ℕ → ℕ) (a : ℕ) → AreZeros memory a (size_in core of) → Lies (arrangement_of core of) (zero_of core of) memory a
  zeros_lie of small memory a none =
      let is = type_is_arranged core keeps of small in
      zero_lies (suc of.0) (suc of.0) core of memory a is.arranged (λ x low. none x (let many = is.size in omega arith))

  -- where the bytes of a first value are, the value lies
  pub first_lies : (of : TypeId) (v : FirstValue) (memory : ℕ → ℕ) (a : ℕ) → IsSmall core of → FirstFits core of v → AreThere memory a (size_in core of) (first_bytes core of v) → Lies (arrangement_of core of) (first_of core of v) memory a
  first_lies of v memory a small fits there = first_within v (suc of.0) of memory a (omega arith) small fits there

  pub first_stored : (of : TypeId) (v : FirstValue) (memory : ℕ → ℕ) (a : ℕ) → IsSmall core of → FirstFits core of v → Lies (arrangement_of core of) (first_of core of v) (with_bytes memory a (first_bytes core of v)) a
  first_stored of v memory a small fits = first_lies of v (with_bytes memory a (first_bytes core of v)) a small fits there
    where
      there : AreThere (with_bytes memory a (first_bytes core of v)) a (size_in core of) (first_bytes core of v)
      there x low =
          let many = first-length core of v in
          let e : a + x - a ≡ x = omega arith in
          with_bytes-within memory a (first_bytes core of v) (a + x) (omega arith) (omega arith) ∙ ap (λ i. get_or (first_bytes core of v) i 0) e
