-- Which byte of a first value stands where.
use Rattle.std.proofs.Common.{◌≡◌, ◌<◌, ℕ, zero, suc, ◌+◌, ◌-◌, ◌*◌, ◌^◌, List, [], ◌∷◌, ◌++◌, length, take, replicate, get_or, slice_get, refl, ap, ◌∙◌, arith}
use Rattle.std.proofs.Common.{append_assoc, length-take}
use Rattle.std.proofs.lemmas.List.{length-append, get_or-append-add, get_or_append_left, get_or-take, length-replicate}
use Rattle.op_core.specs.Initial.{FirstValue, constant, parts, FirstValues, no_values, values}
use Rattle.op_core.specs.Sizes.{extent_of, extended}
use Rattle.op_core.specs.declared.ids.TypeId.{TypeId}
use Rattle.op_core.specs.declared.program.Core.{Core}
use Rattle.op_core.specs.declared.types.Extent.{Extent}
use Rattle.op_core.specs.declared.types.Field.{Field}
use Rattle.op_meaning.specs.Shapes.{field_type}
use Rattle.op_rv.proofs.Memory.{get_or-zeros}
use Rattle.op_constants.specs.FirstBytes.{first_bytes, fields_bytes, elements_bytes, fitted}
use Rattle.op_constants.specs.Offsets.{size_in, begin_behind, offset_behind}
use Rattle.op_constants.proofs.FieldOffsets.{all, field_within, grows}
use Rattle.op_constants.proofs.Units.{at_least, below_cap}

-- ---- what is cut, and zeros behind it

pub fitted-length : (n : ℕ) (bytes : List ℕ) → length (fitted n bytes) ≡ n
fitted-length n bytes =
    let many = length-append (take n bytes) (replicate {A = ℕ} (n - length bytes) 0) in
    let front = length-take n bytes in
    let behind = length-replicate {A = ℕ} (n - length bytes) 0 in
    grind (arith, many, front, behind)

pub first-length : (core : Core) (of : TypeId) (v : FirstValue) → length (first_bytes core of v) ≡ size_in core of
first-length core of (constant c) = fitted-length (size_in core of) _
first-length core of (parts vs) = fitted-length (size_in core of) _

past : (n i : ℕ) (bytes : List ℕ) → get_or (take n bytes ++ replicate {A = ℕ} (n - length bytes) 0) i 0 ≡ get_or (take n bytes) i 0
past n i bytes = get_or-zeros (take n bytes) (n - length bytes) i

pub fitted-get : (n i : ℕ) (bytes : List ℕ) → i < n → get_or (fitted n bytes) i 0 ≡ get_or bytes i 0
fitted-get n i bytes low = past n i bytes ∙ get_or-take n bytes i 0 low

-- ---- the bytes of a part

-- those of the value with this number, and zeros where there is none
abbrev pub part_byte : Core → (ℕ → TypeId) → FirstValues → ℕ → ℕ → ℕ
part_byte core types no_values k x = 0
part_byte core types (values v vs) zero x = get_or (first_bytes core (types 0) v) x 0
part_byte core types (values v vs) (suc k) x = part_byte core (λ j. types (suc j)) vs k x

past_front : (front rest : List ℕ) (n i : ℕ) → i ≡ length front + n → get_or (front ++ rest) i 0 ≡ get_or rest n 0
past_front front rest n i e = ap (λ i. get_or (front ++ rest) i 0) e ∙ get_or-append-add front rest n 0

module _ (core : Core) where
  abbrev next : Extent → Field → Extent
  next e f = extended e (extent_of core f.of)

  abbrev types_of : List Field → ℕ → TypeId
  types_of fs k = field_type (slice_get fs k)

  -- zeros up to the field, and the field
  abbrev gap : Extent → Field → List ℕ
  gap e f = replicate {A = ℕ} (begin_behind e.size (extent_of core f.of) - e.size) 0

  pub field_byte : (fs : List Field) (vs : FirstValues) (e : Extent) (k x : ℕ) → k < length fs → x < size_in core (types_of fs k) → (all core e fs).size < 2 ^ 32 - 1 → get_or (fields_bytes core e.size fs vs) (offset_behind core e.size fs k - e.size + x) 0 ≡ part_byte core (types_of fs) vs k x
  field_byte fs no_values e k x low few small = refl
  field_byte [] (values v vs) e k x low few small = absurd (omega arith)
  field_byte (f ∷ fs) (values v vs) e zero x low few small =
      let zeros = length-replicate {A = ℕ} (begin_behind e.size (extent_of core f.of) - e.size) 0 in
      let many = first-length core f.of v in
      let inside : x < length (first_bytes core f.of v) = omega arith in
      let rest = fields_bytes core (next e f).size fs vs in
      ap (λ b. get_or b (begin_behind e.size (extent_of core f.of) - e.size + x) 0) (append_assoc (gap e f) (first_bytes core f.of v) rest)
      ∙ past_front (gap e f) (first_bytes core f.of v ++ rest) x (begin_behind e.size (extent_of core f.of) - e.size + x) (omega arith)
      ∙ get_or_append_left (first_bytes core f.of v) rest 0 x inside
  field_byte (f ∷ fs) (values v vs) e (suc k) x low few small =
      let zeros = length-replicate {A = ℕ} (begin_behind e.size (extent_of core f.of) - e.size) 0 in
      let many = first-length core f.of v in
      let more = grows core fs (next e f) small in
      let whole = below_cap (begin_behind e.size (extent_of core f.of) + size_in core f.of) (omega arith) in
      let first = at_least (extent_of core f.of).alignment e.size (omega arith) in
      let least = (field_within core fs (next e f) k (omega arith) small).0 in
      let n = offset_behind core (next e f).size fs k - (next e f).size + x in
      let m : length (first_bytes core f.of v) + n ≡ offset_behind core (next e f).size fs k - begin_behind e.size (extent_of core f.of) + x = omega arith in
      let i : offset_behind core (next e f).size fs k - e.size + x ≡ length (gap e f) + (length (first_bytes core f.of v) + n) = omega arith in
      let rest = fields_bytes core (next e f).size fs vs in
      ap (λ b. get_or b (offset_behind core (next e f).size fs k - e.size + x) 0) (append_assoc (gap e f) (first_bytes core f.of v) rest)
      ∙ past_front (gap e f) (first_bytes core f.of v ++ rest) (length (first_bytes core f.of v) + n) (offset_behind core (next e f).size fs k - e.size + x) i
      ∙ get_or-append-add (first_bytes core f.of v) rest n 0
      ∙ field_byte fs vs (next e f) k x (omega arith) few small

  pub element_byte : (element : TypeId) (vs : FirstValues) (k x : ℕ) → x < size_in core element → get_or (elements_bytes core element vs) (k * size_in core element + x) 0 ≡ part_byte core (λ j. element) vs k x
  element_byte element no_values k x few = refl
  element_byte element (values v vs) zero x few =
      let many = first-length core element v in
      let at : 0 * size_in core element + x ≡ x = omega arith in
      ap (λ i. get_or (elements_bytes core element (values v vs)) i 0) at ∙ get_or_append_left (first_bytes core element v) (elements_bytes core element vs) 0 x (omega arith)
  element_byte element (values v vs) (suc k) x few =
      let many = first-length core element v in
      let at : suc k * size_in core element + x ≡ length (first_bytes core element v) + (k * size_in core element + x) = omega arith in
      past_front (first_bytes core element v) (elements_bytes core element vs) (k * size_in core element + x) (suc k * size_in core element + x) at ∙ element_byte element vs k x few
