-- Types of values without strings and references, and the numbers of ordinal types.
use Rattle.std.proofs.Common.{◌≡◌, ◌<◌, ◌≤◌, ◌⊎◌, inl, inr, ℕ, Bool, true, false, ◌||◌, List, [], ◌∷◌, length, nat_eq, Option, Some, None, slice_get, refl, sym, subst, ◌∙◌, arith}
use Rattle.std.proofs.lemmas.Int.{ints}
use Rattle.std.proofs.lemmas.Option.{none-some, same_Some, slice_get_within}
use Rattle.std.specs.Int.{w32}
use Rattle.std.specs.Int.RustNames.{FitsSigned}
use Rattle.std.specs.Prelude.{ℤ, pos, ◌-ℤ◌, IsTrue, IsSomeAnd}
use Rattle.op_constants.proofs.SoundFirst.{small_type}
use Rattle.op_constants.specs.Arranged.{IsSmall}
use Rattle.op_core.proofs.OneType.{by_number, one_back}
use Rattle.op_core.specs.Sizes.{integer_range, range_of, type_at}
use Rattle.op_core.specs.Sound.{IsSound, is_whole}
use Rattle.op_core.specs.Types.{are_one, elements, true_of}
use Rattle.op_core.specs.Typing.{IsOrdinal, IsSet, OneType, Within, base_of}
use Rattle.op_core.specs.declared.ids.TypeId.{TypeId}
use Rattle.op_core.specs.declared.program.Core.{Core}
use Rattle.op_core.specs.declared.types.CoreType.{CoreType}
use Rattle.op_core.specs.declared.types.CoreType.TheVariants.{Integer, Boolean, Char, Enumeration, Subrange, Set, Record, Array, EmptySet, Nothing}
use Rattle.op_core.specs.declared.types.IntegerKind.{IntegerKind}
use Rattle.op_core.specs.declared.types.IntegerKind.TheVariants.{Signed8, Unsigned8, Signed16, Unsigned16, Signed32}
use Rattle.op_meaning.specs.Expressions.{high_in, high_of, low_in, low_of}
use Rattle.op_meaning.specs.Numbers.{fits_word}
use Rattle.op_meaning.specs.Sets.{set_of}
use Rattle.op_meaning.specs.Shapes.{Shape, single, composite, shape_by}
use Rattle.op_typing.proofs.Rows.{not_true, some_and}
use Rattle.op_typing.specs.Simple.{IsSolidType, is_solid}
use Rattle.op_typing.specs.Typed.{IsSingle, IsSolid}

-- ---- shapes

solid_shape : (core : Core) (o : Option CoreType) → is_solid o ≡ true → ((kind : IntegerKind) × (shape_by core o ≡ single kind)) ⊎ (shape_by core o ≡ composite)
solid_shape core (Some (Integer kind)) h = inl (kind, refl)
solid_shape core (Some Boolean) h = inl (Unsigned8, refl)
solid_shape core (Some Char) h = inl (Unsigned8, refl)
solid_shape core (Some (Enumeration count)) h = inl (Signed32, refl)
solid_shape core (Some (Subrange base low high)) h = inl (Signed32, refl)
solid_shape core (Some (Set base)) h = inl (Signed32, refl)
solid_shape core (Some (Record fields)) h = inr refl
solid_shape core (Some (Array index element)) h = inr refl
solid_shape core (Some EmptySet) h = inl (Signed32, refl)
solid_shape core (Some Nothing) h = inl (Signed32, refl)
solid_shape core _ h = absurd (not_true h)

pub solid_is : (core : Core) (of : TypeId) → IsSolidType core of → IsSolid core of
solid_is core of h = solid_shape core (type_at core of) h

some_solid : (o : Option CoreType) → is_solid o ≡ true → (t : CoreType) × (o ≡ Some t)
some_solid None h = absurd (not_true h)
some_solid (Some t) h = (t, refl)

pub solid_low : (core : Core) (of : TypeId) → IsSolidType core of → of.0 < length core.types
solid_low core of h = let (t, e) = some_solid (type_at core of) h in slice_get_within core.types of.0 t e

pub solid_small : (core : Core) → IsSound core → (of : TypeId) → IsSolidType core of → IsSmall core of
solid_small core sound of h = small_type core sound of (solid_low core of h)

single_not_composite : (kind : IntegerKind) → single kind ≡ composite → ⊥
single_not_composite kind e = absurd (cc)

pub one_shape : (s : Shape) (kind : IntegerKind) → s ≡ single kind → s ≡ composite → ⊥
one_shape s kind e f = single_not_composite kind (sym e ∙ f)

-- ---- types that are one

no_elements : (o p : Option CoreType) → is_solid o ≡ true → elements o p ≡ None
no_elements (Some (Integer kind)) p h = refl
no_elements (Some Boolean) p h = refl
no_elements (Some Char) p h = refl
no_elements (Some (Enumeration count)) p h = refl
no_elements (Some (Subrange base low high)) p h = refl
no_elements (Some (Set base)) p h = refl
no_elements (Some (Record fields)) p h = refl
no_elements (Some (Array index element)) p h = refl
no_elements (Some EmptySet) p h = refl
no_elements (Some Nothing) p h = refl
no_elements _ p h = absurd (not_true h)

or_none : (a : Bool) (f : TypeId → TypeId → Bool) (pair : Option (TypeId × TypeId)) → pair ≡ None → (a || true_of f pair) ≡ true → a ≡ true
or_none true f pair e h = refl
or_none false f pair e h = absurd (not_true (subst (λ pair. true_of f pair ≡ true) e h))

steps_one : (steps types : List CoreType) (a b : TypeId) → is_solid (slice_get types a.0) ≡ true → are_one steps types a b ≡ true → a ≡ b
steps_one [] types a b solid h = by_number a b h
steps_one (step ∷ steps) types a b solid h =
    by_number a b (or_none (nat_eq a.0 b.0) (are_one steps types) (elements (slice_get types a.0) (slice_get types b.0)) (no_elements (slice_get types a.0) (slice_get types b.0) solid) h)

-- what is one with a type without strings and references is that type
pub one_solid : (core : Core) (a b : TypeId) → OneType core a b → IsSolidType core a → a ≡ b
one_solid core a b one solid = steps_one core.types core.types a b solid one

pub one_back_solid : (core : Core) (a b : TypeId) → OneType core a b → IsSolidType core b → a ≡ b
one_back_solid core a b one solid = sym (one_solid core b a (one_back core.types a b one) solid)

-- ---- numbers of 32 bits

abbrev pub IsWord : ℤ → Type 0
IsWord n = FitsSigned w32 n

pub fits : (n : ℤ) → IsWord n → fits_word n ≡ true
fits n h = grind (arith, ints)

pub set_word : (test : ℕ → Bool) → IsWord (set_of test)
set_word test = omega (arith, ints)

abbrev AreWordEnds : ℤ × ℤ → Type 0
AreWordEnds range = IsWord range.0 × IsWord range.1

kind_ends : (kind : IntegerKind) → AreWordEnds (integer_range kind)
kind_ends Signed8 = (omega (arith, ints), omega (arith, ints))
kind_ends Unsigned8 = (omega (arith, ints), omega (arith, ints))
kind_ends Signed16 = (omega (arith, ints), omega (arith, ints))
kind_ends Unsigned16 = (omega (arith, ints), omega (arith, ints))
kind_ends Signed32 = (omega (arith, ints), omega (arith, ints))

truth_ends : AreWordEnds (pos 0, pos 1)
truth_ends = (omega (arith, ints), omega (arith, ints))

char_ends : AreWordEnds (pos 0, pos 255)
char_ends = (omega (arith, ints), omega (arith, ints))

few_ends : (count : ℕ) → count ≤ 65536 → AreWordEnds (pos 0, pos count -ℤ pos 1)
few_ends count few = (omega (arith, ints), omega (arith, ints, few))

ends_at : {a b : ℤ × ℤ} → Some a ≡ Some b → AreWordEnds a → AreWordEnds b
ends_at e h = subst AreWordEnds (same_Some _ _ e) h

whole_ends : (o : Option CoreType) (range : ℤ × ℤ) → IsTrue (is_whole o) → ((count : ℕ) → o ≡ Some (Enumeration count) → count ≤ 65536) → range_of o ≡ Some range → AreWordEnds range
whole_ends (Some (Integer Signed32)) range whole few e = ends_at e (kind_ends Signed32)
whole_ends (Some Boolean) range whole few e = ends_at e truth_ends
whole_ends (Some Char) range whole few e = ends_at e char_ends
whole_ends (Some (Enumeration count)) range whole few e = ends_at e (few_ends count (few count refl))
whole_ends _ range whole few e = absurd (not_true whole)

between_words : (range : ℤ × ℤ) (n : ℤ) → AreWordEnds range → Within range n → IsWord n
between_words range n ends h =
    let low = ends.0 in
    let high = ends.1 in
    let least = h.0 in
    let most = h.1 in
    omega (arith, ints, low, high, least, most)

abbrev BothWithin : ℤ → ℤ → ℤ × ℤ → Type 0
BothWithin low high range = Within range low × Within range high

sub_ends : (o : Option CoreType) (low high : ℤ) → IsTrue (is_whole o) → ((count : ℕ) → o ≡ Some (Enumeration count) → count ≤ 65536) → IsSomeAnd (range_of o) (BothWithin low high) → AreWordEnds (low, high)
sub_ends o low high whole few h =
    let (range, e, within) = some_and (range_of o) (BothWithin low high) h in
    let ends = whole_ends o range whole few e in
    (between_words range low ends within.0, between_words range high ends within.1)

module _ (core : Core) (sound : IsSound core) where
  few_values : (of : TypeId) (count : ℕ) → type_at core of ≡ Some (Enumeration count) → count ≤ 65536
  few_values of count e = (sound.types of.0 (Enumeration count) e).1

  type_ends : (of : TypeId) (t : CoreType) (range : ℤ × ℤ) → type_at core of ≡ Some t → range_of (Some t) ≡ Some range → AreWordEnds range
  type_ends of (Integer kind) range is e = ends_at e (kind_ends kind)
  type_ends of Boolean range is e = ends_at e truth_ends
  type_ends of Char range is e = ends_at e char_ends
  type_ends of (Enumeration count) range is e = ends_at e (few_ends count (few_values of count is))
  type_ends of (Subrange base low high) range is e =
      let row = sound.types of.0 (Subrange base low high) is in
      ends_at e (sub_ends (type_at core base) low high row.3 (few_values base) row.1)
  type_ends of _ range is e = absurd (none-some _ e)

  -- the bounds of an ordinal type have 32 bits
  pub range_words : (of : TypeId) (range : ℤ × ℤ) → range_of (type_at core of) ≡ Some range → AreWordEnds range
  range_words of range e = by (type_at core of) refl e
    where
      by : (o : Option CoreType) → type_at core of ≡ o → range_of o ≡ Some range → AreWordEnds range
      by None is e = absurd (none-some _ e)
      by (Some t) is e = type_ends of t range is e

  pub value_word : (of : TypeId) (n : ℤ) → IsSomeAnd (range_of (type_at core of)) (λ range. Within range n) → IsWord n
  value_word of n h =
      let (range, e, within) = some_and (range_of (type_at core of)) (λ range. Within range n) h in
      between_words range n (range_words of range e) within

  pub low_word : (of : TypeId) → IsWord (low_in core of)
  low_word of = by (range_of (type_at core of)) refl
    where
      by : (o : Option (ℤ × ℤ)) → range_of (type_at core of) ≡ o → IsWord (low_of o)
      by None e = omega (arith, ints)
      by (Some range) e = (range_words of range e).0

  pub high_word : (of : TypeId) → IsWord (high_in core of)
  high_word of = by (range_of (type_at core of)) refl
    where
      by : (o : Option (ℤ × ℤ)) → range_of (type_at core of) ≡ o → IsWord (high_of o)
      by None e = omega (arith, ints)
      by (Some range) e = (range_words of range e).1

-- ---- which types are single numbers

abbrev HasKind : Core → Option CoreType → Type 0
HasKind core o = (kind : IntegerKind) × (shape_by core o ≡ single kind)

pub ordinal_kind : (core : Core) (o : Option CoreType) → IsSomeAnd (range_of o) (λ range. Unit {0}) → HasKind core o
ordinal_kind core (Some (Integer kind)) h = (kind, refl)
ordinal_kind core (Some Boolean) h = (Unsigned8, refl)
ordinal_kind core (Some Char) h = (Unsigned8, refl)
ordinal_kind core (Some (Enumeration count)) h = (Signed32, refl)
ordinal_kind core (Some (Subrange base low high)) h = (Signed32, refl)
ordinal_kind core _ h = absurd h

pub ordinal_single : (core : Core) (of : TypeId) → IsOrdinal core of → (kind : IntegerKind) × IsSingle core of kind
ordinal_single core of h = ordinal_kind core (type_at core of) h

set_kind : (core : Core) (o : Option CoreType) → IsSomeAnd (base_of o) (λ base. Unit {0}) → shape_by core o ≡ single Signed32
set_kind core (Some (Set base)) h = refl
set_kind core _ h = absurd h

pub set_single : (core : Core) (of : TypeId) → IsSet core of → IsSingle core of Signed32
set_single core of h = set_kind core (type_at core of) h
