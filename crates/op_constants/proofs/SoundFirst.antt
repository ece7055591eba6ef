-- The first values of sound programs are of their types.
use Rattle.std.proofs.Common.{◌≡◌, ◌<◌, ◌≤◌, ℕ, zero, suc, ◌+◌, ◌-◌, ◌^◌, List, [], ◌∷◌, length, map, replicate, Bool, true, false, take, Option, Some, None, slice_get, refl, sym, ap, ◌∙◌, subst, arith}
use Rattle.std.specs.Prelude.{ℤ, pos, negsuc, ◌≤ℤ◌, ◌-ℤ◌, Box, IsTrue, IsSomeAnd, IfSome}
use Rattle.std.proofs.lemmas.Option.{none-some, slice_get_within}
use Rattle.std.specs.Int.{w32, cast_signed}
use Rattle.std.specs.List.{All}
use Rattle.std.specs.declared.alloc.Global.{Global}
use Rattle.std.proofs.lemmas.Int.{ints}
use Rattle.op_core.proofs.Rows.{there_is}
use Rattle.op_core.specs.Initial.{FirstValue, constant, parts, FirstValues, no_values, values, first_value_of}
use Rattle.op_core.specs.Rows.{rows}
use Rattle.op_core.specs.Sizes.{integer_range, range_of, type_at, values_of}
use Rattle.op_core.specs.Sound.{IsSound, IsFirst, AreFirst, IsTypeRow, IsVariableRow, is_whole}
use Rattle.op_core.specs.Typing.{AreMembers, Fits, Within}
use Rattle.op_core.specs.declared.constant.Const.{Const}
use Rattle.op_core.specs.declared.constant.Const.TheVariants.{Ordinal, Text, Set as SetOf, Nil as NilOf}
use Rattle.op_core.specs.declared.constant.Initial.{Initial}
use Rattle.op_core.specs.declared.ids.TypeId.{TypeId}
use Rattle.op_core.specs.declared.program.Core.{Core}
use Rattle.op_core.specs.declared.routine.Variable.{Variable}
use Rattle.op_core.specs.declared.types.CoreType.{CoreType}
use Rattle.op_core.specs.declared.types.CoreType.TheVariants.{Integer, Boolean, Char, String, Enumeration, Subrange, Set, Record, Array, EmptySet}
use Rattle.op_core.specs.declared.types.Field.{Field}
use Rattle.op_core.specs.declared.types.IntegerKind.{IntegerKind}
use Rattle.op_core.specs.declared.types.IntegerKind.TheVariants.{Signed8, Unsigned8, Signed16, Unsigned16, Signed32}
use Rattle.op_meaning.specs.Sets.{bits_below, set_of_elements}
use Rattle.op_meaning.specs.Shapes.{Shape, single, composite, of_chars, of_elements, of_instance, field_type, part_type, shape_by, shape_of}
use Rattle.op_constants.specs.Arranged.{IsSmall}
use Rattle.op_constants.specs.FirstBytes.{number_of_constant}
use Rattle.op_constants.specs.FirstFits.{FirstFits, EachFits, NumberFits}
use Rattle.op_constants.proofs.TypesArranged.{all_at}

not_both : false ≡ true → ⊥
not_both e = subst (λ x. elim x as (λ y. Type 0) [ true ↦ ⊥ | false ↦ Unit {0} ]) e tt

abbrev word_range : ℤ × ℤ
word_range = integer_range Signed32

-- ---- numbers of 32 bits

signed_within : (n : ℕ) → Within word_range (cast_signed w32 n)
signed_within n = omega (arith, ints)

-- 0 is a number of each kind
zero_fits : (s : Shape) → NumberFits s (pos 0)
zero_fits (single Signed8) = (omega (arith, ints), omega (arith, ints))
zero_fits (single Unsigned8) = (omega (arith, ints), omega (arith, ints))
zero_fits (single Signed16) = (omega (arith, ints), omega (arith, ints))
zero_fits (single Unsigned16) = (omega (arith, ints), omega (arith, ints))
zero_fits (single Signed32) = (omega (arith, ints), omega (arith, ints))
zero_fits composite = tt
zero_fits of_chars = refl
zero_fits of_elements = refl
zero_fits (of_instance holds) = refl

-- what subranges are of has values of 32 bits
whole_within : (o : Option CoreType) (n : ℤ) → IsTrue (is_whole o) → ((count : ℕ) → o ≡ Some (Enumeration count) → count ≤ 65536) → IsSomeAnd (range_of o) (λ r. Within r n) → Within word_range n
whole_within (Some (Integer Signed32)) n whole few is = is
whole_within (Some Boolean) n whole few is = (omega (arith, ints, is), omega (arith, ints, is))
whole_within (Some Char) n whole few is = (omega (arith, ints, is), omega (arith, ints, is))
whole_within (Some (Enumeration count)) n whole few is = let most = few count refl in (omega (arith, ints, is), omega (arith, ints, is, most))
whole_within _ n whole few is = absurd (not_both whole)

module _ (core : Core) (types : (n : ℕ) (t : CoreType) → slice_get core.types n ≡ Some t → IsTypeRow core n t) where
  both_of : (o : Option CoreType) (low high : ℤ) → IsSomeAnd (range_of o) (λ r. Within r low × Within r high) → IsSomeAnd (range_of o) (λ r. Within r low) × IsSomeAnd (range_of o) (λ r. Within r high)
  both_of o low high is = by (range_of o) is
    where
      by : (r : Option (ℤ × ℤ)) → IsSomeAnd r (λ r. Within r low × Within r high) → IsSomeAnd r (λ r. Within r low) × IsSomeAnd r (λ r. Within r high)
      by None is = absurd is
      by (Some r) is = (is.0, is.1)

  few_values : (base : TypeId) (count : ℕ) → type_at core base ≡ Some (Enumeration count) → count ≤ 65536
  few_values base count e = (types base.0 (Enumeration count) e).1

  ordinal_fits : (n : ℤ) (of : TypeId) (t : CoreType) → type_at core of ≡ Some t → IsSomeAnd (range_of (Some t)) (λ r. Within r n) → NumberFits (shape_by core (Some t)) n
  ordinal_fits n of (Integer kind) e is = is
  ordinal_fits n of Boolean e is = (omega (arith, ints, is), omega (arith, ints, is))
  ordinal_fits n of Char e is = is
  ordinal_fits n of (Enumeration count) e is = let most = few_values of count e in (omega (arith, ints, is), omega (arith, ints, is, most))
  ordinal_fits n of (Subrange base low high) e is =
      let row = types of.0 (Subrange base low high) e in
      let ends = both_of (type_at core base) low high row.1 in
      let least = whole_within (type_at core base) low row.3 (few_values base) ends.0 in
      let most = whole_within (type_at core base) high row.3 (few_values base) ends.1 in
      (omega (arith, ints, is, least), omega (arith, ints, is, most))
  ordinal_fits n of _ e is = absurd is

  set_fits : (es : List ℕ) (t : CoreType) → AreMembers core es (Some t) → NumberFits (shape_by core (Some t)) (set_of_elements es)
  set_fits es (Set base) are = signed_within _
  set_fits es EmptySet are = signed_within _
  set_fits [] t are = absurd are
  set_fits (e ∷ es) t are = absurd are

  constant_fits : (c : Const) (of : TypeId) (t : CoreType) → type_at core of ≡ Some t → Fits core c of → NumberFits (shape_of core of) (number_of_constant c)
  constant_fits (Ordinal n) of t e fits = subst (λ o. NumberFits (shape_by core o) n) (sym e) (ordinal_fits n of t e (subst (λ o. IsSomeAnd (range_of o) (λ r. Within r n)) e fits))
  constant_fits (Text bytes) of t e fits = zero_fits (shape_of core of)
  constant_fits (SetOf es) of t e fits = subst (λ o. NumberFits (shape_by core o) (set_of_elements es)) (sym e) (set_fits es t (subst (AreMembers core es) e fits))
  constant_fits NilOf of t e fits = zero_fits (shape_of core of)

  mutual
    -- a first value that is of its type
    pub first_fits : (v : FirstValue) (of : TypeId) (o : Option CoreType) → type_at core of ≡ o → IsSomeAnd o (λ t. IsFirst core t of v) → FirstFits core of v
    first_fits (constant c) of None e is = absurd is
    first_fits (parts vs) of None e is = absurd is
    first_fits (constant c) of (Some t) e is = constant_fits c of t e is
    first_fits (parts vs) of (Some (Record run)) e is = subst (λ o. EachFits core (part_type core o) vs) (sym e) (fields_fit vs (rows core.fields run) is)
    first_fits (parts vs) of (Some (Array index each)) e is = subst (λ o. EachFits core (part_type core o) vs) (sym e) (elements_fit vs (values_of (range_of (type_at core index))) each is)
    first_fits (parts vs) of (Some t) e is = absurd is

    fields_fit : (vs : FirstValues) (fs : List Field) → AreFirst core (map (λ f. f.of) fs) vs → EachFits core (λ k. field_type (slice_get fs k)) vs
    fields_fit no_values fs are = tt
    fields_fit (values v vs) [] are = absurd are
    fields_fit (values v vs) (f ∷ fs) are = (first_fits v f.of (type_at core f.of) refl are.0, fields_fit vs fs are.1)

    elements_fit : (vs : FirstValues) (n : ℕ) (each : TypeId) → AreFirst core (replicate n each) vs → EachFits core (λ k. each) vs
    elements_fit no_values n each are = tt
    elements_fit (values v vs) zero each are = absurd are
    elements_fit (values v vs) (suc n) each are = (first_fits v each (type_at core each) refl are.0, elements_fit vs n each are.1)

-- ---- sound programs

first_of_list : (ts : List CoreType) → slice_get (take 16 ts) 0 ≡ slice_get ts 0
first_of_list [] = refl
first_of_list (t ∷ ts) = refl

module _ (core : Core) (sound : IsSound core) where
  pub first_type : slice_get core.types 0 ≡ Some (Integer Signed8)
  first_type = sym (first_of_list core.types) ∙ ap (λ ts. slice_get ts 0) sound.predefined

  pub small_type : (of : TypeId) → of.0 < length core.types → IsSmall core of
  small_type of low =
      let (t, e) = there_is core.types of.0 low in
      let size = sound.sizes of.0 t e in
      record { there = low; size = omega arith }

  -- the first value of a variable is of its type, which is there
  pub row_fits : (n : ℕ) (v : Variable) (b : Box Initial Global) → slice_get core.variables n ≡ Some v → v.first_value ≡ Some b → IsSmall core v.of × FirstFits core v.of (first_value_of b.value)
  row_fits n v b e some = by (type_at core v.of) refl (all_at (IsVariableRow core) core.variables n v (slice_get_within core.variables n v e) e sound.variables)
    where
      by : (o : Option CoreType) → type_at core v.of ≡ o → IsSomeAnd o (λ t. IfSome v.first_value (λ i. IsFirst core t v.of (first_value_of i.value))) → IsSmall core v.of × FirstFits core v.of (first_value_of b.value)
      by None is row = absurd row
      by (Some t) is row = (small_type v.of (slice_get_within core.types v.of.0 t is), first_fits core sound.types (first_value_of b.value) v.of (Some t) is (subst (λ o. IfSome o (λ i. IsFirst core t v.of (first_value_of i.value))) some row))
