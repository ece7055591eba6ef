-- What a sound program says of the sizes of its types.
use Rattle.std.proofs.Common.{◌≡◌, ◌<◌, ◌≤◌, ℕ, Bool, true, false, Option, Some, None, slice_get, unwrap_or, refl, sym, ap, ◌∙◌, subst, arith, le_refl, true≢false}
use Rattle.std.proofs.lemmas.Option.{slice_get_within}
use Rattle.op_constants.specs.Offsets.{size_in}
use Rattle.op_constants.specs.Shapes.{is_composite}
use Rattle.op_core.proofs.Rows.{there_is}
use Rattle.op_core.specs.Sizes.{KeepsExtents, extent_by, extent_of, integer_size, plain, type_at}
use Rattle.op_core.specs.Sound.{IsSound}
use Rattle.op_core.specs.declared.ids.TypeId.{TypeId}
use Rattle.op_core.specs.declared.program.Core.{Core}
use Rattle.op_core.specs.declared.types.CoreType.{CoreType}
use Rattle.op_core.specs.declared.types.CoreType.TheVariants.{Integer, Boolean, Char, String, Nil, Nothing, EmptySet, Enumeration, Subrange, Set, Record, Array, DynamicArray, OpenArray, Class, Interface, Broken}
use Rattle.op_core.specs.declared.types.Extent.{Extent}
use Rattle.op_core.specs.declared.types.IntegerKind.{IntegerKind}
use Rattle.op_core.specs.declared.types.IntegerKind.TheVariants.{Signed8, Unsigned8, Signed16, Unsigned16, Signed32}
use Rattle.op_meaning.specs.Charge.{is_open}
use Rattle.op_meaning.specs.Shapes.{shape_by, shape_of}

module _ (core : Core) (keeps : KeepsExtents core) where
  -- a type that is there, or 4 bytes
  size_by : (P : ℕ → Type 0) (of : TypeId) → P 4 → ((t : CoreType) → slice_get core.types of.0 ≡ Some t → P (size_in core of)) → P (size_in core of)
  size_by P of four rows = by (slice_get core.extents of.0) refl
    where
      by : (o : Option Extent) → slice_get core.extents of.0 ≡ o → P (size_in core of)
      by None e = subst (λ o. P (unwrap_or o (plain 4 false)).size) (sym e) four
      by (Some x) e =
          let within = slice_get_within core.extents of.0 x e in
          let there = there_is core.types of.0 (subst (λ n. of.0 < n) keeps.count within) in
          rows there.0 there.1

  kept_size : (of : TypeId) (t : CoreType) → slice_get core.types of.0 ≡ Some t → size_in core of ≡ (extent_by (extent_of core) core (Some t)).size
  kept_size of t e = ap (λ o. (unwrap_or o (plain 4 false)).size) (keeps.each of.0 t e)

  open_by : (of : TypeId) (t : CoreType) → slice_get core.types of.0 ≡ Some t → is_open (type_at core of) ≡ true → size_in core of ≤ 12
  open_by of (OpenArray element) e i = let four : 4 ≤ 12 = omega arith in subst (λ n. n ≤ 12) (sym (kept_size of (OpenArray element) e)) four
  open_by of (Integer kind) e i = absurd (true≢false (sym i ∙ ap is_open e))
  open_by of Boolean e i = absurd (true≢false (sym i ∙ ap is_open e))
  open_by of Char e i = absurd (true≢false (sym i ∙ ap is_open e))
  open_by of String e i = absurd (true≢false (sym i ∙ ap is_open e))
  open_by of Nil e i = absurd (true≢false (sym i ∙ ap is_open e))
  open_by of Nothing e i = absurd (true≢false (sym i ∙ ap is_open e))
  open_by of EmptySet e i = absurd (true≢false (sym i ∙ ap is_open e))
  open_by of (Enumeration values) e i = absurd (true≢false (sym i ∙ ap is_open e))
  open_by of (Subrange base low high) e i = absurd (true≢false (sym i ∙ ap is_open e))
  open_by of (Set base) e i = absurd (true≢false (sym i ∙ ap is_open e))
  open_by of (Record fields) e i = absurd (true≢false (sym i ∙ ap is_open e))
  open_by of (Array index element) e i = absurd (true≢false (sym i ∙ ap is_open e))
  open_by of (DynamicArray element) e i = absurd (true≢false (sym i ∙ ap is_open e))
  open_by of (Class c) e i = absurd (true≢false (sym i ∙ ap is_open e))
  open_by of (Interface c) e i = absurd (true≢false (sym i ∙ ap is_open e))
  open_by of Broken e i = absurd (true≢false (sym i ∙ ap is_open e))

  -- an open array takes a word here
  pub open_small : (of : TypeId) → is_open (type_at core of) ≡ true → size_in core of ≤ 12
  open_small of i = let four : 4 ≤ 12 = omega arith in size_by (λ n. n ≤ 12) of four (λ t e. open_by of t e i)

-- a number takes a byte at least
integer_some : (kind : IntegerKind) → 1 ≤ integer_size kind
integer_some Signed8 = le_refl 1
integer_some Unsigned8 = le_refl 1
integer_some Signed16 = let two : 1 ≤ 2 = omega arith in two
integer_some Unsigned16 = let two : 1 ≤ 2 = omega arith in two
integer_some Signed32 = let four : 1 ≤ 4 = omega arith in four

module _ (core : Core) (keeps : KeepsExtents core) where
  whole_by : (of : TypeId) (t : CoreType) → slice_get core.types of.0 ≡ Some t → is_composite (shape_of core of) ≡ false → is_composite (shape_by core (Some t)) ≡ false
  whole_by of t e c = sym (ap (λ o. is_composite (shape_by core o)) e) ∙ c

  extent_some : (t : CoreType) → is_composite (shape_by core (Some t)) ≡ false → 1 ≤ (extent_by (extent_of core) core (Some t)).size
  extent_some (Integer kind) c = integer_some kind
  extent_some Boolean c = le_refl 1
  extent_some Char c = le_refl 1
  extent_some (Record fields) c = absurd (true≢false c)
  extent_some (Array index element) c = absurd (true≢false c)
  extent_some String c = let four : 1 ≤ 4 = omega arith in four
  extent_some Nil c = let four : 1 ≤ 4 = omega arith in four
  extent_some Nothing c = let four : 1 ≤ 4 = omega arith in four
  extent_some EmptySet c = let four : 1 ≤ 4 = omega arith in four
  extent_some (Enumeration values) c = let four : 1 ≤ 4 = omega arith in four
  extent_some (Subrange base low high) c = let four : 1 ≤ 4 = omega arith in four
  extent_some (Set base) c = let four : 1 ≤ 4 = omega arith in four
  extent_some (DynamicArray element) c = let four : 1 ≤ 4 = omega arith in four
  extent_some (OpenArray element) c = let four : 1 ≤ 4 = omega arith in four
  extent_some (Class k) c = let four : 1 ≤ 4 = omega arith in four
  extent_some (Interface k) c = let four : 1 ≤ 4 = omega arith in four
  extent_some Broken c = let four : 1 ≤ 4 = omega arith in four

  -- what has no parts takes a byte at least
  pub single_some : (of : TypeId) → is_composite (shape_of core of) ≡ false → 1 ≤ size_in core of
  single_some of c =
      let four : 1 ≤ 4 = omega arith in
      size_by core keeps (λ n. 1 ≤ n) of four (λ t e. subst (λ n. 1 ≤ n) (sym (kept_size core keeps of t e)) (extent_some t (whole_by of t e c)))

-- no value takes more than 1,048,576 bytes
pub sizes_small : (core : Core) → IsSound core → (of : TypeId) → size_in core of ≤ 1048576
sizes_small core sound of = let four : 4 ≤ 1048576 = omega arith in size_by core sound.extents (λ n. n ≤ 1048576) of four (λ t e. sound.sizes of.0 t e)
