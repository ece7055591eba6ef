-- Places of typed code are those that the agreement asks for.
use Rattle.std.proofs.Common.{◌≡◌, ◌<◌, ℕ, ℤ, zero, suc, ◌+◌, List, [], ◌∷◌, Option, Some, None, refl, sym, ap, ◌∙◌, subst, arith}
use Rattle.std.specs.Prelude.{◌≤ℤ◌, ◌-ℤ◌, pos, Bool, true, false, ◌||◌, int_lt, nat_eq, slice_get}
use Rattle.std.specs.List.{Contains, list_any}
use Rattle.std.proofs.lemmas.Bool.Decides.{nat_tests}
use Rattle.std.proofs.lemmas.Int.{ints}
use Rattle.std.proofs.lemmas.Option.{none-some, same_Some, slice_get_within}
use Rattle.op_constants.proofs.Reaching.{field_before}
use Rattle.op_constants.proofs.SoundFirst.{first_type}
use Rattle.op_constants.specs.Arranged.{IsSmall}
use Rattle.op_constants.specs.Reaching.{Reaches}
use Rattle.op_core.specs.Sizes.{integer_range, range_of, type_at}
use Rattle.op_core.specs.Sound.{IsSound}
use Rattle.op_core.specs.declared.ids.TypeId.{TypeId}
use Rattle.op_core.specs.declared.ids.VariableId.{VariableId}
use Rattle.op_core.specs.declared.program.Core.{Core}
use Rattle.op_core.specs.declared.types.CoreType.{CoreType}
use Rattle.op_core.specs.declared.types.CoreType.TheVariants.{Integer, Boolean, Char, Enumeration, Subrange, Array}
use Rattle.op_core.specs.declared.types.IntegerKind.TheVariants.{Signed8, Unsigned8, Signed16, Unsigned16, Signed32}
use Rattle.op_core.specs.declared.types.IntegerKind.{IntegerKind}
use Rattle.op_meaning.specs.Paths.{Path, Root, Step, in_global, in_local, through, in_temporary, field, element}
use Rattle.op_meaning.specs.Shapes.{is_reference, part_type, refers, type_of_local, type_of_row, variables_of}
use Rattle.op_frames.proofs.SoundSizes.{sizes_small}
use Rattle.op_typing.proofs.Rows.{some_and}
use Rattle.op_typing.proofs.Types.{fits, range_words}
use Rattle.op_typing.specs.Typed.{HasVariable, PathTo as TypedPath, RootIs as TypedRoot}
use Rattle.op_agreement.specs.Typed.{AreSmall, HaveWords, IsVariable, PathTo, RootIs}

-- ---- roots

pub global_in : (ids : List VariableId) (v : ℕ) → Contains ids (record { 0 = v }) → list_any (λ id. nat_eq id.0 v) ids ≡ true
global_in [] v (k, low, is) = absurd (omega arith)
global_in (id ∷ ids) v (zero, low, is) =
    let same : id.0 ≡ v = ap (λ (x : VariableId). x.0) is in
    let t : nat_eq id.0 v ≡ true = grind (arith, nat_tests) in
    ap (λ b. b || list_any (λ i. nat_eq i.0 v) ids) t
global_in (id ∷ ids) v (suc k, low, is) = by (nat_eq id.0 v) (global_in ids v (k, omega arith, is))
  where
    by : (b : Bool) → list_any (λ i. nat_eq i.0 v) ids ≡ true → (b || list_any (λ i. nat_eq i.0 v) ids) ≡ true
    by true e = refl
    by false e = e

module _ (core : Core) where
  pub variable_is : (r v : ℕ) (of : TypeId) (reference : Bool) → HasVariable core r v (λ x. (x.of ≡ of) × (is_reference x.role ≡ reference)) → IsVariable core r v reference × (type_of_local core r v ≡ of)
  variable_is r v of reference (low, there) =
      let (x, is, facts) = some_and (slice_get core.variables ((variables_of core r).first + v)) (λ x. (x.of ≡ of) × (is_reference x.role ≡ reference)) there in
      ((low, ap refers is ∙ facts.1), ap type_of_row is ∙ facts.0)

  root_is : (r : ℕ) (root : Root) (of : TypeId) → TypedRoot core r root of → RootIs core r root of
  root_is r (in_global v) of (contains, there) =
      let (x, is, of_is) = some_and (slice_get core.variables v) (λ x. x.of ≡ of) there in
      ((slice_get_within core.variables v x is, global_in core.globals v contains), ap type_of_row is ∙ of_is)
  root_is r (in_local v) of has = variable_is r v of false has
  root_is r (through v) of (low, has) = variable_is r v of true has
  root_is r (in_temporary t n) of is = is

  -- ---- steps

  -- the least value of an ordinal type is not above the greatest
  low_below : (low high : ℤ) → low ≤ℤ high → int_lt high low ≡ false
  low_below low high less = grind (arith, ints, less)

  few_below : (n : ℕ) → 0 < n → int_lt (pos n -ℤ pos 1) (pos 0) ≡ false
  few_below zero some = absurd (omega arith)
  few_below (suc n) some = grind (arith, ints)

  kind_below : (kind : IntegerKind) → int_lt (integer_range kind).1 (integer_range kind).0 ≡ false
  kind_below Signed8 = refl
  kind_below Unsigned8 = refl
  kind_below Signed16 = refl
  kind_below Unsigned16 = refl
  kind_below Signed32 = refl

  module _ (sound : IsSound core) where
    ordered : (index : TypeId) (low high : ℤ) → range_of (type_at core index) ≡ Some (low, high) → int_lt high low ≡ false
    ordered index low high range = by (type_at core index) refl range
      where
        ends : (range : ℤ × ℤ) → Some range ≡ Some (low, high) → int_lt range.1 range.0 ≡ false → int_lt high low ≡ false
        ends range e below = let same : range ≡ (low, high) = same_Some _ _ e in subst (λ r. int_lt r.1 r.0 ≡ false) same below

        by : (o : Option CoreType) → type_at core index ≡ o → range_of o ≡ Some (low, high) → int_lt high low ≡ false
        by None is e = absurd (none-some _ e)
        by (Some (Integer kind)) is e = ends (integer_range kind) e (kind_below kind)
        by (Some Boolean) is e = ends _ e refl
        by (Some Char) is e = ends _ e refl
        by (Some (Enumeration count)) is e = ends _ e (few_below count (sound.types index.0 (Enumeration count) is).0)
        by (Some (Subrange base least most)) is e = ends (least, most) e (low_below least most (sound.types index.0 (Subrange base least most) is).2)
        by (Some t) is e = absurd (none-some _ e)

    words_of : (of to : TypeId) (steps : List Step) → Reaches core of steps to → HaveWords steps
    words_of of to [] reaches = tt
    words_of of to (field whole k ∷ steps) (same, run, is, few, reaches) = words_of (part_type core (type_at core of) k) to steps reaches
    words_of of to (element whole low high t ∷ steps) (same, index, each, is, range, reaches) =
        let (least, most) = range_words core sound index (low, high) range in
        (fits low least, fits high most, ordered index low high range, words_of each to steps reaches)

    -- a part of a small value is small
    small_part : (of part : TypeId) → part.0 < of.0 → IsSmall core of → IsSmall core part
    small_part of part before small =
        let there = small.there in
        let size = sizes_small core sound part in
        record { there = omega arith; size = omega arith }

    pub small_steps : (of to : TypeId) (steps : List Step) → IsSmall core of → Reaches core of steps to → AreSmall core of steps
    small_steps of to [] small reaches = small
    small_steps of to (field whole k ∷ steps) small (same, run, is, few, reaches) =
        let before : (part_type core (type_at core of) k).0 < of.0 = subst (λ o. (part_type core o k).0 < of.0) (sym is) (field_before core sound.extents (first_type core sound) of run k is few) in
        (small, small_steps (part_type core (type_at core of) k) to steps (small_part of (part_type core (type_at core of) k) before small) reaches)
    small_steps of to (element whole low high t ∷ steps) small (same, index, each, is, range, reaches) =
        let part : part_type core (type_at core of) 0 ≡ each = ap (λ o. part_type core o 0) is in
        let before : each.0 < of.0 = (sound.extents.behind of.0 (Array index each) is).1 in
        (small, subst (λ x. AreSmall core x steps) (sym part) (small_steps each to steps (small_part of each before small) reaches))

    pub path_is : (r : ℕ) (path : Path) (of : TypeId) → TypedPath core r path of → PathTo core r path of
    path_is r path of p = record {
      from = p.from;
      root = root_is r path.root p.from p.root;
      reaches = p.reaches;
      words = words_of p.from of path.steps p.reaches;
      small = small_steps p.from of path.steps p.whole p.reaches;
    }
