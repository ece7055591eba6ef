-- Each value of a type that is not managed holds nothing: neither its type nor that of any part of it is a string, a dynamic array or what
-- holds an instance.
use Rattle.std.proofs.Common.{◌≡◌, ℕ, zero, suc, ◌+◌, ◌<◌, List, [], ◌∷◌, map, refl, sym, ap, ◌∙◌, subst, arith}
use Rattle.std.proofs.lemmas.Bool.{or_parts}
use Rattle.std.specs.List.{fold}
use Rattle.std.specs.Prelude.{Bool, false, Option, Some, None, slice_get, unwrap_or}
use Rattle.op_core.proofs.Growing.{all_at}
use Rattle.op_core.proofs.Rows.{there_is, row_at}
use Rattle.op_core.specs.Rows.{rows}
use Rattle.op_core.specs.Sizes.{IsBehind, KeepsExtents, extended, extent_by, extent_of, plain, type_at}
use Rattle.op_core.specs.declared.ids.TypeId.{TypeId}
use Rattle.op_core.specs.declared.program.Core.{Core}
use Rattle.op_core.specs.declared.types.CoreType.{CoreType}
use Rattle.op_core.specs.declared.types.CoreType.TheVariants.{String, Record, Array, DynamicArray, Class, Interface}
use Rattle.op_core.specs.declared.types.Extent.{Extent}
use Rattle.op_core.specs.declared.types.Field.{Field}
use Rattle.op_core.specs.declared.types.IntegerKind.{IntegerKind}
use Rattle.op_counts.proofs.FittingValues.{parts_fit}
use Rattle.op_counts.proofs.ValueCounts.{sum_none}
use Rattle.op_counts.specs.Counting.{count_in}
use Rattle.op_counts.specs.Fitting.{HasShape, FitsTo, Fits}
use Rattle.op_meaning.specs.Shapes.{Shape, single, composite, of_chars, of_elements, of_instance, shape_by, shape_of, is_managed, field_type, parts_by, part_type}
use Rattle.op_meaning.specs.Values.{Value, number, instance, part_of}

-- ---- types

-- how a value of a type that is not managed is kept: as a number, as parts, or as an instance that it does not hold
abbrev IsLoose : Shape → Type 0
IsLoose (single kind) = Unit {0}
IsLoose composite = Unit {0}
IsLoose of_chars = ⊥
IsLoose of_elements = ⊥
IsLoose (of_instance holds) = holds ≡ false

module _ (core : Core) (keeps : KeepsExtents core) where
  extent_managed : (of : TypeId) (t : CoreType) → type_at core of ≡ Some t → is_managed core of ≡ (extent_by (extent_of core) core (Some t)).managed
  extent_managed of t e = ap (λ o. (unwrap_or o (plain 4 false)).managed) (keeps.each of.0 t e)

  type_loose : (t : CoreType) → (extent_by (extent_of core) core (Some t)).managed ≡ false → IsLoose (shape_by core (Some t))
  type_loose String h = absurd cc
  type_loose (DynamicArray element) h = absurd cc
  type_loose (Interface i) h = h
  type_loose (Class c) h = refl
  type_loose t h = tt

  loose : (of : TypeId) (o : Option CoreType) → type_at core of ≡ o → is_managed core of ≡ false → IsLoose (shape_by core o)
  loose of None e not = tt
  loose of (Some t) e not = type_loose t (sym (extent_managed of t e) ∙ not)

  -- ---- the types of parts

  fields_unmanaged : (fs : List Field) (e : Extent) → (fold extended e (map (λ f. extent_of core f.of) fs)).managed ≡ false
      → (e.managed ≡ false) × ((k : ℕ) (f : Field) → slice_get fs k ≡ Some f → is_managed core f.of ≡ false)
  fields_unmanaged [] e h = (h, λ k f at. absurd cc)
  fields_unmanaged (g ∷ fs) e h =
      let rest = fields_unmanaged fs (extended e (extent_of core g.of)) h in
      let both = or_parts e.managed (is_managed core g.of) rest.0 in
      (both.0, one both.1 rest.1)
    where
      one : is_managed core g.of ≡ false → ((k : ℕ) (f : Field) → slice_get fs k ≡ Some f → is_managed core f.of ≡ false) → (k : ℕ) (f : Field) → slice_get (g ∷ fs) k ≡ Some f → is_managed core f.of ≡ false
      one first others zero f at = let same : g ≡ f = cc in subst (λ x. is_managed core x.of ≡ false) same first
      one first others (suc k) f at = others k f at

  -- a part's type stands in front, and is not managed either
  type_parts : (n : ℕ) (t : CoreType) → IsBehind core.fields core.interfaces n t → (extent_by (extent_of core) core (Some t)).managed ≡ false → (k : ℕ) → k < parts_by core (Some t)
      → ((part_type core (Some t) k).0 < n) × (is_managed core (part_type core (Some t) k) ≡ false)
  type_parts n (Record run) behind h k less =
      let (f, at) = there_is core.fields (run.first + k) (omega (arith, behind.0)) in
      let is : slice_get (rows core.fields run) k ≡ Some f = row_at core.fields run k less ∙ at in
      subst (λ o. ((field_type o).0 < n) × (is_managed core (field_type o) ≡ false)) (sym is)
      (all_at (λ f. f.of.0 < n) (rows core.fields run) k f behind.1 is, (fields_unmanaged (rows core.fields run) (record { size = 0; alignment = 1; managed = false }) h).1 k f is)
  type_parts n (Array index element) behind h k less = (behind.1, h)
  type_parts n t behind h k less = absurd (omega (arith, less))

  unmanaged_parts : (of : TypeId) (o : Option CoreType) → type_at core of ≡ o → is_managed core of ≡ false → (k : ℕ) → k < parts_by core o → ((part_type core o k).0 < of.0) × (is_managed core (part_type core o k) ≡ false)
  unmanaged_parts of None e not k less = absurd (omega (arith, less))
  unmanaged_parts of (Some t) e not k less = type_parts of.0 t (keeps.behind of.0 t e) (sym (extent_managed of t e) ∙ not) k less

  -- ---- values

  number_nameless : (o : Option CoreType) (y : ℕ) (kind : IntegerKind) (v : Value) → HasShape (FitsTo 0 core) core o (single kind) v → count_in y v ≡ 0
  number_nameless o y kind (number n) h = refl
  number_nameless o y kind v h = absurd h

  reference_nameless : (o : Option CoreType) (y : ℕ) (holds : Bool) (v : Value) → holds ≡ false → HasShape (FitsTo 0 core) core o (of_instance holds) v → count_in y v ≡ 0
  reference_nameless o y holds (instance has n) not h = ap (λ b. count_in y (instance b n)) (h ∙ not)
  reference_nameless o y holds v not h = absurd h

  -- by the number of the type
  nameless_before : (m : ℕ) (y : ℕ) (of : TypeId) (v : Value) → of.0 < m → Fits core of v → is_managed core of ≡ false → count_in y v ≡ 0
  nameless_before zero y of v few fits not = absurd (omega (arith, few))
  nameless_before (suc m) y of v few fits not = by (λ to part before. nameless_before m y to part (omega (arith, few, before))) (shape_of core of) refl (loose of (type_at core of) refl not) (fits 1)
    where
      by : ((to : TypeId) (part : Value) → to.0 < of.0 → Fits core to part → is_managed core to ≡ false → count_in y part ≡ 0)
          → (shape : Shape) → shape_of core of ≡ shape → IsLoose shape → HasShape (FitsTo 0 core) core (type_at core of) shape v → count_in y v ≡ 0
      by inner (single kind) is l h = number_nameless (type_at core of) y kind v h
      by inner composite is l h =
          let all = parts_fit core of v is fits in
          let inside = unmanaged_parts of (type_at core of) refl not in
          ap (count_in y) all.0 ∙ sum_none (parts_by core (type_at core of)) _ (λ k less. inner (part_type core (type_at core of) k) (part_of k v) (inside k less).0 (all.1 k less) (inside k less).1)
      by inner of_chars is l h = absurd l
      by inner of_elements is l h = absurd l
      by inner (of_instance holds) is l h = reference_nameless (type_at core of) y holds v l h

  -- A value that fits a type which is not managed holds nothing.
  pub unmanaged_nameless : (y : ℕ) (of : TypeId) (v : Value) → Fits core of v → is_managed core of ≡ false → count_in y v ≡ 0
  unmanaged_nameless y of v fits not = nameless_before (suc of.0) y of v (omega arith) fits not
