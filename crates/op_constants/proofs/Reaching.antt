-- The paths of a program lead where its types say.
use Rattle.std.proofs.Common.{◌≡◌, ◌<◌, ℕ, zero, suc, ◌+◌, ◌*◌, List, [], ◌∷◌, ◌++◌, length, Bool, true, false, Some, None, slice_get, unwrap_or, refl, sym, ap, ◌∙◌, subst, arith, inl, inr}
use Rattle.std.specs.Prelude.{ℤ, ◌-ℤ◌, nat_abs, ◌⊎◌, int_le, if◌then◌else◌}
use Rattle.std.proofs.lemmas.Bool.{and_parts}
use Rattle.std.proofs.lemmas.Int.{ints}
use Rattle.std.proofs.lemmas.List.{append_assoc, append-nil}
use Rattle.op_core.proofs.Rows.{there_is}
use Rattle.op_core.specs.Rows.{rows}
use Rattle.op_core.specs.Sizes.{KeepsExtents, IsBehind, type_at, range_of, values_of}
use Rattle.op_core.specs.declared.ids.Run.{Run}
use Rattle.op_core.specs.declared.ids.TypeId.{TypeId}
use Rattle.op_core.specs.declared.program.Core.{Core}
use Rattle.op_core.specs.declared.types.CoreType.{CoreType}
use Rattle.op_core.specs.declared.types.CoreType.TheVariants.{Integer, Record, Array}
use Rattle.op_core.specs.declared.types.IntegerKind.TheVariants.{Signed8}
use Rattle.op_meaning.specs.Numbers.{between}
use Rattle.op_meaning.specs.Paths.{Step, field, element, place_from}
use Rattle.op_meaning.specs.Shapes.{Shape, single, composite, of_chars, of_elements, of_instance, shape_by, parts_by, part_type, field_type}
use Rattle.op_meaning.specs.Values.{Place, part_at, reached, failing}
use Rattle.op_meaning.specs.World.{World, number_at}
use Rattle.op_constants.specs.Lies.{Arrangement, in_parts, Leads, arrangement_by, arrangement_within, arrangement_of, part_offset}
use Rattle.op_constants.specs.Offsets.{size_in, offset_behind, field_offset, fields_in, element_size, element_size_by}
use Rattle.op_constants.specs.Reaching.{Reaches, distance}
use Rattle.op_constants.proofs.Lying.{leads_on}
use Rattle.op_constants.proofs.TypesArranged.{all_at, by_form, many_rows}

slice_cases : {A : Type 0} (xs : List A) (k : ℕ) → (slice_get xs k ≡ None) ⊎ (k < length xs)
slice_cases [] k = inl refl
slice_cases (x ∷ xs) zero = inr (omega arith)
slice_cases (x ∷ xs) (suc k) = by (slice_cases xs k)
  where
    by : (slice_get xs k ≡ None) ⊎ (k < length xs) → (slice_get xs k ≡ None) ⊎ (suc k < suc (length xs))
    by (inl e) = inl e
    by (inr low) = inr (omega arith)

not_both : false ≡ true → ⊥
not_both e = subst (λ x. elim x as (λ y. Type 0) [ true ↦ ⊥ | false ↦ Unit {0} ]) e tt

-- an index in its range counts as one of the elements
index_low : (low high i : ℤ) → between low high i ≡ true → nat_abs (i -ℤ low) < nat_abs (high -ℤ low) + 1
index_low low high i e = let (p, q) = and_parts (int_le low i) (int_le i high) e in grind (arith, ints)

same_place : {p q : Place} → reached p ≡ reached q → q ≡ p
same_place {p} {q} e = cc

none_some : {q : Place} → None ≡ Some q → ⊥
none_some {q} e = subst (λ o. elim o as (λ y. Type 0) [ None ↦ Unit {0} | Some x ↦ ⊥ ]) e tt

module _ (core : Core) (keeps : KeepsExtents core) (first : slice_get core.types 0 ≡ Some (Integer Signed8)) where
  -- the type of a part stands in front, or there is no part
  part_before : (of : TypeId) (t : CoreType) → IsBehind core.fields core.interfaces of.0 t → (k : ℕ) → ((part_type core (Some t) k).0 < of.0) ⊎ ((part_type core (Some t) k).0 ≡ 0)
  part_before of (Record run) behind k = by (slice_cases (rows core.fields run) k)
    where
      by : (slice_get (rows core.fields run) k ≡ None) ⊎ (k < length (rows core.fields run)) → ((part_type core (Some (Record run)) k).0 < of.0) ⊎ ((part_type core (Some (Record run)) k).0 ≡ 0)
      by (inl none) = inr (ap (λ o. (field_type o).0) none)
      by (inr low) =
          let (f, is) = there_is (rows core.fields run) k low in
          inl (subst (λ o. (field_type o).0 < of.0) (sym is) (all_at (λ f. f.of.0 < of.0) (rows core.fields run) k f low is behind.1))
  part_before of (Array index each) behind k = inl behind.1
  part_before of _ behind k = inr refl

  -- how many types are looked at makes no difference, if they are enough
  arrangement_same : (n m : ℕ) (of : TypeId) → of.0 < n → of.0 < m → of.0 < length core.types → arrangement_within n core of ≡ arrangement_within m core of
  arrangement_same zero m of low_n low_m low = absurd (omega arith)
  arrangement_same (suc n) zero of low_n low_m low = absurd (omega arith)
  arrangement_same (suc n) (suc m) of low_n low_m low = by (λ part. arrangement_same n m part) of.0 refl (there_is core.types of.0 low)
    where
      with_parts : (TypeId → Arrangement) → Shape → Arrangement
      with_parts inner s = arrangement_by inner core (size_in core of) (type_at core of) s

      alike : ((k : ℕ) → arrangement_within n core (part_type core (type_at core of) k) ≡ arrangement_within m core (part_type core (type_at core of) k)) → (s : Shape) → with_parts (arrangement_within n core) s ≡ with_parts (arrangement_within m core) s
      alike parts (single kind) = refl
      alike parts composite = (λ i. in_parts (size_in core of) (parts_by core (type_at core of)) (part_offset core (type_at core of)) (λ k. parts k i))
      alike parts of_chars = refl
      alike parts of_elements = refl
      alike parts (of_instance holds) = refl

      by : ((part : TypeId) → part.0 < n → part.0 < m → part.0 < length core.types → arrangement_within n core part ≡ arrangement_within m core part) → (z : ℕ) → of.0 ≡ z → (t : CoreType) × (type_at core of ≡ Some t) → with_parts (arrangement_within n core) (shape_by core (type_at core of)) ≡ with_parts (arrangement_within m core) (shape_by core (type_at core of))
      by inner zero e found =
          let s : shape_by core (type_at core of) ≡ single Signed8 = ap (shape_by core) (ap (slice_get core.types) e ∙ first) in
          subst (λ s. with_parts (arrangement_within n core) s ≡ with_parts (arrangement_within m core) s) (sym s) refl
      by inner (suc z) e (t, is) = alike (λ k. part (part_type core (type_at core of) k) (subst (λ o. ((part_type core o k).0 < of.0) ⊎ ((part_type core o k).0 ≡ 0)) (sym is) (part_before of t (keeps.behind of.0 t is) k))) (shape_by core (type_at core of))
        where
          part : (p : TypeId) → (p.0 < of.0) ⊎ (p.0 ≡ 0) → arrangement_within n core p ≡ arrangement_within m core p
          part p (inl before) = inner p (omega arith) (omega arith) (omega arith)
          part p (inr none) = inner p (omega arith) (omega arith) (omega arith)

  -- a part is arranged as its type is
  part_is : (of part : TypeId) → of.0 < length core.types → part.0 < of.0 → arrangement_within of.0 core part ≡ arrangement_of core part
  part_is of part low before = arrangement_same of.0 (suc part.0) part before (omega arith) (omega arith)

  -- ---- one step

  pub field_before : (of : TypeId) (run : Run) (k : ℕ) → type_at core of ≡ Some (Record run) → k < run.count → (part_type core (Some (Record run)) k).0 < of.0
  field_before of run k is few =
      let behind = keeps.behind of.0 (Record run) is in
      let many = many_rows core.fields run behind.0 in
      let inside : k < length (rows core.fields run) = omega arith in
      let (f, at) = there_is (rows core.fields run) k inside in
      subst (λ o. (field_type o).0 < of.0) (sym at) (all_at (λ f. f.of.0 < of.0) (rows core.fields run) k f inside at behind.1)

  pub field_leads : (of : TypeId) (run : Run) (k : ℕ) → of.0 < length core.types → type_at core of ≡ Some (Record run) → k < run.count → Leads (arrangement_of core of) (k ∷ []) (arrangement_of core (part_type core (type_at core of) k)) (field_offset core of k)
  field_leads of run k low is few =
      subst (λ o. Leads (by_form core (arrangement_within of.0 core) of o) (k ∷ []) (arrangement_of core (part_type core o k)) (offset_behind core 0 (fields_in core o) k)) (sym is)
      (few, 0, omega arith, (part_is of (part_type core (Some (Record run)) k) low (field_before of run k is few), refl))

  pub element_leads : (of index each : TypeId) (k : ℕ) → of.0 < length core.types → type_at core of ≡ Some (Array index each) → k < values_of (range_of (type_at core index)) → Leads (arrangement_of core of) (k ∷ []) (arrangement_of core each) (k * element_size core of)
  element_leads of index each k low is few =
      let size : element_size core of ≡ size_in core each = ap (element_size_by core) is in
      subst (λ s. Leads (arrangement_of core of) (k ∷ []) (arrangement_of core each) (k * s)) (sym size)
      (subst (λ o. Leads (by_form core (arrangement_within of.0 core) of o) (k ∷ []) (arrangement_of core each) (k * size_in core each)) (sym is)
      (few, 0, omega arith, (part_is of each low (keeps.behind of.0 (Array index each) is).1, refl)))

  -- ---- all steps of a path

  -- where the steps lead, if no index fails: a list of parts, and so many bytes behind the beginning
  pub steps_lead : (w : World) (of last : TypeId) (steps : List Step) (p q : Place) → of.0 < length core.types → Reaches core of steps last → place_from w p steps ≡ reached q → (ks : List ℕ) × (q ≡ record { holder = p.holder; path = p.path ++ ks }) × Leads (arrangement_of core of) ks (arrangement_of core last) (distance core w steps)
  steps_lead w of last [] p q low reaches e = ([], same_place e ∙ ap (λ x. record { holder = p.holder; path = x }) (sym (append-nil p.path)), (ap (arrangement_of core) reaches, refl))
  steps_lead w of last (field whole k ∷ steps) p q low (same, run, is, few, reaches) e =
      let before : (part_type core (type_at core of) k).0 < of.0 = subst (λ o. (part_type core o k).0 < of.0) (sym is) (field_before of run k is few) in
      let (ks, at, leads) = steps_lead w (part_type core (type_at core of) k) last steps (part_at k p) q (omega arith) reaches e in (
        k ∷ ks,
        at ∙ ap (λ x. record { holder = p.holder; path = x }) (append_assoc p.path (k ∷ []) ks),
        subst (λ o. Leads (arrangement_of core of) (k ∷ ks) (arrangement_of core last) (field_offset core o k + distance core w steps)) (sym same)
            (leads_on (arrangement_of core of) (arrangement_of core (part_type core (type_at core of) k)) (arrangement_of core last) (k ∷ []) ks (field_offset core of k) (distance core w steps) (field_leads of run k low is few) leads),
      )
  steps_lead w of last (element whole least most t ∷ steps) p q low (same, index, each, is, range, reaches) e =
      by (λ before. steps_lead w each last steps (part_at n p) q before reaches) (between least most (number_at w t)) refl e
    where
      n : ℕ
      n = nat_abs (number_at w t -ℤ least)

      by : (each.0 < length core.types → place_from w (part_at n p) steps ≡ reached q → (ks : List ℕ) × (q ≡ record { holder = p.holder; path = (p.path ++ n ∷ []) ++ ks }) × Leads (arrangement_of core each) ks (arrangement_of core last) (distance core w steps)) → (b : Bool) → between least most (number_at w t) ≡ b → (if b then place_from w (part_at n p) steps else failing 201) ≡ reached q → (ks : List ℕ) × (q ≡ record { holder = p.holder; path = p.path ++ ks }) × Leads (arrangement_of core of) ks (arrangement_of core last) (n * element_size core whole + distance core w steps)
      by others true test e =
          let before = (keeps.behind of.0 (Array index each) is).1 in
          let few : n < values_of (range_of (type_at core index)) = subst (λ r. n < values_of r) (sym range) (index_low least most (number_at w t) test) in
          let (ks, at, leads) = others (omega arith) e in (
            n ∷ ks,
            at ∙ ap (λ x. record { holder = p.holder; path = x }) (append_assoc p.path (n ∷ []) ks),
            subst (λ o. Leads (arrangement_of core of) (n ∷ ks) (arrangement_of core last) (n * element_size core o + distance core w steps)) (sym same)
                (leads_on (arrangement_of core of) (arrangement_of core each) (arrangement_of core last) (n ∷ []) ks (n * element_size core of) (distance core w steps) (element_leads of index each n low is few) leads),
          )
      by others false test e = absurd cc
