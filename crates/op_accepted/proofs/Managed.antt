-- What is solid is not managed: strings and what holds an instance are, and what is made of these.
use Rattle.std.proofs.Common.{◌≡◌, ◌<◌, ℕ, zero, suc, true, false, List, [], ◌∷◌, All, map, drop, unwrap_or, Option, Some, None, refl, ap, ◌∙◌, arith}
use Rattle.std.proofs.lemmas.Bool.{or_from}
use Rattle.std.proofs.lemmas.List.Elements.{All-drop, All-head, All-tail, All-take}
use Rattle.std.specs.List.{fold}
use Rattle.op_accepted.specs.Fit.{IsFitType}
use Rattle.op_core.proofs.Growing.{all_at}
use Rattle.op_core.specs.Rows.{rows}
use Rattle.op_core.specs.Sizes.{IsBehind, KeepsExtents, extended, extent_by, extent_of, plain, type_at}
use Rattle.op_core.specs.declared.ids.TypeId.{TypeId}
use Rattle.op_core.specs.declared.program.Core.{Core}
use Rattle.op_core.specs.declared.types.CoreType.{CoreType}
use Rattle.op_core.specs.declared.types.CoreType.TheVariants as type
use Rattle.op_core.specs.declared.types.Extent.{Extent}
use Rattle.op_core.specs.declared.types.Field.{Field}
use Rattle.op_meaning.specs.Shapes.{is_managed}
use Rattle.op_typing.specs.Simple.{IsSolidType, is_solid}

parts_not : (core : Core) (fs : List Field) (e : Extent) → e.managed ≡ false → All (λ f. is_managed core f.of ≡ false) fs → (fold extended e (map (λ f. extent_of core f.of) fs)).managed ≡ false
parts_not core [] e h a = h
parts_not core (f ∷ fs) e h a = parts_not core fs (extended e (extent_of core f.of)) (or_from e.managed (is_managed core f.of) h (All-head (λ f. is_managed core f.of ≡ false) f fs a)) (All-tail (λ f. is_managed core f.of ≡ false) f fs a)

module _ (core : Core) (kept : KeepsExtents core) (types : All (IsFitType core) core.types) (fields : All (λ f. IsSolidType core f.of) core.fields) where
  -- where all that it is made of is not
  type_not : (n : ℕ) (t : CoreType) → ((of : TypeId) → of.0 < n → IsSolidType core of → is_managed core of ≡ false) → is_solid (Some t) ≡ true → IsBehind core.fields core.interfaces n t → IsFitType core t → (extent_by (extent_of core) core (Some t)).managed ≡ false
  type_not n (type.Record run) below h b f =
      parts_not core (rows core.fields run) (record { size = 0; alignment = 1; managed = false }) refl
      (λ i d lt. below _ (b.1 i d lt) (All-take (λ f. IsSolidType core f.of) run.count (drop run.first core.fields) (All-drop (λ f. IsSolidType core f.of) run.first core.fields fields) i d lt))
  type_not n (type.Array at element) below h b f = below element b.1 f.1
  type_not n type.String below h b f = absurd (cc)
  type_not n (type.DynamicArray element) below h b f = absurd (cc)
  type_not n (type.Interface i) below h b f = absurd (cc)
  type_not n t below h b f = refl

  not_below : (n : ℕ) (of : TypeId) → of.0 < n → IsSolidType core of → is_managed core of ≡ false
  not_below zero of lt h = absurd (omega (arith, lt))
  not_below (suc n) of lt h = one (type_at core of) refl h (λ a less k. not_below n a (omega (arith, lt, less)) k)
    where
      one : (o : Option CoreType) → type_at core of ≡ o → is_solid o ≡ true → ((a : TypeId) → a.0 < of.0 → IsSolidType core a → is_managed core a ≡ false) → is_managed core of ≡ false
      one None e k below = absurd (cc)
      one (Some t) e k below = ap (λ o. (unwrap_or o (plain 4 false)).managed) (kept.each of.0 t e) ∙ type_not of.0 t below k (kept.behind of.0 t e) (all_at (IsFitType core) core.types of.0 t types e)

  pub not_managed : (of : TypeId) → IsSolidType core of → is_managed core of ≡ false
  not_managed of h = not_below (suc of.0) of (omega arith) h
