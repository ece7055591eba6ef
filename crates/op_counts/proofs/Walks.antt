-- Walks: what ends by a walk holds names until its parts are ended, and the places that are walked over have all of them.
use Rattle.std.proofs.Common.{◌≡◌, ℕ, zero, suc, ◌+◌, ◌<◌, List, [], ◌∷◌, ◌++◌, length, refl, sym, ap, ◌∙◌, arith}
use Rattle.std.proofs.lemmas.List.Sums.{sum_by-cons}
use Rattle.std.specs.Prelude.{Bool, true, false, slice_get, if◌then◌else◌}
use Rattle.op_core.specs.Sizes.{KeepsExtents, type_at}
use Rattle.op_core.specs.declared.ids.ClassId.{ClassId}
use Rattle.op_core.specs.declared.ids.TypeId.{TypeId}
use Rattle.op_core.specs.declared.program.Core.{Core}
use Rattle.op_counts.proofs.FittingValues.{parts_fit}
use Rattle.op_counts.proofs.UnmanagedValues.{unmanaged_nameless}
use Rattle.op_counts.proofs.ValueCounts.{sum_same, sum_front}
use Rattle.op_counts.specs.Counting.{sum_below, count_in, held, count_at}
use Rattle.op_counts.specs.Fitting.{HasParts, Fits, FitsObject}
use Rattle.op_meaning.specs.Frames.{StateOver, Rules}
use Rattle.op_meaning.specs.Losing.{ends_place}
use Rattle.op_meaning.specs.Shapes.{composite, shape_of, is_managed, parts_by, part_type, field_type, fields_of_class}
use Rattle.op_meaning.specs.Spots.{spots_from, spots_of, spots_of_elements, spots_of_instance}
use Rattle.op_meaning.specs.Values.{Value, Place, Spot, object, all_of, get, part_of, part_at}
use Rattle.op_meaning.specs.World.{World, elements, fields, Phase, value_at}

-- ---- the places of parts

get_last : (path : List ℕ) (k : ℕ) (v : Value) → get (path ++ k ∷ []) v ≡ part_of k (get path v)
get_last [] k v = refl
get_last (j ∷ path) k v = get_last path k (part_of j v)

module _ (w : World) (y : ℕ) where
  one_spot : (managed : Bool) (q : Spot) (spots : List Spot) → (managed ≡ false → count_in y (value_at w q.at) ≡ 0)
      → count_at w y (if managed then q ∷ spots else spots) ≡ count_in y (value_at w q.at) + count_at w y spots
  one_spot true q spots none = sum_by-cons (λ p. count_in y (value_at w p.at)) q spots
  one_spot false q spots none = let not : count_in y (value_at w q.at) ≡ 0 = none refl in omega arith

  -- from this part on, where those that are not managed hold nothing
  spots_counted : (core : Core) (of : ℕ → TypeId) (q : Place) (count k : ℕ) → ((j : ℕ) → j < k + count → is_managed core (of j) ≡ false → count_in y (value_at w (part_at j q)) ≡ 0)
      → count_at w y (spots_from core of q count k) ≡ sum_below count (λ j. count_in y (value_at w (part_at (k + j) q)))
  unfolding spots_from sum_below
  spots_counted core of q zero k none = refl
  spots_counted core of q (suc count) k none =
      let f = λ (j : ℕ). count_in y (value_at w (part_at j q)) in
      let rest : count_at w y (spots_from core of q count (suc k)) ≡ sum_below count (λ j. f (suc k + j)) = spots_counted core of q count (suc k) (λ j less. none j (omega arith)) in
      let first : count_at w y (spots_from core of q (suc count) k) ≡ f k + count_at w y (spots_from core of q count (suc k)) =
      one_spot (is_managed core (of k)) (record { at = part_at k q; of = of k }) (spots_from core of q count (suc k)) (none k (omega arith)) in
      let split : sum_below (suc count) (λ j. f (k + j)) ≡ f (k + 0) + sum_below count (λ j. f (k + suc j)) = sum_front count (λ j. f (k + j)) in
      let here : f (k + 0) ≡ f k = let e : k + 0 ≡ k = omega arith in ap f e in
      let same : sum_below count (λ j. f (k + suc j)) ≡ sum_below count (λ j. f (suc k + j)) = sum_same count _ _ (λ j less. let e : k + suc j ≡ suc k + j = omega arith in ap f e) in
      omega arith

-- ---- walks over what fits

module _ (core : Core) (keeps : KeepsExtents core) (w : World) (y : ℕ) where
  parts_counted : (of : ℕ → TypeId) (q : Place) (count : ℕ) → HasParts (Fits core) count of (value_at w q) → count_at w y (spots_from core of q count 0) ≡ count_in y (value_at w q)
  parts_counted of q count fit =
      let v = value_at w q in
      let part : (k : ℕ) → count_in y (value_at w (part_at k q)) ≡ count_in y (part_of k v) = λ k. ap (count_in y) (get_last q.path k (w.memory q.holder)) in
      spots_counted w y core of q count 0 (λ j less not. part j ∙ unmanaged_nameless core keeps y (of j) (part_of j v) (fit.1 j (omega (arith, less))) not)
      ∙ sum_same count _ _ (λ j less. let e : 0 + j ≡ j = omega arith in ap (λ i. count_in y (value_at w (part_at i q))) e ∙ part j)
      ∙ sym (ap (count_in y) fit.0)

  -- The places that a walk over a record or an array goes to have every name of it.
  pub walk_counted : (q : Place) (of : TypeId) → shape_of core of ≡ composite → Fits core of (value_at w q) → count_at w y (spots_of core of q) ≡ count_in y (value_at w q)
  walk_counted q of is fits = parts_counted (part_type core (type_at core of)) q (parts_by core (type_at core of)) (parts_fit core of (value_at w q) is fits)

  -- Those of a walk over a dynamic array have every name of its elements.
  pub elements_walk_counted : (n : ℕ) (of : TypeId) (count : ℕ) → FitsObject core (elements of count) (w.memory (object n))
      → count_at w y (spots_of_elements core of count (all_of (object n))) ≡ count_in y (w.memory (object n))
  elements_walk_counted n of count fit = parts_counted (λ k. of) (all_of (object n)) count fit

  -- Those of a destruction have every name of the fields of the instance.
  pub instance_walk_counted : (i : ℕ) (c : ClassId) (phase : Phase) → FitsObject core (fields c phase) (w.memory (object i)) → count_at w y (spots_of_instance core c i) ≡ count_in y (w.memory (object i))
  instance_walk_counted i c phase fit = parts_counted (λ k. field_type (slice_get (fields_of_class core c) k)) (all_of (object i)) (length (fields_of_class core c)) fit

-- A record or an array with managed parts ends by a walk: it holds as much as before, until its parts are ended.
pub walk_begun : {Work Counts : Type 0} (rules : Rules Work Counts) (q : Spot) (s : StateOver Work Counts) (y : ℕ) → shape_of rules.program.core q.of ≡ composite
    → held rules.program.core (ends_place rules q s) y ≡ held rules.program.core s y
walk_begun rules q s y is = rw is refl
