-- Where a value has the shape of its type, a path by its types leads to a part that is there and has the shape of its own; and a part of the
-- same type written there leaves the value in its shape.
use Rattle.std.proofs.Common.{◌≡◌, ℕ, zero, suc, ◌<◌, List, [], ◌∷◌, refl, sym, ap, subst}
use Rattle.std.proofs.lemmas.Bool.{eqb-true}
use Rattle.std.specs.Prelude.{Bool, true, false, nat_eq, if◌then◌else◌}
use Rattle.op_core.specs.Sizes.{type_at}
use Rattle.op_core.specs.declared.ids.TypeId.{TypeId}
use Rattle.op_core.specs.declared.program.Core.{Core}
use Rattle.op_counts.specs.Counting.{Leads}
use Rattle.op_counts.specs.Fitting.{HasParts, HasShape, FitsTo, Fits, IsWithin, type_along}
use Rattle.op_meaning.specs.Shapes.{composite, shape_of, parts_by, part_type}
use Rattle.op_meaning.specs.Values.{Value, parts, count_of, part_of, get, put}

-- ---- parts

-- A record or an array that fits has the parts of its type, and these fit.
pub parts_fit : (core : Core) (of : TypeId) (v : Value) → shape_of core of ≡ composite → Fits core of v → HasParts (Fits core) (parts_by core (type_at core of)) (part_type core (type_at core of)) v
parts_fit core of v is fits = ((at 0).0, λ k less n. (at n).1 k less)
  where
    at : (n : ℕ) → HasShape (FitsTo n core) core (type_at core of) composite v
    at n = subst (λ s. HasShape (FitsTo n core) core (type_at core of) s v) is (fits (suc n))

-- ---- where a path leads

-- A path into a part of a value that has so many leads to what it leads to there.
pub parts_lead : (P : TypeId → Value → Type 0) (n : ℕ) (of : ℕ → TypeId) (k : ℕ) (ks : List ℕ) (v : Value) → HasParts P n of v → k < n → Leads ks (part_of k v) → Leads (k ∷ ks) v
parts_lead P n of k ks v fit less leads = (subst (λ m. k < m) (sym (ap count_of fit.0)) less, leads)

-- A path by the types of a value that has their shape leads to a part that is there.
pub fits_leads : (core : Core) (of : TypeId) (path : List ℕ) (v : Value) → Fits core of v → IsWithin core of path → Leads path v
fits_leads core of [] v fits within = tt
fits_leads core of (k ∷ ks) v fits (is, less, within) =
    let all = parts_fit core of v is fits in
    let to = part_type core (type_at core of) in
    parts_lead (Fits core) (parts_by core (type_at core of)) to k ks v all less (fits_leads core (to k) ks (part_of k v) (all.1 k less) within)

-- The part has the shape of the type that the path comes to.
pub fits_part : (core : Core) (of : TypeId) (path : List ℕ) (v : Value) → Fits core of v → IsWithin core of path → Fits core (type_along core of path) (get path v)
fits_part core of [] v fits within = fits
fits_part core of (k ∷ ks) v fits (is, less, within) =
    fits_part core (part_type core (type_at core of) k) ks (part_of k v) ((parts_fit core of v is fits).1 k less) within

-- ---- what is written keeps the shape

one_of : (P : Value → Type 0) (b : Bool) (x y : Value) → (b ≡ true → P x) → (b ≡ false → P y) → P (if b then x else y)
one_of P true x y h h' = h refl
one_of P false x y h h' = h' refl

-- Where a part stays as its type asks, so do the parts of the whole.
pub put_parts : (P : TypeId → Value → Type 0) (n : ℕ) (of : ℕ → TypeId) (k : ℕ) (ks : List ℕ) (new v : Value) → HasParts P n of v → P (of k) (put ks new (part_of k v)) → HasParts P n of (put (k ∷ ks) new v)
put_parts P n of k ks new v fit h =
    let inner = put ks new (part_of k v) in (
      ap (λ m. parts m (λ j. if nat_eq j k then inner else part_of j v)) (ap count_of fit.0),
      λ j less. one_of (P (of j)) (nat_eq j k) inner (part_of j v) (λ e. subst (λ i. P (of i) inner) (sym (eqb-true j k e)) h) (λ e. fit.1 j less),
    )

-- down to each level, since a part is one level less deep
put_fits_to : (n : ℕ) (core : Core) (of : TypeId) (path : List ℕ) (new v : Value) → Fits core of v → IsWithin core of path → Fits core (type_along core of path) new → FitsTo n core of (put path new v)
put_fits_to zero core of path new v fits within h = tt
put_fits_to (suc n) core of [] new v fits within h = h (suc n)
put_fits_to (suc n) core of (k ∷ ks) new v fits (is, less, within) h =
    let all = parts_fit core of v is fits in
    let to = part_type core (type_at core of) in
    subst (λ s. HasShape (FitsTo n core) core (type_at core of) s (put (k ∷ ks) new v)) (sym is)
    (put_parts (FitsTo n core) (parts_by core (type_at core of)) to k ks new v (all.0, λ j low. all.1 j low n) (put_fits_to n core (to k) ks new (part_of k v) (all.1 k less) within h))

-- A value of the type that a path comes to, written there, leaves the whole in the shape of its type.
pub put_fits : (core : Core) (of : TypeId) (path : List ℕ) (new v : Value) → Fits core of v → IsWithin core of path → Fits core (type_along core of path) new → Fits core of (put path new v)
put_fits core of path new v fits within h n = put_fits_to n core of path new v fits within h
