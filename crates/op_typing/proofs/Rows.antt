-- Rows of tables.
use Rattle.std.proofs.Common.{◌≡◌, ◌<◌, ℕ, zero, suc, ◌+◌, ◌-◌, List, [], ◌∷◌, take, drop, Option, Some, None, slice_get, refl, sym, ap, subst, ◌∙◌, arith, true, false}
use Rattle.std.specs.List.{All}
use Rattle.std.specs.Prelude.{IsSomeAnd, IfSome}
use Rattle.std.proofs.lemmas.Option.{none-some, same_Some, slice_get_within}
use Rattle.op_constants.proofs.TypesArranged.{all_at}
use Rattle.op_core.proofs.Rows.{row_at}
use Rattle.op_core.specs.Members.{InRun}
use Rattle.op_core.specs.Rows.{rows}
use Rattle.op_core.specs.declared.ids.Run.{Run}

pub not_true : false ≡ true → ⊥
not_true e = absurd (cc)

-- what there is
pub some_and : {A : Type 0} (o : Option A) (P : A → Type 0) → IsSomeAnd o P → (x : A) × (o ≡ Some x) × P x
some_and None P h = absurd h
some_and (Some x) P h = (x, refl, h)

pub of_some : {A : Type 0} (o : Option A) (P : A → Type 0) (x : A) → o ≡ Some x → P x → IsSomeAnd o P
of_some o P x e p = subst (λ o. IsSomeAnd o P) (sym e) p

-- what holds of what there may be holds of what is there
pub if_some : {A : Type 0} (o : Option A) (P : A → Type 0) (x : A) → IfSome o P → o ≡ Some x → P x
if_some o P x h e = subst (λ o. IfSome o P) e h

-- what holds of all rows holds of one
pub each_row : {A : Type 0} (P : A → Type 0) (table : List A) (n : ℕ) (x : A) → All P table → slice_get table n ≡ Some x → P x
each_row P table n x all e = all_at P table n x (slice_get_within table n x e) e all

-- ---- rows that lie together

-- a row of a run, counted from its first one
pub row_in : {A : Type 0} (table : List A) (run : Run) (n : ℕ) → InRun run n → (n - run.first < run.count) × (slice_get (rows table run) (n - run.first) ≡ slice_get table n) × (run.first + (n - run.first) ≡ n)
row_in table run n h =
    let low = h.0 in
    let high = h.1 in
    let few : n - run.first < run.count = omega (arith, low, high) in
    let same : run.first + (n - run.first) ≡ n = omega (arith, low) in
    (few, row_at table run (n - run.first) few ∙ ap (slice_get table) same, same)

taken_low : {A : Type 0} (n k : ℕ) (xs : List A) (x : A) → slice_get (take n xs) k ≡ Some x → k < n
taken_low zero k xs x e = absurd (none-some _ e)
taken_low (suc n) k [] x e = absurd (none-some _ e)
taken_low (suc n) zero (y ∷ ys) x e = omega arith
taken_low (suc n) (suc k) (y ∷ ys) x e = let low = taken_low n k ys x e in omega (arith, low)

pub row_low : {A : Type 0} (table : List A) (run : Run) (k : ℕ) (x : A) → slice_get (rows table run) k ≡ Some x → k < run.count
row_low table run k x e = taken_low run.count k (drop run.first table) x e

pub some_then : {A : Type 0} (o : Option A) (P Q : A → Type 0) → IsSomeAnd o P → ((a : A) → P a → Q a) → IsSomeAnd o Q
some_then None P Q h f = absurd h
some_then (Some a) P Q h f = f a h

pub all_then : {A : Type 0} (P Q : A → Type 0) (xs : List A) → All P xs → ((a : A) → P a → Q a) → All Q xs
all_then P Q xs h f = λ k d low. f _ (h k d low)
