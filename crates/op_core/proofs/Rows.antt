-- Rows of a list: one below its length is there, setting one leaves the others, and those of a run stand in its table.
use Rattle.std.proofs.Common.{◌≡◌, ◌<◌, ℕ, zero, suc, ◌+◌, List, [], ◌∷◌, length, drop, slice_get, slice_set, Some, refl, sym, ap, ◌∙◌, arith}
use Rattle.op_base.proofs.Lists.{slice_get-drop, slice_get-take, slice_get-take_is}
use Rattle.op_core.specs.Rows.{rows}
use Rattle.op_core.specs.declared.ids.Run.{Run}

pub there_is : {A : Type 0} (xs : List A) (n : ℕ) → n < length xs → (x : A) × (slice_get xs n ≡ Some x)
there_is [] n l = absurd (omega (arith, l))
there_is (x ∷ xs) zero l = (x, refl)
there_is (x ∷ xs) (suc n) l = there_is xs n (omega (arith, l))

pub set_apart : {A : Type 0} (xs : List A) (k : ℕ) (y : A) (n : ℕ) → (n ≡ k → ⊥) → slice_get (slice_set xs k y) n ≡ slice_get xs n
set_apart [] k y n d = refl
set_apart (x ∷ xs) zero y zero d = absurd (d refl)
set_apart (x ∷ xs) zero y (suc n) d = refl
set_apart (x ∷ xs) (suc k) y zero d = refl
set_apart (x ∷ xs) (suc k) y (suc n) d = set_apart xs k y n (λ e. d (ap suc e))

pub set_there : {A : Type 0} (xs : List A) (k : ℕ) (y : A) → k < length xs → slice_get (slice_set xs k y) k ≡ Some y
set_there [] k y lt = absurd (omega (arith, lt))
set_there (x ∷ xs) zero y lt = refl
set_there (x ∷ xs) (suc k) y lt = set_there xs k y (omega (arith, lt))

-- the row with this number in a run
pub row_at : {A : Type 0} (table : List A) (run : Run) (k : ℕ) → k < run.count → slice_get (rows table run) k ≡ slice_get table (run.first + k)
row_at table run k few = slice_get-take run.count k (drop run.first table) few ∙ slice_get-drop run.first k table

-- a row of a run is one of the table
pub row_of : {A : Type 0} (table : List A) (run : Run) (k : ℕ) (x : A) → slice_get (rows table run) k ≡ Some x → (k < run.count) × (slice_get table (run.first + k) ≡ Some x)
row_of table run k x e = let (low, is) = slice_get-take_is run.count (drop run.first table) k x e in (low, sym (slice_get-drop run.first k table) ∙ is)
