-- Tables of what may be missing.
use Rattle.std.proofs.Common.{◌≡◌, ◌≢◌, ◌<◌, ◌≤◌, ◌+◌, ℕ, zero, suc, Bool, List, [], ◌∷◌, ◌++◌, length, cond, Option, Some, None, slice_get, refl, ap, ◌∙◌, arith}
use Rattle.std.proofs.Math.ListN.{set}
use Rattle.std.proofs.lemmas.Option.{slice_get_past}
use Rattle.op_base.proofs.Lists.{slice_get-behind, slice_get-front}
use Rattle.op_regs.specs.Tables.{entry, or_none}

pub entry-set_same : {A : Type 0} (table : List (Option A)) (k : ℕ) (x : Option A) → k < length table → entry (set table k x) k ≡ x
entry-set_same [] k x less = absurd (omega (arith, less))
entry-set_same (y ∷ ys) zero x less = refl
entry-set_same (y ∷ ys) (suc k) x less = entry-set_same ys k x (omega (arith, less))

pub entry-set_other : {A : Type 0} (table : List (Option A)) (j k : ℕ) (x : Option A) → j ≢ k → entry (set table k x) j ≡ entry table j
entry-set_other [] j k x apart = refl
entry-set_other (y ∷ ys) zero zero x apart = absurd (apart refl)
entry-set_other (y ∷ ys) zero (suc k) x apart = refl
entry-set_other (y ∷ ys) (suc j) zero x apart = refl
entry-set_other (y ∷ ys) (suc j) (suc k) x apart = entry-set_other ys j k x (λ e. apart (ap suc e))

pub entry_within : {A : Type 0} (table : List (Option A)) (k : ℕ) (x : A) → entry table k ≡ Some x → k < length table
entry_within [] k x e = absurd cc
entry_within (y ∷ ys) zero x e = omega arith
entry_within (y ∷ ys) (suc k) x e = omega (arith, entry_within ys k x e)

pub entry_past : {A : Type 0} (table : List (Option A)) (k : ℕ) → length table ≤ k → entry table k ≡ None
entry_past table k past = ap or_none (slice_get_past table k past)

pub entry_front : {A : Type 0} (table : List (Option A)) (x : Option A) (k : ℕ) → k < length table → entry (table ++ x ∷ []) k ≡ entry table k
entry_front table x k less = ap or_none (slice_get-front table (x ∷ []) k less)

pub entry_last : {A : Type 0} (table : List (Option A)) (x : Option A) → entry (table ++ x ∷ []) (length table) ≡ x
entry_last table x =
    let e : length table ≡ length table + 0 = omega arith in
    ap (entry (table ++ x ∷ [])) e ∙ ap or_none (slice_get-behind table (x ∷ []) 0)

-- what a table has at one place changes
pub record Puts {A : Type 0} (old new : ℕ → Option A) (k : ℕ) (x : Option A) : Type 0 where
  pub here : new k ≡ x
  pub elsewhere : (j : ℕ) → j ≢ k → new j ≡ old j

pub set_puts : {A : Type 0} (table new : List (Option A)) (k : ℕ) (x : Option A) → k < length table → new ≡ set table k x → Puts (entry table) (entry new) k x
set_puts table new k x less is =
    record {
      here = ap (λ t. entry t k) is ∙ entry-set_same table k x less;
      elsewhere = λ j apart. ap (λ t. entry t j) is ∙ entry-set_other table j k x apart;
    }

-- how much a test counts for
abbrev pub counted : Bool → ℕ
counted b = cond b 1 0
