-- Bytes of memory that are all the same, and what may be read and written there.
use Rattle.std.proofs.Common.{◌≡◌, ℕ, zero, suc, ◌+◌, ◌<◌, ◌≤◌, Bool, true, nat_lt, List, ◌∷◌, replicate, refl, ap, ap₂, ◌∙◌, arith}
use Rattle.std.proofs.lemmas.Bool.{and_from}
use Rattle.std.proofs.lemmas.Bool.Decides.{nat_tests}
use Rattle.op_low.specs.State.{State, usable}
use Rattle.op_rv.proofs.Memory.{all_of}
use Rattle.op_rv.specs.State.{all_from, bytes_from}

head_is : (x y : ℕ) (xs ys : List ℕ) → x ∷ xs ≡ y ∷ ys → x ≡ y
head_is x y xs ys is = cc

tail_is : (x y : ℕ) (xs ys : List ℕ) → x ∷ xs ≡ y ∷ ys → xs ≡ ys
tail_is x y xs ys is = cc

-- where n bytes are c, so is each of them
pub each_byte : (memory : ℕ → ℕ) (c : ℕ) (n at : ℕ) → bytes_from memory at n ≡ replicate n c → (k : ℕ) → k < n → memory (at + k) ≡ c
unfolding bytes_from
each_byte memory c zero at is k before = absurd (omega arith)
each_byte memory c (suc n) at is zero before =
    let here : at + 0 ≡ at = omega arith in
    ap memory here ∙ head_is _ _ _ _ is
each_byte memory c (suc n) at is (suc k) before =
    let there : at + suc k ≡ at + 1 + k = omega arith in
    ap memory there ∙ each_byte memory c n (at + 1) (tail_is _ _ _ _ is) k (omega arith)

pub same_bytes : (memory : ℕ → ℕ) (c : ℕ) (n at : ℕ) → ((k : ℕ) → k < n → memory (at + k) ≡ c) → bytes_from memory at n ≡ replicate n c
unfolding bytes_from
same_bytes memory c zero at each = refl
same_bytes memory c (suc n) at each =
    let here : at ≡ at + 0 = omega arith in
    ap₂ (λ x xs. x ∷ xs) (ap memory here ∙ each 0 (omega arith))
    (same_bytes memory c n (at + 1) (λ k before. let there : at + 1 + k ≡ at + suc k = omega arith in ap memory there ∙ each (suc k) (omega arith)))

-- below the limit
pub all_usable : (right : ℕ → Bool) (m : State) (at n : ℕ) → ((x : ℕ) → at ≤ x → x < at + n → right x ≡ true) → at + n ≤ m.limit → all_from (usable right m) at n ≡ true
all_usable right m at n each below =
    all_of (usable right m) at n
    (λ x from before. and_from (right x) (nat_lt x m.limit) (each x from before) (grind (arith, nat_tests)))
