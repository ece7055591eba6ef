-- Bytes and words of memory: what a store changes and what it leaves, what stands at an address, and what may be done there.
use Rattle.std.proofs.Common.{◌≡◌, ℕ, zero, suc, ◌+◌, ◌-◌, ◌*◌, ◌/◌, ◌%◌, ◌^◌, ◌<◌, ◌≤◌, inl, inr, Bool, true, false, ◌&&◌, cond, nat_eq, nat_le, nat_lt, List, [], ◌∷◌, ◌++◌, length, get_or, replicate, refl, ap, ap₂, sym, ◌∙◌, arith}
use Rattle.std.proofs.lemmas.Bool.{and_from, cases_lt, cond-false, cond-true}
use Rattle.std.proofs.lemmas.Bool.Decides.{nat_tests}
use Rattle.std.specs.Int.{bytes_low_first}
use Rattle.op_rv.specs.State.{all_from, bytes_from, with_bytes, word_at}
use Rattle.op_rv.specs.Step.{can_access}

-- ---- lists of bytes

pub zeros_get : (n k : ℕ) → get_or (replicate {A = ℕ} n 0) k 0 ≡ 0
zeros_get zero k = refl
zeros_get (suc n) zero = refl
zeros_get (suc n) (suc k) = zeros_get n k

-- zeros behind a list are what is read past its end
pub get_or-zeros : (bytes : List ℕ) (n k : ℕ) → get_or (bytes ++ replicate {A = ℕ} n 0) k 0 ≡ get_or bytes k 0
get_or-zeros [] n k = zeros_get n k
get_or-zeros (byte ∷ bytes) n zero = refl
get_or-zeros (byte ∷ bytes) n (suc k) = get_or-zeros bytes n k

pub bytes_of-word : (v : ℕ) → v < 2 ^ 32 → v % 256 + 2 ^ 8 * (v / 256 % 256) + 2 ^ 16 * (v / 65536 % 256) + 2 ^ 24 * (v / 16777216 % 256) ≡ v
bytes_of-word v fits = omega arith

pub four-bounded : (v k : ℕ) → get_or (bytes_low_first 0 4 v) k 0 < 2 ^ 8
four-bounded v zero = omega arith
four-bounded v (suc zero) = omega arith
four-bounded v (suc (suc zero)) = omega arith
four-bounded v (suc (suc (suc zero))) = omega arith
four-bounded v (suc (suc (suc (suc k)))) = omega arith

pub zero_bytes : (k : ℕ) → get_or (bytes_low_first 0 4 0) k 0 ≡ 0
zero_bytes zero = refl
zero_bytes (suc zero) = refl
zero_bytes (suc (suc zero)) = refl
zero_bytes (suc (suc (suc zero))) = refl
zero_bytes (suc (suc (suc (suc k)))) = refl

-- ---- what a store changes and what it leaves

pub with_bytes-within : (memory : ℕ → ℕ) (a : ℕ) (bytes : List ℕ) (x : ℕ) → a ≤ x → x < a + length bytes → with_bytes memory a bytes x ≡ get_or bytes (x - a) 0
with_bytes-within memory a bytes x from before = cond-true (nat_le a x && nat_lt x (a + length bytes)) (get_or bytes (x - a) 0) (memory x) (grind (arith, nat_tests))

pub with_bytes-below : (memory : ℕ → ℕ) (a : ℕ) (bytes : List ℕ) (x : ℕ) → x < a → with_bytes memory a bytes x ≡ memory x
with_bytes-below memory a bytes x lower = cond-false (nat_le a x && nat_lt x (a + length bytes)) (get_or bytes (x - a) 0) (memory x) (grind (arith, nat_tests))

pub with_bytes-above : (memory : ℕ → ℕ) (a : ℕ) (bytes : List ℕ) (x : ℕ) → a + length bytes ≤ x → with_bytes memory a bytes x ≡ memory x
with_bytes-above memory a bytes x upper = cond-false (nat_le a x && nat_lt x (a + length bytes)) (get_or bytes (x - a) 0) (memory x) (grind (arith, nat_tests))

pub with_bytes-outside : (memory : ℕ → ℕ) (a : ℕ) (bytes : List ℕ) (x : ℕ) → (a ≤ x → x < a + length bytes → ⊥) → with_bytes memory a bytes x ≡ memory x
with_bytes-outside memory a bytes x outside =
    elim (cases_lt x a) [
      | inl lower ↦ with_bytes-below memory a bytes x lower
      | inr upper ↦
          elim (cases_lt x (a + length bytes)) [
            | inl within ↦ absurd (outside (omega arith) within)
            | inr above ↦ with_bytes-above memory a bytes x (omega arith)
          ]
    ]

pub with_bytes-bounded : (memory : ℕ → ℕ) (a : ℕ) (bytes : List ℕ) → ((x : ℕ) → memory x < 2 ^ 8) → ((k : ℕ) → get_or bytes k 0 < 2 ^ 8) → (x : ℕ) → with_bytes memory a bytes x < 2 ^ 8
with_bytes-bounded memory a bytes old new x =
    elim (nat_le a x && nat_lt x (a + length bytes)) as (λ b. cond b (get_or bytes (x - a) 0) (memory x) < 2 ^ 8) [ true ↦ new (x - a) | false ↦ old x ]

-- ---- words

four_bytes : (memory : ℕ → ℕ) (a v k : ℕ) → k < 4 → with_bytes memory a (bytes_low_first 0 4 v) (a + k) ≡ get_or (bytes_low_first 0 4 v) k 0
four_bytes memory a v k few =
    let e : a + k - a ≡ k = omega arith in
    with_bytes-within memory a (bytes_low_first 0 4 v) (a + k) (omega arith) (omega arith) ∙ ap (λ i. get_or (bytes_low_first 0 4 v) i 0) e

-- what was stored is there
pub word_at-stored : (memory : ℕ → ℕ) (a v : ℕ) → v < 2 ^ 32 → word_at (with_bytes memory a (bytes_low_first 0 4 v)) a ≡ v
word_at-stored memory a v fits =
    let m = with_bytes memory a (bytes_low_first 0 4 v) in
    let e : a + 0 ≡ a = omega arith in
    let b0 : m a ≡ v % 256 = ap m (sym e) ∙ four_bytes memory a v 0 (omega arith) in
    let b1 : m (a + 1) ≡ v / 256 % 256 = four_bytes memory a v 1 (omega arith) in
    let b2 : m (a + 2) ≡ v / 65536 % 256 = four_bytes memory a v 2 (omega arith) in
    let b3 : m (a + 3) ≡ v / 16777216 % 256 = four_bytes memory a v 3 (omega arith) in
    let whole = bytes_of-word v fits in
    omega arith

-- words are equal where their bytes are
pub word_at-same : (memory other : ℕ → ℕ) (a : ℕ) → ((x : ℕ) → a ≤ x → x < a + 4 → other x ≡ memory x) → word_at other a ≡ word_at memory a
word_at-same memory other a same =
    let e0 = same a (omega arith) (omega arith) in
    let e1 = same (a + 1) (omega arith) (omega arith) in
    let e2 = same (a + 2) (omega arith) (omega arith) in
    let e3 = same (a + 3) (omega arith) (omega arith) in
    omega arith

pub word_at-zero : (memory : ℕ → ℕ) (a : ℕ) → ((x : ℕ) → a ≤ x → x < a + 4 → memory x ≡ 0) → word_at memory a ≡ 0
word_at-zero memory a zeros =
    let z0 = zeros a (omega arith) (omega arith) in
    let z1 = zeros (a + 1) (omega arith) (omega arith) in
    let z2 = zeros (a + 2) (omega arith) (omega arith) in
    let z3 = zeros (a + 3) (omega arith) (omega arith) in
    omega arith

pub word_at-bounded : (memory : ℕ → ℕ) (a : ℕ) → ((x : ℕ) → memory x < 2 ^ 8) → word_at memory a < 2 ^ 32
word_at-bounded memory a bytes =
    let b0 = bytes a in
    let b1 = bytes (a + 1) in
    let b2 = bytes (a + 2) in
    let b3 = bytes (a + 3) in
    omega arith

-- ---- bytes from an address on

pub bytes_from-same : (memory other : ℕ → ℕ) (a n : ℕ) → ((x : ℕ) → a ≤ x → x < a + n → other x ≡ memory x) → bytes_from other a n ≡ bytes_from memory a n
unfolding bytes_from
bytes_from-same memory other a zero same = refl
bytes_from-same memory other a (suc n) same =
    ap₂ (λ x xs. x ∷ xs) (same a (omega arith) (omega arith)) (bytes_from-same memory other (a + 1) n (λ x from before. same x (omega arith) (omega arith)))

-- these bytes stand in memory
pub bytes_there : (memory : ℕ → ℕ) (at : ℕ) (bytes : List ℕ) → ((k : ℕ) → k < length bytes → memory (at + k) ≡ get_or bytes k 0) → bytes_from memory at (length bytes) ≡ bytes
unfolding bytes_from
bytes_there memory at [] each = refl
bytes_there memory at (byte ∷ bytes) each =
    let here : at ≡ at + 0 = omega arith in
    let rest = bytes_there memory (at + 1) bytes (λ k before. let next : at + 1 + k ≡ at + suc k = omega arith in ap memory next ∙ each (suc k) (omega arith)) in
    ap (λ byte. byte ∷ bytes_from memory (at + 1) (length bytes)) (ap memory here ∙ each 0 (omega arith)) ∙ ap (λ bytes. byte ∷ bytes) rest

-- ---- rights

pub all_of : (right : ℕ → Bool) (a n : ℕ) → ((x : ℕ) → a ≤ x → x < a + n → right x ≡ true) → all_from right a n ≡ true
unfolding all_from
all_of right a zero each = refl
all_of right a (suc n) each =
    and_from (right a) (all_from right (a + 1) n) (each a (omega arith) (omega arith)) (all_of right (a + 1) n (λ x from before. each x (omega arith) (omega arith)))

pub can_access_word : (right : ℕ → Bool) (a : ℕ) → a % 4 ≡ 0 → ((x : ℕ) → a ≤ x → x < a + 4 → right x ≡ true) → can_access right a 4 ≡ true
can_access_word right a whole has =
    let aligned : nat_eq (a % 4) 0 ≡ true = grind (arith, nat_tests) in
    and_from (nat_eq (a % 4) 0) (all_from right a 4) aligned (all_of right a 4 has)

-- so many bytes, and each of them
pub length-bytes_from : (memory : ℕ → ℕ) (a n : ℕ) → length (bytes_from memory a n) ≡ n
unfolding bytes_from
length-bytes_from memory a zero = refl
length-bytes_from memory a (suc n) = ap suc (length-bytes_from memory (a + 1) n)

pub byte_from : (memory : ℕ → ℕ) (a n j : ℕ) → j < n → get_or (bytes_from memory a n) j 0 ≡ memory (a + j)
unfolding bytes_from
byte_from memory a zero j before = absurd (omega arith)
byte_from memory a (suc n) zero before = ap memory (omega arith)
byte_from memory a (suc n) (suc j) before =
    let there : a + 1 + j ≡ a + suc j = omega arith in
    byte_from memory (a + 1) n j (omega arith) ∙ ap memory there
