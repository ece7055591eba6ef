-- Sets as numbers are sets: their bits are their elements.
use Rattle.std.specs.Prelude.{◌≡◌, ◌≢◌, ℕ, zero, suc, ◌+◌, ◌-◌, ◌*◌, ◌%◌, ◌^◌, ◌<◌, min, max, Bool, true, false, not, ◌&&◌, ◌||◌, nat_eq, nat_lt, if◌then◌else◌}
use Rattle.std.proofs.Common.{refl, ap, sym, ◌∙◌, arith}
use Rattle.std.proofs.Math.Nat.{div-eq_of_lt, two-pow-succ}
use Rattle.std.proofs.lemmas.Bool.{ltb-false, ltb-true}
use Rattle.std.proofs.lemmas.Int.{of_z-to_z}
use Rattle.std.proofs.lemmas.Nat.{or_lt, or_shifted, and_le_l}
use Rattle.std.proofs.lemmas.Nat.Bits.{bit_at_and, bit_at_or, bit_at_not, bit_at-lt, bit_at-pow_same, bit_at-pow_other}
use Rattle.std.specs.Int.{w32, bit_at, bit_not, cast_unsigned}
use Rattle.std.specs.Int.RustNames.{bit_and, bit_or}
use Rattle.op_meaning.specs.Facts.{AreSets, with_bits}
use Rattle.op_meaning.specs.Sets.{bit, bits_below, set_of, combined}
use Rattle.op_tree.specs.declared.operator.Operator.TheVariants.{Add, Subtract, Multiply}

-- ---- one bit

bit_with : (n : ℕ) → n < 2 ^ 32 → (k : ℕ) → bit (with_bits n) k ≡ nat_eq (bit_at n k) 1
bit_with n p k = ap (λ m. nat_eq (bit_at m k) 1) (of_z-to_z w32 n p)

max_is_one : (x y : ℕ) → x < 2 → y < 2 → nat_eq (max x y) 1 ≡ (nat_eq x 1 || nat_eq y 1)
max_is_one zero zero p q = refl
max_is_one zero (suc zero) p q = refl
max_is_one (suc zero) zero p q = refl
max_is_one (suc zero) (suc zero) p q = refl
max_is_one (suc (suc x)) y p q = absurd (omega arith)
max_is_one x (suc (suc y)) p q = absurd (omega arith)

min_is_one : (x y : ℕ) → x < 2 → y < 2 → nat_eq (min x y) 1 ≡ (nat_eq x 1 && nat_eq y 1)
min_is_one zero zero p q = refl
min_is_one zero (suc zero) p q = refl
min_is_one (suc zero) zero p q = refl
min_is_one (suc zero) (suc zero) p q = refl
min_is_one (suc (suc x)) y p q = absurd (omega arith)
min_is_one x (suc (suc y)) p q = absurd (omega arith)

other_is_one : (y : ℕ) → y < 2 → nat_eq (1 - y) 1 ≡ not (nat_eq y 1)
other_is_one zero q = refl
other_is_one (suc zero) q = refl
other_is_one (suc (suc y)) q = absurd (omega arith)

-- ---- operators

or_of : (m n k : ℕ) → m < 2 ^ 32 → n < 2 ^ 32 → bit (with_bits (bit_or m n)) k ≡ (bit (with_bits m) k || bit (with_bits n) k)
or_of m n k p q =
    bit_with (bit_or m n) (or_lt 32 m n p q) k
    ∙ ap (λ x. nat_eq x 1) (bit_at_or m n k)
    ∙ max_is_one (bit_at m k) (bit_at n k) (bit_at-lt m k) (bit_at-lt n k)
    ∙ ap (λ b. b || nat_eq (bit_at n k) 1) (sym (bit_with m p k))
    ∙ ap (λ b. bit (with_bits m) k || b) (sym (bit_with n q k))

and_of : (m n k : ℕ) → m < 2 ^ 32 → n < 2 ^ 32 → bit (with_bits (bit_and m n)) k ≡ (bit (with_bits m) k && bit (with_bits n) k)
and_of m n k p q =
    let below : bit_and m n < 2 ^ 32 = omega (arith, and_le_l m n, p) in
    bit_with (bit_and m n) below k
    ∙ ap (λ x. nat_eq x 1) (bit_at_and m n k)
    ∙ min_is_one (bit_at m k) (bit_at n k) (bit_at-lt m k) (bit_at-lt n k)
    ∙ ap (λ b. b && nat_eq (bit_at n k) 1) (sym (bit_with m p k))
    ∙ ap (λ b. bit (with_bits m) k && b) (sym (bit_with n q k))

not_of : (n k : ℕ) → n < 2 ^ 32 → k < 32 → bit (with_bits (bit_not w32 n)) k ≡ not (bit (with_bits n) k)
not_of n k q r =
    let below : bit_not w32 n < 2 ^ 32 = omega arith in
    bit_with (bit_not w32 n) below k
    ∙ ap (λ x. nat_eq x 1) (bit_at_not w32 n k q r)
    ∙ other_is_one (bit_at n k) (bit_at-lt n k)
    ∙ ap not (sym (bit_with n q k))

-- the bits of a set are the bits it was made of
same_bits : (n : ℕ) → n < 2 ^ 32 → cast_unsigned w32 (with_bits n) ≡ n
same_bits n p = of_z-to_z w32 n p

joined : (m n k : ℕ) → m < 2 ^ 32 → n < 2 ^ 32 → bit (combined Add (with_bits m) (with_bits n)) k ≡ (bit (with_bits m) k || bit (with_bits n) k)
joined m n k p q =
    ap (λ x. bit (with_bits (bit_or x (cast_unsigned w32 (with_bits n)))) k) (same_bits m p)
    ∙ ap (λ y. bit (with_bits (bit_or m y)) k) (same_bits n q)
    ∙ or_of m n k p q

shared : (m n k : ℕ) → m < 2 ^ 32 → n < 2 ^ 32 → bit (combined Multiply (with_bits m) (with_bits n)) k ≡ (bit (with_bits m) k && bit (with_bits n) k)
shared m n k p q =
    ap (λ x. bit (with_bits (bit_and x (cast_unsigned w32 (with_bits n)))) k) (same_bits m p)
    ∙ ap (λ y. bit (with_bits (bit_and m y)) k) (same_bits n q)
    ∙ and_of m n k p q

taken_out : (m n k : ℕ) → m < 2 ^ 32 → n < 2 ^ 32 → k < 32 → bit (combined Subtract (with_bits m) (with_bits n)) k ≡ (bit (with_bits m) k && not (bit (with_bits n) k))
taken_out m n k p q r =
    let below : bit_not w32 n < 2 ^ 32 = omega arith in
    ap (λ x. bit (with_bits (bit_and x (cast_unsigned w32 (with_bits (bit_not w32 (cast_unsigned w32 (with_bits n))))))) k) (same_bits m p)
    ∙ ap (λ y. bit (with_bits (bit_and m (cast_unsigned w32 (with_bits (bit_not w32 y))))) k) (same_bits n q)
    ∙ ap (λ y. bit (with_bits (bit_and m y)) k) (same_bits (bit_not w32 n) below)
    ∙ and_of m (bit_not w32 n) k p below
    ∙ ap (λ b. bit (with_bits m) k && b) (not_of n k q r)

-- ---- sets by a test

-- the bit n in front of a number below it, or no such bit
abbrev in_front : Bool → ℕ → ℕ → ℕ
in_front b n m = (if b then 2 ^ n else 0) + m

in_front-lt : (b : Bool) (n m : ℕ) → m < 2 ^ n → in_front b n m < 2 ^ suc n
in_front-lt true n m p = omega (arith, two-pow-succ n)
in_front-lt false n m p = omega (arith, two-pow-succ n)

in_front-or : (n m : ℕ) → m < 2 ^ n → in_front true n m ≡ bit_or (1 * 2 ^ n) m
in_front-or n m p = let e : 1 * 2 ^ n ≡ 2 ^ n = omega arith in ap (λ x. x + m) (sym e) ∙ sym (or_shifted 1 n m p)

max_one : (x : ℕ) → x < 2 → nat_eq (max 1 x) 1 ≡ true
max_one zero p = refl
max_one (suc zero) p = refl
max_one (suc (suc x)) p = absurd (omega arith)

bit_in_front : (b : Bool) (n m : ℕ) → m < 2 ^ n → nat_eq (bit_at (in_front b n m) n) 1 ≡ b
bit_in_front true n m p =
    let e : 1 * 2 ^ n ≡ 2 ^ n = omega arith in
    ap (λ x. nat_eq (bit_at x n) 1) (in_front-or n m p)
    ∙ ap (λ x. nat_eq x 1) (bit_at_or (1 * 2 ^ n) m n)
    ∙ ap (λ x. nat_eq (max (bit_at x n) (bit_at m n)) 1) e
    ∙ ap (λ x. nat_eq (max x (bit_at m n)) 1) (bit_at-pow_same n)
    ∙ max_one (bit_at m n) (bit_at-lt m n)
bit_in_front false n m p =
    let e : 0 + m ≡ m = omega arith in
    ap (λ x. nat_eq (bit_at x n) 1) e ∙ ap (λ x. nat_eq (x % 2) 1) (div-eq_of_lt p)

bit_behind : (b : Bool) (n m k : ℕ) → m < 2 ^ n → k < n → bit_at (in_front b n m) k ≡ bit_at m k
bit_behind true n m k p q =
    let e : 1 * 2 ^ n ≡ 2 ^ n = omega arith in
    let other : k ≢ n = λ same. omega arith in
    let last : max 0 (bit_at m k) ≡ bit_at m k = omega arith in
    ap (λ x. bit_at x k) (in_front-or n m p)
    ∙ bit_at_or (1 * 2 ^ n) m k
    ∙ ap (λ x. max (bit_at x k) (bit_at m k)) e
    ∙ ap (λ x. max x (bit_at m k)) (bit_at-pow_other n k other)
    ∙ last
bit_behind false n m k p q = let e : 0 + m ≡ m = omega arith in ap (λ x. bit_at x k) e

pub bits_below-lt : (n : ℕ) (test : ℕ → Bool) → bits_below n test < 2 ^ n
unfolding bits_below
bits_below-lt zero test = omega arith
bits_below-lt (suc n) test = in_front-lt (test n) n (bits_below n test) (bits_below-lt n test)

-- the bit is the last one, or one below it
made_by : (test : ℕ → Bool) (n k : ℕ) → k < suc n → (k < n → nat_eq (bit_at (bits_below n test) k) 1 ≡ test k) → nat_eq (bit_at (bits_below (suc n) test) k) 1 ≡ test k
unfolding bits_below
made_by test n k p below = by (nat_lt k n) refl
  where
    m : ℕ
    m = bits_below n test

    by : (b : Bool) → nat_lt k n ≡ b → nat_eq (bit_at (in_front (test n) n m) k) 1 ≡ test k
    by true e = let q : k < n = omega (arith, ltb-true k n e) in ap (λ x. nat_eq x 1) (bit_behind (test n) n m k (bits_below-lt n test) q) ∙ below q
    by false e =
        let same : k ≡ n = omega (arith, ltb-false k n e, p) in
        ap (λ j. nat_eq (bit_at (in_front (test n) n m) j) 1) same ∙ bit_in_front (test n) n m (bits_below-lt n test) ∙ ap test (sym same)

made_below : (test : ℕ → Bool) (n k : ℕ) → k < n → nat_eq (bit_at (bits_below n test) k) 1 ≡ test k
made_below test zero k p = absurd (omega arith)
made_below test (suc n) k p = made_by test n k p (λ q. made_below test n k q)

made : (test : ℕ → Bool) (k : ℕ) → k < 32 → bit (set_of test) k ≡ test k
made test k p = bit_with (bits_below 32 test) (bits_below-lt 32 test) k ∙ made_below test 32 k p

pub sets_are : AreSets
sets_are = record { made = made; joined = joined; shared = shared; taken_out = taken_out }
