-- Numbers made of bits, from the lowest one on.
use Rattle.std.proofs.Common.{◌≡◌, ℕ, zero, suc, ◌+◌, ◌*◌, ◌^◌, ◌%◌, ◌<◌, Bool, true, false, if◌then◌else◌, refl, ap, sym, ◌∙◌, arith, bit_or, add-one}
use Rattle.std.proofs.Math.Nat.{two-pow-succ}
use Rattle.std.proofs.lemmas.Nat.{one_shl, or_shifted, or_comm}
use Rattle.op_meaning.specs.Sets.{bits_below}

pub or_one : (bits k : ℕ) → k < 32 → bits < 2 ^ k → bit_or bits (1 * 2 ^ k % 4294967296) ≡ 2 ^ k + bits
or_one bits k p q =
    ap (bit_or bits) (one_shl k 32 p)
    ∙ or_comm bits (2 ^ k)
    ∙ ap (λ x. bit_or x bits) (sym (one_times (2 ^ k)))
    ∙ or_shifted 1 k bits q
    ∙ ap (λ x. x + bits) (one_times (2 ^ k))
  where
    one_times : (n : ℕ) → 1 * n ≡ n
    one_times n = omega arith

bit_fits : (b : Bool) (n : ℕ) → (if b then n else 0) < n + 1
bit_fits true n = omega arith
bit_fits false n = omega arith

pub below_power : (k : ℕ) (test : ℕ → Bool) → bits_below k test < 2 ^ k
unfolding bits_below
below_power zero test = omega arith
below_power (suc k) test = rw two-pow-succ (omega (arith, bit_fits (test k) (2 ^ k), below_power k test))

pub one_more : (k : ℕ) (test : ℕ → Bool) → bits_below (k + 1) test ≡ (if test k then 2 ^ k else 0) + bits_below k test
unfolding bits_below
one_more k test = rw add-one refl

pub no_bits : (test : ℕ → Bool) → bits_below 0 test ≡ 0
unfolding bits_below
no_bits test = refl
