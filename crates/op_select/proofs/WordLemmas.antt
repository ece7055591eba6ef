-- The two parts of a word, and sums of addresses.
use Rattle.std.proofs.Common.{◌≡◌, ℕ, pos, ◌+◌, ◌-◌, ◌*◌, ◌%◌, ◌^◌, ◌-ℤ◌, ◌<◌, true, arith}
use Rattle.std.proofs.lemmas.Bool.{and_from, cond-false, cond-true}
use Rattle.std.proofs.lemmas.Int.{ints}
use Rattle.std.proofs.lemmas.Bool.Decides.{nat_tests}
use Rattle.op_rv.specs.Operation.{word_from}
use Rattle.op_select.specs.Sequences.{upper_of, lower_of, is_near}

-- ---- choices

-- ---- the two parts

pub word_from-lower : (a : ℕ) → a < 4096 → word_from (pos a -ℤ pos 2048) ≡ (a + 4294965248) % 4294967296
word_from-lower a small = omega (arith, ints)

pub lower_word : (w : ℕ) → word_from (lower_of w) ≡ ((w + 2 ^ 11) % 2 ^ 12 + (2 ^ 32 - 2 ^ 11)) % 2 ^ 32
unfolding lower_of
lower_word w = word_from-lower ((w + 2 ^ 11) % 2 ^ 12) (omega arith)

near_is : (w : ℕ) → is_near w ≡ true → (w + 2 ^ 11) % 2 ^ 32 < 2 ^ 12
unfolding is_near upper_of
near_is w near = grind (arith, nat_tests)

-- a near word is the lower part alone
pub near_sum : (x w : ℕ) → is_near w ≡ true → w < 2 ^ 32 → (x + word_from (lower_of w)) % 2 ^ 32 ≡ (x + w) % 2 ^ 32
near_sum x w near fits =
    let small = near_is w near in
    let e = lower_word w in
    omega arith

-- the upper part and a base, and then the lower part
pub far_sum : (x w : ℕ) → w < 2 ^ 32 → ((upper_of w * 2 ^ 12 + x) % 2 ^ 32 + word_from (lower_of w)) % 2 ^ 32 ≡ (x + w) % 2 ^ 32
unfolding upper_of
far_sum x w fits =
    let e = lower_word w in
    omega arith

pub far_constant : (w : ℕ) → w < 2 ^ 32 → (upper_of w * 2 ^ 12 + word_from (lower_of w)) % 2 ^ 32 ≡ w
unfolding upper_of
far_constant w fits =
    let e = lower_word w in
    omega arith

pub near_constant : (w : ℕ) → is_near w ≡ true → w < 2 ^ 32 → (0 + word_from (lower_of w)) % 2 ^ 32 ≡ w
near_constant w near fits =
    let small = near_is w near in
    let e = lower_word w in
    omega arith

-- the place itself
pub no_distance : (a : ℕ) → a < 2 ^ 32 → (a + word_from (pos 0)) % 2 ^ 32 ≡ a
no_distance a small = omega (arith, ints)

-- ---- tests that hold together
