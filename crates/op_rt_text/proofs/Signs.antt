-- Words as numbers with a sign.
use Rattle.std.proofs.Common.{◌≡◌, ℕ, pos, negsuc, ◌-◌, ◌<◌, ◌≤◌, ◌^◌, true, false, not, int_lt, nat_lt, refl, ap, ◌∙◌, arith}
use Rattle.std.proofs.lemmas.Bool.{cond-false}
use Rattle.std.proofs.lemmas.Bool.Decides.{nat_tests}
use Rattle.std.proofs.lemmas.Int.{ints}
use Rattle.op_meaning.specs.Texts.{width_of}
use Rattle.op_rv.proofs.Numbers.{not_negative}
use Rattle.op_rv.specs.Operation.{branch_taken, signed}
use Rattle.op_rv.specs.declared.instruction.BranchOp.TheVariants.{Bge}

pub signed_low : (a : ℕ) → a < 2 ^ 31 → signed a ≡ pos a
signed_low a small = omega (arith, ints)

pub signed_high : (a : ℕ) → 2 ^ 31 ≤ a → a < 2 ^ 32 → signed a ≡ negsuc (2 ^ 32 - 1 - a)
signed_high a great small =
    let test : nat_lt a (2 ^ 31) ≡ false = grind (arith, nat_tests) in
    rw test (ap negsuc (omega arith))

pub width_low : (a : ℕ) → a < 2 ^ 31 → width_of (signed a) ≡ a
width_low a small = ap width_of (signed_low a small) ∙ cond-false (int_lt (pos a) (pos 0)) 0 a (not_negative a)

pub width_high : (a : ℕ) → 2 ^ 31 ≤ a → a < 2 ^ 32 → width_of (signed a) ≡ 0
width_high a great small = ap width_of (signed_high a great small)

-- at least, as numbers with a sign
pub at_least_low : (a b : ℕ) → a < 2 ^ 31 → b ≤ a → branch_taken Bge a b ≡ true
at_least_low a b small less =
    let test : nat_lt a b ≡ false = grind (arith, nat_tests) in
    rw (signed_low a small, signed_low b (omega arith)) (ap not test)

pub at_least_negative : (a b : ℕ) → a < 2 ^ 31 → 2 ^ 31 ≤ b → b < 2 ^ 32 → branch_taken Bge a b ≡ true
at_least_negative a b small great within = rw (signed_low a small, signed_high b great within) refl

pub less_low : (a b : ℕ) → a < b → b < 2 ^ 31 → branch_taken Bge a b ≡ false
less_low a b less small =
    let test : nat_lt a b ≡ true = grind (arith, nat_tests) in
    rw (signed_low a (omega arith), signed_low b small) (ap not test)

-- a negative number against 0
pub less_negative : (a : ℕ) → 2 ^ 31 ≤ a → a < 2 ^ 32 → branch_taken Bge a 0 ≡ false
less_negative a great within = rw (signed_high a great within) refl
