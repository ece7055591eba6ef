-- What holds of the source machine whatever the program is: a program that has ended stays, and sets as numbers are sets.
use Rattle.std.specs.Prelude.{◌≡◌, ℕ, ◌^◌, ◌<◌, ℤ, Bool, not, ◌&&◌, ◌||◌}
use Rattle.std.specs.Int.{w32, cast_signed}
use Rattle.op_meaning.specs.Frames.{Program, State}
use Rattle.op_meaning.specs.Machine.{step}
use Rattle.op_meaning.specs.Sets.{bit, set_of, combined}
use Rattle.op_meaning.specs.World.{Ended}
use Rattle.op_tree.specs.declared.operator.Operator.TheVariants.{Add, Subtract, Multiply}

-- a program that has ended stays as it is
abbrev pub StaysEnded : Type 0
StaysEnded = (p : Program) (s : State) (status : ℕ) → s.world.ending ≡ Ended status → step p s ≡ s

-- the set that has these 32 bits
abbrev pub with_bits : ℕ → ℤ
with_bits n = cast_signed w32 n

-- Element by element (Free Pascal Reference Guide, "Set operators"): a set has the numbers of which the test is true; `+` has the elements
-- of either set, `*` those of both, `-` those of the first one that the second one lacks.
pub record AreSets : Type 0 where
  pub made : (test : ℕ → Bool) (k : ℕ) → k < 32 → bit (set_of test) k ≡ test k
  pub joined : (m n k : ℕ) → m < 2 ^ 32 → n < 2 ^ 32 → bit (combined Add (with_bits m) (with_bits n)) k ≡ (bit (with_bits m) k || bit (with_bits n) k)
  pub shared : (m n k : ℕ) → m < 2 ^ 32 → n < 2 ^ 32 → bit (combined Multiply (with_bits m) (with_bits n)) k ≡ (bit (with_bits m) k && bit (with_bits n) k)
  pub taken_out : (m n k : ℕ) → m < 2 ^ 32 → n < 2 ^ 32 → k < 32 → bit (combined Subtract (with_bits m) (with_bits n)) k ≡ (bit (with_bits m) k && not (bit (with_bits n) k))
