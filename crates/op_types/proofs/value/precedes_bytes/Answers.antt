use Rattle.std.proofs.Common.{◌≡◌, ℕ, zero, suc, min, nat_lt, List, [], ◌∷◌, length, drop, refl, arith, ◌∙◌}
use Rattle.op_types.specs.Values.{precedes_bytes}
use Rattle.op_types.proofs.value.precedes_bytes.Goals as goal

ended : (i : ℕ) (xs ys : List ℕ) → i ≡ min (length xs) (length ys) → nat_lt (length xs) (length ys) ≡ precedes_bytes (drop i xs) (drop i ys)
ended zero [] [] e = refl
ended zero [] (y ∷ ys) e = grind arith
ended zero (x ∷ xs) [] e = grind arith
ended zero (x ∷ xs) (y ∷ ys) e = absurd (omega (arith, e))
ended (suc i) [] ys e = absurd (omega (arith, e))
ended (suc i) (x ∷ xs) [] e = absurd (omega (arith, e))
ended (suc i) (x ∷ xs) (y ∷ ys) e = let h = ended i xs ys (omega (arith, e)) in grind (arith, h)

pub returns : goal.returns
returns c = ended c.loop-i.i c.args.a.now c.args.b.now (omega (arith, c.loop-i-test.false, c.loop-i.auto.i-end, c.min-i-end.ensures)) ∙ c.loop-i.invariant
