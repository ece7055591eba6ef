use Rattle.std.proofs.Common.{◌≡◌, ◌-◌, ◌<◌, ◌≤◌, ap, sym, ◌∙◌, arith}
use Rattle.std.proofs.lemmas.Nat.{one_shl}
use Rattle.op_optimize.specs.Values.{power_below, power_of}
use Rattle.op_optimize.proofs.Powers.{power_found, power_passed}
use Rattle.op_optimize.proofs.value.power_of.Goals as goal

pub returns-then-n-left-clause-value : goal.returns-then-n-left-clause-value
unfolding power_of
returns-then-n-left-clause-value c =
    let few = c.loop-left.invariant.1 in
    let some = c.loop-left-test.true in
    sym (power_found c.loop-left.left c.args.n some (c.if-n-left.true ∙ one_shl (c.loop-left.left - 1) 32 (omega arith))) ∙ c.loop-left.invariant.0

pub loop-left-preserved : goal.loop-left-preserved
loop-left-preserved c =
    let few = c.loop-left.invariant.1 in
    let some = c.loop-left-test.true in
    (power_passed c.loop-left.left c.args.n some (λ is. c.if-n-left.false (is ∙ sym (one_shl (c.loop-left.left - 1) 32 (omega arith)))) ∙ c.loop-left.invariant.0, omega arith)

pub returns-clause-value : goal.returns-clause-value
unfolding power_of power_below
returns-clause-value c =
    let none : c.loop-left.left ≡ 0 = omega (arith, c.loop-left-test.false) in
    ap (λ k. power_below k c.args.n) (sym none) ∙ c.loop-left.invariant.0
