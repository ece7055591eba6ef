use Rattle.std.proofs.Common.{refl, sym, ◌∙◌, arith}
use Rattle.op_optimize.specs.Renaming.{are_apart, is_apart}
use Rattle.op_optimize.proofs.Folding.{tests_end, tests_fail, tests_go_on}
use Rattle.op_optimize.proofs.harmless.are_apart.Goals as goal

pub returns-then-not-is_apart : goal.returns-then-not-is_apart
unfolding are_apart
returns-then-not-is_apart c =
    tests_fail (are_apart c.args.live.now c.args.names.now c.args.instruction.now c.args.behind.now c.args.to) (λ n. is_apart c.args.live.now c.args.names.now c.args.instruction.now c.args.behind.now c.args.to (record { 0 = n })) (λ n. refl) c.loop-left.left c.loop-left-test.true
    (sym c.is_apart.ensures ∙ c.if-not-is_apart.true)
    ∙ c.loop-left.invariant

pub loop-left-preserved : goal.loop-left-preserved
unfolding are_apart
loop-left-preserved c =
    tests_go_on (are_apart c.args.live.now c.args.names.now c.args.instruction.now c.args.behind.now c.args.to) (λ n. is_apart c.args.live.now c.args.names.now c.args.instruction.now c.args.behind.now c.args.to (record { 0 = n })) (λ n. refl) c.loop-left.left c.loop-left-test.true
    (sym c.is_apart.ensures ∙ c.if-not-is_apart.false)
    ∙ c.loop-left.invariant

pub returns : goal.returns
unfolding are_apart
returns c =
    tests_end (are_apart c.args.live.now c.args.names.now c.args.instruction.now c.args.behind.now c.args.to) refl c.loop-left.left (omega (arith, c.loop-left-test.false)) ∙ c.loop-left.invariant
