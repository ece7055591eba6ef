use Rattle.std.proofs.Common.{◌||◌, not, refl, sym, ◌∙◌, arith}
use Rattle.op_optimize.specs.Liveness.{covers_below, is_live, needs}
use Rattle.op_optimize.proofs.Folding.{tests_end, tests_fail, tests_go_on}
use Rattle.op_optimize.proofs.dataflow.covers_below.Goals as goal

pub returns-then-not-is_covered : goal.returns-then-not-is_covered
unfolding covers_below
returns-then-not-is_covered c =
    tests_fail (covers_below c.args.live.now (record { 0 = c.args.place }) c.args.code.now) (λ n. not (needs c.args.live.now c.args.code.now (record { 0 = n })) || is_live c.args.live.now (record { 0 = c.args.place }) (record { 0 = n })) (λ n. refl) c.loop-left.left c.loop-left-test.true
    (sym c.is_covered.ensures ∙ c.if-not-is_covered.true)
    ∙ c.loop-left.invariant

pub loop-left-preserved : goal.loop-left-preserved
unfolding covers_below
loop-left-preserved c =
    tests_go_on (covers_below c.args.live.now (record { 0 = c.args.place }) c.args.code.now) (λ n. not (needs c.args.live.now c.args.code.now (record { 0 = n })) || is_live c.args.live.now (record { 0 = c.args.place }) (record { 0 = n })) (λ n. refl) c.loop-left.left c.loop-left-test.true
    (sym c.is_covered.ensures ∙ c.if-not-is_covered.false)
    ∙ c.loop-left.invariant

pub returns : goal.returns
unfolding covers_below
returns c =
    tests_end (covers_below c.args.live.now (record { 0 = c.args.place }) c.args.code.now) refl c.loop-left.left (omega (arith, c.loop-left-test.false)) ∙ c.loop-left.invariant
