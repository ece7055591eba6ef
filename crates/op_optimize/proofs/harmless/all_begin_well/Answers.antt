use Rattle.std.proofs.Common.{refl, sym, ◌∙◌, arith}
use Rattle.op_optimize.specs.Renaming.{all_begin_well, begins_well}
use Rattle.op_optimize.proofs.Folding.{tests_end, tests_fail, tests_go_on}
use Rattle.op_optimize.proofs.harmless.all_begin_well.Goals as goal

pub returns-then-not-begins_well : goal.returns-then-not-begins_well
unfolding all_begin_well
returns-then-not-begins_well c =
    tests_fail (all_begin_well c.args.live.now c.args.names.now c.args.parameters c.args.registers) (λ n. begins_well c.args.live.now c.args.names.now c.args.parameters c.args.registers (record { 0 = n })) (λ n. refl) c.loop-left.left c.loop-left-test.true
    (sym c.begins_well.ensures ∙ c.if-not-begins_well.true)
    ∙ c.loop-left.invariant

pub loop-left-preserved : goal.loop-left-preserved
unfolding all_begin_well
loop-left-preserved c =
    tests_go_on (all_begin_well c.args.live.now c.args.names.now c.args.parameters c.args.registers) (λ n. begins_well c.args.live.now c.args.names.now c.args.parameters c.args.registers (record { 0 = n })) (λ n. refl) c.loop-left.left c.loop-left-test.true
    (sym c.begins_well.ensures ∙ c.if-not-begins_well.false)
    ∙ c.loop-left.invariant

pub returns : goal.returns
unfolding all_begin_well
returns c =
    tests_end (all_begin_well c.args.live.now c.args.names.now c.args.parameters c.args.registers) refl c.loop-left.left (omega (arith, c.loop-left-test.false)) ∙ c.loop-left.invariant
