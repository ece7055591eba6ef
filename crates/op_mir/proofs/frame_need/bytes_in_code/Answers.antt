use Rattle.std.proofs.Common.{arith}
use Rattle.op_mir.specs.FrameNeed.{roots_named}
use Rattle.op_mir.proofs.NeedLemmas.{code_step}
use Rattle.op_mir.proofs.frame_need.bytes_in_code.Goals as goal

pub loop-instruction-preserved : goal.loop-instruction-preserved
loop-instruction-preserved c =
    let step = code_step c.args.core.now c.in-Some.instruction.now c.in-Some.others.now c.loop-instruction.rest.now (roots_named c.args.behind.now) c.in-Some.ensures.cases.0 in
    let told = c.bytes_in_instruction.ensures in
    let sum = c.saturating_add-sum.ensures in
    let gives = c.loop-instruction.invariant.gives in
    record { fits = omega (arith, sum); gives = omega (arith, step, told, sum, gives) }
