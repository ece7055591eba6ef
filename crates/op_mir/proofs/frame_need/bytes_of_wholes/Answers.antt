use Rattle.std.proofs.Common.{arith, ap}
use Rattle.std.specs.List.{flat_map}
use Rattle.op_mir.specs.FrameNeed.{bytes_before, roots_named, roots_of_instruction}
use Rattle.op_mir.proofs.NeedLemmas.{block_step}
use Rattle.op_mir.proofs.frame_need.bytes_of_wholes.Goals as goal

pub loop-block-preserved : goal.loop-block-preserved
loop-block-preserved c =
    let step = block_step c.args.core.now c.in-Some.block.now c.in-Some.behind.now c.loop-block.rest.now c.in-Some.ensures.cases.0 in
    let told = c.bytes_in_code.ensures in
    let code = ap (λ code. bytes_before c.args.core.now (flat_map roots_of_instruction code) (roots_named c.in-Some.behind.now)) c.as_slice.ensures in
    let sum = c.saturating_add-sum.ensures in
    let gives = c.loop-block.invariant.gives in
    record { fits = omega (arith, sum); gives = omega (arith, step, told, code, sum, gives) }
