use Rattle.std.proofs.Common.{arith, ap, ◌++◌}
use Rattle.std.specs.List.{flat_map}
use Rattle.op_mir.specs.FrameNeed.{bytes_before, roots_named, roots_of_given, roots_of_instruction, roots_of_receiver}
use Rattle.op_mir.proofs.NeedLemmas.{before_append, given_step}
use Rattle.op_mir.proofs.frame_need.bytes_in_call.Goals as goal

pub loop-given-init : goal.loop-given-init
loop-given-init c =
    let later = flat_map roots_of_instruction c.args.others.now ++ roots_named c.args.behind.now in
    let receiver = roots_of_receiver c.args.call.now.receiver in
    let value = c.bytes_in_receiver-sum.ensures.value in
    let small = c.bytes_in_receiver-sum.ensures.small in
    let split = before_append c.args.core.now (flat_map roots_of_given c.args.call.now.given) receiver later in
    let list = ap (λ gs. bytes_before c.args.core.now (flat_map roots_of_given gs) (receiver ++ later)) c.as_slice-rest.ensures in
    record { fits = omega (arith, small); gives = omega (arith, value, split, list) }

pub loop-given-preserved : goal.loop-given-preserved
loop-given-preserved c =
    let later = flat_map roots_of_instruction c.args.others.now ++ roots_named c.args.behind.now in
    let receiver = roots_of_receiver c.args.call.now.receiver in
    let step = given_step c.args.core.now c.in-Some.given.now c.in-Some.more.now c.loop-given.rest.now receiver later c.in-Some.ensures.cases.0 in
    let told = c.bytes_in_given.ensures in
    let sum = c.saturating_add-sum.ensures in
    let gives = c.loop-given.invariant.gives in
    record { fits = omega (arith, sum); gives = omega (arith, step, told, sum, gives) }
