use Rattle.std.proofs.Common.{subst, arith, ◌+◌, length, refl}
use Rattle.std.proofs.lemmas.Option.{slice_get_read}
use Rattle.op_optimize.specs.Simplifying.{BlockIs}
use Rattle.op_optimize.proofs.Gathering.{each_first, each_next}
use Rattle.op_optimize.proofs.program.simplified_blocks.Goals as goal

pub loop-block-init : goal.loop-block-init
loop-block-init c = each_first c.as_slice-block-items.result.now c.new-made.result.items c.new-made.ensures.items

pub loop-block-preserved : goal.loop-block-preserved
loop-block-preserved c =
    each_next c.as_slice-block-items.result.now c.loop-block.block-index (c.loop-block.block-index + 1) c.loop-block.made.items c.push.new.self.items c.block-item.result c.in-Some.better
    c.loop-block.invariant
    (slice_get_read c.as_slice-block-items.result.now (length c.as_slice-block-items.result.now) c.loop-block.block-index c.block-item.result refl c.loop-block-test.true c.block-item.is)
    (subst (BlockIs c.args.live.now c.args.routine.now c.block-item.result) c.in-Some.is c.in_ok-simplified_block.ensures)
    (omega arith)
    c.in_ok-push-in-Some.ensures.items
