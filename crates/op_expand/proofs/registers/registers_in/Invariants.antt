use Rattle.std.proofs.Common.{◌≡◌, take}
use Rattle.std.specs.List.{fold}
use Rattle.op_expand.specs.Registers.{with_block}
use Rattle.op_expand.proofs.registers.registers_in.Given as goal

abbrev pub invariant-loop-block : goal.invariant-loop-block
invariant-loop-block l =
    l.most ≡ fold with_block 0 (take l.block-index l.blocks)
