use Rattle.std.proofs.Common.{◌≡◌, drop}
use Rattle.op_optimize.specs.Renaming.{are_safe_blocks}
use Rattle.op_optimize.proofs.harmless.are_safe_blocks.Given as goal

-- those that are left tell it
abbrev pub invariant-loop-block : goal.invariant-loop-block
invariant-loop-block l = are_safe_blocks l.live l.names l.registers (drop l.block-index l.blocks) ≡ are_safe_blocks l.fn.live l.fn.names l.fn.registers l.fn.blocks
