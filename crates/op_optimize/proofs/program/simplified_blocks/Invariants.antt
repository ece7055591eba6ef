use Rattle.std.proofs.Common.{take}
use Rattle.op_optimize.specs.Each.{Each}
use Rattle.op_optimize.specs.Simplifying.{SimplifiesBlock}
use Rattle.op_optimize.proofs.program.simplified_blocks.Given as goal

-- the blocks in front
abbrev pub invariant-loop-block : goal.invariant-loop-block
invariant-loop-block l = Each (SimplifiesBlock l.live l.routine) (take l.block-index l.block-items) l.made.items
