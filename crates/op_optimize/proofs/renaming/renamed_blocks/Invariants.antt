use Rattle.std.proofs.Common.{◌≡◌, ◌++◌, drop, map}
use Rattle.op_optimize.specs.Renaming.{renamed_block}
use Rattle.op_optimize.proofs.renaming.renamed_blocks.Given as goal

-- with what is left it is the whole
abbrev pub invariant-loop-block : goal.invariant-loop-block
invariant-loop-block l = l.made.items ++ map (renamed_block l.names) (drop l.block-index l.blocks) ≡ map (renamed_block l.fn.names) l.fn.blocks
