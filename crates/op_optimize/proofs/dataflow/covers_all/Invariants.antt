use Rattle.std.proofs.Common.{◌≡◌, drop}
use Rattle.op_optimize.specs.Liveness.{covers_blocks}
use Rattle.op_optimize.proofs.dataflow.covers_all.Given as goal

-- those that are left tell it
abbrev pub invariant-loop-k : goal.invariant-loop-k
invariant-loop-k l = covers_blocks l.live l.registers l.k (drop l.k l.blocks) ≡ covers_blocks l.fn.live l.fn.registers 0 l.fn.blocks
