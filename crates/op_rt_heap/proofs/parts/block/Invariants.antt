use Rattle.std.proofs.Common.{◌≡◌, ◌++◌, drop}
use Rattle.op_rt_heap.specs.Parts.{code}
use Rattle.op_rt_heap.proofs.parts.block.Given as goal

abbrev pub invariant-loop-each : goal.invariant-loop-each
invariant-loop-each l = l.code.items ++ code (drop l.each-index l.fixed) ≡ code l.fixed
