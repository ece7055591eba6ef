use Rattle.std.proofs.Common.{◌≡◌, ◌++◌, drop, map}
use Rattle.op_rt_heap.specs.Names.{block}
use Rattle.op_rt_heap.specs.Parts.{code}
use Rattle.op_rt_heap.proofs.parts.routine.Given as goal

abbrev pub invariant-loop-each : goal.invariant-loop-each
invariant-loop-each l = l.made.items ++ map (λ each. block (code each.now)) (drop l.each-index l.blocks) ≡ map (λ each. block (code each.now)) l.blocks
