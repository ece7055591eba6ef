use Rattle.std.proofs.Common.{◌≡◌, length, []}
use Rattle.op_optimize.specs.Rewriting.{behind}
use Rattle.op_optimize.specs.Simplifying.{simplified}
use Rattle.op_optimize.proofs.block.simplified.Given as goal

-- with what is left it is the whole
abbrev pub invariant-loop-instruction : goal.invariant-loop-instruction
invariant-loop-instruction l = behind l.made.items (simplified l.live l.way l.facts.items l.known.items l.rest) ≡ simplified l.fn.live l.fn.way [] [] l.fn.code

abbrev pub decreases-loop-instruction : goal.decreases-loop-instruction
decreases-loop-instruction l = length l.rest
