use Rattle.std.proofs.Common.{◌≡◌, ℕ, length, map}
use Rattle.op_core.specs.declared.program.Core.{Core}
use Rattle.op_mir.specs.Code.{ends}
use Rattle.op_mir.specs.View.{view_temporary}
use Rattle.op_lower.specs.Seen.{seen}
use Rattle.op_lower.proofs.instructions.Instructions.end.Given as goal

-- what is left, in front of what stands there, is the whole
abbrev pub invariant-loop-last : goal.invariant-loop-last
invariant-loop-last l = (core : Core) (r : ℕ) → ends (map view_temporary l.rest) (seen core r l.self) ≡ ends (map view_temporary l.temporaries) (seen core r l.fn.self)

abbrev pub decreases-loop-last : goal.decreases-loop-last
decreases-loop-last l = length l.rest
