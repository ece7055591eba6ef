use Rattle.std.proofs.Common.{◌≡◌, length}
use Rattle.op_scan.specs.Directive.{switched}
use Rattle.op_scan.proofs.directive.switched.Given as goal

-- the rest of the list decides
abbrev pub invariant-loop-letter : goal.invariant-loop-letter
invariant-loop-letter l = switched l.fn.switches l.fn.list ≡ switched l.after l.rest

abbrev pub decreases-loop-letter : goal.decreases-loop-letter
decreases-loop-letter l = length l.rest
