use Rattle.std.proofs.Common.{◌≡◌, ◌++◌, drop}
use Rattle.op_units.specs.Walk.{used_again}
use Rattle.op_units.proofs.uses.used_again.Given as goal

abbrev pub invariant-loop-used : goal.invariant-loop-used
invariant-loop-used l = used_again l.names (drop l.used-index l.interface ++ l.implementation) ≡ used_again l.fn.names (l.interface ++ l.implementation)

abbrev pub invariant-loop-other : goal.invariant-loop-other
invariant-loop-other l = used_again l.names (drop l.other-index l.implementation) ≡ used_again l.fn.names (l.interface ++ l.implementation)
