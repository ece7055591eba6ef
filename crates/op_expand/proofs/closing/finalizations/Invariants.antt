use Rattle.std.proofs.Common.{◌≡◌, ◌++◌, drop}
use Rattle.op_expand.specs.Calls.{finalizations_of}
use Rattle.op_expand.proofs.closing.finalizations.Given as goal

-- the units that are left give the rest
abbrev pub invariant-loop-unit : goal.invariant-loop-unit
invariant-loop-unit l = l.parts.items ++ finalizations_of (drop l.unit-index l.unit-items) ≡ finalizations_of l.unit-items
