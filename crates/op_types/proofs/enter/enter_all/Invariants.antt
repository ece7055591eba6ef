use Rattle.std.proofs.Common.{◌≡◌, drop}
use Rattle.op_types.specs.Entering.{with_types}
use Rattle.op_types.proofs.enter.enter_all.Given as goal

-- what is left gives the whole
abbrev pub invariant-loop-of : goal.invariant-loop-of
invariant-loop-of l = with_types l.core (drop l.of-index l.types) ≡ with_types l.fn.core l.types
