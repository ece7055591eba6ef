use Rattle.std.proofs.Common.{◌≡◌}
use Rattle.op_base.proofs.source.StdSourceSource.take.Given as goal

abbrev pub invariant-loop : goal.invariant-loop
invariant-loop g l = l.self.faults ≡ l.fn.self.faults
