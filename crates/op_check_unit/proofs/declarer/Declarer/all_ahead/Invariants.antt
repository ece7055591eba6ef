use Rattle.std.proofs.Common.{◌≡◌, drop}
use Rattle.op_check_unit.specs.Naming.{all_ahead}
use Rattle.op_check_unit.specs.Steps.{here_of}
use Rattle.op_check_unit.proofs.declarer.Declarer.all_ahead.Given as goal

abbrev pub invariant-loop-name : goal.invariant-loop-name
invariant-loop-name l = (all_ahead (drop l.name-index l.names) (here_of l.self) ≡ all_ahead l.names (here_of l.fn.self)) × (l.self.sink ≡ l.fn.self.sink)
