use Rattle.std.proofs.Common.{◌≡◌, drop}
use Rattle.op_units.specs.Cycles.{with_names}
use Rattle.op_units.proofs.walk.add_all.Given as goal

abbrev pub invariant-loop-name : goal.invariant-loop-name
invariant-loop-name l = with_names l.seen (drop l.name-index l.names) ≡ with_names l.fn.seen l.names
