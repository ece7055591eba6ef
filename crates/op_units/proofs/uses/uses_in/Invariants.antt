use Rattle.std.proofs.Common.{◌≡◌, map, take}
use Rattle.op_units.specs.Names.{use_of}
use Rattle.op_units.proofs.uses.uses_in.Given as goal

abbrev pub invariant-loop-name : goal.invariant-loop-name
invariant-loop-name l = l.uses.items ≡ map use_of (take l.name-index l.names)
