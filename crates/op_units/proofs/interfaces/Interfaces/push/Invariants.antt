use Rattle.std.proofs.Common.{◌≡◌, map, take}
use Rattle.op_units.specs.Names.{AreAmong, AreGathered, name_of}
use Rattle.op_units.proofs.interfaces.Interfaces.push.Given as goal

abbrev pub invariant-loop-used : goal.invariant-loop-used
invariant-loop-used l = (l.list.items ≡ map name_of (take l.used-index l.uses)) × AreAmong l.list.items l.self-inside.names × AreGathered l.self-inside.lists.items l.self-inside.names × (l.self-inside.lists.items ≡ l.fn.self)
