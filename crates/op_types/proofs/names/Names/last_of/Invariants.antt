use Rattle.std.proofs.Common.{map}
use Rattle.op_types.specs.Names.{named}
use Rattle.op_types.proofs.Index.{Walks, left}
use Rattle.op_types.proofs.names.Names.last_of.Given as goal

abbrev pub invariant-loop-last : goal.invariant-loop-last
invariant-loop-last l = Walks (map named l.self-inside.declared.items) l.within l.key.items l.last

abbrev pub decreases-loop-last : goal.decreases-loop-last
decreases-loop-last l = left l.last
