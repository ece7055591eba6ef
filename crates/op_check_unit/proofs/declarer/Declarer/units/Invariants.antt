use Rattle.std.proofs.Common.{map}
use Rattle.op_check_unit.proofs.UnitSteps.{Reaches}
use Rattle.op_tree.specs.File.{file_of}
use Rattle.op_check_unit.proofs.declarer.Declarer.units.Given as goal

abbrev pub invariant-loop-export : goal.invariant-loop-export
invariant-loop-export l = Reaches (map file_of l.files.trees.now) l.exports l.export-index l.fn.self l.self
