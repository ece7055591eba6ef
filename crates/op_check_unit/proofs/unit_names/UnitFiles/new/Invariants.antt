use Rattle.std.proofs.Common.{take}
use Rattle.op_check_unit.specs.Numbering.{Finds, unit_name}
use Rattle.op_tree.specs.File.{file_of}
use Rattle.op_check_unit.proofs.unit_names.UnitFiles.new.Given as goal

-- the names so far are noted
abbrev pub invariant-loop-number : goal.invariant-loop-number
invariant-loop-number l = Finds (λ tree. unit_name (file_of tree)) (take l.number l.trees) l.numbering.numbers
