use Rattle.std.proofs.Common.{Some, take}
use Rattle.op_check_unit.specs.Numbering.{Finds}
use Rattle.op_check_unit.proofs.unit_names.UnitNames.new.Given as goal

-- the names so far are noted
abbrev pub invariant-loop-number : goal.invariant-loop-number
invariant-loop-number l = Finds Some (take l.number l.order) l.numbering.numbers
