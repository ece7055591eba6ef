use Rattle.std.proofs.Common.{◌≡◌, ◌++◌, drop, map}
use Rattle.op_check_unit.specs.Programs.{blank_unit}
use Rattle.op_check_unit.proofs.units.push_blank_units.Given as goal

-- what is left gives the whole
abbrev pub invariant-loop-name : goal.invariant-loop-name
invariant-loop-name l = l.units ++ map blank_unit (drop l.name-index l.order) ≡ l.fn.units ++ map blank_unit l.order
