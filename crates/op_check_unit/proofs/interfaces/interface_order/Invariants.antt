use Rattle.std.proofs.Common.{◌≡◌, drop, length, map}
use Rattle.op_check_unit.specs.Interfaces.{interface_order, visited, visited_from}
use Rattle.op_tree.specs.File.{file_of}
use Rattle.op_check_unit.proofs.interfaces.interface_order.Given as goal

-- what is left gives the whole
abbrev pub invariant-loop-number : goal.invariant-loop-number
invariant-loop-number l = visited_from (visited (length l.order) l.order (map file_of l.files.trees.now)) l.number (drop l.number l.order) l.numbers ≡ interface_order l.order (map file_of l.files.trees.now)
