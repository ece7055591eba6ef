use Rattle.std.proofs.Common.{◌≡◌, drop, map}
use Rattle.op_check_unit.specs.Interfaces.{all_visited, visited}
use Rattle.op_tree.specs.File.{file_of}
use Rattle.op_check_unit.proofs.interfaces.+visit.Given as goal

abbrev pub decreases-visit : goal.decreases-visit
decreases-visit l = l.depth

-- what is left gives the whole
abbrev pub invariant-loop-name : goal.invariant-loop-name
invariant-loop-name l =
    all_visited (visited l.less l.order (map file_of l.files.trees.now)) l.order (drop l.name-index l.name-items) l.so_far
    ≡ all_visited (visited l.less l.order (map file_of l.files.trees.now)) l.order l.name-items l.fn.so_far
