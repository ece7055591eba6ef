use Rattle.std.proofs.Common.{◌≡◌, None, drop, map}
use Rattle.op_check_unit.specs.Outlines.{outline_of}
use Rattle.op_check_unit.specs.Programs.{all_outlined}
use Rattle.op_tree.specs.File.{file_of}
use Rattle.op_check_unit.proofs.declarer.Declarer.interfaces.Given as goal

-- what is left gives the whole, and no rule is broken
abbrev pub invariant-loop-number : goal.invariant-loop-number
invariant-loop-number l =
    (all_outlined l.order (map file_of l.files.trees.now) (drop l.number-index l.numbers) (outline_of l.exports l.self) ≡ all_outlined l.order (map file_of l.files.trees.now) l.numbers (outline_of l.fn.exports l.fn.self))
    × (l.self.sink.kept ≡ None)
