use Rattle.std.proofs.Common.{◌≤◌, length}
use Rattle.op_parse_decl.proofs.Classes.{Sectioning}
use Rattle.op_tree.specs.Terminal.{terminals}
use Rattle.op_parse_decl.proofs.class.SectionsPart.read.Given as goal

abbrev pub invariant-loop-after : goal.invariant-loop-after
invariant-loop-after l = Sectioning l.fn.setting.left l.fn.setting.end (terminals l.fn.tokens) l.body (terminals l.rest) × (length l.rest ≤ length l.fn.tokens)

abbrev pub decreases-loop-after : goal.decreases-loop-after
decreases-loop-after l = length l.rest
