use Rattle.std.proofs.Common.{◌≤◌, length}
use Rattle.op_parse_decl.proofs.Combining.{Repeating}
use Rattle.op_parse_decl.specs.Begun.{RepeatsBegun}
use Rattle.op_parse_decl.specs.Combined.{Repeats}
use Rattle.op_tree.specs.Terminal.{terminals}
use Rattle.op_parse_decl.proofs.part.RepeatedPart.read.Given as goal

abbrev pub invariant-loop-setting : goal.invariant-loop-setting
invariant-loop-setting g l = Repeating (Repeats g.A.Item.test g.A.Part.phrase) (RepeatsBegun g.A.Item.test g.A.Part.phrase g.A.Part.begun) g.A.Part.says l.fn.setting.left l.fn.setting.end (terminals l.fn.tokens) l.items.items (terminals l.rest) × (length l.rest ≤ length l.fn.tokens)

abbrev pub decreases-loop-setting : goal.decreases-loop-setting
decreases-loop-setting g l = length l.rest
