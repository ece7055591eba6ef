use Rattle.std.proofs.Common.{◌≤◌, length}
use Rattle.op_parse_decl.proofs.Combining.{Repeating}
use Rattle.op_parse_decl.specs.Begun.{SeparatedBegun}
use Rattle.op_parse_decl.specs.Combined.{Separated}
use Rattle.op_tree.specs.Terminal.{terminals}
use Rattle.op_parse_decl.proofs.part.SeparatedPart.read.Given as goal

abbrev pub invariant-loop-items : goal.invariant-loop-items
invariant-loop-items g l = Repeating (Separated g.S.Sign.sign g.A.Part.phrase) (SeparatedBegun g.S.Sign.sign g.A.Part.phrase g.A.Part.begun) g.A.Part.says l.fn.setting.left l.fn.setting.end (terminals l.fn.tokens) l.items.items (terminals l.rest) × (length l.rest ≤ length l.fn.tokens)

abbrev pub decreases-loop-items : goal.decreases-loop-items
decreases-loop-items g l = length l.rest
