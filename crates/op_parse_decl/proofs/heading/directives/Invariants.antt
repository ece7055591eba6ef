use Rattle.std.proofs.Common.{◌≤◌, length}
use Rattle.op_parse_decl.proofs.Methods.{Directing}
use Rattle.op_tree.specs.Terminal.{terminals}
use Rattle.op_parse_decl.proofs.heading.directives.Given as goal

abbrev pub invariant-loop-directive : goal.invariant-loop-directive
invariant-loop-directive l = Directing (terminals l.fn.tokens) l.directives.items (terminals l.rest) × (length l.rest ≤ length l.fn.tokens)

abbrev pub decreases-loop-directive : goal.decreases-loop-directive
decreases-loop-directive l = length l.rest
