use Rattle.std.proofs.Common.{◌≤◌, length}
use Rattle.op_parse_decl.proofs.NameLists.{Naming}
use Rattle.op_tree.specs.Terminal.{terminals}
use Rattle.op_parse_decl.proofs.names.names.Given as goal

abbrev pub invariant-loop-names : goal.invariant-loop-names
invariant-loop-names l = Naming (terminals l.fn.tokens) l.names.items (terminals l.rest) × (length l.rest ≤ length l.fn.tokens)

abbrev pub decreases-loop-names : goal.decreases-loop-names
decreases-loop-names l = length l.rest
