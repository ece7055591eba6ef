use Rattle.std.proofs.Common.{length}
use Rattle.op_parse_decl.proofs.CodeForms.{IsTail}
use Rattle.op_tree.specs.Terminal.{terminals}
use Rattle.op_parse_decl.proofs.code_form.form_ending_at.Given as goal

abbrev pub invariant-loop-behind : goal.invariant-loop-behind
invariant-loop-behind l = IsTail (terminals l.fn.tokens) (terminals l.rest)

abbrev pub decreases-loop-behind : goal.decreases-loop-behind
decreases-loop-behind l = length l.rest
