use Rattle.std.proofs.Common.{length}
use Rattle.op_tree.specs.Terminal.{terminals}
use Rattle.op_units.proofs.Forms.{AllBehind}
use Rattle.op_units.proofs.form.first_form.Given as goal

abbrev pub invariant-loop-behind : goal.invariant-loop-behind
invariant-loop-behind l = AllBehind (terminals l.fn.tokens) (terminals l.rest)

abbrev pub decreases-loop-behind : goal.decreases-loop-behind
decreases-loop-behind l = length l.rest
