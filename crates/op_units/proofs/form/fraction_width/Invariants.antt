use Rattle.std.proofs.Common.{◌≡◌, ◌+◌, ◌≤◌, length}
use Rattle.op_tree.specs.Terminal.{terminals}
use Rattle.op_units.specs.Forms.{colon_behind}
use Rattle.op_units.proofs.form.fraction_width.Given as goal

abbrev pub invariant-loop-first : goal.invariant-loop-first
invariant-loop-first l = record {
  found : colon_behind l.open (terminals l.rest) ≡ colon_behind 0 (terminals l.fn.tokens);
  fits : l.open + length l.rest ≤ length l.fn.tokens;
}

abbrev pub decreases-loop-first : goal.decreases-loop-first
decreases-loop-first l = length l.rest
