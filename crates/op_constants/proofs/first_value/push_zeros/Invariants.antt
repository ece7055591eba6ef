use Rattle.std.proofs.Common.{◌≡◌, ◌++◌, replicate}
use Rattle.op_constants.proofs.first_value.push_zeros.Given as goal

abbrev pub invariant-loop-zero : goal.invariant-loop-zero
invariant-loop-zero l = l.bytes.items ≡ l.fn.bytes.items ++ replicate l._zero 0
