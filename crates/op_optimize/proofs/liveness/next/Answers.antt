use Rattle.std.proofs.Common.{sym, arith}
use Rattle.std.proofs.lemmas.List.{take_all, length-take-le}
use Rattle.op_optimize.proofs.liveness.next.Goals as goal

pub returns-then-code-le-WINDOW : goal.returns-then-code-le-WINDOW
returns-then-code-le-WINDOW c = sym (take_all 64 c.args.code.now c.if-code-le-WINDOW.true)

pub slice_bounds-result-end : goal.slice_bounds-result-end
slice_bounds-result-end c = sym (length-take-le 64 c.args.code.now (omega (arith, c.if-code-le-WINDOW.false)))
