use Rattle.std.proofs.Common.{◌≡◌, drop}
use Rattle.op_constants.specs.Keeping.{with_texts}
use Rattle.op_constants.specs.Literals.{operands_literals}
use Rattle.op_constants.proofs.literals.keep_operands.Given as goal

abbrev pub invariant-loop-operand : goal.invariant-loop-operand
invariant-loop-operand l = with_texts l.texts (operands_literals (drop l.operand-index l.operands)) ≡ with_texts l.fn.texts (operands_literals l.operands)
