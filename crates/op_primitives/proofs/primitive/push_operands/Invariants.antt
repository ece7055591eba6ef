use Rattle.std.proofs.Common.{◌≡◌, ◌++◌, drop}
use Rattle.op_primitives.specs.Primitives.{operands_code, operands_passed}
use Rattle.op_primitives.proofs.primitive.push_operands.Given as goal

-- what is left gives the rest
abbrev pub invariant-loop-operand : goal.invariant-loop-operand
invariant-loop-operand l =
    record {
      code : l.code.items ++ operands_code l.frame l.literals l.used (drop l.operand-index l.operands) ≡ l.fn.code.items ++ operands_code l.frame l.literals l.fn.first l.operands;
      arguments : l.arguments.items ++ operands_passed l.frame l.used (drop l.operand-index l.operands) ≡ l.fn.arguments.items ++ operands_passed l.frame l.fn.first l.operands;
    }
