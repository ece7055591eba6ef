use Rattle.std.proofs.Common.{◌≡◌, ◌++◌, take}
use Rattle.op_select.specs.Selection.{code_items}
use Rattle.op_select.proofs.instruction.push_code.Given as goal

abbrev pub invariant-loop-instruction : goal.invariant-loop-instruction
invariant-loop-instruction l =
    l.items.items ≡ l.fn.items.items ++ code_items l.routine (take l.instruction-index l.code)
