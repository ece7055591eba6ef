use Rattle.std.proofs.Common.{◌≡◌, drop, fold}
use Rattle.op_constants.specs.Keeping.{with_text, with_texts}
use Rattle.op_constants.proofs.literals.keep_all.Given as goal

abbrev pub invariant-loop-literal : goal.invariant-loop-literal
invariant-loop-literal l = fold with_text l.texts (drop l.literal-index l.literal-items) ≡ with_texts l.fn.texts l.literal-items
