use Rattle.std.proofs.Common.{◌≡◌, drop, fold}
use Rattle.op_constants.specs.Keeping.{with_block, with_routine}
use Rattle.op_constants.proofs.literals.keep_routine.Given as goal

abbrev pub invariant-loop-block : goal.invariant-loop-block
invariant-loop-block l =
    fold (with_block l.core l.routine.0) l.texts (drop l.block-index l.block-items) ≡ with_routine l.core l.routine.0 l.fn.texts l.code
