use Rattle.std.proofs.Common.{◌∙◌, arith}
use Rattle.op_constants.proofs.Keeping.{literals_done}
use Rattle.op_constants.proofs.literals.literals_of.Goals as goal

pub returns : goal.returns
returns c =
    c.in_ok-keep_routine-2.ensures
    ∙ literals_done c.args.core.now c.args.mir.now c.loop-code.texts c.loop-code.routine.0 c.loop-code.code-index c.as_slice-code-items.result.now c.loop-code.invariant.rest c.loop-code.invariant.number c.as_slice-code-items.ensures
    (omega (arith, c.loop-code-test.false, c.loop-code.auto.code-index-end))
