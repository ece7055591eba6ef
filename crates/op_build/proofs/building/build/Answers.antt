use Rattle.std.proofs.Common.{sym}
use Rattle.op_build.proofs.Oversized.{by_constants}
use Rattle.op_build.proofs.building.build.Goals as goal

pub returns-then-not-is_within-clause-failed : goal.returns-then-not-is_within-clause-failed
returns-then-not-is_within-clause-failed c =
    by_constants c.args.core c.args.mir c.args.settings.now c.in_ok-literals.literals c.in_ok-literals.ensures (sym c.if-not-is_within.ensures)

pub returns-clause-made : goal.returns-clause-made
returns-clause-made c = c.image_of.ensures.made c.args.core c.args.mir c.in_ok-code.ensures

pub returns-clause-failed : goal.returns-clause-failed
returns-clause-failed c = c.image_of.ensures.failed c.args.core c.args.mir c.in_ok-code.ensures
