use Rattle.std.proofs.Common.{sym}
use Rattle.op_build.proofs.Making.{made, not_buildable, too_large}
use Rattle.op_build.proofs.building.image_of.Goals as goal

pub returns-then-not-buildable-clause-failed : goal.returns-then-not-buildable-clause-failed
returns-then-not-buildable-clause-failed c core mir is =
    not_buildable core mir c.args.settings.now c.args.code.low c.args.code.layout is (sym c.if-not-buildable.ensures)

pub returns-in-Ok-clause-made : goal.returns-in-Ok-clause-made
returns-in-Ok-clause-made c core mir is =
    made core mir c.args.settings.now c.args.code.low c.args.code.layout is c.in-Ok.image.items c.in-Ok.ensures.image c.in-Ok.ensures.within c.in-Ok.ensures.means

pub returns-in-Err-Limit-clause-failed : goal.returns-in-Err-Limit-clause-failed
returns-in-Err-Limit-clause-failed c core mir is =
    too_large core mir c.args.settings.now c.args.code.low c.args.code.layout is (c.in-Err-Limit.ensures.limit c.in-Err-Limit.field-0-is)
