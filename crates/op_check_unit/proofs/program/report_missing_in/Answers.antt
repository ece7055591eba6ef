use Rattle.op_check_unit.proofs.UnitSteps.{missing_more}
use Rattle.op_check_unit.proofs.program.report_missing_in.Goals as goal

pub loop-number-preserved : goal.loop-number-preserved
loop-number-preserved c =
    missing_more c.args.unit c.args.routines.now c.args.places.now c.loop-number.number _ c.is_of.result c.loop-number.sink.kept c.report_missing_if.new.sink.kept _ c.loop-number-test.true c.is_of.ensures c.report_missing_if.ensures c.loop-number.invariant
