use Rattle.std.proofs.Common.{◌≡◌, drop}
use Rattle.op_core.specs.Faults.{kept}
use Rattle.op_check_unit.proofs.program.report_missing_in.Given as goal
use Rattle.op_check_unit.specs.Programs.{awaited_in}
use Rattle.op_judgement.specs.Judgement.{checked}

abbrev pub invariant-loop-number : goal.invariant-loop-number
invariant-loop-number l = kept l.sink.kept (checked (awaited_in l.unit l.routines l.number (drop l.number l.places))).faults ≡ kept l.fn.sink.kept (checked (awaited_in l.unit l.routines 0 l.places)).faults
