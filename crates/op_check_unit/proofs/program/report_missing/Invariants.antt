use Rattle.std.proofs.Common.{◌≡◌, drop}
use Rattle.op_core.specs.Faults.{kept}
use Rattle.op_check_unit.proofs.program.report_missing.Given as goal
use Rattle.op_check_unit.specs.Programs.{awaited}
use Rattle.op_judgement.specs.Judgement.{checked}

abbrev pub invariant-loop-place : goal.invariant-loop-place
invariant-loop-place l = kept l.sink.kept (checked (awaited (drop l.place-index l.places))).faults ≡ kept l.fn.sink.kept (checked (awaited l.places)).faults
