use Rattle.op_correctness.proofs.Correct.{better_buildable, buildable, correct}
use Rattle.op_correctness.proofs.Ending.{ends_as_meant}
use Rattle.op_correctness.proofs.ManagedValid.{managed_valid}
use Rattle.op_correctness.proofs.Needed.{kept}
use Rattle.op_correctness.proofs.ReadCalls.{looks_as_meant, never_calls}
use Rattle.op_correctness.proofs.Sized.{limited, sized}
use Rattle.op_correctness.proofs.theorems.image_agrees.Goals as goal

pub returns : goal.returns
returns c = record { agrees = correct; ends = ends_as_meant; calls = looks_as_meant; silent = never_calls; buildable = buildable; better = better_buildable; sized = λ core mir settings better plain sound lowers optimizes. sized core mir settings plain sound lowers better optimizes; limited = limited; valid = managed_valid; kept = kept }
