use Rattle.op_low.proofs.ValidRuns.{start_runs, run_runs}
use Rattle.op_low.proofs.theorems.valid_code_runs_valid.Goals as goal

pub returns : goal.returns
returns c = record { begins = start_runs; goes_on = run_runs }
