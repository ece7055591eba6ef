use Rattle.op_low.proofs.ExampleRuns.{example_valid, example_returns, example_raises}
use Rattle.op_low.proofs.theorems.example_runs.Goals as goal

pub returns : goal.returns
returns c = record { valid = example_valid; returns = example_returns; raises = example_raises }
