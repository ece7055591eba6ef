use Rattle.op_rt_heap.proofs.ExampleRuns.{behind_third, merged, no_hole}
use Rattle.op_rt_heap.proofs.theorems.examples_run.Goals as goal

pub returns : goal.returns
returns c = record { merged = merged; behind_third = behind_third; no_hole = no_hole }
