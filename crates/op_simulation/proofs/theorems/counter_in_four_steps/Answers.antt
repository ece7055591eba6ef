use Rattle.op_simulation.specs.Slowed.{counter}
use Rattle.op_simulation.proofs.Slowing.{slowed_twice, slowed_runs}
use Rattle.op_simulation.proofs.theorems.counter_in_four_steps.Goals as goal

pub returns : goal.returns
returns c = record { follows = slowed_twice counter; agree = slowed_runs counter }
