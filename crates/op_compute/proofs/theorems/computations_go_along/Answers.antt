use Rattle.std.proofs.Common.{◌≡◌, true}
use Rattle.op_compute.proofs.ComputingLemmas.{computation_answers, computation_steps, constant}
use Rattle.op_compute.proofs.MeaningLemmas.{performed}
use Rattle.op_compute.proofs.StraightRuns.{straight_runs}
use Rattle.op_compute.proofs.TurningLemmas.{branches_turn}
use Rattle.op_compute.proofs.theorems.computations_go_along.Goals as goal

pub returns : goal.returns
returns c = record {
  mean = performed;
  answer = computation_answers;
  constants = constant;
  lead = branches_turn;
  run = λ low p holds m each code rest f. straight_runs low p (λ s. holds s ≡ true) m each code rest f;
  step = computation_steps;
}
