use Rattle.op_optimize.proofs.Optimized.{shortens, stays_valid, thins}
use Rattle.op_optimize.proofs.theorems.optimized_code_shortens.Goals as goal

pub returns : goal.returns
returns c = record {
  runs = λ low better p optimizes valid bottom room memory input never. shortens low better optimizes p valid bottom room memory input never;
  valid = stays_valid;
  thins = thins;
}
