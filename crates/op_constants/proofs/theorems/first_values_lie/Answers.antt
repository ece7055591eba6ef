use Rattle.op_constants.proofs.FirstLies.{first-number, first_lies, zeros_lie}
use Rattle.op_constants.proofs.theorems.first_values_lie.Goals as goal

pub returns : goal.returns
returns c = record {
  zeros = zeros_lie;
  first = λ core keeps of small v fits memory a there. first_lies core keeps of v memory a small fits there;
  numbers = first-number;
}
