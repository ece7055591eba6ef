use Rattle.op_constants.proofs.Reaching.{steps_lead}
use Rattle.op_constants.proofs.TypesArranged.{type_is_arranged}
use Rattle.op_constants.proofs.theorems.types_are_arranged.Goals as goal

pub returns : goal.returns
returns c = record {
  arranged = type_is_arranged;
  lead = λ core keeps first w of last steps p q small reaches e. steps_lead core keeps first w of last steps p q small.there reaches e;
}
