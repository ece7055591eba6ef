use Rattle.op_counts.proofs.HoldersCounted.{holders_counted}
use Rattle.op_counts.proofs.theorems.holders_are_counted.Goals as goal

pub returns : goal.returns
returns c = record { counted = λ core s y. holders_counted core s y }
