use Rattle.op_select.proofs.ExamplePlaced.{example_placed}
use Rattle.op_select.proofs.theorems.example_is_placed.Goals as goal

pub returns : goal.returns
returns c = example_placed
