use Rattle.op_optimize.proofs.RenamedRuns.{renaming_shortens}
use Rattle.op_optimize.proofs.RenamedCode.{each_thins, renaming_thins, renaming_valid}
use Rattle.op_optimize.proofs.theorems.renaming_shortens.Goals as goal

pub returns : goal.returns
returns c = record { runs = renaming_shortens; valid = renaming_valid; thins = renaming_thins; thins_each = each_thins }
