-- What the optimizer makes of a program: each routine stays, or its blocks are simplified and its registers get other names.
use Rattle.std.specs.Prelude.{◌≡◌, ◌≤◌, ℕ, List}
use Rattle.op_low.specs.declared.code.Low.{Low}
use Rattle.op_low.specs.declared.code.Routine.{Routine}
use Rattle.op_optimize.specs.Programs.{EachRoutine}
use Rattle.op_optimize.specs.Renaming.{RenamesRoutine}
use Rattle.op_optimize.specs.Simplifying.{SimplifiesBlocks}

-- with no more registers
pub record ImprovesRoutine (routine better : Routine) : Type 0 where
  pub live : List ℕ
  pub middle : Routine
  pub simplifies : SimplifiesBlocks live routine middle
  pub renames : RenamesRoutine middle better
  pub registers : better.registers ≤ routine.registers

pub data OptimizesRoutine (routine better : Routine) : Type 0 where
  Untouched : better ≡ routine → OptimizesRoutine routine better
  Improved : ImprovesRoutine routine better → OptimizesRoutine routine better

abbrev pub Optimizes : (low better : Low) → Type 0
Optimizes low better = EachRoutine OptimizesRoutine low better
