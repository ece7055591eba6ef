-- Code of which instructions are left out.
use Rattle.std.specs.Prelude.{◌≡◌, ◌≤◌, List, [], ◌∷◌}
use Rattle.op_low.specs.declared.code.Block.{Block}
use Rattle.op_low.specs.declared.code.Routine.{Routine}
use Rattle.op_low.specs.declared.instruction.Instruction.{Instruction}
use Rattle.op_optimize.specs.Weights.{low_weight}

-- some instructions are left out, and each other one is one that counts for no more
pub data Thins : (code thinner : List Instruction) → Type 0 where
  Nothing : Thins [] []
  LeftOut : {i : Instruction} {is js : List Instruction} → Thins is js → Thins (i ∷ is) js
  Kept : {i j : Instruction} {is js : List Instruction} → low_weight j ≤ low_weight i → Thins is js → Thins (i ∷ is) (j ∷ js)

pub data ThinsBlocks : (blocks thinner : List Block) → Type 0 where
  NoBlocks : ThinsBlocks [] []
  OneMore : {b c : Block} {bs cs : List Block} → Thins b.code c.code → ThinsBlocks bs cs → ThinsBlocks (b ∷ bs) (c ∷ cs)

-- with the same parameters and locals, and no more registers
pub record ThinsRoutine (routine thinner : Routine) : Type 0 where
  pub parameters : thinner.parameters ≡ routine.parameters
  pub locals : thinner.locals ≡ routine.locals
  pub registers : thinner.registers ≤ routine.registers
  pub blocks : ThinsBlocks routine.blocks thinner.blocks

pub data ThinsRoutines : (routines thinner : List Routine) → Type 0 where
  NoRoutines : ThinsRoutines [] []
  OneRoutineMore : {r t : Routine} {rs ts : List Routine} → ThinsRoutine r t → ThinsRoutines rs ts → ThinsRoutines (r ∷ rs) (t ∷ ts)
