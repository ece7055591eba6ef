-- What it is to have a program in managed code.
use Rattle.std.specs.Prelude.{◌≡◌, ℕ, ◌-◌, ◌^◌, min, List, [], ◌∷◌, ◌++◌, length, Some, slice_get}
use Rattle.std.specs.List.{flat_map}
use Rattle.op_core.specs.declared.program.Core.{Core}
use Rattle.op_core.specs.declared.program.Unit.{Unit as UnitRow}
use Rattle.op_lower.specs.Seen.{seen_blocks}
use Rattle.op_lower.specs.Temporaries.{in_blocks}
use Rattle.op_meaning.specs.Charge.{charge_of}
use Rattle.op_meaning.specs.Frames.{program_of}
use Rattle.op_meaning.specs.Shapes.{variables_of}
use Rattle.op_mir.specs.Code.{ret, unit_code, blocks_of, items_of, blocks_in}
use Rattle.op_mir.specs.View.{view_of}
use Rattle.op_mir.specs.declared.code.Mir.{Mir}
use Rattle.op_mir.specs.declared.code.Routine.{Routine}

-- the routine of the number: the blocks of its items; what is charged is exact up to the greatest number of 64 bits
pub record IsRoutine (core : Core) (r : ℕ) (routine : Routine) : Type 0 where
  pub blocks : (stack : ℕ) → seen_blocks core r routine.blocks ≡ blocks_of (items_of (program_of core stack) r)
  pub charge : routine.charge ≡ min (charge_of core (record { 0 = r })) (2 ^ 64 - 1)
  pub locals : routine.locals ≡ (variables_of core r).count
  pub temporaries : routine.temporaries ≡ in_blocks routine.blocks

abbrev pub AreRoutines : Core → List Routine → Type 0
AreRoutines core routines = (r : ℕ) (routine : Routine) → slice_get routines r ≡ Some routine → IsRoutine core r routine

-- what stands below all activations, and has no variable and no temporary
pub record IsProgram (units : List UnitRow) (routine : Routine) : Type 0 where
  pub blocks : (core : Core) (r : ℕ) → seen_blocks core r routine.blocks ≡ (flat_map unit_code units ++ ret ∷ []) ∷ (ret ∷ []) ∷ []
  pub charge : routine.charge ≡ 0
  pub locals : routine.locals ≡ 0
  pub temporaries : routine.temporaries ≡ 0

-- a program in managed code: its machine sees the blocks and charges of the definition of code, with any stack
pub record Lowers (core : Core) (mir : Mir) : Type 0 where
  pub blocks : (stack r : ℕ) → (view_of core stack mir).blocks r ≡ blocks_in (program_of core stack) r
  pub charges : (stack r : ℕ) → (view_of core stack mir).charge r ≡ min (charge_of core (record { 0 = r })) (2 ^ 64 - 1)
  pub number : length mir.routines ≡ length core.routines
  pub routines : AreRoutines core mir.routines
  pub program : IsProgram core.units mir.program
  pub types : mir.counts.types ≡ length core.types
  pub variables : mir.counts.variables ≡ length core.variables
