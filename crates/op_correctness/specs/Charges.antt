-- What is asked of a program beside its class, so that its activations take no more than they are charged. A test at run time finds it.
use Rattle.std.specs.Prelude.{◌<◌, ◌≤◌, ℕ, length}
use Rattle.op_core.specs.Rows.{rows}
use Rattle.op_core.specs.declared.program.Core.{Core}
use Rattle.op_places.specs.Frames.{parameters_of}
use Rattle.op_frames.specs.Charged.{IsCharged}
use Rattle.op_frames.specs.Made.{Every}
use Rattle.op_meaning.specs.Shapes.{variables_of}

-- of the routine with the number
pub record HasCharge (core : Core) (r : ℕ) : Type 0 where
  -- each of its variables has words in the charge: none is what a handler declares
  pub variables : Every (λ v. IsCharged v.role) (rows core.variables (variables_of core r))
  -- a call passes no more
  pub parameters : parameters_of core r ≤ 64

abbrev pub HaveCharges : Core → Type 0
HaveCharges core = (r : ℕ) → r < length core.routines → HasCharge core r
