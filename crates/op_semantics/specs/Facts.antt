-- What holds of the source machine whatever the program is.
use Rattle.std.specs.Prelude.{◌≡◌, ℕ}
use Rattle.op_semantics.specs.Frames.{Program, State}
use Rattle.op_semantics.specs.Machine.{step}
use Rattle.op_semantics.specs.World.{Ended}

-- a program that has ended stays as it is
abbrev pub StaysEnded : Type 0
StaysEnded = (p : Program) (s : State) (status : ℕ) → s.world.ending ≡ Ended status → step p s ≡ s
