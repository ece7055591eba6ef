-- What is proved of the number of holders.
use Rattle.std.specs.Prelude.{◌≡◌, ℕ, length}
use Rattle.op_core.specs.declared.program.Core.{Core}
use Rattle.op_counts.specs.Counting.{held}
use Rattle.op_meaning.specs.Frames.{State}
use Rattle.op_meaning.specs.Holding.{holders}

-- as many places contain a name as the sum over the holders of the state says
abbrev pub HoldersAreCounted : Type 0
HoldersAreCounted = (core : Core) (s : State) (y : ℕ) → length (holders core s y) ≡ held core s y
