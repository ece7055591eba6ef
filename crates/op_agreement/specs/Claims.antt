-- In what sense low code goes along with managed code.
use Rattle.std.specs.Prelude.{◌≡◌, ◌≢◌, ℕ, IsTrue, List, []}
use Rattle.std.specs.List.{flat_map, list_any}
use Rattle.op_low.specs.Machine.{Event, NeverBad, Written, Taken}
use Rattle.op_low.specs.State.{Bad, State}
use Rattle.op_low.specs.declared.instruction.Output.TheVariants.{Console, Errors}
use Rattle.op_meaning.specs.Source.{Event as Shown, Written as WrittenAbove, Reported, is_of_input}
use Rattle.op_mir.specs.Machine.{MirState, mir_machine}
use Rattle.op_simulation.specs.Matching.{Agreement, Matching, Follows}
use Rattle.op_agreement.specs.Fitting.{IsFitting}
use Rattle.op_agreement.specs.Settings.{Setting, managed}
use Rattle.op_agreement.specs.Starting.{IsLoaded, Starts}
use Rattle.op_agreement.specs.Stands.{StandsFor}
use Rattle.op_agreement.specs.Steps.{counted, is_read, most_for_one}

-- ---- the bytes of each stream

abbrev pub console_above : Shown → List ℕ
console_above (WrittenAbove bytes) = bytes
console_above _ = []

abbrev pub errors_above : Shown → List ℕ
errors_above (Reported bytes) = bytes
errors_above _ = []

abbrev pub console_below : Event → List ℕ
console_below (Written Console bytes) = bytes
console_below (Written Errors bytes) = []
console_below (Taken bytes) = []

abbrev pub errors_below : Event → List ℕ
errors_below (Written Console bytes) = []
errors_below (Written Errors bytes) = bytes
errors_below (Taken bytes) = []

-- the bytes of each stream are the same, and the input is read only where it is read or looked at above
pub record SameBytes (above : List Shown) (below : List Event) : Type 0 where
  pub console : flat_map console_above above ≡ flat_map console_below below
  pub errors : flat_map errors_above above ≡ flat_map errors_below below
  pub input : IsTrue (list_any is_read below) → IsTrue (list_any is_of_input above)

-- ---- the machines

-- states that stand for one another; low code is never bad on the way, and costs no more than so much for a cost of one; the bytes of each
-- output are the same, and the input is read only where it is read or looked at above
abbrev pub lowered : (g : Setting) → Matching (mir_machine (managed g)) (counted g)
lowered g = record { states = StandsFor g; moments = λ m l. l.ending ≢ Bad; traces = SameBytes; factor = most_for_one }

-- a step of managed code is one or more of low code
abbrev pub LowCodeFollows : Type 0
LowCodeFollows = (g : Setting) → IsFitting g → Follows (lowered g)

-- it begins, and so it goes along for ever from the beginning
abbrev pub ProgramsStart : Type 0
ProgramsStart = (g : Setting) → IsFitting g → IsLoaded g → (input : List ℕ) → Starts g input

abbrev pub AgreesForEver : Type 0
AgreesForEver = (g : Setting) → IsFitting g → (m : MirState) (l : State) → StandsFor g m l → Agreement (lowered g) m l

-- and is never bad
abbrev pub NeverBecomesBad : Type 0
NeverBecomesBad = (g : Setting) (m : MirState) (l : State) → Agreement (lowered g) m l → NeverBad g.low g.placement l
