-- In what sense selected code goes along with low code.
use Rattle.std.specs.Prelude.{◌≡◌, ℕ}
use Rattle.op_simulation.specs.Matching.{Matching}
use Rattle.op_low.specs.Machine.{low_machine, NeverBad}
use Rattle.op_low.specs.Runs.{RunsValid}
use Rattle.op_low.specs.State.{State as LowState, Ending as LowEnding, Running, Ended, Bad}
use Rattle.op_rv.specs.State.{State, Ended as HasEnded}
use Rattle.op_select.specs.Going.{Setting, placement_of, Goes, IsSafe}
use Rattle.op_select.specs.RiscvMachine.{riscv_machine}

-- both have ended, and wrote the same
pub record Finished (status : ℕ) (m : LowState) (b : State) : Type 0 where
  pub ending : b.ending ≡ HasEnded status
  pub output : b.output ≡ m.output
  pub errors : b.errors ≡ m.errors
  pub input : b.input ≡ m.input

abbrev pub MatchesBy : Setting → LowEnding → LowState → State → Type 0
MatchesBy w Running m b = Goes w m b
MatchesBy w (Ended status) m b = Finished status m b
MatchesBy w Bad m b = ⊥

-- states of valid code that never does what it must not do
pub record Matches (w : Setting) (m : LowState) (b : State) : Type 0 where
  pub valid : RunsValid w.low m
  pub good : NeverBad w.low (placement_of w) m
  pub states : MatchesBy w m.ending m b

-- how many steps of the machine a cost of one takes at most
abbrev pub most_steps : ℕ
most_steps = 32

-- the machine shows the same, never faults, and takes at most so many steps for a cost
abbrev pub selected : (w : Setting) → Matching (low_machine w.low (placement_of w)) riscv_machine
selected w =
    record { states = Matches w; moments = λ m b. IsSafe b.ending; traces = λ xs ys. xs ≡ ys; factor = most_steps }
