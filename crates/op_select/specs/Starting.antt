-- How the machine begins, where the head of the entry routine stands.
use Rattle.std.specs.Prelude.{◌≡◌, ◌<◌, ◌≤◌, ℕ, ◌+◌, ◌-◌, ◌*◌, ◌%◌, ◌^◌, List, [], slice_index}
use Rattle.op_simulation.specs.Path.{Path}
use Rattle.op_simulation.specs.System.{run}
use Rattle.op_low.specs.Machine.{NeverBad, start}
use Rattle.op_low.specs.State.{State as LowState, space}
use Rattle.op_rv.specs.State.{State}
use Rattle.op_select.specs.Going.{Setting, routine_in, locals_in, placement_of, Sound, IsSafe}
use Rattle.op_select.specs.RiscvMachine.{riscv_machine}
use Rattle.op_select.specs.Selected.{Finished, Matches}

-- the state of low code at its beginning
abbrev pub start_in : Setting → (ℕ → ℕ) → List ℕ → LowState
start_in w memory input = start w.low (placement_of w) w.bottom (w.top - w.bottom) memory input

-- before the head of the entry routine: the stack is empty, and has room for the routine
pub record Starts (w : Setting) (memory : ℕ → ℕ) (input : List ℕ) (b : State) : Type 0 where
  pub sound : Sound w b
  pub pc : b.pc ≡ w.placing.head w.low.entry.0
  pub limit : slice_index b.registers 8 ≡ w.bottom
  pub sp : slice_index b.registers 2 ≡ w.top
  pub word : slice_index b.registers 1 < 2 ^ 32
  pub memory_below : (x : ℕ) → x < w.bottom → b.memory x ≡ memory x
  pub input_is : b.input ≡ input
  pub input_bytes : (k : ℕ) → slice_index input k < 2 ^ 8
  pub output : b.output ≡ []
  pub errors : b.errors ≡ []
  pub bottom_aligned : w.bottom % 4 ≡ 0
  pub top_aligned : w.top % 4 ≡ 0
  pub room : w.bottom + space w.low (placement_of w) w.low.entry.0 ≤ w.top

-- in a few steps it comes to a state that stands for the beginning of low code
pub record Begins (w : Setting) (memory : ℕ → ℕ) (input : List ℕ) (b : State) : Type 0 where
  pub after : State
  pub steps : ℕ
  pub within : steps ≤ 12 + 3 * (routine_in w w.low.entry.0).registers + locals_in w w.low.entry.0
  pub path : Path riscv_machine (λ s. IsSafe s.ending) b after steps [] steps
  pub matches : NeverBad w.low (placement_of w) (start_in w memory input) → Matches w (start_in w memory input) after

-- so many steps of the machine come to the end that low code comes to
pub record EndsAlike (status : ℕ) (m : LowState) (b : State) : Type 0 where
  pub steps : ℕ
  pub finished : Finished status m (run riscv_machine steps b)
