-- How low code begins, and what is asked of its beginning.
use Rattle.std.specs.Prelude.{◌≡◌, ◌<◌, ◌≤◌, ℕ, ◌+◌, ◌-◌, ◌%◌, ◌^◌, true, List, [], length, Some, None}
use Rattle.std.proofs.Common.{get_or}
use Rattle.op_constants.specs.FirstBytes.{first_bytes}
use Rattle.op_constants.specs.FirstFits.{FirstFits}
use Rattle.op_core.specs.Initial.{FirstValue}
use Rattle.op_expand.specs.Calls.{runtime}
use Rattle.op_low.specs.Machine.{start}
use Rattle.op_low.specs.State.{State, space}
use Rattle.op_meaning.specs.Frames.{Program, program_of}
use Rattle.op_meaning.specs.Shapes.{type_of_variable}
use Rattle.op_meaning.specs.Start.{first_pending}
use Rattle.op_mir.specs.Code.{blocks_in}
use Rattle.op_mir.specs.Machine.{mir_start}
use Rattle.op_rv.specs.State.{word_at}
use Rattle.op_rv.specs.declared.symbol.Symbol.TheVariants.{Global}
use Rattle.op_agreement.specs.Fitting.{HasHeap, global_address, global_size}
use Rattle.op_agreement.specs.Settings.{Setting, managed}
use Rattle.op_agreement.specs.Stands.{StandsFor}
use Rattle.op_agreement.specs.Steps.{Goes}
use Rattle.op_agreement.specs.Typed.{IsGlobal}

abbrev pub program_in : Setting → Program
program_in g = program_of g.core g.stack

-- the address of the word that tells the bytes of stack
abbrev pub stack_address : Setting → ℕ
stack_address g = g.placement.address (Global (record { 0 = length g.core.variables }))

-- Global variables have their first values in what is loaded, and a word behind them has the bytes of stack, for which there is room beside
-- what the program itself takes.
pub record IsLoaded (g : Setting) : Type 0 where
  pub entry : g.low.entry.0 ≡ runtime + length g.core.routines
  pub zeros : (v : ℕ) → IsGlobal g.core v → (program_in g).first v ≡ None → (x : ℕ) → x < global_size g v → g.loaded (global_address g v + x) ≡ 0
  pub values : (v : ℕ) (value : FirstValue) → IsGlobal g.core v → (program_in g).first v ≡ Some value → FirstFits g.core (type_of_variable g.core v) value × ((x : ℕ) → x < global_size g v → g.loaded (global_address g v + x) ≡ get_or (first_bytes g.core (type_of_variable g.core v) value) x 0)
  pub bytes : (x : ℕ) → x < g.bottom → g.loaded x < 2 ^ 8
  pub heap : HasHeap g g.loaded
  pub stack_whole : stack_address g % 4 ≡ 0
  pub stack_readable : (x : ℕ) → stack_address g ≤ x → x < stack_address g + 4 → g.placement.rights.readable x ≡ true
  pub stack_below : stack_address g + 4 ≤ g.bottom
  pub stack_told : word_at g.loaded (stack_address g) ≡ g.stack
  pub room : g.bottom + space g.low g.placement (runtime + length g.core.routines) + g.stack + 1024 ≤ g.top
  pub blocks : (managed g).blocks (length g.core.routines) ≡ blocks_in (program_in g) (length g.core.routines)
  pub charge : g.mir.program.charge ≡ 0
  pub pending : first_pending g.core ≡ []

-- over the memory that is loaded
abbrev pub low_begins : Setting → List ℕ → State
low_begins g input = start g.low g.placement g.bottom (g.top - g.bottom) g.loaded input

-- low code comes to a state that stands for the first one of managed code, in two steps
pub record Starts (g : Setting) (input : List ℕ) : Type 0 where
  pub to : State
  pub goes : Goes g 0 2 (low_begins g input) to
  pub stands : StandsFor g (mir_start (program_in g) input) to
