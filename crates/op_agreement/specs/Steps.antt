-- Steps of low code that come along with one of managed code.
use Rattle.std.specs.Prelude.{◌≡◌, ◌≤◌, ℕ, ◌*◌, Bool, true, false}
use Rattle.std.specs.List.{list_any}
use Rattle.op_low.specs.Machine.{Event, Taken, Written, cost, low_machine}
use Rattle.op_low.specs.State.{State, Ending, Running, Ended, Bad}
use Rattle.op_mir.specs.Machine.{MirState, mir_cost, mir_step}
use Rattle.op_simulation.specs.System.{System, run, spent, trace}
use Rattle.op_agreement.specs.Settings.{Setting, managed}
use Rattle.op_agreement.specs.Stands.{Stands}

-- what a step costs: what has ended or is bad costs nothing more
abbrev pub cost_going : Setting → State → Ending → ℕ
cost_going g l Running = cost g.low g.placement Running l
cost_going g l (Ended status) = 0
cost_going g l Bad = 0

-- the machine of low code, whose steps cost until it has ended
abbrev pub counted : Setting → System Event
counted g = record (low_machine g.low g.placement) { cost = λ l. cost_going g l l.ending }

-- the input was read, also where nothing was left of it
abbrev pub is_read : Event → Bool
is_read (Written output bytes) = false
is_read (Taken bytes) = true

-- so many steps at least lead from one state of low code to another, at so much at most, and do not read the input
pub record Goes (g : Setting) (least most : ℕ) (l k : State) : Type 0 where
  pub steps : ℕ
  pub enough : least ≤ steps
  pub within : spent (counted g) steps l ≤ most
  pub ends : run (low_machine g.low g.placement) steps l ≡ k
  pub unread : list_any is_read (trace (low_machine g.low g.placement) steps l) ≡ false

-- what low code costs at most for a cost of one of managed code
abbrev pub most_for_one : ℕ
most_for_one = 32

-- a step of managed code, and where low code comes to meanwhile, in one step at least and by so much for what the step costs
pub record Comes (g : Setting) (m : MirState) (l : State) : Type 0 where
  pub to : State
  pub goes : Goes g 1 (most_for_one * mir_cost (managed g) m) l to
  pub stands : Stands g (mir_step (managed g) m) to
