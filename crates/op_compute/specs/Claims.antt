-- What is proved of the low code of computations.
use Rattle.std.specs.Prelude.{◌≡◌, ℕ, ◌<◌, ℤ, Bool, true, List, ◌++◌, length}
use Rattle.std.specs.Int.{w32}
use Rattle.std.specs.Int.RustNames.{FitsSigned}
use Rattle.op_compute.specs.Bank.{register_of, work_of}
use Rattle.op_compute.specs.Computing.{constant_code, registers_of, computation_code}
use Rattle.op_compute.specs.Meaning.{meant, gives, settled, to_of, left_of, right_of, HasWords, IsApart, IsWordOf, Answers}
use Rattle.op_compute.specs.Straight.{at, outcome, fewest_steps, LeadsTo}
use Rattle.op_compute.specs.Turning.{Reads, BranchesTurn}
use Rattle.op_compute.specs.declared.bank.Bank.{Bank}
use Rattle.op_compute.specs.declared.bank.Work.{Work}
use Rattle.op_core.specs.declared.program.Core.{Core}
use Rattle.op_low.specs.State.{Placement, State}
use Rattle.op_low.specs.declared.code.Low.{Low}
use Rattle.op_low.specs.declared.ids.VirtualRegister.{VirtualRegister}
use Rattle.op_low.specs.declared.instruction.Instruction.{Instruction}
use Rattle.op_meaning.specs.Actions.{perform}
use Rattle.op_meaning.specs.World.{World, number_at}
use Rattle.op_mir.specs.View.{view_computation}
use Rattle.op_mir.specs.declared.action.Computation.{Computation}

-- what is meant by a computation is what the source machine does, by however many places names are held
abbrev pub ComputationsMean : Type 0
ComputationsMean =
    (core : Core) (held : ℕ → ℕ) (c : Computation) (w : World) → perform core held (view_computation c) w ≡ settled core (to_of c).0 (meant c (number_at w (left_of c).0) (number_at w (right_of c).0)) w

-- the low code of a computation comes to that, from any registers that have the words of its operands
abbrev pub ComputationsAnswer : Type 0
ComputationsAnswer =
    (bank : Bank) (c : Computation) (f : ℕ → ℕ) (x y : ℤ) → HasWords c → IsApart (work_of bank) (registers_of bank c) → IsWordOf (f (register_of bank (left_of c)).0) x → IsWordOf (f (register_of bank (right_of c)).0) y → Answers (work_of bank) (register_of bank (to_of c)) f (meant c x y) (outcome (computation_code bank c) f)

-- it has an instruction at least
abbrev pub ComputationsStep : Type 0
ComputationsStep = (bank : Bank) (c : Computation) → HasWords c → fewest_steps (computation_code bank c) ≡ 1

-- the low code of a constant comes to the number
abbrev pub ConstantsAnswer : Type 0
ConstantsAnswer = (w : Work) (to : VirtualRegister) (f : ℕ → ℕ) (n : ℤ) → FitsSigned w32 n → Answers w to f (gives n) (outcome (constant_code to n) f)

-- the low code of branches leads where the instructions of managed code do
abbrev pub BranchesLead : Type 0
BranchesLead = (w : Work) (from : VirtualRegister) (f : ℕ → ℕ) (x : ℤ) → Reads w from f x → w.second.0 < w.third.0 → BranchesTurn w from f x

-- the machine of low code goes where straight code comes to, in a step an instruction that shows nothing and costs one
abbrev pub StraightCodeLeads : Type 0
StraightCodeLeads =
    (low : Low) (p : Placement) (holds : State → Bool) (m : State) → ((f : ℕ → ℕ) (now : List Instruction) → holds (at m f now) ≡ true) → (code rest : List Instruction) (f : ℕ → ℕ) → LeadsTo low p (λ s. holds s ≡ true) m (at m f (code ++ rest)) rest (fewest_steps code) (length code) (outcome code f)
