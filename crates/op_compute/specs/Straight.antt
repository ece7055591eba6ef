-- Straight code: what instructions without calls and without memory do to the registers, and where they lead.
use Rattle.std.specs.Prelude.{ℕ, ℤ, Bool, ◌≤◌, List, [], ◌∷◌, nat_eq, if◌then◌else◌}
use Rattle.op_low.specs.Machine.{low_machine}
use Rattle.op_low.specs.State.{Placement, State, Running, block_of}
use Rattle.op_low.specs.declared.code.Low.{Low}
use Rattle.op_low.specs.declared.ids.VirtualRegister.{VirtualRegister}
use Rattle.op_low.specs.declared.instruction.Instruction.{Instruction}
use Rattle.op_low.specs.declared.instruction.Instruction.TheVariants.{Const, Move, Alu, AluImm, Shift, Branch, Jump}
use Rattle.op_rv.specs.Operation.{word_from, alu_value, imm_value, shift_value, branch_taken}
use Rattle.op_rv.specs.declared.instruction.AluOp.{AluOp}
use Rattle.op_rv.specs.declared.instruction.BranchOp.{BranchOp}
use Rattle.op_rv.specs.declared.instruction.ImmOp.{ImmOp}
use Rattle.op_rv.specs.declared.instruction.ShiftOp.{ShiftOp}
use Rattle.op_rv.specs.declared.symbol.BlockId.{BlockId}
use Rattle.op_simulation.specs.Path.{Path}

-- ---- registers

-- the registers, of which one has another value
unfoldable pub put : (ℕ → ℕ) → VirtualRegister → ℕ → (ℕ → ℕ)
put f to v = λ r. if nat_eq r to.0 then v else f r

-- what operations come to, and whether a branch is taken
unfoldable pub alu_of : AluOp → ℕ → ℕ → ℕ
alu_of op a b = alu_value op a b

unfoldable pub imm_of : ImmOp → ℕ → ℤ → ℕ
imm_of op a imm = imm_value op a (word_from imm)

unfoldable pub shift_of : ShiftOp → ℕ → ℕ → ℕ
shift_of op a amount = shift_value op a amount

unfoldable pub takes : BranchOp → ℕ → ℕ → Bool
takes op a b = branch_taken op a b

-- where code comes to: behind its end, or to a block, with the registers as they are then; other code is not straight
pub data Outcome : Type 0 where
  Behind : (registers : ℕ → ℕ) → Outcome
  Away : (block : BlockId) → (registers : ℕ → ℕ) → Outcome
  Crooked : Outcome

unfoldable pub outcome : List Instruction → (ℕ → ℕ) → Outcome
outcome [] f = Behind f
outcome (Const to n ∷ is) f = outcome is (put f to n)
outcome (Move to a ∷ is) f = outcome is (put f to (f a.0))
outcome (Alu op to a b ∷ is) f = outcome is (put f to (alu_of op (f a.0) (f b.0)))
outcome (AluImm op to a imm ∷ is) f = outcome is (put f to (imm_of op (f a.0) imm))
outcome (Shift op to a amount ∷ is) f = outcome is (put f to (shift_of op (f a.0) amount))
outcome (Branch op a b block ∷ is) f = if takes op (f a.0) (f b.0) then Away block f else outcome is f
outcome (Jump block ∷ is) f = Away block f
outcome (_ ∷ is) f = Crooked

-- ---- the machine

-- a machine that goes on, with other registers, and with other code in front of it
abbrev pub at : State → (ℕ → ℕ) → List Instruction → State
at m f now = record m { top = record m.top { registers = f; now = now }; ending = Running }

-- steps, of which there are so many at least and at most, lead from one state to another, show nothing, and cost one each; in each state
-- on the way the fact holds
pub record Leads (low : Low) (p : Placement) (holds : State → Type 0) (from to : State) (fewest most : ℕ) : Type 0 where
  pub steps : ℕ
  pub enough : fewest ≤ steps
  pub within : steps ≤ most
  pub path : Path (low_machine low p) holds from to steps [] steps

-- code that is not empty takes a step
abbrev pub fewest_steps : List Instruction → ℕ
fewest_steps [] = 0
fewest_steps (i ∷ is) = 1

-- to the rest of the code, or to a block of the routine, with the registers that it comes to
abbrev pub LeadsTo : Low → Placement → (State → Type 0) → State → State → List Instruction → (fewest most : ℕ) → Outcome → Type 0
LeadsTo low p holds m from rest fewest most (Behind g) = Leads low p holds from (at m g rest) fewest most
LeadsTo low p holds m from rest fewest most (Away block g) = Leads low p holds from (at m g (block_of low m.top.routine block.0)) fewest most
LeadsTo low p holds m from rest fewest most Crooked = Unit {0}
