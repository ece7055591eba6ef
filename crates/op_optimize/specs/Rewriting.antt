-- Instructions over the registers of the better code. None where there is none.
use Rattle.std.specs.Prelude.{Bool, false, Option, Some, None, List, [], ◌∷◌, ◌++◌, nat_eq, if◌then◌else◌}
use Rattle.op_low.specs.declared.ids.VirtualRegister.{VirtualRegister}
use Rattle.op_low.specs.declared.instruction.Call.{Call as Operands}
use Rattle.op_low.specs.declared.instruction.Instruction.{Instruction}
use Rattle.op_low.specs.declared.instruction.Instruction.TheVariants.{Const, Address, Local, Move, Alu, AluImm, Shift, Load, Store, Call, CallAt, Branch, Jump, Return, Raise, Read, Write, Exit}
use Rattle.op_rv.specs.declared.instruction.AluOp.{AluOp}
use Rattle.op_rv.specs.declared.instruction.AluOp.TheVariants.{Slt, Sltu, Xor}
use Rattle.op_rv.specs.declared.instruction.BranchOp.{BranchOp}
use Rattle.op_rv.specs.declared.instruction.BranchOp.TheVariants.{Beq, Bne, Blt, Bltu}
use Rattle.op_rv.specs.declared.symbol.BlockId.{BlockId}
use Rattle.op_optimize.specs.Facts.{source, value_in}
use Rattle.op_optimize.specs.Values.{folded, is_commutative, opposite}
use Rattle.op_optimize.specs.declared.fact.Fact.{Fact}
use Rattle.op_optimize.specs.declared.fact.Value.{Value}
use Rattle.op_optimize.specs.declared.fact.Value.TheVariants.{Copy, Number, Difference, Truth}
use Rattle.op_optimize.specs.declared.value.NumberForm.{NumberForm}
use Rattle.op_optimize.specs.declared.value.NumberForm.TheVariants.{Imm, ByShift}

-- ---- operations

abbrev pub folded_into : NumberForm → (to left : VirtualRegister) → Instruction
folded_into (Imm op imm) to left = AluImm op to left imm
folded_into (ByShift op amount) to left = Shift op to left amount

abbrev pub fold_both : Option NumberForm → VirtualRegister → Option VirtualRegister → Option Instruction
fold_both None to left = None
fold_both (Some f) to None = None
fold_both (Some f) to (Some left) = Some (folded_into f to left)

-- an operation with the value on its right
unfoldable pub with_value : AluOp → VirtualRegister → Option VirtualRegister → Value → Option Instruction
with_value op to left (Number n) = fold_both (folded op n) to left
with_value op to left _ = None

abbrev pub alu_both : AluOp → VirtualRegister → (left right : Option VirtualRegister) → Option Instruction
alu_both op to None right = None
alu_both op to (Some left) None = None
alu_both op to (Some left) (Some right) = Some (Alu op to left right)

abbrev pub first_of : Option Instruction → Option Instruction → Option Instruction
first_of None other = other
first_of (Some i) other = Some i

abbrev pub with_left : List Fact → (nothing : VirtualRegister) → AluOp → (to left right : VirtualRegister) → Option Instruction
with_left facts nothing op to left right = if is_commutative op then with_value op to (source facts nothing right) (value_in facts left) else None

unfoldable pub operation : List Fact → (nothing : VirtualRegister) → AluOp → (to left right : VirtualRegister) → Option Instruction
operation facts nothing op to left right =
    first_of (with_value op to (source facts nothing left) (value_in facts right))
    (first_of (with_left facts nothing op to left right) (alu_both op to (source facts nothing left) (source facts nothing right)))

-- a truth is one instruction where it is that something is less
abbrev pub truth_into : BranchOp → (to left right : VirtualRegister) → Option Instruction
truth_into Blt to left right = Some (Alu Slt to left right)
truth_into Bltu to left right = Some (Alu Sltu to left right)
truth_into _ to left right = None

-- a register becomes a value
unfoldable pub moved : VirtualRegister → Value → Option Instruction
moved to (Copy of) = Some (Move to of)
moved to (Number n) = Some (Const to n)
moved to (Difference left right) = Some (Alu Xor to left right)
moved to (Truth op left right) = truth_into op to left right

-- ---- branches

abbrev pub is_zero : Value → Bool
is_zero (Number n) = nat_eq n 0
is_zero _ = false

-- where a truth is compared with 0
abbrev pub tested : (op truth : BranchOp) → Option BranchOp
tested Bne truth = Some truth
tested Beq truth = Some (opposite truth)
tested _ truth = None

abbrev pub branch_on : Option BranchOp → (left right : VirtualRegister) → BlockId → Option Instruction
branch_on None left right block = None
branch_on (Some op) left right block = Some (Branch op left right block)

abbrev pub branch_both : BranchOp → (left right : Option VirtualRegister) → BlockId → Option Instruction
branch_both op None right block = None
branch_both op (Some left) None block = None
branch_both op (Some left) (Some right) block = Some (Branch op left right block)

abbrev pub branch_by : List Fact → (nothing : VirtualRegister) → BranchOp → (left : Value) → (a b : VirtualRegister) → BlockId → Option Instruction
branch_by facts nothing op (Truth truth left right) a b block = if is_zero (value_in facts b) then branch_on (tested op truth) left right block else None
branch_by facts nothing op v a b block = branch_both op (source facts nothing a) (source facts nothing b) block

unfoldable pub branch : List Fact → (nothing : VirtualRegister) → BranchOp → (left right : VirtualRegister) → BlockId → Option Instruction
branch facts nothing op left right block = branch_by facts nothing op (value_in facts left) left right block

-- ---- calls

-- behind what there is already
abbrev pub behind : {T : Type 0} → List T → Option (List T) → Option (List T)
behind front None = None
behind front (Some rest) = Some (front ++ rest)

abbrev pub and_one : Option VirtualRegister → Option (List VirtualRegister) → Option (List VirtualRegister)
and_one None rs = None
and_one (Some r) None = None
and_one (Some r) (Some rs) = Some (r ∷ rs)

unfoldable pub sources : List Fact → (nothing : VirtualRegister) → List VirtualRegister → Option (List VirtualRegister)
sources facts nothing [] = Some []
sources facts nothing (r ∷ rs) = and_one (source facts nothing r) (sources facts nothing rs)

abbrev pub operands_by : Operands → VirtualRegister → Option (List VirtualRegister) → Option Operands
operands_by call to None = None
operands_by call to (Some arguments) = Some (record { arguments = arguments; to = to; landing = call.landing })

unfoldable pub operands_of : List Fact → (nothing : VirtualRegister) → Operands → VirtualRegister → Option Operands
operands_of facts nothing call to = operands_by call to (sources facts nothing call.arguments)

-- ---- the instruction that writes `to`, where it writes a register

abbrev pub map_one : (VirtualRegister → Instruction) → Option VirtualRegister → Option Instruction
map_one f None = None
map_one f (Some a) = Some (f a)

abbrev pub map_two : (VirtualRegister → VirtualRegister → Instruction) → (a b : Option VirtualRegister) → Option Instruction
map_two f None b = None
map_two f (Some a) None = None
map_two f (Some a) (Some b) = Some (f a b)

abbrev pub map_call : (Operands → Instruction) → Option Operands → Option Instruction
map_call f None = None
map_call f (Some call) = Some (f call)

abbrev pub map_call_at : Option VirtualRegister → Option Operands → Option Instruction
map_call_at None call = None
map_call_at (Some address) None = None
map_call_at (Some address) (Some call) = Some (CallAt address call)

unfoldable pub rewritten : List Fact → (nothing to : VirtualRegister) → Instruction → Option Instruction
rewritten facts nothing to (Const _ n) = Some (Const to n)
rewritten facts nothing to (Address _ symbol) = Some (Address to symbol)
rewritten facts nothing to (Local _ offset) = Some (Local to offset)
rewritten facts nothing to (Move _ from) = moved to (value_in facts from)
rewritten facts nothing to (Alu op _ left right) = operation facts nothing op to left right
rewritten facts nothing to (AluImm op _ left imm) = map_one (λ a. AluImm op to a imm) (source facts nothing left)
rewritten facts nothing to (Shift op _ left amount) = map_one (λ a. Shift op to a amount) (source facts nothing left)
rewritten facts nothing to (Load op _ base offset) = map_one (λ a. Load op to a offset) (source facts nothing base)
rewritten facts nothing to (Store op v base offset) = map_two (λ a b. Store op a b offset) (source facts nothing v) (source facts nothing base)
rewritten facts nothing to (Call id call) = map_call (Call id) (operands_of facts nothing call to)
rewritten facts nothing to (CallAt address call) = map_call_at (source facts nothing address) (operands_of facts nothing call to)
rewritten facts nothing to (Branch op left right block) = branch facts nothing op left right block
rewritten facts nothing to (Jump block) = Some (Jump block)
rewritten facts nothing to (Return v) = map_one Return (source facts nothing v)
rewritten facts nothing to Raise = Some Raise
rewritten facts nothing to (Read _ buffer size) = map_two (Read to) (source facts nothing buffer) (source facts nothing size)
rewritten facts nothing to (Write output buffer size) = map_two (Write output) (source facts nothing buffer) (source facts nothing size)
rewritten facts nothing to (Exit status) = map_one Exit (source facts nothing status)
