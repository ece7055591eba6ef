-- The values that instructions write, where they are such as facts have, and operations with a number.
use Rattle.std.specs.Prelude.{ℕ, zero, suc, pos, ◌-◌, ◌-ℤ◌, ◌%◌, ◌^◌, Bool, true, false, ◌&&◌, Option, Some, None, List, nat_eq, nat_le, nat_lt, if◌then◌else◌}
use Rattle.std.specs.Ordering.{int_eq}
use Rattle.op_low.specs.declared.ids.VirtualRegister.{VirtualRegister}
use Rattle.op_low.specs.declared.instruction.Instruction.{Instruction}
use Rattle.op_low.specs.declared.instruction.Instruction.TheVariants.{Const, Address, Local, Move, Alu, AluImm, Shift, Load, Store, Call, CallAt, Branch, Jump, Return, Raise, Read, Write, Exit}
use Rattle.op_rv.specs.declared.instruction.AluOp.{AluOp}
use Rattle.op_rv.specs.declared.instruction.AluOp.TheVariants.{Add, Sub, Sll, Slt, Sltu, Xor, Srl, Sra, Or, And, Mul}
use Rattle.op_rv.specs.declared.instruction.BranchOp.{BranchOp}
use Rattle.op_rv.specs.declared.instruction.BranchOp.TheVariants.{Beq, Bne, Blt, Bge, Bltu, Bgeu}
use Rattle.op_rv.specs.declared.instruction.ImmOp.{ImmOp}
use Rattle.op_rv.specs.declared.instruction.ImmOp.TheVariants.{Addi, Slti, Sltiu, Xori, Ori, Andi}
use Rattle.op_rv.specs.declared.instruction.ShiftOp.{ShiftOp}
use Rattle.op_rv.specs.declared.instruction.ShiftOp.TheVariants.{Slli, Srli, Srai}
use Rattle.op_optimize.specs.Contents.{has_already}
use Rattle.op_optimize.specs.Facts.{source, value_in}
use Rattle.op_optimize.specs.declared.fact.Fact.{Fact}
use Rattle.op_optimize.specs.declared.fact.Known.{Known}
use Rattle.op_optimize.specs.declared.fact.Value.{Value}
use Rattle.op_optimize.specs.declared.fact.Value.TheVariants.{Copy, Number, Difference, Truth}
use Rattle.op_optimize.specs.declared.value.NumberForm.{NumberForm}
use Rattle.op_optimize.specs.declared.value.NumberForm.TheVariants.{Imm, ByShift}

unfoldable pub opposite : BranchOp → BranchOp
opposite Beq = Bne
opposite Bne = Beq
opposite Blt = Bge
opposite Bge = Blt
opposite Bltu = Bgeu
opposite Bgeu = Bltu

-- ---- the value of an operation

abbrev pub alu_by : AluOp → (left right : VirtualRegister) → Option Value
alu_by Slt left right = Some (Truth Blt left right)
alu_by Sltu left right = Some (Truth Bltu left right)
alu_by Xor left right = Some (Difference left right)
alu_by _ left right = None

abbrev pub alu_from : AluOp → (left right : Option VirtualRegister) → Option Value
alu_from op None right = None
alu_from op (Some left) None = None
alu_from op (Some left) (Some right) = alu_by op left right

unfoldable pub alu_value : List Fact → (nothing : VirtualRegister) → AluOp → (left right : VirtualRegister) → Option Value
alu_value facts nothing op left right = alu_from op (source facts nothing left) (source facts nothing right)

-- with 1: what is equal to 0, and a truth that is changed
unfoldable pub value_with_one : (nothing : VirtualRegister) → ImmOp → Value → Option Value
value_with_one nothing Sltiu (Copy of) = Some (Truth Beq of nothing)
value_with_one nothing Sltiu (Difference left right) = Some (Truth Beq left right)
value_with_one nothing Sltiu (Truth op left right) = Some (Truth (opposite op) left right)
value_with_one nothing Xori (Truth op left right) = Some (Truth (opposite op) left right)
value_with_one nothing op v = None

unfoldable pub value_of : List Fact → (nothing : VirtualRegister) → Instruction → Option Value
value_of facts nothing (Const to n) = Some (Number n)
value_of facts nothing (Address to symbol) = None
value_of facts nothing (Local to offset) = None
value_of facts nothing (Move to from) = Some (value_in facts from)
value_of facts nothing (Alu op to left right) = alu_value facts nothing op left right
value_of facts nothing (AluImm op to left imm) = if int_eq imm (pos 1) then value_with_one nothing op (value_in facts left) else None
value_of facts nothing (Shift op to left amount) = None
value_of facts nothing (Load op to base offset) = None
value_of facts nothing (Store op v base offset) = None
value_of facts nothing (Call id call) = None
value_of facts nothing (CallAt address call) = None
value_of facts nothing (Branch op left right block) = None
value_of facts nothing (Jump block) = None
value_of facts nothing (Return v) = None
value_of facts nothing Raise = None
value_of facts nothing (Read to buffer size) = None
value_of facts nothing (Write output buffer size) = None
value_of facts nothing (Exit status) = None

-- what a register would have behind an instruction that writes it
unfoldable pub value_behind : List Fact → List Known → (nothing to : VirtualRegister) → Instruction → Option Value
value_behind facts known nothing to i = if has_already known to i then Some (Copy to) else value_of facts nothing i

-- ---- operations with a number on the right

-- a number of 12 bits with a sign, as a word
abbrev pub near : ImmOp → ℕ → Option NumberForm
near op n =
    if nat_lt n 2048 then Some (Imm op (pos n))
    else (if nat_le (2 ^ 32 - 2048) n && nat_lt n (2 ^ 32) then Some (Imm op (pos n -ℤ pos (2 ^ 32))) else None)

-- its opposite is one
abbrev pub opposite_near : ℕ → Option NumberForm
opposite_near n = near Addi ((2 ^ 32 - n) % 2 ^ 32)

abbrev pub shifted : ShiftOp → ℕ → Option NumberForm
shifted op n = Some (ByShift op (n % 32))

abbrev pub power_by : ℕ → Option NumberForm
power_by zero = None
power_by (suc amount) = Some (ByShift Slli (suc amount))

-- the power, below so many, to which 2 is a number; else 0
unfoldable pub power_below : ℕ → ℕ → ℕ
power_below zero n = 0
power_below (suc k) n = if nat_eq n (2 ^ k) then k else power_below k n

-- of a word
unfoldable pub power_of : ℕ → ℕ
power_of n = power_below 32 n

unfoldable pub folded : AluOp → ℕ → Option NumberForm
folded Add n = near Addi n
folded Sub n = opposite_near n
folded And n = near Andi n
folded Or n = near Ori n
folded Xor n = near Xori n
folded Slt n = near Slti n
folded Sltu n = near Sltiu n
folded Sll n = shifted Slli n
folded Srl n = shifted Srli n
folded Sra n = shifted Srai n
folded Mul n = power_by (power_of n)
folded _ n = None

-- the two operands may change places
unfoldable pub is_commutative : AluOp → Bool
is_commutative Add = true
is_commutative Mul = true
is_commutative _ = false
