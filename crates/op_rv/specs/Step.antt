-- What a step does, one row an instruction, and a run of steps (RISC-V Unprivileged ISA manual, "RV32I Base Integer
-- Instruction Set").
use Rattle.std.specs.Prelude.{◌≡◌, ℕ, ℤ, zero, suc, ◌+◌, ◌*◌, ◌/◌, ◌%◌, ◌^◌, Option, Some, None, Bool, true, ◌&&◌, nat_eq, if◌then◌else◌}
use Rattle.std.specs.Int.{bytes_low_first}
use Rattle.op_rv.specs.State.{State, Running, Ended, Faulted, Ending, register, with_register, advanced, faulted, half_at, word_at, all_from, with_bytes}
use Rattle.op_rv.specs.Environment.{environment_call}
use Rattle.op_rv.specs.Decoding.{instr_at}
pub use Rattle.op_rv.specs.Operation.{word_from, alu_value, imm_value, shift_value, branch_taken, extended_byte, extended_half}
use Rattle.op_rv.specs.declared.fault.FaultKind.TheVariants.{Fetch, Illegal, Break, Load as LoadFault, Store as StoreFault}
use Rattle.op_rv.specs.declared.instruction.Instr.{Instr}
use Rattle.op_rv.specs.declared.instruction.Instr.TheVariants.{Lui, Auipc, Jal, Jalr, Branch, Load, Store, Imm, Shift, Alu, Fence, Ecall, Ebreak}
use Rattle.op_rv.specs.declared.instruction.LoadOp.{LoadOp}
use Rattle.op_rv.specs.declared.instruction.LoadOp.TheVariants.{Lb, Lh, Lw, Lbu, Lhu}
use Rattle.op_rv.specs.declared.instruction.StoreOp.{StoreOp}
use Rattle.op_rv.specs.declared.instruction.StoreOp.TheVariants.{Sb, Sh, Sw}

-- an address and a distance from it; addresses wrap
abbrev pub offset_from : ℕ → ℤ → ℕ
offset_from a offset = (a + word_from offset) % 2 ^ 32

-- so many bytes at an address are aligned, and each of them has the right
abbrev pub can_access : (ℕ → Bool) → ℕ → ℕ → Bool
can_access right a size = nat_eq (a % size) 0 && all_from right a size

abbrev pub load_size_of : LoadOp → ℕ
load_size_of Lb = 1
load_size_of Lh = 2
load_size_of Lw = 4
load_size_of Lbu = 1
load_size_of Lhu = 2

-- what a load finds at an address
abbrev pub load_value : LoadOp → (ℕ → ℕ) → ℕ → ℕ
load_value Lb memory a = extended_byte (memory a)
load_value Lh memory a = extended_half (half_at memory a)
load_value Lw memory a = word_at memory a
load_value Lbu memory a = memory a
load_value Lhu memory a = half_at memory a

abbrev pub store_size_of : StoreOp → ℕ
store_size_of Sb = 1
store_size_of Sh = 2
store_size_of Sw = 4

-- a load into x0 faults as any other
unfoldable pub load : LoadOp → ℕ → ℕ → State → State
load op rd a s =
    if can_access s.rights.readable a (load_size_of op)
    then advanced (with_register s rd (load_value op s.memory a))
    else faulted LoadFault s

-- the low bytes of the value, lowest first; no other byte changes
unfoldable pub store : StoreOp → ℕ → ℕ → State → State
store op value a s =
    if can_access s.rights.writable a (store_size_of op)
    then advanced (record s { memory = with_bytes s.memory a (bytes_low_first 0 (store_size_of op) value) })
    else faulted StoreFault s

-- to a target, with the address of the next instruction in rd. A target that is not aligned faults at its fetch
abbrev pub linked : ℕ → ℕ → State → State
linked rd target s = record (with_register s rd ((s.pc + 4) % 2 ^ 32)) { pc = target }

-- to an address relative to the pc, or on to the next instruction
abbrev pub branched : Bool → ℤ → State → State
branched taken offset s = if taken then record s { pc = offset_from s.pc offset } else advanced s

-- the rows of the table
unfoldable pub act : Instr → State → State
act (Lui rd upper) s = advanced (with_register s rd (upper * 2 ^ 12))
act (Auipc rd upper) s = advanced (with_register s rd ((s.pc + upper * 2 ^ 12) % 2 ^ 32))
act (Jal rd offset) s = linked rd (offset_from s.pc offset) s
act (Jalr rd rs1 offset) s = linked rd (offset_from (register s rs1) offset / 2 * 2) s
act (Branch op rs1 rs2 offset) s = branched (branch_taken op (register s rs1) (register s rs2)) offset s
act (Load op rd rs1 offset) s = load op rd (offset_from (register s rs1) offset) s
act (Store op rs1 rs2 offset) s = store op (register s rs2) (offset_from (register s rs1) offset) s
act (Imm op rd rs1 imm) s = advanced (with_register s rd (imm_value op (register s rs1) (word_from imm)))
act (Shift op rd rs1 amount) s = advanced (with_register s rd (shift_value op (register s rs1) amount))
act (Alu op rd rs1 rs2) s = advanced (with_register s rd (alu_value op (register s rs1) (register s rs2)))
act (Fence rd rs1 bits) s = advanced s
act Ecall s = environment_call s
act Ebreak s = faulted Break s

-- a word without a row is illegal
unfoldable pub performed : Option Instr → State → State
performed None s = faulted Illegal s
performed (Some i) s = act i s

abbrev pub can_fetch : State → Bool
can_fetch s = can_access s.rights.executable s.pc 4

-- a step of a machine that goes on
unfoldable pub running_step : State → State
running_step s = if can_fetch s then performed (instr_at (word_at s.memory s.pc)) s else faulted Fetch s

unfoldable pub step_by_ending : Ending → State → State
step_by_ending Running s = running_step s
step_by_ending (Ended status) s = s
step_by_ending (Faulted kind pc) s = s

-- a step; a machine that has ended or faulted stays
unfoldable pub step : State → State
step s = step_by_ending s.ending s

-- the next step is the environment call that reads, ECALL 63
pub record CallsRead (s : State) : Type 0 where
  pub runs : s.ending ≡ Running
  pub fetched : can_fetch s ≡ true
  pub call : instr_at (word_at s.memory s.pc) ≡ Some Ecall
  pub number : register s 17 ≡ 63

-- so many steps
unfoldable pub after : ℕ → State → State
after zero s = s
after (suc n) s = after n (step s)
