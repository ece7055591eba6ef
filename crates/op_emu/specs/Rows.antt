-- Instructions decoded ahead, and where they stand.
use Rattle.std.specs.Prelude.{◌≡◌, ℕ, ◌+◌, ◌-◌, ◌*◌, ◌%◌, ◌^◌, ◌<◌, ◌≤◌, true, false, Option, Some, None, List, length, IsTrue, slice_index, slice_index_or}
use Rattle.std.specs.Option.{option_map_or}
use Rattle.op_rv.specs.State.{word_at}
use Rattle.op_rv.specs.Encoding.{fits}
use Rattle.op_rv.specs.Decoding.{instr_at}
use Rattle.op_rv.specs.Step.{can_access}
use Rattle.op_rv.specs.declared.instruction.Instr.{Instr}
use Rattle.op_rv.specs.declared.instruction.Instr.TheVariants as form
use Rattle.op_rv.specs.declared.instruction.BranchOp.TheVariants as branch_op
use Rattle.op_rv.specs.declared.instruction.LoadOp.TheVariants as load_op
use Rattle.op_rv.specs.declared.instruction.StoreOp.TheVariants as store_op
use Rattle.op_rv.specs.declared.instruction.ImmOp.TheVariants as imm_op
use Rattle.op_rv.specs.declared.instruction.ShiftOp.TheVariants as shift_op
use Rattle.op_rv.specs.declared.instruction.AluOp.TheVariants as alu_op
use Rattle.op_emu.specs.Region.{Region, byte_in, writable_in, executable_in}
use Rattle.op_emu.specs.declared.memory.Code.{Code}
use Rattle.op_emu.specs.declared.memory.Segment.{Segment}
use Rattle.op_emu.specs.declared.row.Row.{Row}
use Rattle.op_emu.specs.declared.row.Row.TheVariants as flat

-- the instruction that a row stands for; none for a word that is decoded when it is reached
abbrev pub instr_of : Row → Option Instr
instr_of flat.Other = None
instr_of (flat.Lui rd upper) = Some (form.Lui rd upper)
instr_of (flat.Auipc rd upper) = Some (form.Auipc rd upper)
instr_of (flat.Jal rd offset) = Some (form.Jal rd offset)
instr_of (flat.Jalr rd rs1 offset) = Some (form.Jalr rd rs1 offset)
instr_of (flat.Beq rs1 rs2 offset) = Some (form.Branch branch_op.Beq rs1 rs2 offset)
instr_of (flat.Bne rs1 rs2 offset) = Some (form.Branch branch_op.Bne rs1 rs2 offset)
instr_of (flat.Blt rs1 rs2 offset) = Some (form.Branch branch_op.Blt rs1 rs2 offset)
instr_of (flat.Bge rs1 rs2 offset) = Some (form.Branch branch_op.Bge rs1 rs2 offset)
instr_of (flat.Bltu rs1 rs2 offset) = Some (form.Branch branch_op.Bltu rs1 rs2 offset)
instr_of (flat.Bgeu rs1 rs2 offset) = Some (form.Branch branch_op.Bgeu rs1 rs2 offset)
instr_of (flat.Lb rd rs1 offset) = Some (form.Load load_op.Lb rd rs1 offset)
instr_of (flat.Lh rd rs1 offset) = Some (form.Load load_op.Lh rd rs1 offset)
instr_of (flat.Lw rd rs1 offset) = Some (form.Load load_op.Lw rd rs1 offset)
instr_of (flat.Lbu rd rs1 offset) = Some (form.Load load_op.Lbu rd rs1 offset)
instr_of (flat.Lhu rd rs1 offset) = Some (form.Load load_op.Lhu rd rs1 offset)
instr_of (flat.Sb rs1 rs2 offset) = Some (form.Store store_op.Sb rs1 rs2 offset)
instr_of (flat.Sh rs1 rs2 offset) = Some (form.Store store_op.Sh rs1 rs2 offset)
instr_of (flat.Sw rs1 rs2 offset) = Some (form.Store store_op.Sw rs1 rs2 offset)
instr_of (flat.Addi rd rs1 imm) = Some (form.Imm imm_op.Addi rd rs1 imm)
instr_of (flat.Slti rd rs1 imm) = Some (form.Imm imm_op.Slti rd rs1 imm)
instr_of (flat.Sltiu rd rs1 imm) = Some (form.Imm imm_op.Sltiu rd rs1 imm)
instr_of (flat.Xori rd rs1 imm) = Some (form.Imm imm_op.Xori rd rs1 imm)
instr_of (flat.Ori rd rs1 imm) = Some (form.Imm imm_op.Ori rd rs1 imm)
instr_of (flat.Andi rd rs1 imm) = Some (form.Imm imm_op.Andi rd rs1 imm)
instr_of (flat.Slli rd rs1 amount) = Some (form.Shift shift_op.Slli rd rs1 amount)
instr_of (flat.Srli rd rs1 amount) = Some (form.Shift shift_op.Srli rd rs1 amount)
instr_of (flat.Srai rd rs1 amount) = Some (form.Shift shift_op.Srai rd rs1 amount)
instr_of (flat.Add rd rs1 rs2) = Some (form.Alu alu_op.Add rd rs1 rs2)
instr_of (flat.Sub rd rs1 rs2) = Some (form.Alu alu_op.Sub rd rs1 rs2)
instr_of (flat.Sll rd rs1 rs2) = Some (form.Alu alu_op.Sll rd rs1 rs2)
instr_of (flat.Slt rd rs1 rs2) = Some (form.Alu alu_op.Slt rd rs1 rs2)
instr_of (flat.Sltu rd rs1 rs2) = Some (form.Alu alu_op.Sltu rd rs1 rs2)
instr_of (flat.Xor rd rs1 rs2) = Some (form.Alu alu_op.Xor rd rs1 rs2)
instr_of (flat.Srl rd rs1 rs2) = Some (form.Alu alu_op.Srl rd rs1 rs2)
instr_of (flat.Sra rd rs1 rs2) = Some (form.Alu alu_op.Sra rd rs1 rs2)
instr_of (flat.Or rd rs1 rs2) = Some (form.Alu alu_op.Or rd rs1 rs2)
instr_of (flat.And rd rs1 rs2) = Some (form.Alu alu_op.And rd rs1 rs2)
instr_of (flat.Mul rd rs1 rs2) = Some (form.Alu alu_op.Mul rd rs1 rs2)
instr_of (flat.Mulh rd rs1 rs2) = Some (form.Alu alu_op.Mulh rd rs1 rs2)
instr_of (flat.Mulhsu rd rs1 rs2) = Some (form.Alu alu_op.Mulhsu rd rs1 rs2)
instr_of (flat.Mulhu rd rs1 rs2) = Some (form.Alu alu_op.Mulhu rd rs1 rs2)
instr_of (flat.Div rd rs1 rs2) = Some (form.Alu alu_op.Div rd rs1 rs2)
instr_of (flat.Divu rd rs1 rs2) = Some (form.Alu alu_op.Divu rd rs1 rs2)
instr_of (flat.Rem rd rs1 rs2) = Some (form.Alu alu_op.Rem rd rs1 rs2)
instr_of (flat.Remu rd rs1 rs2) = Some (form.Alu alu_op.Remu rd rs1 rs2)
instr_of (flat.Fence rd rs1 bits) = Some (form.Fence rd rs1 bits)

-- the row of a word: it stands for the instruction that the word is
abbrev pub IsRowOf : ℕ → Row → Type 0
IsRowOf word row = (i : Instr) → instr_of row ≡ Some i → (fits i ≡ true) × (instr_at word ≡ Some i)

-- the operands of a row fit their fields
abbrev pub RowFits : Row → Type 0
RowFits row = IsTrue (option_map_or fits (instr_of row) true)

-- an instruction stands at an address, where it may be executed and not written
pub record Stands (regions : List Region) (at : ℕ) (i : Instr) : Type 0 where
  pub fit : fits i ≡ true
  pub fetched : can_access (executable_in regions) at 4 ≡ true
  pub found : instr_at (word_at (byte_in regions) at) ≡ Some i
  pub fixed : (a : ℕ) → at ≤ a → a < at + 4 → writable_in regions a ≡ false

abbrev pub RowStands : List Region → ℕ → Row → Type 0
RowStands regions at row = (i : Instr) → instr_of row ≡ Some i → Stands regions at i

-- the rows of the words from an address on, and one more behind them that is none
pub record AreDecoded (regions : List Region) (base : ℕ) (rows : List Row) : Type 0 where
  pub near : base + 4 * length rows < 2 ^ 32
  pub last : slice_index_or rows (length rows - 1) flat.Other ≡ flat.Other
  pub stand : (k : ℕ) → k < length rows → RowStands regions (base + 4 * k) (slice_index_or rows k flat.Other)

abbrev pub AllDecoded : List Region → List Code → Type 0
AllDecoded regions codes =
    (k : ℕ) (code : Code) → k < length codes → slice_index_or codes k code ≡ code → AreDecoded regions code.base code.rows.items

-- the rows of the words of these bytes, and one more behind them that is none
pub record HasRows (bytes : List ℕ) (rows : List Row) : Type 0 where
  pub many : 4 * length rows ≤ length bytes + 4
  pub last : slice_index_or rows (length rows - 1) flat.Other ≡ flat.Other
  pub rows_of : (k : ℕ) → (i : Instr) → instr_of (slice_index_or rows k flat.Other) ≡ Some i
      → (4 * k + 4 ≤ length bytes) × (fits i ≡ true) × (instr_at (word_at (slice_index bytes) (4 * k)) ≡ Some i)

-- a segment that may be executed and not written, whose words begin where it does
pub record HoldsStill (segment : Segment) : Type 0 where
  pub executable : segment.executable ≡ true
  pub fixed : segment.writable ≡ false
  pub aligned : segment.base % 4 ≡ 0
  pub near : segment.base + length segment.bytes.items + 4 < 2 ^ 32

-- an address is that of a word: of this code, at this place of it
pub record IsDecodedPlace (codes : List Code) (at k place : ℕ) : Type 0 where
  pub known : k < length codes
  pub inside : (code : Code) → slice_index_or codes k code ≡ code → place < length code.rows.items
  pub is : (code : Code) → slice_index_or codes k code ≡ code → at ≡ code.base + 4 * place
