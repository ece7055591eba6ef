-- Registers by other names. Two of them may get one name where what one has is not read once the other is written.
use Rattle.std.specs.Prelude.{◌≡◌, ℕ, zero, suc, Bool, true, false, ◌&&◌, ◌||◌, not, Option, Some, None, List, [], ◌∷◌, map, nat_le, nat_lt, if◌then◌else◌, slice_get}
use Rattle.op_low.specs.declared.code.Block.{Block}
use Rattle.op_low.specs.declared.code.Routine.{Routine}
use Rattle.op_low.specs.declared.ids.VirtualRegister.{VirtualRegister}
use Rattle.op_low.specs.declared.instruction.Call.{Call as Operands}
use Rattle.op_low.specs.declared.instruction.Instruction.{Instruction}
use Rattle.op_low.specs.declared.instruction.Instruction.TheVariants.{Const, Address, Local, Move, Alu, AluImm, Shift, Load, Store, Call, CallAt, Branch, Jump, Return, Raise, Read, Write, Exit}
use Rattle.op_optimize.specs.Liveness.{is_closed, is_dead, is_live, watched}
use Rattle.op_optimize.specs.Reading.{same, target_of}

-- ---- names

abbrev name_by : Option ℕ → ℕ → ℕ
name_by None r = r
name_by (Some name) r = name

-- the new number of a register; a list has those of the first ones
unfoldable pub renamed : List ℕ → VirtualRegister → VirtualRegister
renamed names r = record { 0 = name_by (slice_get names r.0) r.0 }

unfoldable pub renamed_call : List ℕ → Operands → Operands
renamed_call names call = record { arguments = map (renamed names) call.arguments; to = renamed names call.to; landing = call.landing }

unfoldable pub renamed_instruction : List ℕ → Instruction → Instruction
renamed_instruction n (Const to value) = Const (renamed n to) value
renamed_instruction n (Address to symbol) = Address (renamed n to) symbol
renamed_instruction n (Local to offset) = Local (renamed n to) offset
renamed_instruction n (Move to from) = Move (renamed n to) (renamed n from)
renamed_instruction n (Alu op to left right) = Alu op (renamed n to) (renamed n left) (renamed n right)
renamed_instruction n (AluImm op to left imm) = AluImm op (renamed n to) (renamed n left) imm
renamed_instruction n (Shift op to left amount) = Shift op (renamed n to) (renamed n left) amount
renamed_instruction n (Load op to base offset) = Load op (renamed n to) (renamed n base) offset
renamed_instruction n (Store op v base offset) = Store op (renamed n v) (renamed n base) offset
renamed_instruction n (Call id call) = Call id (renamed_call n call)
renamed_instruction n (CallAt address call) = CallAt (renamed n address) (renamed_call n call)
renamed_instruction n (Branch op left right block) = Branch op (renamed n left) (renamed n right) block
renamed_instruction n (Jump block) = Jump block
renamed_instruction n (Return v) = Return (renamed n v)
renamed_instruction n Raise = Raise
renamed_instruction n (Read to buffer size) = Read (renamed n to) (renamed n buffer) (renamed n size)
renamed_instruction n (Write output buffer size) = Write output (renamed n buffer) (renamed n size)
renamed_instruction n (Exit status) = Exit (renamed n status)

-- ---- code: a move between two registers of one name is left out

unfoldable pub is_idle : List ℕ → Instruction → Bool
is_idle names (Const to n) = false
is_idle names (Address to symbol) = false
is_idle names (Local to offset) = false
is_idle names (Move to from) = same (renamed names to) (renamed names from)
is_idle names (Alu op to left right) = false
is_idle names (AluImm op to left imm) = false
is_idle names (Shift op to left amount) = false
is_idle names (Load op to base offset) = false
is_idle names (Store op v base offset) = false
is_idle names (Call id call) = false
is_idle names (CallAt address call) = false
is_idle names (Branch op left right block) = false
is_idle names (Jump block) = false
is_idle names (Return v) = false
is_idle names Raise = false
is_idle names (Read to buffer size) = false
is_idle names (Write output buffer size) = false
is_idle names (Exit status) = false

unfoldable pub renamed_code : List ℕ → List Instruction → List Instruction
renamed_code names [] = []
renamed_code names (i ∷ is) = if is_idle names i then renamed_code names is else renamed_instruction names i ∷ renamed_code names is

unfoldable pub renamed_block : List ℕ → Block → Block
renamed_block names block = record { code = renamed_code names block.code }

-- with so many registers
unfoldable pub renamed_routine : List ℕ → (registers : ℕ) → Routine → Routine
renamed_routine names registers routine = record { parameters = routine.parameters; registers = registers; locals = routine.locals; blocks = map (renamed_block names) routine.blocks }

-- ---- when that does no harm

-- what is moved stays as well as where it goes
abbrev pub is_moved : Instruction → VirtualRegister → Bool
is_moved (Const to n) r = false
is_moved (Address to symbol) r = false
is_moved (Local to offset) r = false
is_moved (Move to from) r = same from r
is_moved (Alu op to left right) r = false
is_moved (AluImm op to left imm) r = false
is_moved (Shift op to left amount) r = false
is_moved (Load op to base offset) r = false
is_moved (Store op v base offset) r = false
is_moved (Call id call) r = false
is_moved (CallAt address call) r = false
is_moved (Branch op left right block) r = false
is_moved (Jump block) r = false
is_moved (Return v) r = false
is_moved Raise r = false
is_moved (Read to buffer size) r = false
is_moved (Write output buffer size) r = false
is_moved (Exit status) r = false

-- a register, where another one is written: it has another name, or is not read any more, or has the same value then
unfoldable pub is_apart : List ℕ → List ℕ → Instruction → List Instruction → (to r : VirtualRegister) → Bool
is_apart live names i is to r = same to r || (not (same (renamed names to) (renamed names r)) || (is_moved i r || is_dead live is r))

-- each register below a number
unfoldable pub are_apart : List ℕ → List ℕ → Instruction → List Instruction → (to : VirtualRegister) → ℕ → Bool
are_apart live names i is to zero = true
are_apart live names i is to (suc n) = are_apart live names i is to n && is_apart live names i is to (record { 0 = n })

abbrev pub may_write : List ℕ → List ℕ → (registers : ℕ) → Instruction → List Instruction → Option VirtualRegister → Bool
may_write live names registers i is None = true
may_write live names registers i is (Some to) = are_apart live names i is to registers

unfoldable pub is_safe_code : List ℕ → List ℕ → (registers : ℕ) → List Instruction → Bool
is_safe_code live names registers [] = true
is_safe_code live names registers (i ∷ is) = may_write live names registers i is (target_of i) && is_safe_code live names registers is

unfoldable pub are_safe_blocks : List ℕ → List ℕ → (registers : ℕ) → List Block → Bool
are_safe_blocks live names registers [] = true
are_safe_blocks live names registers (b ∷ bs) = is_safe_code live names registers b.code && are_safe_blocks live names registers bs

-- where a routine begins: parameters keep their numbers, and what has to begin as 0 gets none of these
unfoldable pub begins_well : List ℕ → List ℕ → (parameters registers : ℕ) → VirtualRegister → Bool
begins_well live names parameters registers r =
    nat_lt (renamed names r).0 registers
    && (if nat_lt r.0 parameters then same (renamed names r) r else (not (is_live live (record { 0 = 0 }) r) || nat_le parameters (renamed names r).0))

-- each register below a number
unfoldable pub all_begin_well : List ℕ → List ℕ → (parameters registers : ℕ) → ℕ → Bool
all_begin_well live names parameters registers zero = true
all_begin_well live names parameters registers (suc n) = all_begin_well live names parameters registers n && begins_well live names parameters registers (record { 0 = n })

-- these are names for the registers of a routine, of which there are then so many
unfoldable pub is_renaming : List ℕ → List ℕ → (registers : ℕ) → Routine → Bool
is_renaming live names registers routine =
    nat_le routine.registers watched
    && nat_le registers routine.registers
    && nat_le routine.parameters registers
    && is_closed live routine
    && all_begin_well live names routine.parameters registers routine.registers
    && are_safe_blocks live names routine.registers routine.blocks

-- a routine stays, or its registers get other names
pub data RenamesRoutine (routine better : Routine) : Type 0 where
  Stays : better ≡ routine → RenamesRoutine routine better
  Renamed : (live names : List ℕ) (registers : ℕ) → is_renaming live names registers routine ≡ true → better ≡ renamed_routine names registers routine → RenamesRoutine routine better
