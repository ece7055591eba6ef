-- What an instruction reads and writes, and where the code goes on behind it.
use Rattle.std.specs.Prelude.{Bool, false, ◌||◌, Option, Some, None, nat_eq}
use Rattle.std.specs.List.{list_any}
use Rattle.op_rv.specs.declared.symbol.BlockId.{BlockId}
use Rattle.op_low.specs.declared.ids.VirtualRegister.{VirtualRegister}
use Rattle.op_low.specs.declared.instruction.Call.{Call as Operands}
use Rattle.op_low.specs.declared.instruction.Instruction.{Instruction}
use Rattle.op_low.specs.declared.instruction.Instruction.TheVariants.{Const, Address, Local, Move, Alu, AluImm, Shift, Load, Store, Call, CallAt, Branch, Jump, Return, Raise, Read, Write, Exit}

abbrev pub same : VirtualRegister → VirtualRegister → Bool
same a b = nat_eq a.0 b.0

abbrev pub either : (a b r : VirtualRegister) → Bool
either a b r = same a r || same b r

unfoldable pub is_argument : Operands → VirtualRegister → Bool
is_argument call r = list_any (λ a. same a r) call.arguments

unfoldable pub reads : Instruction → VirtualRegister → Bool
reads (Const to n) r = false
reads (Address to symbol) r = false
reads (Local to offset) r = false
reads (Move to from) r = same from r
reads (Alu op to left right) r = either left right r
reads (AluImm op to left imm) r = same left r
reads (Shift op to left amount) r = same left r
reads (Load op to base offset) r = same base r
reads (Store op v base offset) r = either v base r
reads (Call id call) r = is_argument call r
reads (CallAt address call) r = same address r || is_argument call r
reads (Branch op left right block) r = either left right r
reads (Jump block) r = false
reads (Return v) r = same v r
reads Raise r = false
reads (Read to buffer size) r = either buffer size r
reads (Write output buffer size) r = either buffer size r
reads (Exit status) r = same status r

-- the register that it writes
unfoldable pub target_of : Instruction → Option VirtualRegister
target_of (Const to n) = Some to
target_of (Address to symbol) = Some to
target_of (Local to offset) = Some to
target_of (Move to from) = Some to
target_of (Alu op to left right) = Some to
target_of (AluImm op to left imm) = Some to
target_of (Shift op to left amount) = Some to
target_of (Load op to base offset) = Some to
target_of (Store op v base offset) = None
target_of (Call id call) = Some call.to
target_of (CallAt address call) = Some call.to
target_of (Branch op left right block) = None
target_of (Jump block) = None
target_of (Return v) = None
target_of Raise = None
target_of (Read to buffer size) = Some to
target_of (Write output buffer size) = None
target_of (Exit status) = None

abbrev pub is_some_one : Option VirtualRegister → VirtualRegister → Bool
is_some_one None r = false
is_some_one (Some to) r = same to r

abbrev pub writes : Instruction → VirtualRegister → Bool
writes i r = is_some_one (target_of i) r

-- the block of its routine at which an instruction may go on
abbrev pub other_block : Instruction → Option BlockId
other_block (Const to n) = None
other_block (Address to symbol) = None
other_block (Local to offset) = None
other_block (Move to from) = None
other_block (Alu op to left right) = None
other_block (AluImm op to left imm) = None
other_block (Shift op to left amount) = None
other_block (Load op to base offset) = None
other_block (Store op v base offset) = None
other_block (Call id call) = call.landing
other_block (CallAt address call) = call.landing
other_block (Branch op left right block) = Some block
other_block (Jump block) = Some block
other_block (Return v) = None
other_block Raise = None
other_block (Read to buffer size) = None
other_block (Write output buffer size) = None
other_block (Exit status) = None
