-- What registers of the better code are known to have, since a number or an address was put there.
use Rattle.std.specs.Prelude.{ℕ, Bool, false, ◌&&◌, Option, Some, None, List, [], ◌∷◌, ◌++◌, nat_eq, take, if◌then◌else◌}
use Rattle.std.specs.List.{list_any}
use Rattle.op_low.specs.declared.ids.VirtualRegister.{VirtualRegister}
use Rattle.op_low.specs.declared.instruction.Instruction.{Instruction}
use Rattle.op_low.specs.declared.instruction.Instruction.TheVariants.{Const, Address, Local, Move, Alu, AluImm, Shift, Load, Store, Call, CallAt, Branch, Jump, Return, Raise, Read, Write, Exit}
use Rattle.op_rv.specs.declared.symbol.Symbol.{Symbol}
use Rattle.op_rv.specs.declared.symbol.Symbol.TheVariants.{Literal, Global}
use Rattle.op_optimize.specs.Reading.{same}
use Rattle.op_optimize.specs.declared.fact.Content.{Content}
use Rattle.op_optimize.specs.declared.fact.Content.TheVariants.{Number, Place}
use Rattle.op_optimize.specs.declared.fact.Known.{Known}

unfoldable pub content_of : Instruction → Option Content
content_of (Const to n) = Some (Number n)
content_of (Address to symbol) = Some (Place symbol)
content_of (Local to offset) = None
content_of (Move to from) = None
content_of (Alu op to left right) = None
content_of (AluImm op to left imm) = None
content_of (Shift op to left amount) = None
content_of (Load op to base offset) = None
content_of (Store op v base offset) = None
content_of (Call id call) = None
content_of (CallAt address call) = None
content_of (Branch op left right block) = None
content_of (Jump block) = None
content_of (Return v) = None
content_of Raise = None
content_of (Read to buffer size) = None
content_of (Write output buffer size) = None
content_of (Exit status) = None

unfoldable pub same_symbol : Symbol → Symbol → Bool
same_symbol (Literal a) (Literal b) = nat_eq a.0 b.0
same_symbol (Global a) (Global b) = nat_eq a.0 b.0
same_symbol _ _ = false

unfoldable pub same_content : Content → Content → Bool
same_content (Number a) (Number b) = nat_eq a b
same_content (Place a) (Place b) = same_symbol a b
same_content _ _ = false

abbrev pub is_content : VirtualRegister → Content → Known → Bool
is_content to content k = same k.register to && same_content k.content content

abbrev pub is_known : List Known → VirtualRegister → Option Content → Bool
is_known known to None = false
is_known known to (Some content) = list_any (is_content to content) known

-- the register has what the instruction puts there
unfoldable pub has_already : List Known → VirtualRegister → Instruction → Bool
has_already known to i = is_known known to (content_of i)

-- ---- where the better code writes a register

unfoldable pub others : List Known → VirtualRegister → List Known
others [] r = []
others (k ∷ ks) r = if same k.register r then others ks r else k ∷ others ks r

abbrev pub and_content : VirtualRegister → Option Content → List Known
and_content to None = []
and_content to (Some content) = record { register = to; content = content } ∷ []

-- as many as are looked at
abbrev pub most_known : ℕ
most_known = 12

unfoldable pub known_behind : List Known → VirtualRegister → Instruction → List Known
known_behind known to i = and_content to (content_of i) ++ others (take most_known known) to
