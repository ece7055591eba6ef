-- How many temporaries a routine has that are one value: one more than the greatest that its code names.
use Rattle.std.specs.Prelude.{ℕ, ◌+◌, max, List, fold}
use Rattle.op_mir.specs.declared.action.Action.{Action}
use Rattle.op_mir.specs.declared.action.Action.TheVariants.{Constant, Load, Store, Copy, Look, BeginWith, Pick, Compute, Do}
use Rattle.op_mir.specs.declared.action.Computation.{Computation}
use Rattle.op_mir.specs.declared.action.Computation.TheVariants.{Arithmetic, Compare, Negate, Complement, Invert, Absolute, Odd, Upper, LowBits, Check, Neighbour, Single, Span, Combine, Contains, CheckSet}
use Rattle.op_mir.specs.declared.action.Destination.{Destination}
use Rattle.op_mir.specs.declared.action.Destination.TheVariants.{Unused, InTemporary, InNew, IntoPlace, OverPlace}
use Rattle.op_mir.specs.declared.action.Operand.{Operand}
use Rattle.op_mir.specs.declared.action.Operand.TheVariants.{Number, Text, Literal}
use Rattle.op_mir.specs.declared.code.Block.{Block}
use Rattle.op_mir.specs.declared.ids.TemporaryId.{TemporaryId}
use Rattle.op_mir.specs.declared.instruction.Call.{Call as Operands}
use Rattle.op_mir.specs.declared.instruction.Given.{Given}
use Rattle.op_mir.specs.declared.instruction.Given.TheVariants.{ByValue, ByPlace, ByCopy}
use Rattle.op_mir.specs.declared.instruction.Instruction.{Instruction}
use Rattle.op_mir.specs.declared.instruction.Instruction.TheVariants.{Act, Call, Jump, When, Unless, Switch, Dispatch, MakeDue, OpenTemporaries, EndTemporary, Stop, Return}
use Rattle.op_mir.specs.declared.instruction.Receiver.{Receiver}
use Rattle.op_mir.specs.declared.instruction.Receiver.TheVariants.{Nowhere, Temporary as ToTemporary, Place}
use Rattle.op_mir.specs.declared.path.Path.{Path}
use Rattle.op_mir.specs.declared.path.Step.{Step}
use Rattle.op_mir.specs.declared.path.Step.TheVariants.{Field, Element}

-- of a list as many as the part has that has the most
abbrev pub most_of : {A : Type 0} → (A → ℕ) → List A → ℕ
most_of f xs = fold (λ most x. max most (f x)) 0 xs

abbrev pub up_to : TemporaryId → ℕ
up_to t = t.0 + 1

abbrev pub up_to_both : TemporaryId → TemporaryId → ℕ
up_to_both a b = max (up_to a) (up_to b)

abbrev pub up_to_each : TemporaryId → TemporaryId → TemporaryId → ℕ
up_to_each a b c = max (up_to a) (up_to_both b c)

-- ---- places

abbrev pub in_step : Step → ℕ
in_step (Field of n) = 0
in_step (Element of low high index) = up_to index

abbrev pub in_path : Path → ℕ
in_path path = most_of in_step path.steps

abbrev pub in_paths : Path → Path → ℕ
in_paths to from = max (in_path to) (in_path from)

-- ---- actions

unfoldable pub in_computation : Computation → ℕ
in_computation (Arithmetic o checked to a b) = up_to_each to a b
in_computation (Compare o to a b) = up_to_each to a b
in_computation (Negate checked to a) = up_to_both to a
in_computation (Complement to a) = up_to_both to a
in_computation (Invert to a) = up_to_both to a
in_computation (Absolute checked to a) = up_to_both to a
in_computation (Odd to a) = up_to_both to a
in_computation (Upper to a) = up_to_both to a
in_computation (LowBits kind to a) = up_to_both to a
in_computation (Check low high to a) = up_to_both to a
in_computation (Neighbour distance low high to a) = up_to_both to a
in_computation (Single to a) = up_to_both to a
in_computation (Span to a b) = up_to_each to a b
in_computation (Combine o to a b) = up_to_each to a b
in_computation (Contains to a b) = up_to_each to a b
in_computation (CheckSet all to a) = up_to_both to a

unfoldable pub in_operand : Operand → ℕ
in_operand (Number t) = up_to t
in_operand (Text path) = in_path path
in_operand (Literal text) = 0

unfoldable pub in_destination : Destination → ℕ
in_destination Unused = 0
in_destination (InTemporary t) = up_to t
in_destination (InNew of n) = 0
in_destination (IntoPlace of to old) = in_path to
in_destination (OverPlace to) = in_path to

abbrev pub in_move : TemporaryId → Path → ℕ
in_move t path = max (up_to t) (in_path path)

unfoldable pub in_action : Action → ℕ
in_action (Constant to n) = up_to to
in_action (Load to kind from) = in_move to from
in_action (Store to kind from) = in_move from to
in_action (Copy of to from) = in_paths to from
in_action (Look at) = in_path at
in_action (BeginWith v) = 0
in_action (Pick to text index) = up_to_both to index
in_action (Compute computation) = in_computation computation
in_action (Do p operands to) = max (most_of in_operand operands) (in_destination to)

-- ---- instructions

abbrev pub in_given : Given → ℕ
in_given (ByValue kind t) = up_to t
in_given (ByPlace path) = in_path path
in_given (ByCopy of path) = in_path path

abbrev pub in_receiver : Receiver → ℕ
in_receiver Nowhere = 0
in_receiver (ToTemporary t) = up_to t
in_receiver (Place of to) = in_path to

abbrev pub in_call : Operands → ℕ
in_call call = max (most_of in_given call.given) (in_receiver call.receiver)

-- the exception that waits is in the temporary behind that of the reason
unfoldable pub in_instruction : Instruction → ℕ
in_instruction (Act action landing) = in_action action
in_instruction (Call id call) = in_call call
in_instruction (Jump block) = 0
in_instruction (When t block) = up_to t
in_instruction (Unless t block) = up_to t
in_instruction (Switch t arms) = up_to t
in_instruction (Dispatch t block) = up_to t + 1
in_instruction (MakeDue f) = 0
in_instruction (OpenTemporaries ts) = 0
in_instruction (EndTemporary t) = 0
in_instruction (Stop t) = up_to t
in_instruction Return = 0

abbrev pub in_block : Block → ℕ
in_block block = most_of in_instruction block.code

abbrev pub in_blocks : List Block → ℕ
in_blocks blocks = most_of in_block blocks
