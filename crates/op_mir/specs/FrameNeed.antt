-- How many bytes of the stack an activation of a routine needs for its frame: words for what every activation has, the bytes of its places, and
-- words for what one of its instructions works with.
use Rattle.std.specs.Prelude.{ℕ, ◌+◌, ◌*◌, max, Bool, true, false, ◌&&◌, List, [], ◌∷◌, ◌++◌, length, Option, Some, None, nat_eq, nat_lt, if◌then◌else◌}
use Rattle.std.specs.Int.{div_ceil}
use Rattle.std.specs.List.{flat_map, fold, list_any, sum_by}
use Rattle.op_core.specs.Rows.{rows}
use Rattle.op_core.specs.Sizes.{extent_of}
use Rattle.op_core.specs.Types.{is_same}
use Rattle.op_core.specs.declared.ids.TypeId.{TypeId}
use Rattle.op_core.specs.declared.program.Core.{Core}
use Rattle.op_core.specs.declared.routine.Variable.{Variable}
use Rattle.op_meaning.specs.Shapes.{is_reference, result_of_routine, variables_of}
use Rattle.op_mir.specs.declared.action.Action.{Action}
use Rattle.op_mir.specs.declared.action.Action.TheVariants.{Constant, Load, Store, Copy, Look, BeginWith, Pick, Compute, Do}
use Rattle.op_mir.specs.declared.action.Operand.{Operand}
use Rattle.op_mir.specs.declared.action.Operand.TheVariants.{Number, Text, Literal}
use Rattle.op_mir.specs.declared.code.Block.{Block}
use Rattle.op_mir.specs.declared.code.Routine.{Routine}
use Rattle.op_mir.specs.declared.instruction.Call.{Call as Operands}
use Rattle.op_mir.specs.declared.instruction.Given.{Given}
use Rattle.op_mir.specs.declared.instruction.Given.TheVariants.{ByValue, ByPlace, ByCopy}
use Rattle.op_mir.specs.declared.instruction.Instruction.{Instruction}
use Rattle.op_mir.specs.declared.instruction.Instruction.TheVariants.{Act, Call, Jump, When, Unless, Switch, Dispatch, MakeDue, OpenTemporaries, EndTemporary, Stop, Return}
use Rattle.op_mir.specs.declared.instruction.Receiver.{Receiver}
use Rattle.op_mir.specs.declared.instruction.Receiver.TheVariants.{Nowhere, Temporary as ToTemporary, Place}
use Rattle.op_mir.specs.declared.path.Path.{Path}
use Rattle.op_mir.specs.declared.path.Root.{Root}
use Rattle.op_mir.specs.declared.path.Root.TheVariants.{Global, Local, Through, Temporary}

-- ---- places

-- so many bytes by whole words
abbrev pub rounded : ℕ → ℕ
rounded bytes = div_ceil bytes 4 * 4

-- of a variable, beside the word in which a parameter comes; one that stands for a place of the caller has no more than that word
abbrev pub variable_bytes : Core → Variable → ℕ
variable_bytes core v = if is_reference v.role then 0 else rounded (extent_of core v.of).size

-- the same variable of the activation, or the same temporary of a record or array type
abbrev pub is_one_root : Root → Root → Bool
is_one_root (Local v) (Local w) = nat_eq v.0 w.0
is_one_root (Temporary of n) (Temporary type m) = is_same of type && nat_eq n m
is_one_root _ _ = false

-- of such a temporary
abbrev pub size_of_root : Core → Root → ℕ
size_of_root core (Global v) = 0
size_of_root core (Local v) = 0
size_of_root core (Through v) = 0
size_of_root core (Temporary of n) = rounded (extent_of core of).size

-- each once, where it is named last
abbrev pub each_once : List Root → List Root
each_once [] = []
each_once (root ∷ roots) = if list_any (is_one_root root) roots then each_once roots else root ∷ each_once roots

-- what those of the roots take that are named neither behind them nor among later ones
abbrev pub bytes_before : Core → List Root → List Root → ℕ
bytes_before core [] later = 0
bytes_before core (root ∷ roots) later = (if list_any (is_one_root root) (roots ++ later) then 0 else size_of_root core root) + bytes_before core roots later

-- ---- which places of its own instructions come to

abbrev pub roots_of_action : Action → List Root
roots_of_action (Load to kind from) = from.root ∷ []
roots_of_action (Store to kind from) = to.root ∷ []
roots_of_action (Copy of to from) = from.root ∷ to.root ∷ []
roots_of_action (Look at) = at.root ∷ []
roots_of_action (Constant to n) = []
roots_of_action (BeginWith v) = []
roots_of_action (Pick to text index) = []
roots_of_action (Compute computation) = []
-- texts have no code yet
roots_of_action (Do p operands to) = []

abbrev pub roots_of_given : Given → List Root
roots_of_given (ByPlace path) = path.root ∷ []
roots_of_given (ByCopy of path) = path.root ∷ []
roots_of_given (ByValue kind t) = []

abbrev pub roots_of_receiver : Receiver → List Root
roots_of_receiver (Place of to) = to.root ∷ []
roots_of_receiver Nowhere = []
roots_of_receiver (ToTemporary t) = []

-- temporaries that end have no code yet that needs room
abbrev pub roots_of_instruction : Instruction → List Root
roots_of_instruction (Act action landing) = roots_of_action action
roots_of_instruction (Call r call) = flat_map roots_of_given call.given ++ roots_of_receiver call.receiver
roots_of_instruction (Jump block) = []
roots_of_instruction (When t block) = []
roots_of_instruction (Unless t block) = []
roots_of_instruction (Switch t arms) = []
roots_of_instruction (Dispatch t block) = []
roots_of_instruction (MakeDue r) = []
roots_of_instruction (OpenTemporaries ts) = []
roots_of_instruction (EndTemporary t) = []
roots_of_instruction (Stop t) = []
roots_of_instruction Return = []

abbrev pub roots_named : List Block → List Root
roots_named blocks = flat_map (λ b. flat_map roots_of_instruction b.code) blocks

-- ---- words that an instruction works with

-- one has the address of where the path begins; an element takes one for its address and one for its index, and a distance that is too large one
abbrev pub path_words : Path → ℕ
path_words path = 1 + 2 * length path.steps

-- a literal takes one for its address and one for its length
unfoldable pub operand_words : Operand → ℕ
operand_words (Number t) = 0
operand_words (Text path) = path_words path
operand_words (Literal text) = 2

unfoldable pub action_words : Action → ℕ
action_words (Constant to n) = 0
action_words (Load to kind from) = path_words from
action_words (Store to kind from) = path_words to
action_words (Copy of to from) = path_words from + path_words to + 1
action_words (Look at) = path_words at + 1
action_words (BeginWith v) = 0
action_words (Pick to text index) = 3
action_words (Compute computation) = 3
action_words (Do p operands to) = 1 + sum_by operand_words operands

unfoldable pub given_words : Given → ℕ
given_words (ByValue kind t) = 1
given_words (ByPlace path) = path_words path
given_words (ByCopy of path) = path_words path

unfoldable pub receiver_words : Receiver → ℕ
receiver_words (Place of to) = path_words to
receiver_words Nowhere = 0
receiver_words (ToTemporary t) = 0

-- the charge of the callee takes one
unfoldable pub call_words : Operands → ℕ
call_words call = 1 + receiver_words call.receiver + sum_by given_words call.given

unfoldable pub instruction_words : Instruction → ℕ
instruction_words (Act action landing) = action_words action
instruction_words (Call r call) = call_words call
instruction_words (Jump block) = 0
instruction_words (When t block) = 3
instruction_words (Unless t block) = 3
instruction_words (Switch t arms) = 3
instruction_words (Dispatch t block) = 3
instruction_words (MakeDue r) = 2
instruction_words (OpenTemporaries ts) = 0
instruction_words (EndTemporary t) = 0
instruction_words (Stop t) = 0
instruction_words Return = 0

-- those of the part of a list that has the most
abbrev pub most_words : {A : Type 0} → (A → ℕ) → List A → ℕ
most_words f xs = fold (λ most x. max most (f x)) 0 xs

abbrev pub code_words : List Block → ℕ
code_words blocks = most_words (λ b. most_words instruction_words b.code) blocks

-- What variables begin with is put there by two words, one of which may be that in which the first parameter came, if it is a value.
unfoldable pub first_words : (parameters : ℕ) → List Variable → ℕ
first_words parameters [] = 1
first_words parameters (v ∷ vs) = if is_reference v.role then 2 else if nat_lt 0 parameters then 1 else 2

-- ---- routines

-- Every activation has words for the stack that is left, for where a result goes, and for where it returns to; each parameter comes in a word.
abbrev pub words_needed : Core → ℕ → Routine → ℕ
words_needed core r routine =
    3 + result_of_routine core r + routine.temporaries + max (first_words (result_of_routine core r) (rows core.variables (variables_of core r))) (code_words routine.blocks)

unfoldable pub frame_need : Core → ℕ → Routine → ℕ
frame_need core r routine =
    4 * words_needed core r routine + sum_by (variable_bytes core) (rows core.variables (variables_of core r)) + sum_by (size_of_root core) (each_once (roots_named routine.blocks))
