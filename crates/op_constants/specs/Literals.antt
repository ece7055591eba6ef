-- The literals of a program in managed code: the different texts that its code takes. A literal's number is how many stand in front of it.
use Rattle.std.specs.Prelude.{ℕ, suc, List, [], ◌∷◌, ◌++◌, length, Option, Some, None, if◌then◌else◌}
use Rattle.std.specs.List.{flat_map}
use Rattle.std.specs.Option.{option_map}
use Rattle.op_core.specs.Initial.{FirstValue, first_value_of, parts, no_values}
use Rattle.op_core.specs.declared.program.Core.{Core}
use Rattle.op_core.specs.declared.routine.Variable.{Variable}
use Rattle.op_meaning.specs.Shapes.{Shape, composite, shape_of, type_of_local}
use Rattle.op_mir.specs.View.{first_at}
use Rattle.op_mir.specs.declared.action.Action.{Action}
use Rattle.op_mir.specs.declared.action.Action.TheVariants.{BeginWith, Pick, Do}
use Rattle.op_mir.specs.declared.action.Operand.{Operand}
use Rattle.op_mir.specs.declared.action.Operand.TheVariants.{Number, Text, Literal}
use Rattle.op_mir.specs.declared.code.Block.{Block}
use Rattle.op_mir.specs.declared.code.Mir.{Mir}
use Rattle.op_mir.specs.declared.code.Routine.{Routine}
use Rattle.op_mir.specs.declared.instruction.Instruction.{Instruction}
use Rattle.op_mir.specs.declared.instruction.Instruction.TheVariants.{Act}
use Rattle.op_constants.specs.Fixed.{fixed_literals}
use Rattle.op_constants.specs.FirstBytes.{are_zeros, first_bytes}
use Rattle.op_constants.specs.Texts.{distinct}

abbrev first_or_none : Option FirstValue → FirstValue
first_or_none None = parts no_values
first_or_none (Some value) = value

abbrev pub first_of_row : Option Variable → FirstValue
first_of_row None = parts no_values
first_of_row (Some row) = first_or_none (option_map (λ i. first_value_of i.value) row.first_value)

-- a first value is a literal where it has parts and does not begin as zero
abbrev pub first_literals : Shape → List ℕ → List (List ℕ)
first_literals composite bytes = if are_zeros bytes then [] else bytes ∷ []
first_literals _ bytes = []

abbrev pub operand_literals : Operand → List (List ℕ)
operand_literals (Number t) = []
operand_literals (Text path) = []
operand_literals (Literal text) = text ∷ []

abbrev pub operands_literals : List Operand → List (List ℕ)
operands_literals [] = []
operands_literals (o ∷ os) = operand_literals o ++ operands_literals os

-- of a routine with the number: what a primitive takes, what a Char is picked from, and what a variable begins with
abbrev pub action_literals : Core → ℕ → Action → List (List ℕ)
action_literals core r (Do p operands to) = operands_literals operands
action_literals core r (Pick to text index) = text ∷ []
action_literals core r (BeginWith v) = first_literals (shape_of core (type_of_local core r v.0)) (first_bytes core (type_of_local core r v.0) (first_at core r v.0))
action_literals core r _ = []

abbrev pub instruction_literals : Core → ℕ → Instruction → List (List ℕ)
instruction_literals core r (Act action landing) = action_literals core r action
instruction_literals core r _ = []

abbrev pub block_literals : Core → ℕ → Block → List (List ℕ)
block_literals core r block = flat_map (instruction_literals core r) block.code

abbrev pub routine_literals : Core → ℕ → Routine → List (List ℕ)
routine_literals core r routine = flat_map (block_literals core r) routine.blocks

-- those of the routines from this one on
abbrev pub routines_literals : Core → ℕ → List Routine → List (List ℕ)
routines_literals core r [] = []
routines_literals core r (x ∷ xs) = routine_literals core r x ++ routines_literals core (suc r) xs

-- the fixed ones, then those that the routines take, then those that the program's own code takes, whose number is the next one
abbrev pub all_literals : Core → Mir → List (List ℕ)
all_literals core mir = fixed_literals ++ routines_literals core 0 mir.routines ++ routine_literals core (length mir.routines) mir.program

abbrev pub literals_of : Core → Mir → List (List ℕ)
literals_of core mir = distinct (all_literals core mir)
