-- The low code of a primitive: its operands are put into registers, and its run-time routine is called.
use Rattle.std.specs.Prelude.{ℕ, suc, ◌+◌, List, [], ◌∷◌, ◌++◌, length, Option, Some, None}
use Rattle.op_compute.specs.Bank.{register_of, scratch_of}
use Rattle.op_constants.specs.Texts.{number_of}
use Rattle.op_places.specs.declared.frame.Frame.{Frame}
use Rattle.op_low.specs.declared.ids.VirtualRegister.{VirtualRegister}
use Rattle.op_low.specs.declared.instruction.Instruction.{Instruction}
use Rattle.op_low.specs.declared.instruction.Instruction.TheVariants.{Address, Const}
use Rattle.op_meaning.specs.declared.primitive.Primitive.{Primitive}
use Rattle.op_meaning.specs.declared.primitive.Primitive.TheVariants.{WriteNumber, WriteTruth, WriteChar, WriteText, Same, Concatenate, CompareTexts, TextLength, CharAt, PieceOfText, TextOfChar, StrNumber, StrTruth, StrChar, StrText, ValNumber, ValCode, PutChar, ResizeText}
use Rattle.op_meaning.specs.declared.primitive.Sort.{Sort}
use Rattle.op_meaning.specs.declared.primitive.Sort.TheVariants.{Numeric, Textual}
use Rattle.op_mir.specs.declared.action.Destination.{Destination}
use Rattle.op_mir.specs.declared.action.Destination.TheVariants.{Unused, InTemporary, InNew, IntoPlace, OverPlace}
use Rattle.op_mir.specs.declared.action.Operand.{Operand}
use Rattle.op_mir.specs.declared.action.Operand.TheVariants.{Number, Text, Literal}
use Rattle.op_rt_text.specs.Names.{call, literal, write_bytes_number, write_char_number, write_number_number, write_truth_number}

-- the routine of each that has one
abbrev pub routine_of : Primitive → Option ℕ
routine_of WriteNumber = Some write_number_number
routine_of WriteTruth = Some write_truth_number
routine_of WriteChar = Some write_char_number
routine_of WriteText = Some write_bytes_number
routine_of Same = None
routine_of Concatenate = None
routine_of CompareTexts = None
routine_of TextLength = None
routine_of CharAt = None
routine_of PieceOfText = None
routine_of TextOfChar = None
routine_of StrNumber = None
routine_of StrTruth = None
routine_of StrChar = None
routine_of StrText = None
routine_of ValNumber = None
routine_of ValCode = None
routine_of PutChar = None
routine_of ResizeText = None

-- Among these literals, where so many scratch registers have operands in them. An operand is passed as one or two words: a number, or address
-- and length of a text. No routine takes the text at a place yet.
abbrev pub literal_code : Frame → (texts : List (List ℕ)) → (used : ℕ) → (text : List ℕ) → List Instruction
literal_code frame texts used text = Address (scratch_of frame.bank used) (literal (number_of texts text)) ∷ Const (scratch_of frame.bank (used + 1)) (length text) ∷ []

abbrev pub literal_passed : Frame → (used : ℕ) → List VirtualRegister
literal_passed frame used = scratch_of frame.bank used ∷ scratch_of frame.bank (used + 1) ∷ []

abbrev pub operand_code : Frame → (texts : List (List ℕ)) → (used : ℕ) → Operand → List Instruction
operand_code frame texts used (Number t) = []
operand_code frame texts used (Text path) = []
operand_code frame texts used (Literal text) = literal_code frame texts used text

abbrev pub operand_passed : Frame → (used : ℕ) → Operand → List VirtualRegister
operand_passed frame used (Number t) = register_of frame.bank t ∷ []
operand_passed frame used (Text path) = []
operand_passed frame used (Literal text) = literal_passed frame used

abbrev pub scratch_for : Operand → ℕ
scratch_for (Number t) = 0
scratch_for (Text path) = 0
scratch_for (Literal text) = 2

abbrev pub operands_code : Frame → (texts : List (List ℕ)) → (used : ℕ) → List Operand → List Instruction
operands_code frame texts used [] = []
operands_code frame texts used (o ∷ os) = operand_code frame texts used o ++ operands_code frame texts (used + scratch_for o) os

abbrev pub operands_passed : Frame → (used : ℕ) → List Operand → List VirtualRegister
operands_passed frame used [] = []
operands_passed frame used (o ∷ os) = operand_passed frame used o ++ operands_passed frame (used + scratch_for o) os

-- how many words operands of these sorts are
abbrev pub words_in : List Sort → ℕ
words_in [] = 0
words_in (Numeric ∷ sorts) = suc (words_in sorts)
words_in (Textual ∷ sorts) = suc (suc (words_in sorts))

-- where the routine's value goes
abbrev pub destination_register : Frame → Destination → VirtualRegister
destination_register frame Unused = scratch_of frame.bank 0
destination_register frame (InTemporary t) = register_of frame.bank t
destination_register frame (InNew of n) = scratch_of frame.bank 0
destination_register frame (IntoPlace of to old) = scratch_of frame.bank 0
destination_register frame (OverPlace to) = scratch_of frame.bank 0

abbrev pub call_by : Frame → (texts : List (List ℕ)) → (routine : Option ℕ) → List Operand → Destination → List Instruction
call_by frame texts None operands to = []
call_by frame texts (Some routine) operands to = operands_code frame texts 0 operands ++ call routine (operands_passed frame 0 operands) (destination_register frame to) ∷ []

-- a primitive without a routine has no code
abbrev pub primitive_code : Frame → (texts : List (List ℕ)) → Primitive → List Operand → Destination → List Instruction
primitive_code frame texts p operands to = call_by frame texts (routine_of p) operands to
