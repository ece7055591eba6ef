-- The run-time routine of each primitive does what is meant.
use Rattle.std.proofs.Common.{◌<◌, ℕ, zero, suc, None, List, [], ◌∷◌, ap, ap₂, subst, arith}
use Rattle.std.specs.Prelude.{◌^◌, slice_index}
use Rattle.op_agreement.specs.Primitives.{Does, PrimitiveDoes, StandFor, Words, listed}
use Rattle.op_low.specs.State.{Placement, State}
use Rattle.op_low.specs.declared.code.Low.{Low}
use Rattle.op_low.specs.declared.instruction.Call.{Call as Operands}
use Rattle.op_low.specs.declared.instruction.Instruction.{Instruction}
use Rattle.op_meaning.specs.Primitives.{Values, writes}
use Rattle.op_meaning.specs.Texts.{padded, text_of_char, text_of_number, text_of_truth, width_of}
use Rattle.op_meaning.specs.declared.primitive.Primitive.{Primitive}
use Rattle.op_meaning.specs.declared.primitive.Primitive.TheVariants.{WriteNumber, WriteTruth, WriteChar, WriteText, Same, Concatenate, CompareTexts, TextLength, CharAt, PieceOfText, TextOfChar, StrNumber, StrTruth, StrChar, StrText, ValNumber, ValCode, PutChar, ResizeText}
use Rattle.op_meaning.specs.declared.primitive.Sort.{Sort}
use Rattle.op_meaning.specs.declared.primitive.Sort.TheVariants.{Numeric, Textual}
use Rattle.op_rt_text.proofs.Contracts.{bytes_written, char_written, number_written, truth_written}
use Rattle.op_rt_text.specs.Running.{Writes}

-- arguments are words
pub words_low : (p : Placement) (m : State) (sorts : List Sort) (values : Values sorts) (words : Words sorts) → StandFor p m sorts values words → (k : ℕ) → slice_index (listed sorts values words) k < 2 ^ 32
words_low p m [] values words stand k = omega arith
words_low p m (Numeric ∷ sorts) (n, values) (w, words) stand zero = stand.0.bound
words_low p m (Numeric ∷ sorts) (n, values) (w, words) stand (suc k) = words_low p m sorts values words stand.1 k
words_low p m (Textual ∷ sorts) (text, values) (place, words) stand zero = stand.0.1
words_low p m (Textual ∷ sorts) (text, values) (place, words) stand (suc zero) = let short = stand.0.2 in omega arith
words_low p m (Textual ∷ sorts) (text, values) (place, words) stand (suc (suc k)) = words_low p m sorts values words stand.1 k

-- what writes keeps memory and gives nothing
writes_calls : (low : Low) (p : Placement) (m : State) (operands : Operands) (rest : List Instruction) (bytes : List ℕ) → Writes low p m operands rest bytes → Does low p m operands rest None (writes bytes)
writes_calls low p m operands rest bytes w = record { value = w.value; fits = tt; memory = w.memory; same = w.kept; pieces = w.pieces; joined = w.joined; steps = w.steps; few = w.few; path = w.path }

number_does : PrimitiveDoes WriteNumber
number_does low p m operands rest (n, (width, _)) (a, (b, _)) texts stand called =
    writes_calls low p m operands rest _ (subst (Writes low p m operands rest) (ap₂ (λ u v. padded (width_of u) (text_of_number v)) stand.1.0.number stand.0.number) (number_written low p m operands rest a b texts called))

truth_does : PrimitiveDoes WriteTruth
truth_does low p m operands rest (n, (width, _)) (a, (b, _)) texts stand called =
    writes_calls low p m operands rest _ (subst (Writes low p m operands rest) (ap₂ (λ u v. padded (width_of u) (text_of_truth v)) stand.1.0.number stand.0.number) (truth_written low p m operands rest a b texts called))

char_does : PrimitiveDoes WriteChar
char_does low p m operands rest (n, (width, _)) (a, (b, _)) texts stand called =
    writes_calls low p m operands rest _ (subst (Writes low p m operands rest) (ap₂ (λ u v. padded (width_of u) (text_of_char v)) stand.1.0.number stand.0.number) (char_written low p m operands rest a b texts called))

text_does : PrimitiveDoes WriteText
text_does low p m operands rest (text, (width, _)) (place, (b, _)) texts stand called =
    writes_calls low p m operands rest _ (subst (Writes low p m operands rest) (ap (λ u. padded (width_of u) text.bytes) stand.1.0.number) (bytes_written low p m operands rest place b text.bytes texts stand.0.0 stand.0.2 called))

-- a primitive without a routine is asked for nothing
pub primitive_does : (q : Primitive) → PrimitiveDoes q
primitive_does WriteNumber = number_does
primitive_does WriteTruth = truth_does
primitive_does WriteChar = char_does
primitive_does WriteText = text_does
primitive_does Same = tt
primitive_does Concatenate = tt
primitive_does CompareTexts = tt
primitive_does TextLength = tt
primitive_does CharAt = tt
primitive_does PieceOfText = tt
primitive_does TextOfChar = tt
primitive_does StrNumber = tt
primitive_does StrTruth = tt
primitive_does StrChar = tt
primitive_does StrText = tt
primitive_does ValNumber = tt
primitive_does ValCode = tt
primitive_does PutChar = tt
primitive_does ResizeText = tt
