-- What the table of routines keeps: each takes as many words as its operands pass, and those are few.
use Rattle.std.proofs.Common.{◌≡◌, ◌≤◌, ℕ, true, List, ◌++◌, length, slice_get, Some, None, refl, arith}
use Rattle.op_primitives.specs.Primitives.{routine_of, words_in}
use Rattle.op_low.specs.Valid.{takes}
use Rattle.op_low.specs.declared.code.Routine.{Routine}
use Rattle.op_meaning.specs.Primitives.{gives, signature}
use Rattle.op_meaning.specs.declared.primitive.Primitive.{Primitive}
use Rattle.op_meaning.specs.declared.primitive.Primitive.TheVariants.{WriteNumber, WriteTruth, WriteChar, WriteText, Same, Concatenate, CompareTexts, TextLength, CharAt, PieceOfText, TextOfChar, StrNumber, StrTruth, StrChar, StrText, ValNumber, ValCode, PutChar, ResizeText}
use Rattle.op_rt_text.specs.Names.{write_bytes_number, write_char_number, write_number_number, write_truth_number}
use Rattle.op_rt_text.specs.Runtime.{runtime_routines}

pub record IsServed (p : Primitive) : Type 0 where
  pub routine : ℕ
  pub is : routine_of p ≡ Some routine
  pub few : length (signature p) ≤ 8
  pub takes_them : (others : List Routine) → takes (slice_get (runtime_routines ++ others) routine) (words_in (signature p)) ≡ true

-- what gives nothing has a routine
pub served : (p : Primitive) → gives p ≡ None → IsServed p
served WriteNumber nothing = record { routine = write_number_number; is = refl; few = omega arith; takes_them = λ others. refl }
served WriteTruth nothing = record { routine = write_truth_number; is = refl; few = omega arith; takes_them = λ others. refl }
served WriteChar nothing = record { routine = write_char_number; is = refl; few = omega arith; takes_them = λ others. refl }
served WriteText nothing = record { routine = write_bytes_number; is = refl; few = omega arith; takes_them = λ others. refl }
served Same nothing = absurd cc
served Concatenate nothing = absurd cc
served CompareTexts nothing = absurd cc
served TextLength nothing = absurd cc
served CharAt nothing = absurd cc
served PieceOfText nothing = absurd cc
served TextOfChar nothing = absurd cc
served StrNumber nothing = absurd cc
served StrTruth nothing = absurd cc
served StrChar nothing = absurd cc
served StrText nothing = absurd cc
served ValNumber nothing = absurd cc
served ValCode nothing = absurd cc
served PutChar nothing = absurd cc
served ResizeText nothing = absurd cc
