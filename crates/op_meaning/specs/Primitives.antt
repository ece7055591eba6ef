-- Primitives: what a run-time routine does in one step. Each has a row in each of four tables: what it takes, what it gives, what it does
-- with the values of what it takes, and how many bytes of these it handles. (Free Pascal Reference Guide, "Expressions" and "Ansistrings";
-- reference of the unit System, "Write", "Length", "SetLength", "Copy", "Str" and "Val".)
use Rattle.std.specs.Prelude.{◌≡◌, ℕ, suc, ◌+◌, ℤ, pos, ◌-ℤ◌, int_lt, nat_abs, nat_eq, unsigned_abs, Bool, true, false, ◌&&◌, List, [], ◌∷◌, ◌++◌, length, map, slice_index, Option, Some, None, if◌then◌else◌}
use Rattle.op_core.specs.declared.ids.TypeId.{TypeId}
use Rattle.op_core.specs.declared.program.Core.{Core}
use Rattle.op_meaning.specs.Errors.{failed}
use Rattle.op_meaning.specs.Numbers.{between}
use Rattle.op_meaning.specs.Paths.{Path, at_place, place_of}
use Rattle.op_meaning.specs.Texts.{at_least_zero, byte_of, denoted, order_of, padded, piece_of, resized, text_of_char, text_of_number, text_of_truth, width_of, with_byte}
use Rattle.op_meaning.specs.Values.{Text, empty, named, text_of_literal, Value, text, Reached, reached, failing, and_then}
use Rattle.op_meaning.specs.World.{World, bytes_of_text, chars, making, number_at, value_at, with_made, with_number, with_object, with_value, written}
use Rattle.op_meaning.specs.declared.primitive.Primitive.{Primitive}
use Rattle.op_meaning.specs.declared.primitive.Primitive.TheVariants.{WriteNumber, WriteTruth, WriteChar, WriteText, Same, Concatenate, CompareTexts, TextLength, CharAt, PieceOfText, TextOfChar, StrNumber, StrTruth, StrChar, StrText, ValNumber, ValCode, PutChar, ResizeText}
use Rattle.op_meaning.specs.declared.primitive.Sort.{Sort}
use Rattle.op_meaning.specs.declared.primitive.Sort.TheVariants.{Numeric, Textual}

-- ---- operands, which are looked at

-- the number in a temporary, the text at a place, or a literal
pub data Operand : Type 0 where
  from_temp : (t : ℕ) → Operand
  text_at : (path : Path) → Operand
  literal_text : (bytes : List ℕ) → Operand

abbrev pub sort_of : Operand → Sort
sort_of (from_temp t) = Numeric
sort_of (text_at path) = Textual
sort_of (literal_text bytes) = Textual

-- each operand has a property
abbrev pub EachOperand : (Operand → Type 0) → List Operand → Type 0
EachOperand P [] = Unit {0}
EachOperand P (o ∷ os) = P o × EachOperand P os

-- a text that is looked at: which one it is, its bytes, and whether it is in no other place
pub record Looked : Type 0 where
  pub text : Text
  pub bytes : List ℕ
  pub alone : Bool

abbrev pub a_literal : List ℕ → Looked
a_literal bytes = record { text = text_of_literal bytes; bytes = bytes; alone = false }

-- by how many places each name is held
abbrev is_alone : (held : ℕ → ℕ) → Text → Bool
is_alone held (named n) = nat_eq (held n) 1
is_alone held t = false

abbrev pub text_in : Value → Text
text_in (text t) = t
text_in v = empty

abbrev pub looked : (held : ℕ → ℕ) → World → Text → Looked
looked held w t = record { text = t; bytes = bytes_of_text w t; alone = is_alone held t }

-- the values of operands of these sorts
abbrev pub Values : List Sort → Type 0
Values [] = Unit {0}
Values (Numeric ∷ sorts) = ℤ × Values sorts
Values (Textual ∷ sorts) = Looked × Values sorts

-- an operand of another sort has no value
abbrev pub number_of : World → List Operand → ℤ
number_of w (from_temp t ∷ os) = number_at w t
number_of w (text_at path ∷ os) = pos 0
number_of w (literal_text bytes ∷ os) = pos 0
number_of w [] = pos 0

abbrev pub text_of : (held : ℕ → ℕ) → World → List Operand → Reached Looked
text_of held w (text_at path ∷ os) = and_then (place_of w path) (λ q. reached (looked held w (text_in (value_at w q))))
text_of held w (literal_text bytes ∷ os) = reached (a_literal bytes)
text_of held w (from_temp t ∷ os) = reached (a_literal [])
text_of held w [] = reached (a_literal [])

abbrev pub behind_first : List Operand → List Operand
behind_first [] = []
behind_first (o ∷ os) = os

-- from the left to the right; the first path that fails decides
abbrev pub values_of : (held : ℕ → ℕ) → World → (sorts : List Sort) → List Operand → Reached (Values sorts)
values_of held w [] os = reached tt
values_of held w (Numeric ∷ sorts) os = and_then (values_of held w sorts (behind_first os)) (λ vs. reached (number_of w os, vs))
values_of held w (Textual ∷ sorts) os = and_then (text_of held w os) (λ v. and_then (values_of held w sorts (behind_first os)) (λ vs. reached (v, vs)))

-- ---- what is given

-- a text: one that stands already, which is shared; new bytes; or other bytes for one that was looked at, in its place where it is in no
-- other one
pub data NewText : Type 0 where
  shared : (text : Text) → NewText
  fresh : (bytes : List ℕ) → NewText
  changed : (old : Looked) → (bytes : List ℕ) → NewText

-- nothing, a number or a text
abbrev pub Given : Option Sort → Type 0
Given None = Unit {0}
Given (Some Numeric) = ℤ
Given (Some Textual) = NewText

-- Where what is given goes. A number goes to a temporary. A text goes to a new temporary, into a place, whose old value goes to a new
-- temporary, or over the text at a place, which is given itself or held elsewhere.
pub data Destination : Type 0 where
  unused : Destination
  in_temp : (t : ℕ) → Destination
  in_new : (of : TypeId) → (n : ℕ) → Destination
  into_place : (of : TypeId) → (to : Path) → (old : ℕ) → Destination
  over_place : (to : Path) → Destination

abbrev pub IsTaken : Option Sort → Destination → Type 0
IsTaken None unused = Unit {0}
IsTaken (Some Numeric) (in_temp t) = Unit {0}
IsTaken (Some Textual) (in_new of n) = Unit {0}
IsTaken (Some Textual) (into_place of to old) = Unit {0}
IsTaken (Some Textual) (over_place to) = Unit {0}
IsTaken _ _ = ⊥

-- what a primitive has done that met no error: the bytes that it has written, and what it gives
pub record Outcome (gives : Option Sort) : Type 0 where
  pub bytes : List ℕ
  pub value : Given gives

abbrev pub writes : List ℕ → Reached (Outcome None)
writes bytes = reached (record { bytes = bytes; value = tt })

abbrev pub gives_number : ℤ → Reached (Outcome (Some Numeric))
gives_number n = reached (record { bytes = []; value = n })

abbrev pub gives_text : NewText → Reached (Outcome (Some Textual))
gives_text new = reached (record { bytes = []; value = new })

-- ---- what rows say of texts

-- where one of the two is empty the other one is shared
abbrev pub joined : Looked → Looked → (left right : List ℕ) → NewText
joined a b [] right = shared b.text
joined a b (x ∷ left) [] = shared a.text
joined a b (x ∷ left) (y ∷ right) = fresh (x ∷ left ++ y ∷ right)

-- error 201 where a text has no such Char; they are counted from 1
abbrev pub at_index : {A : Type 0} → Looked → ℤ → (ℕ → Reached A) → Reached A
at_index t k f = if between (pos 1) (pos (length t.bytes)) k then f (nat_abs (k -ℤ pos 1)) else failing 201

abbrev pub text_resized : Looked → ℤ → Reached (Outcome (Some Textual))
text_resized t n =
    if int_lt n (pos 0) then failing 201
    else gives_text (if t.alone && nat_eq (length t.bytes) (unsigned_abs n) then shared t.text else fresh (resized (unsigned_abs n) t.bytes))

-- ---- the tables

-- the sorts of the operands, in order
abbrev pub signature : Primitive → List Sort
signature WriteNumber = Numeric ∷ Numeric ∷ []
signature WriteTruth = Numeric ∷ Numeric ∷ []
signature WriteChar = Numeric ∷ Numeric ∷ []
signature WriteText = Textual ∷ Numeric ∷ []
signature Same = Textual ∷ []
signature Concatenate = Textual ∷ Textual ∷ []
signature CompareTexts = Textual ∷ Textual ∷ []
signature TextLength = Textual ∷ []
signature CharAt = Textual ∷ Numeric ∷ []
signature PieceOfText = Textual ∷ Numeric ∷ Numeric ∷ []
signature TextOfChar = Numeric ∷ []
signature StrNumber = Numeric ∷ Numeric ∷ []
signature StrTruth = Numeric ∷ Numeric ∷ []
signature StrChar = Numeric ∷ Numeric ∷ []
signature StrText = Textual ∷ Numeric ∷ []
signature ValNumber = Textual ∷ []
signature ValCode = Textual ∷ []
signature PutChar = Textual ∷ Numeric ∷ Numeric ∷ []
signature ResizeText = Textual ∷ Numeric ∷ []

-- the sort of what is given
abbrev pub gives : Primitive → Option Sort
gives WriteNumber = None
gives WriteTruth = None
gives WriteChar = None
gives WriteText = None
gives Same = Some Textual
gives Concatenate = Some Textual
gives CompareTexts = Some Numeric
gives TextLength = Some Numeric
gives CharAt = Some Numeric
gives PieceOfText = Some Textual
gives TextOfChar = Some Textual
gives StrNumber = Some Textual
gives StrTruth = Some Textual
gives StrChar = Some Textual
gives StrText = Some Textual
gives ValNumber = Some Numeric
gives ValCode = Some Numeric
gives PutChar = Some Textual
gives ResizeText = Some Textual

-- The four writes and the four of Str take a width behind the value. An order is below, at or above zero. A piece begins at an index and has
-- so many Chars, or what there is of these; a Char goes to an index.
abbrev pub meaning : (p : Primitive) → Values (signature p) → Reached (Outcome (gives p))
meaning WriteNumber (n, (width, _)) = writes (padded (width_of width) (text_of_number n))
meaning WriteTruth (n, (width, _)) = writes (padded (width_of width) (text_of_truth n))
meaning WriteChar (n, (width, _)) = writes (padded (width_of width) (text_of_char n))
meaning WriteText (t, (width, _)) = writes (padded (width_of width) t.bytes)
meaning Same (t, _) = gives_text (shared t.text)
meaning Concatenate (a, (b, _)) = gives_text (joined a b a.bytes b.bytes)
meaning CompareTexts (a, (b, _)) = gives_number (order_of a.bytes b.bytes)
meaning TextLength (t, _) = gives_number (pos (length t.bytes))
meaning CharAt (t, (k, _)) = at_index t k (λ before. gives_number (pos (slice_index t.bytes before)))
meaning PieceOfText (t, (k, (count, _))) = gives_text (fresh (piece_of (at_least_zero (k -ℤ pos 1)) (at_least_zero count) t.bytes))
meaning TextOfChar (n, _) = gives_text (fresh (text_of_char n))
meaning StrNumber (n, (width, _)) = gives_text (fresh (padded (width_of width) (text_of_number n)))
meaning StrTruth (n, (width, _)) = gives_text (fresh (padded (width_of width) (text_of_truth n)))
meaning StrChar (n, (width, _)) = gives_text (fresh (padded (width_of width) (text_of_char n)))
meaning StrText (t, (width, _)) = gives_text (fresh (padded (width_of width) t.bytes))
meaning ValNumber (t, _) = gives_number (denoted t.bytes).number
meaning ValCode (t, _) = gives_number (pos (denoted t.bytes).code)
meaning PutChar (t, (k, (n, _))) = at_index t k (λ before. gives_text (changed t (with_byte before (byte_of n) t.bytes)))
meaning ResizeText (t, (n, _)) = text_resized t n

-- four for each number and text that is taken or given, and the bytes of texts that are gone through; what is written or made is counted
-- elsewhere
abbrev pub bytes_handled : (p : Primitive) → Values (signature p) → ℕ
bytes_handled WriteNumber vs = 12
bytes_handled WriteTruth vs = 12
bytes_handled WriteChar vs = 12
bytes_handled WriteText (t, _) = 4 + length t.bytes
bytes_handled Same vs = 8
bytes_handled Concatenate vs = 12
bytes_handled CompareTexts (a, (b, _)) = 12 + length a.bytes + length b.bytes
bytes_handled TextLength vs = 8
bytes_handled CharAt vs = 12
bytes_handled PieceOfText vs = 16
bytes_handled TextOfChar vs = 8
bytes_handled StrNumber vs = 12
bytes_handled StrTruth vs = 12
bytes_handled StrChar vs = 12
bytes_handled StrText (t, _) = 12 + length t.bytes
bytes_handled ValNumber (t, _) = 8 + length t.bytes
bytes_handled ValCode (t, _) = 8 + length t.bytes
bytes_handled PutChar vs = 16
bytes_handled ResizeText vs = 12

-- ---- what all have in common

-- the text that it is then, and the world in which it stands
pub record Standing : Type 0 where
  pub text : Text
  pub world : World

-- the empty text takes no name
abbrev pub made_of : List ℕ → World → Standing
made_of [] w = record { text = empty; world = w }
made_of (b ∷ bytes) w = record { text = named w.next; world = making (chars (b ∷ bytes)) w }

abbrev pub changed_to : (alone : Bool) → Text → List ℕ → World → Standing
changed_to true (named n) bytes w = record { text = named n; world = with_object n (chars bytes) w }
changed_to alone t bytes w = made_of bytes w

abbrev pub standing : NewText → World → Standing
standing (shared t) w = record { text = t; world = w }
standing (fresh bytes) w = made_of bytes w
standing (changed old bytes) w = changed_to old.alone old.text bytes w

abbrev pub text_to : Core → Destination → NewText → World → World
text_to core (in_new of n) new w = let s = standing new w in with_made of n (text s.text) s.world
text_to core (into_place of to old) new w =
    at_place core (place_of w to) (λ q. let s = standing new w in with_value q (text s.text) (with_made of old (value_at w q) s.world)) w
text_to core (over_place to) new w = at_place core (place_of w to) (λ q. let s = standing new w in with_value q (text s.text) s.world) w
text_to core unused new w = w
text_to core (in_temp t) new w = w

abbrev pub number_to : Destination → ℤ → World → World
number_to (in_temp t) n w = with_number t n w
number_to unused n w = w
number_to (in_new of k) n w = w
number_to (into_place of to old) n w = w
number_to (over_place to) n w = w

abbrev pub with_given : Core → (s : Option Sort) → Given s → Destination → World → World
with_given core None none d w = w
with_given core (Some Numeric) n d w = number_to d n w
with_given core (Some Textual) new d w = text_to core d new w

abbrev pub performed : {s : Option Sort} → Core → Destination → Reached (Outcome s) → World → World
performed {s} core d (reached o) w = with_given core s o.value d (written o.bytes w)
performed {s} core d (failing error) w = failed core error w

-- Operands of the sorts that the primitive takes, each of which has a property, and a destination for what it gives. That is nothing yet:
-- no other primitive has a run-time routine.
pub record IsApplied (P : Operand → Type 0) (p : Primitive) (operands : List Operand) (d : Destination) : Type 0 where
  pub sorts : map sort_of operands ≡ signature p
  pub each : EachOperand P operands
  pub taken : IsTaken (gives p) d
  pub nothing : gives p ≡ None
