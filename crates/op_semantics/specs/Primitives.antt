-- Primitives: what a run-time routine does in one step. Each has a row in each of four tables: what it takes, what it gives, what it does
-- with the values of what it takes, and how many bytes of these it handles. (Free Pascal Reference Guide, "Expressions", "Ansistrings",
-- "Dynamic arrays", "Classes" and "Interfaces"; reference of the unit System.)
use Rattle.std.specs.Prelude.{◌≡◌, ℕ, zero, suc, ◌+◌, ◌-◌, ◌*◌, ℤ, pos, ◌-ℤ◌, int_lt, min, nat_abs, nat_eq, nat_lt, unsigned_abs, Bool, true, false, ◌&&◌, List, [], ◌∷◌, ◌++◌, length, map, slice_get, slice_index, Option, Some, None, if◌then◌else◌}
use Rattle.op_core.specs.declared.class.Class.{Class as ClassRow}
use Rattle.op_core.specs.declared.ids.ClassId.{ClassId}
use Rattle.op_core.specs.declared.ids.TypeId.{TypeId}
use Rattle.op_core.specs.declared.program.Core.{Core}
use Rattle.op_semantics.specs.Errors.{failed}
use Rattle.op_semantics.specs.Methods.{is_one_of}
use Rattle.op_meaning.specs.Numbers.{between}
use Rattle.op_semantics.specs.Paths.{Path, at_place, place_of}
use Rattle.op_meaning.specs.Sets.{truth}
use Rattle.op_semantics.specs.Shapes.{is_managed, zero_of}
use Rattle.op_meaning.specs.Texts.{at_least_zero, byte_of, denoted, order_of, padded, piece_of, resized, text_of_char, text_of_number, text_of_truth, width_of, with_byte}
use Rattle.op_meaning.specs.Values.{Text, empty, named, text_of_literal, Value, number, parts, text, line, array, instance, count_of, part_of, object, all_of, Reached, reached, failing, and_then}
use Rattle.op_semantics.specs.World.{World, Object, gone, chars, buffer, elements, fields, Dead, bytes_in, making, number_at, value_at, with_made, with_number, with_object, with_value, written}
use Rattle.op_semantics.specs.declared.primitive.Primitive.{Primitive}
use Rattle.op_semantics.specs.declared.primitive.Primitive.TheVariants.{WriteNumber, WriteTruth, WriteChar, WriteText, Same, Concatenate, CompareTexts, TextLength, CharAt, PieceOfText, TextOfChar, StrNumber, StrTruth, StrChar, StrText, ValNumber, ValCode, PutChar, ResizeText, NewLine, LongerLine, IsFull, WiderLine, TextOfLine, ReadNumber, ArrayLength, ResizeArray, PieceOfArray, CopyElements, NewList, SameName, IsSome, AsInterface, AsInstance, IsInstance, NameOfClass}
use Rattle.op_semantics.specs.declared.primitive.Sort.{Sort}
use Rattle.op_semantics.specs.declared.primitive.Sort.TheVariants.{Numeric, Valued, Typed, Noted}

-- ---- operands, which are looked at

-- the number in a temporary; the value at a place; a literal; nil of a type; a type itself; and the bytes of the number that is being read
pub data Operand : Type 0 where
  from_temp : (t : ℕ) → Operand
  value_of : (path : Path) → Operand
  literal_text : (bytes : List ℕ) → Operand
  nil_of : (of : TypeId) → Operand
  a_type : (of : TypeId) → Operand
  the_token : Operand

abbrev pub sort_of : Operand → Sort
sort_of (from_temp t) = Numeric
sort_of (value_of path) = Valued
sort_of (literal_text bytes) = Valued
sort_of (nil_of of) = Valued
sort_of (a_type of) = Typed
sort_of the_token = Noted

-- each operand has a property
abbrev pub EachOperand : (Operand → Type 0) → List Operand → Type 0
EachOperand P [] = Unit {0}
EachOperand P (o ∷ os) = P o × EachOperand P os

-- What is seen of a value: the value, its bytes where it is a text or a line, what stands under its name, what that holds (a value with parts
-- is what it holds), and whether it is in no other place.
pub record Looked : Type 0 where
  pub value : Value
  pub bytes : List ℕ
  pub under : Object
  pub inside : Value
  pub alone : Bool

abbrev pub name_in : Value → Option ℕ
name_in (text (named n)) = Some n
name_in (text t) = None
name_in (line n) = Some n
name_in (array n) = n
name_in (instance holds n) = n
name_in (number n) = None
name_in (parts count part) = None

abbrev object_of : World → Option ℕ → Object
object_of w None = gone
object_of w (Some n) = w.objects n

abbrev inside_of : World → Value → Option ℕ → Value
inside_of w v None = v
inside_of w v (Some n) = w.memory (object n)

-- by how many places each name is held
abbrev is_alone : (held : ℕ → ℕ) → Option ℕ → Bool
is_alone held None = false
is_alone held (Some n) = nat_eq (held n) 1

abbrev pub looked : (held : ℕ → ℕ) → World → Value → Looked
looked held w v = record { value = v; bytes = bytes_in w v; under = object_of w (name_in v); inside = inside_of w v (name_in v); alone = is_alone held (name_in v) }

-- a literal, or nil, is in no place
abbrev pub a_constant : Value → List ℕ → Looked
a_constant v bytes = record { value = v; bytes = bytes; under = gone; inside = v; alone = false }

abbrev pub a_literal : List ℕ → Looked
a_literal bytes = a_constant (text (text_of_literal bytes)) bytes

abbrev pub text_in : Value → Text
text_in (text t) = t
text_in v = empty

-- the values of operands of these sorts
abbrev pub Values : List Sort → Type 0
Values [] = Unit {0}
Values (Numeric ∷ sorts) = ℤ × Values sorts
Values (Valued ∷ sorts) = Looked × Values sorts
Values (Typed ∷ sorts) = TypeId × Values sorts
Values (Noted ∷ sorts) = List ℕ × Values sorts

-- an operand of another sort has no value
abbrev pub number_of : World → List Operand → ℤ
number_of w (from_temp t ∷ os) = number_at w t
number_of w os = pos 0

abbrev pub looked_at : Core → (held : ℕ → ℕ) → World → List Operand → Reached Looked
looked_at core held w (value_of path ∷ os) = and_then (place_of w path) (λ q. reached (looked held w (value_at w q)))
looked_at core held w (literal_text bytes ∷ os) = reached (a_literal bytes)
looked_at core held w (nil_of of ∷ os) = reached (a_constant (zero_of core of) [])
looked_at core held w os = reached (a_literal [])

abbrev pub type_of_operand : List Operand → TypeId
type_of_operand (a_type of ∷ os) = of
type_of_operand os = record { 0 = 0 }

abbrev pub behind_first : List Operand → List Operand
behind_first [] = []
behind_first (o ∷ os) = os

-- from the left to the right; the first path that fails decides
abbrev pub values_of : Core → (held : ℕ → ℕ) → World → (sorts : List Sort) → List Operand → Reached (Values sorts)
values_of core held w [] os = reached tt
values_of core held w (Numeric ∷ sorts) os = and_then (values_of core held w sorts (behind_first os)) (λ vs. reached (number_of w os, vs))
values_of core held w (Valued ∷ sorts) os =
    and_then (looked_at core held w os) (λ v. and_then (values_of core held w sorts (behind_first os)) (λ vs. reached (v, vs)))
values_of core held w (Typed ∷ sorts) os = and_then (values_of core held w sorts (behind_first os)) (λ vs. reached (type_of_operand os, vs))
values_of core held w (Noted ∷ sorts) os = and_then (values_of core held w sorts (behind_first os)) (λ vs. reached (w.token, vs))

-- ---- what is given

-- A value: one that stands already, as it is; a text of new bytes; other bytes for a text that was looked at, in its place where it is in no
-- other one; a new array, by what each of so many elements is; a new line, with room for so many bytes; or a line that stands, with other bytes.
pub data NewValue : Type 0 where
  kept : (value : Value) → NewValue
  fresh : (bytes : List ℕ) → NewValue
  changed : (old : Looked) → (bytes : List ℕ) → NewValue
  listed : (of : TypeId) → (count : ℕ) → (part : ℕ → Value) → NewValue
  new_line : (bytes : List ℕ) → (capacity : ℕ) → NewValue
  longer : (old : Looked) → (bytes : List ℕ) → NewValue

-- nothing, a number or a value
abbrev pub Given : Option Sort → Type 0
Given None = Unit {0}
Given (Some Numeric) = ℤ
Given (Some Valued) = NewValue
Given (Some Typed) = Unit {0}
Given (Some Noted) = Unit {0}

-- Where what is given goes. A number goes to a temporary. A value goes to a new temporary, into a place, whose old value goes to a new
-- temporary, or over what is at a place, which is given itself, is held elsewhere, or has not to be ended.
pub data Destination : Type 0 where
  unused : Destination
  in_temp : (t : ℕ) → Destination
  in_new : (of : TypeId) → (n : ℕ) → Destination
  into_place : (of : TypeId) → (to : Path) → (old : ℕ) → Destination
  over_place : (to : Path) → Destination

abbrev pub IsTaken : Option Sort → Destination → Type 0
IsTaken None unused = Unit {0}
IsTaken (Some Numeric) (in_temp t) = Unit {0}
IsTaken (Some Valued) (in_new of n) = Unit {0}
IsTaken (Some Valued) (into_place of to old) = Unit {0}
IsTaken (Some Valued) (over_place to) = Unit {0}
IsTaken _ _ = ⊥

-- what a primitive has done that met no error: the bytes that it has written, and what it gives
pub record Outcome (gives : Option Sort) : Type 0 where
  pub bytes : List ℕ
  pub value : Given gives

abbrev pub writes : List ℕ → Reached (Outcome None)
writes bytes = reached (record { bytes = bytes; value = tt })

abbrev pub gives_number : ℤ → Reached (Outcome (Some Numeric))
gives_number n = reached (record { bytes = []; value = n })

abbrev pub gives_value : NewValue → Reached (Outcome (Some Valued))
gives_value new = reached (record { bytes = []; value = new })

-- ---- what rows say of texts

-- where one of the two is empty the other one is shared
abbrev pub joined : Looked → Looked → (left right : List ℕ) → NewValue
joined a b [] right = kept b.value
joined a b (x ∷ left) [] = kept a.value
joined a b (x ∷ left) (y ∷ right) = fresh (x ∷ left ++ y ∷ right)

-- error 201 where a text has no such Char; they are counted from 1
abbrev pub at_index : {A : Type 0} → Looked → ℤ → (ℕ → Reached A) → Reached A
at_index t k f = if between (pos 1) (pos (length t.bytes)) k then f (nat_abs (k -ℤ pos 1)) else failing 201

abbrev pub text_resized : Looked → ℤ → Reached (Outcome (Some Valued))
text_resized t n =
    if int_lt n (pos 0) then failing 201
    else gives_value (if t.alone && nat_eq (length t.bytes) (unsigned_abs n) then kept t.value else fresh (resized (unsigned_abs n) t.bytes))

-- ---- of lines that are being read ("Read")

-- the first byte of a line finds room for so many
abbrev pub first_capacity : ℕ
first_capacity = 64

abbrev pub capacity_of : Object → ℕ
capacity_of (buffer bytes capacity) = capacity
capacity_of _ = 0

-- error 106 where the text denotes no number; no text at all denotes 0
abbrev pub number_read : List ℕ → Reached (Outcome (Some Numeric))
number_read [] = gives_number (pos 0)
number_read (b ∷ bytes) = let d = denoted (b ∷ bytes) in if nat_eq d.code 0 then gives_number d.number else failing 106

-- ---- of arrays

-- those that there were, and behind them what elements begin as
abbrev pub array_resized : Core → TypeId → Looked → ℤ → Reached (Outcome (Some Valued))
array_resized core of a n =
    if int_lt n (pos 0) then failing 201
    else gives_value (
    if a.alone && nat_eq (count_of a.inside) (unsigned_abs n) then kept a.value
    else listed of (unsigned_abs n) (λ k. if nat_lt k (count_of a.inside) then part_of k a.inside else zero_of core of))

-- so many from an index on, or what there is of these
abbrev pub elements_between : TypeId → Looked → (before count : ℕ) → NewValue
elements_between of a before count = listed of (min count (count_of a.inside - before)) (λ k. part_of (before + k) a.inside)

-- a list of so many values, each of which is given to it then
abbrev pub empty_list : Core → TypeId → ℤ → NewValue
empty_list core of n = kept (parts (at_least_zero n) (λ k. zero_of core of))

-- ---- of references and instances

abbrev pub is_same_name : Option ℕ → Option ℕ → Bool
is_same_name None None = true
is_same_name (Some a) (Some b) = nat_eq a b
is_same_name _ _ = false

abbrev pub is_some : Option ℕ → Bool
is_some None = false
is_some (Some n) = true

-- nil, and what is dead, has no class
abbrev class_by : {A : Type 0} → Object → (ClassId → Reached A) → Reached A
class_by (fields c Dead) f = failing 216
class_by (fields c phase) f = f c
class_by o f = failing 216

abbrev pub asked : Core → TypeId → Looked → Option ℕ → Reached (Outcome (Some Numeric))
asked core of x None = gives_number (pos 0)
asked core of x (Some i) = class_by x.under (λ c. gives_number (truth (is_one_of core c of)))

abbrev pub cast_to : Core → TypeId → Looked → Option ℕ → Reached (Outcome (Some Valued))
cast_to core of x None = gives_value (kept (instance (is_managed core of) None))
cast_to core of x (Some i) = class_by x.under (λ c. if is_one_of core c of then gives_value (kept (instance (is_managed core of) (Some i))) else failing 219)

abbrev name_under : Option ClassRow → List ℕ
name_under None = []
name_under (Some x) = x.name

abbrev pub class_named : Core → Looked → Reached (Outcome (Some Valued))
class_named core x = class_by x.under (λ c. gives_value (kept (text (text_of_literal (name_under (slice_get core.classes c.0))))))

-- ---- the tables

-- the sorts of the operands, in order
abbrev pub signature : Primitive → List Sort
signature WriteNumber = Numeric ∷ Numeric ∷ []
signature WriteTruth = Numeric ∷ Numeric ∷ []
signature WriteChar = Numeric ∷ Numeric ∷ []
signature WriteText = Valued ∷ Numeric ∷ []
signature Same = Valued ∷ []
signature Concatenate = Valued ∷ Valued ∷ []
signature CompareTexts = Valued ∷ Valued ∷ []
signature TextLength = Valued ∷ []
signature CharAt = Valued ∷ Numeric ∷ []
signature PieceOfText = Valued ∷ Numeric ∷ Numeric ∷ []
signature TextOfChar = Numeric ∷ []
signature StrNumber = Numeric ∷ Numeric ∷ []
signature StrTruth = Numeric ∷ Numeric ∷ []
signature StrChar = Numeric ∷ Numeric ∷ []
signature StrText = Valued ∷ Numeric ∷ []
signature ValNumber = Valued ∷ []
signature ValCode = Valued ∷ []
signature PutChar = Valued ∷ Numeric ∷ Numeric ∷ []
signature ResizeText = Valued ∷ Numeric ∷ []
signature NewLine = []
signature LongerLine = Valued ∷ Numeric ∷ []
signature IsFull = Valued ∷ []
signature WiderLine = Valued ∷ []
signature TextOfLine = Valued ∷ []
signature ReadNumber = Noted ∷ []
signature ArrayLength = Valued ∷ []
signature ResizeArray = Typed ∷ Valued ∷ Numeric ∷ []
signature PieceOfArray = Typed ∷ Valued ∷ Numeric ∷ Numeric ∷ []
signature CopyElements = Typed ∷ Valued ∷ []
signature NewList = Typed ∷ Numeric ∷ []
signature SameName = Valued ∷ Valued ∷ []
signature IsSome = Valued ∷ []
signature AsInterface = Typed ∷ Valued ∷ []
signature AsInstance = Typed ∷ Valued ∷ []
signature IsInstance = Typed ∷ Valued ∷ []
signature NameOfClass = Valued ∷ []

-- the sort of what is given
abbrev pub gives : Primitive → Option Sort
gives WriteNumber = None
gives WriteTruth = None
gives WriteChar = None
gives WriteText = None
gives Same = Some Valued
gives Concatenate = Some Valued
gives CompareTexts = Some Numeric
gives TextLength = Some Numeric
gives CharAt = Some Numeric
gives PieceOfText = Some Valued
gives TextOfChar = Some Valued
gives StrNumber = Some Valued
gives StrTruth = Some Valued
gives StrChar = Some Valued
gives StrText = Some Valued
gives ValNumber = Some Numeric
gives ValCode = Some Numeric
gives PutChar = Some Valued
gives ResizeText = Some Valued
gives NewLine = Some Valued
gives LongerLine = Some Valued
gives IsFull = Some Numeric
gives WiderLine = Some Valued
gives TextOfLine = Some Valued
gives ReadNumber = Some Numeric
gives ArrayLength = Some Numeric
gives ResizeArray = Some Valued
gives PieceOfArray = Some Valued
gives CopyElements = Some Valued
gives NewList = Some Valued
gives SameName = Some Numeric
gives IsSome = Some Numeric
gives AsInterface = Some Valued
gives AsInstance = Some Valued
gives IsInstance = Some Numeric
gives NameOfClass = Some Valued

-- The four writes and the four of Str take a width behind the value. An order is below, at or above zero. A piece begins at an index and has
-- so many Chars or elements, or what there is of these; a Char goes to an index. Rows of arrays take the type of the elements, and those of
-- instances the type that is asked for.
abbrev pub meaning : Core → (p : Primitive) → Values (signature p) → Reached (Outcome (gives p))
meaning core WriteNumber (n, (width, _)) = writes (padded (width_of width) (text_of_number n))
meaning core WriteTruth (n, (width, _)) = writes (padded (width_of width) (text_of_truth n))
meaning core WriteChar (n, (width, _)) = writes (padded (width_of width) (text_of_char n))
meaning core WriteText (t, (width, _)) = writes (padded (width_of width) t.bytes)
meaning core Same (v, _) = gives_value (kept v.value)
meaning core Concatenate (a, (b, _)) = gives_value (joined a b a.bytes b.bytes)
meaning core CompareTexts (a, (b, _)) = gives_number (order_of a.bytes b.bytes)
meaning core TextLength (t, _) = gives_number (pos (length t.bytes))
meaning core CharAt (t, (k, _)) = at_index t k (λ before. gives_number (pos (slice_index t.bytes before)))
meaning core PieceOfText (t, (k, (count, _))) = gives_value (fresh (piece_of (at_least_zero (k -ℤ pos 1)) (at_least_zero count) t.bytes))
meaning core TextOfChar (n, _) = gives_value (fresh (text_of_char n))
meaning core StrNumber (n, (width, _)) = gives_value (fresh (padded (width_of width) (text_of_number n)))
meaning core StrTruth (n, (width, _)) = gives_value (fresh (padded (width_of width) (text_of_truth n)))
meaning core StrChar (n, (width, _)) = gives_value (fresh (padded (width_of width) (text_of_char n)))
meaning core StrText (t, (width, _)) = gives_value (fresh (padded (width_of width) t.bytes))
meaning core ValNumber (t, _) = gives_number (denoted t.bytes).number
meaning core ValCode (t, _) = gives_number (pos (denoted t.bytes).code)
meaning core PutChar (t, (k, (n, _))) = at_index t k (λ before. gives_value (changed t (with_byte before (byte_of n) t.bytes)))
meaning core ResizeText (t, (n, _)) = text_resized t n
meaning core NewLine _ = gives_value (new_line [] first_capacity)
meaning core LongerLine (l, (n, _)) = gives_value (longer l (l.bytes ++ byte_of n ∷ []))
meaning core IsFull (l, _) = gives_number (truth (nat_eq (length l.bytes) (capacity_of l.under)))
meaning core WiderLine (l, _) = gives_value (new_line l.bytes (2 * capacity_of l.under))
meaning core TextOfLine (l, _) = gives_value (fresh l.bytes)
meaning core ReadNumber (bytes, _) = number_read bytes
meaning core ArrayLength (a, _) = gives_number (pos (count_of a.inside))
meaning core ResizeArray (of, (a, (n, _))) = array_resized core of a n
meaning core PieceOfArray (of, (a, (k, (count, _)))) = gives_value (elements_between of a (at_least_zero k) (at_least_zero count))
meaning core CopyElements (of, (a, _)) = gives_value (elements_between of a 0 (count_of a.inside))
meaning core NewList (of, (n, _)) = gives_value (empty_list core of n)
meaning core SameName (a, (b, _)) = gives_number (truth (is_same_name (name_in a.value) (name_in b.value)))
meaning core IsSome (a, _) = gives_number (truth (is_some (name_in a.value)))
meaning core AsInterface (of, (x, _)) = gives_value (kept (instance (is_managed core of) (name_in x.value)))
meaning core AsInstance (of, (x, _)) = cast_to core of x (name_in x.value)
meaning core IsInstance (of, (x, _)) = asked core of x (name_in x.value)
meaning core NameOfClass (x, _) = class_named core x

-- four for each number and value that is taken or given, and the bytes of texts that are gone through; what is written or made is counted
-- elsewhere
abbrev pub bytes_handled : (p : Primitive) → Values (signature p) → ℕ
bytes_handled WriteNumber vs = 12
bytes_handled WriteTruth vs = 12
bytes_handled WriteChar vs = 12
bytes_handled WriteText (t, _) = 4 + length t.bytes
bytes_handled Same vs = 8
bytes_handled Concatenate vs = 12
bytes_handled CompareTexts (a, (b, _)) = 12 + length a.bytes + length b.bytes
bytes_handled TextLength vs = 8
bytes_handled CharAt vs = 12
bytes_handled PieceOfText vs = 16
bytes_handled TextOfChar vs = 8
bytes_handled StrNumber vs = 12
bytes_handled StrTruth vs = 12
bytes_handled StrChar vs = 12
bytes_handled StrText (t, _) = 12 + length t.bytes
bytes_handled ValNumber (t, _) = 8 + length t.bytes
bytes_handled ValCode (t, _) = 8 + length t.bytes
bytes_handled PutChar vs = 16
bytes_handled ResizeText vs = 12
bytes_handled NewLine vs = 4
bytes_handled LongerLine vs = 12
bytes_handled IsFull vs = 8
bytes_handled WiderLine vs = 8
bytes_handled TextOfLine vs = 8
bytes_handled ReadNumber (bytes, _) = 4 + length bytes
bytes_handled ArrayLength vs = 8
bytes_handled ResizeArray vs = 16
bytes_handled PieceOfArray vs = 20
bytes_handled CopyElements vs = 12
bytes_handled NewList vs = 12
bytes_handled SameName vs = 12
bytes_handled IsSome vs = 8
bytes_handled AsInterface vs = 12
bytes_handled AsInstance vs = 12
bytes_handled IsInstance vs = 12
bytes_handled NameOfClass vs = 8

-- ---- what all have in common

-- the value that it is then, and the world in which it stands
pub record Standing : Type 0 where
  pub value : Value
  pub world : World

-- the empty text takes no name
abbrev pub made_of : List ℕ → World → Standing
made_of [] w = record { value = text empty; world = w }
made_of (b ∷ bytes) w = record { value = text (named w.next); world = making (chars (b ∷ bytes)) w }

abbrev pub changed_to : (alone : Bool) → Value → List ℕ → World → Standing
changed_to true (text (named n)) bytes w = record { value = text (named n); world = with_object n (chars bytes) w }
changed_to alone v bytes w = made_of bytes w

-- an array of no elements is nil
abbrev pub array_of : TypeId → (count : ℕ) → (ℕ → Value) → World → Standing
array_of of zero part w = record { value = array None; world = w }
array_of of (suc n) part w =
    record { value = array (Some w.next); world = with_value (all_of (object w.next)) (parts (suc n) part) (making (elements of (suc n)) w) }

abbrev longer_line : Value → List ℕ → ℕ → World → Standing
longer_line (line n) bytes capacity w = record { value = line n; world = with_object n (buffer bytes capacity) w }
longer_line v bytes capacity w = record { value = v; world = w }

abbrev pub standing : NewValue → World → Standing
standing (kept v) w = record { value = v; world = w }
standing (fresh bytes) w = made_of bytes w
standing (changed old bytes) w = changed_to old.alone old.value bytes w
standing (listed of count part) w = array_of of count part w
standing (new_line bytes capacity) w = record { value = line w.next; world = making (buffer bytes capacity) w }
standing (longer old bytes) w = longer_line old.value bytes (capacity_of old.under) w

abbrev pub value_to : Core → Destination → NewValue → World → World
value_to core (in_new of n) new w = let s = standing new w in with_made of n s.value s.world
value_to core (into_place of to old) new w =
    at_place core (place_of w to) (λ q. let s = standing new w in with_value q s.value (with_made of old (value_at w q) s.world)) w
value_to core (over_place to) new w = at_place core (place_of w to) (λ q. let s = standing new w in with_value q s.value s.world) w
value_to core unused new w = w
value_to core (in_temp t) new w = w

abbrev pub number_to : Destination → ℤ → World → World
number_to (in_temp t) n w = with_number t n w
number_to unused n w = w
number_to (in_new of k) n w = w
number_to (into_place of to old) n w = w
number_to (over_place to) n w = w

abbrev pub with_given : Core → (s : Option Sort) → Given s → Destination → World → World
with_given core None none d w = w
with_given core (Some Numeric) n d w = number_to d n w
with_given core (Some Valued) new d w = value_to core d new w
with_given core (Some Typed) none d w = w
with_given core (Some Noted) none d w = w

abbrev pub performed : {s : Option Sort} → Core → Destination → Reached (Outcome s) → World → World
performed {s} core d (reached o) w = with_given core s o.value d (written o.bytes w)
performed {s} core d (failing error) w = failed core error w

-- Operands of the sorts that the primitive takes, each of which has a property, and a destination for what it gives. That is nothing yet:
-- no other primitive has a run-time routine.
pub record IsApplied (P : Operand → Type 0) (p : Primitive) (operands : List Operand) (d : Destination) : Type 0 where
  pub sorts : map sort_of operands ≡ signature p
  pub each : EachOperand P operands
  pub taken : IsTaken (gives p) d
  pub nothing : gives p ≡ None
