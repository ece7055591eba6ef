-- What primitives do with texts, by computation: what is expected is what Free Pascal writes, or what the profile says where that is
-- another thing (a prefix behind a sign; the place where a text is too short).
use Rattle.std.specs.Prelude.{◌≡◌, ℕ, ℤ, pos, negsuc, true, false, List, [], ◌∷◌, codes}
use Rattle.std.specs.Int.{int_wrap}
use Rattle.std.proofs.Common.{refl}
use Rattle.op_meaning.specs.Primitives.{Looked, a_literal, changed, fresh, gives_number, gives_text, meaning, shared, standing}
use Rattle.op_meaning.specs.Texts.{Denoted, decimal_by, denoted, denoted_from, digits_from, order_of}
use Rattle.op_meaning.specs.Values.{failing, empty, literal, named}
use Rattle.op_meaning.specs.World.{World, chars, making, with_object}
use Rattle.op_meaning.specs.declared.primitive.Primitive.TheVariants.{CharAt, CompareTexts, Concatenate, PieceOfText, PutChar, ResizeText, StrChar, StrNumber, StrText, StrTruth, TextLength}

-- a text under the first name, which is in no other place, or in another one too
abbrev alone : List ℕ → Looked
alone bytes = record { text = named 1; bytes = bytes; alone = true }

abbrev common : List ℕ → Looked
common bytes = record { text = named 1; bytes = bytes; alone = false }

abbrev none : Looked
none = record { text = empty; bytes = []; alone = false }

-- ---- `+` shares what it is given where the other text is empty

both_joined : meaning Concatenate (common (codes "ab"), (a_literal (codes "c"), tt)) ≡ gives_text (fresh (codes "abc"))
both_joined = refl

left_shared : meaning Concatenate (common (codes "ab"), (none, tt)) ≡ gives_text (shared (named 1))
left_shared = refl

right_shared : meaning Concatenate (none, (a_literal (codes "c"), tt)) ≡ gives_text (shared (literal (codes "c")))
right_shared = refl

none_shared : meaning Concatenate (none, (a_literal [], tt)) ≡ gives_text (shared empty)
none_shared = refl

-- ---- texts are ordered by their bytes, the shorter one first

less : meaning CompareTexts (a_literal (codes "ab"), (a_literal (codes "b"), tt)) ≡ gives_number (negsuc 0)
unfolding order_of
less = refl

shorter : meaning CompareTexts (a_literal (codes "ab"), (a_literal (codes "abc"), tt)) ≡ gives_number (negsuc 0)
unfolding order_of
shorter = refl

above_letters : meaning CompareTexts (a_literal (200 ∷ []), (a_literal (codes "z"), tt)) ≡ gives_number (pos 1)
unfolding order_of
above_letters = refl

equal : meaning CompareTexts (common (codes "abc"), (a_literal (codes "abc"), tt)) ≡ gives_number (pos 0)
unfolding order_of
equal = refl

-- ---- Chars are counted from 1

last_char : meaning CharAt (a_literal (codes "abc"), (pos 3, tt)) ≡ gives_number (pos 99)
last_char = refl

no_char : meaning CharAt (a_literal (codes "abc"), (pos 4, tt)) ≡ failing 201
no_char = refl

nothing_at_zero : meaning CharAt (a_literal (codes "abc"), (pos 0, tt)) ≡ failing 201
nothing_at_zero = refl

length_of_three : meaning TextLength (a_literal (codes "abc"), tt) ≡ gives_number (pos 3)
length_of_three = refl

-- ---- a piece begins at 1 at least, and is cut to what there is

middle : meaning PieceOfText (common (codes "hello"), (pos 2, (pos 3, tt))) ≡ gives_text (fresh (codes "ell"))
middle = refl

cut_off : meaning PieceOfText (common (codes "hello"), (pos 4, (pos 9, tt))) ≡ gives_text (fresh (codes "lo"))
cut_off = refl

from_below : meaning PieceOfText (common (codes "hello"), (negsuc 6, (pos 2, tt))) ≡ gives_text (fresh (codes "he"))
from_below = refl

behind_all : meaning PieceOfText (common (codes "hello"), (pos 6, (pos 2, tt))) ≡ gives_text (fresh [])
behind_all = refl

negative_count : meaning PieceOfText (common (codes "hello"), (pos 2, (negsuc 0, tt))) ≡ gives_text (fresh [])
negative_count = refl

-- ---- Str gives what Write writes

padded_number : meaning StrNumber (pos 42, (pos 5, tt)) ≡ gives_text (fresh (codes "   42"))
unfolding decimal_by
padded_number = refl

padded_truth : meaning StrTruth (pos 0, (pos 0, tt)) ≡ gives_text (fresh (codes "FALSE"))
padded_truth = refl

padded_char : meaning StrChar (pos 120, (pos 3, tt)) ≡ gives_text (fresh (codes "  x"))
padded_char = refl

wide_text : meaning StrText (a_literal (codes "long"), (pos 2, tt)) ≡ gives_text (fresh (codes "long"))
wide_text = refl

-- ---- a Char is put in place where the text is in no other place; a literal is copied

put_in_place : meaning PutChar (alone (codes "abc"), (pos 1, (pos 88, tt))) ≡ gives_text (changed (alone (codes "abc")) (codes "Xbc"))
put_in_place = refl

put_last : meaning PutChar (common (codes "abc"), (pos 3, (pos 88, tt))) ≡ gives_text (changed (common (codes "abc")) (codes "abX"))
put_last = refl

put_past : meaning PutChar (alone (codes "abc"), (pos 4, (pos 88, tt))) ≡ failing 201
put_past = refl

in_place : (w : World) → standing (changed (alone (codes "abc")) (codes "Xbc")) w ≡ record { text = named 1; world = with_object 1 (chars (codes "Xbc")) w }
in_place w = refl

copied : (w : World) → standing (changed (common (codes "abc")) (codes "Xbc")) w ≡ record { text = named w.next; world = making (chars (codes "Xbc")) w }
copied w = refl

literal_copied : (w : World) → standing (changed (a_literal (codes "abc")) (codes "Xbc")) w ≡ record { text = named w.next; world = making (chars (codes "Xbc")) w }
literal_copied w = refl

-- no name is given to the empty text
nothing_made : (w : World) → standing (fresh []) w ≡ record { text = empty; world = w }
nothing_made w = refl

-- ---- SetLength cuts, or fills with zeros, and leaves a text alone that has the length and is in no other place

cut : meaning ResizeText (alone (codes "abc"), (pos 2, tt)) ≡ gives_text (fresh (codes "ab"))
cut = refl

filled : meaning ResizeText (alone (codes "ab"), (pos 4, tt)) ≡ gives_text (fresh (97 ∷ 98 ∷ 0 ∷ 0 ∷ []))
filled = refl

left_alone : meaning ResizeText (alone (codes "ab"), (pos 2, tt)) ≡ gives_text (shared (named 1))
left_alone = refl

made_own : meaning ResizeText (common (codes "ab"), (pos 2, tt)) ≡ gives_text (fresh (codes "ab"))
made_own = refl

below_zero : meaning ResizeText (alone (codes "ab"), (negsuc 0, tt)) ≡ failing 201
below_zero = refl

-- ---- Val

abbrev value_is : ℤ → ℕ → Denoted
value_is n code = record { number = n; code = code }

decimal_ends : denoted (codes "2147483647") ≡ value_is (pos 2147483647) 0
unfolding denoted_from digits_from
decimal_ends = refl

decimal_past : denoted (codes "2147483648") ≡ value_is (pos 0) 10
unfolding denoted_from digits_from
decimal_past = refl

least : denoted (codes "-2147483648") ≡ value_is (negsuc 2147483647) 0
unfolding denoted_from digits_from
least = refl

below_least : denoted (codes "-2147483649") ≡ value_is (pos 0) 11
unfolding denoted_from digits_from
below_least = refl

wrong_letter : denoted (codes "12x") ≡ value_is (pos 0) 3
unfolding denoted_from digits_from
wrong_letter = refl

too_short : denoted [] ≡ value_is (pos 0) 1
unfolding denoted_from
too_short = refl

sign_alone : denoted (codes "+") ≡ value_is (pos 0) 2
unfolding denoted_from digits_from
sign_alone = refl

sign_and_prefix : denoted (codes "-$1") ≡ value_is (pos 0) 2
unfolding denoted_from digits_from
sign_and_prefix = refl

all_bits : denoted (codes "$FFFFFFFF") ≡ value_is (negsuc 0) 0
unfolding denoted_from digits_from int_wrap
all_bits = refl

more_bits : denoted (codes "$1FFFFFFFF") ≡ value_is (pos 0) 10
unfolding denoted_from digits_from
more_bits = refl

other_bases : denoted (codes " %101") ≡ value_is (pos 5) 0
unfolding denoted_from digits_from int_wrap
other_bases = refl

octal : denoted (codes "&17") ≡ value_is (pos 15) 0
unfolding denoted_from digits_from int_wrap
octal = refl

blank_behind : denoted (codes "1 ") ≡ value_is (pos 0) 2
unfolding denoted_from digits_from
blank_behind = refl
