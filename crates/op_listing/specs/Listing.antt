-- The listing of an image.
use Rattle.std.specs.Prelude.{ℕ, ◌+◌, ◌%◌, ◌^◌, Option, None, List, [], ◌∷◌, ◌++◌, codes, drop, find, is_none, take, if◌then◌else◌}
use Rattle.std.specs.Option.{option_map_or}
use Rattle.byteorder.specs.Endian.{little_number}
use Rattle.op_link.specs.Image.{first_failing, gives_execute, segments}
use Rattle.op_link.specs.declared.table.Segment.{Segment}
use Rattle.op_rv.specs.Decoding.{instr_at}
use Rattle.op_listing.specs.Digits.{eight_digits}
use Rattle.op_listing.specs.Instruction.{text_of}

-- a word at an address: the instruction that it is, or data where the table has no row for it
unfoldable pub word_text : ℕ → ℕ → List ℕ
word_text at word = option_map_or (text_of at) (instr_at word) (codes ".word 0x" ++ eight_digits word)

-- the address, the word and its text
abbrev pub line_of : ℕ → ℕ → List ℕ
line_of at word = eight_digits at ++ codes " " ++ eight_digits word ++ codes " " ++ word_text at word ++ codes "\n"

-- the words of bytes, the lowest byte of each first; fewer than four bytes at the end are no word
abbrev pub words_in : List ℕ → List ℕ
words_in (a ∷ b ∷ c ∷ d ∷ bytes) = little_number 4 (a ∷ b ∷ c ∷ d ∷ []) ∷ words_in bytes
words_in _ = []

-- words that stand from an address on, a line each; addresses wrap
abbrev pub lines_of : ℕ → List ℕ → List ℕ
lines_of at [] = []
lines_of at (word ∷ words) = line_of at word ++ lines_of ((at + 4) % 2 ^ 32) words

-- the words that the file has of a segment
abbrev pub segment_lines : List ℕ → Segment → List ℕ
segment_lines image s = lines_of s.address (words_in (take s.file_size (drop s.offset image)))

-- the code of an image is its first segment that may be executed. What is no image has none
unfoldable pub code_segment_of : List ℕ → Option Segment
code_segment_of image = if is_none (first_failing image) then find gives_execute (segments image) else None

unfoldable pub listing_of : List ℕ → List ℕ
listing_of image = option_map_or (segment_lines image) (code_segment_of image) []
