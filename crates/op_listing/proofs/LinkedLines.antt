-- A linked image has the lines of its instructions.
use Rattle.std.proofs.Common.{◌≡◌, ℕ, ◌+◌, ◌%◌, ◌^◌, ◌<◌, true, Option, Some, List, [], ◌∷◌, ◌++◌, IsTrue, length, map, nat_lt, codes, refl, ap, ◌∙◌, arith}
use Rattle.std.proofs.lemmas.Bool.{and_parts}
use Rattle.std.specs.List.{list_all, find}
use Rattle.std.specs.Option.{option_map_or}
use Rattle.byteorder.specs.Endian.{little_bytes, little_number}
use Rattle.op_layout.specs.declared.layout.Layout.{Layout}
use Rattle.op_link.specs.Code.{words_of}
use Rattle.op_link.specs.Image.{gives_execute}
use Rattle.op_link.specs.Code.{routine_has_fields}
use Rattle.op_link.specs.Linking.{all_names_exist, is_linkable}
use Rattle.op_link.specs.Loaded.{Decodes, IsLoaded, linked_sizes}
use Rattle.op_link.specs.Memory.{code_address, filled, segments_of}
use Rattle.op_link.specs.declared.memory_map.Settings.{Settings}
use Rattle.op_link.specs.declared.table.Segment.{Segment}
use Rattle.op_link.proofs.Decoded.{program_has_words}
use Rattle.op_rv.proofs.Table.{word_of-lt}
use Rattle.op_rv.specs.Decoding.{instr_at}
use Rattle.op_rv.specs.Encoding.{fits, word_of}
use Rattle.op_rv.specs.declared.instruction.Instr.{Instr}
use Rattle.op_rv.specs.declared.objects.Objects.{Objects}
use Rattle.op_listing.specs.Digits.{eight_digits}
use Rattle.op_listing.specs.Instruction.{text_of}
use Rattle.op_listing.specs.Linked.{ListsLinked, instruction_line, instruction_lines}
use Rattle.op_listing.specs.Listing.{code_segment_of, line_of, lines_of, listing_of, segment_lines, word_text, words_in}
use Rattle.op_listing.proofs.Segments.{code_segment-is}

-- a word is read back from its bytes
word_back : (word : ℕ) → word < 2 ^ 32 → little_number 4 (little_bytes 4 word) ≡ word
word_back word small = omega arith

words_back : (code : List Instr) → list_all fits code ≡ true → words_in (words_of code) ≡ map word_of code
words_back [] all = refl
words_back (i ∷ code) all =
    let parts = and_parts (fits i) (list_all fits code) all in
    ap (λ word. word ∷ words_in (words_of code)) (word_back (word_of i) (word_of-lt i parts.0)) ∙ ap (λ words. word_of i ∷ words) (words_back code parts.1)

line_is : (at : ℕ) (i : Instr) → instr_at (word_of i) ≡ Some i → line_of at (word_of i) ≡ instruction_line at i
unfolding word_text
line_is at i is =
    ap (λ (found : Option Instr). eight_digits at ++ codes " " ++ eight_digits (word_of i) ++ codes " " ++ option_map_or (text_of at) found (codes ".word 0x" ++ eight_digits (word_of i)) ++ codes "\n") is

lines_are : (at : ℕ) (code : List Instr) → Decodes code → lines_of at (map word_of code) ≡ instruction_lines at code
lines_are at [] decodes = refl
lines_are at (i ∷ code) decodes =
    ap (λ line. line ++ lines_of ((at + 4) % 2 ^ 32) (map word_of code)) (line_is at i decodes.0)
    ∙ ap (λ lines. instruction_line at i ++ lines) (lines_are ((at + 4) % 2 ^ 32) code decodes.1)

-- the code is the first segment of a linked image
first_segment : (image : List ℕ) (objects : Objects) (layout : Layout) (settings : Settings) → IsLoaded image (segments_of (linked_sizes objects layout settings) settings) → code_segment_of image ≡ Some (filled code_address (linked_sizes objects layout settings).code (linked_sizes objects layout settings).code 5)
unfolding segments_of
first_segment image objects layout settings loaded =
    code_segment-is image loaded.meets ∙ ap (find gives_execute) loaded.segments

have_fields : (objects : Objects) (layout : Layout) → IsTrue (is_linkable objects layout) → list_all routine_has_fields objects.routines ≡ true
unfolding is_linkable
have_fields objects layout linkable =
    let four = and_parts _ (list_all (λ routine. nat_lt routine.0 (length objects.routines)) layout.entries) linkable in
    let three = and_parts _ (list_all (all_names_exist objects layout) objects.routines) four.0 in
    (and_parts _ (list_all routine_has_fields objects.routines) three.0).1

pub lists_linked : (image : List ℕ) → ListsLinked image (listing_of image)
unfolding listing_of
lists_linked image =
    λ objects layout settings linkable loaded linked. (
    let code = linked.code in
    let fit = program_has_words layout _ settings objects code (have_fields objects layout linkable) linked.is in
    ap (λ (found : Option Segment). option_map_or (segment_lines image) found []) (first_segment image objects layout settings loaded)
    ∙ ap (λ (bytes : List ℕ). lines_of code_address (words_in bytes)) linked.stands
    ∙ ap (lines_of code_address) (words_back code fit)
    ∙ lines_are code_address code linked.decodes
    )
