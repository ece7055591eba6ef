-- The listing of a linked image.
use Rattle.std.specs.Prelude.{◌≡◌, ℕ, ◌+◌, ◌%◌, ◌^◌, List, [], ◌∷◌, ◌++◌, IsTrue, codes}
use Rattle.op_layout.specs.declared.layout.Layout.{Layout}
use Rattle.op_link.specs.Linking.{is_linkable}
use Rattle.op_link.specs.Loaded.{HasCode, IsLoaded, linked_sizes}
use Rattle.op_link.specs.Memory.{code_address, segments_of}
use Rattle.op_link.specs.declared.memory_map.Settings.{Settings}
use Rattle.op_rv.specs.Encoding.{word_of}
use Rattle.op_rv.specs.declared.instruction.Instr.{Instr}
use Rattle.op_rv.specs.declared.objects.Objects.{Objects}
use Rattle.op_listing.specs.Digits.{eight_digits}
use Rattle.op_listing.specs.Instruction.{text_of}

-- the line of an instruction at an address
abbrev pub instruction_line : ℕ → Instr → List ℕ
instruction_line at i =
    eight_digits at ++ codes " " ++ eight_digits (word_of i) ++ codes " " ++ text_of at i ++ codes "\n"

-- instructions that stand from an address on, a line each; addresses wrap
abbrev pub instruction_lines : ℕ → List Instr → List ℕ
instruction_lines at [] = []
instruction_lines at (i ∷ code) = instruction_line at i ++ instruction_lines ((at + 4) % 2 ^ 32) code

-- of the image of objects, a text has the lines of the instructions that these were linked to
abbrev pub ListsLinked : List ℕ → List ℕ → Type 0
ListsLinked image text =
    (objects : Objects) (layout : Layout) (settings : Settings) →
    IsTrue (is_linkable objects layout) →
    IsLoaded image (segments_of (linked_sizes objects layout settings) settings) →
    (linked : HasCode image objects layout settings) →
    text ≡ instruction_lines code_address linked.code
