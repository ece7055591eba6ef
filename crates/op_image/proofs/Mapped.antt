-- What a loaded image has in memory, and what may be done with it: its code, its constants and its globals stand at their addresses,
-- and the stack may be used.
use Rattle.std.proofs.Common.{◌≡◌, ℕ, zero, suc, ◌+◌, ◌-◌, ◌*◌, ◌/◌, ◌%◌, ◌^◌, ◌<◌, ◌≤◌, Bool, true, false, ◌&&◌, cond, nat_eq, nat_le, min, Some, None, List, [], ◌∷◌, ◌++◌, length, get_or, take, drop, map, replicate, slice_get, refl, ap, sym, subst, ◌∙◌, arith, length-append}
use Rattle.std.proofs.lemmas.Bool.Decides.{nat_tests}
use Rattle.std.proofs.lemmas.Bool.{and_parts, leb-true, eqb-true, cond-true, cond-false}
use Rattle.std.proofs.lemmas.List.{length-replicate, length-take}
use Rattle.std.proofs.lemmas.Option.{slice_get_within}
use Rattle.std.specs.List.{list_all}
use Rattle.std.specs.Option.{option_map_or}
use Rattle.op_link.proofs.Lengths.{length-words_of, some_same}
use Rattle.op_link.proofs.Mapped.{constants_from, globals_from, in_range}
use Rattle.op_link.specs.Code.{words_of}
use Rattle.op_link.specs.Image.{region_in, regions_in}
use Rattle.op_link.specs.Linking.{linked_size_of}
use Rattle.op_link.specs.Loaded.{Decodes, IsLoaded}
use Rattle.op_link.specs.Memory.{are_in_range, code_address, constants_address, control_address, empty, filled, globals_address, heap_address, heap_size, segments_of, stack_address, stack_size}
use Rattle.op_link.specs.Region.{Region, byte_in, covers, executable_in, range_of, readable_in, region_at, writable_in}
use Rattle.op_link.specs.declared.memory_map.Settings.{Settings}
use Rattle.op_link.specs.declared.memory_map.Sizes.{Sizes}
use Rattle.op_link.specs.declared.table.Segment.{Segment}
use Rattle.op_rv.proofs.Memory.{bytes_of-word, get_or-zeros, zeros_get}
use Rattle.op_rv.proofs.Table.{word_of-lt}
use Rattle.op_rv.specs.Decoding.{instr_at}
use Rattle.op_rv.specs.Encoding.{fits, word_of}
use Rattle.op_rv.specs.State.{word_at}
use Rattle.op_rv.specs.declared.instruction.Instr.{Instr}
use Rattle.op_image.specs.Meaning.{instruction_at}

-- ---- regions

here_at : (r : Region) (rs : List Region) (a : ℕ) → r.base ≤ a → a < r.base + length r.bytes → region_at (r ∷ rs) a ≡ Some r
here_at r rs a lower upper = cond-true (covers (range_of r) a) (Some r) (region_at rs a) (grind (arith, nat_tests))

past_it : (r : Region) (rs : List Region) (a : ℕ) → r.base + length r.bytes ≤ a → region_at (r ∷ rs) a ≡ region_at rs a
past_it r rs a upper = cond-false (covers (range_of r) a) (Some r) (region_at rs a) (grind (arith, nat_tests))

min_below : (a b c : ℕ) → a ≤ c → min a b + (c - a) ≤ c
min_below a b c under = omega arith

region_size : (image : List ℕ) (s : Segment) → s.file_size ≤ s.memory_size → length (region_in image s).bytes ≤ s.memory_size
region_size image s under =
    let bytes = take s.file_size (drop s.offset image) in
    let zeros : List ℕ = replicate (s.memory_size - s.file_size) 0 in
    let whole = length-append bytes zeros in
    let first = length-take s.file_size (drop s.offset image) in
    let second : length zeros ≡ s.memory_size - s.file_size = length-replicate {A = ℕ} (s.memory_size - s.file_size) 0 in
    let most = min_below s.file_size (length (drop s.offset image)) s.memory_size under in
    omega arith

past_segment : (image : List ℕ) (s : Segment) (rs : List Region) (a : ℕ) → s.file_size ≤ s.memory_size → s.address + s.memory_size ≤ a → region_at (region_in image s ∷ rs) a ≡ region_at rs a
past_segment image s rs a under upper =
    let size = region_size image s under in
    past_it (region_in image s) rs a (omega arith)

in_empty : (image : List ℕ) (address size a : ℕ) (rs : List Region) → address ≤ a → a < address + size → region_at (region_in image (empty address size) ∷ rs) a ≡ Some (region_in image (empty address size))
in_empty image address size a rs lower upper =
    let long : length (region_in image (empty address size)).bytes ≡ size - 0 = length-replicate {A = ℕ} (size - 0) 0 in
    here_at (region_in image (empty address size)) rs a lower (omega arith)

-- a segment whose first bytes stand in the file
in_filled : (image : List ℕ) (address file_size memory_size flags : ℕ) (bytes : List ℕ) (rs : List Region) (a : ℕ) → take file_size (drop (address - 0xF000) image) ≡ bytes → address ≤ a → a < address + (length bytes + (memory_size - file_size)) → region_at (region_in image (filled address file_size memory_size flags) ∷ rs) a ≡ Some (region_in image (filled address file_size memory_size flags))
in_filled image address file_size memory_size flags bytes rs a is lower upper =
    let zeros : List ℕ = replicate (memory_size - file_size) 0 in
    let long = ap (λ bytes. length (bytes ++ zeros)) is ∙ length-append bytes zeros in
    let count : length zeros ≡ memory_size - file_size = length-replicate {A = ℕ} (memory_size - file_size) 0 in
    here_at (region_in image (filled address file_size memory_size flags)) rs a lower (omega arith)

byte_filled : (image : List ℕ) (address file_size memory_size flags : ℕ) (bytes : List ℕ) (rs : List Region) (k : ℕ) → take file_size (drop (address - 0xF000) image) ≡ bytes → region_at rs (address + k) ≡ Some (region_in image (filled address file_size memory_size flags)) → byte_in rs (address + k) ≡ get_or bytes k 0
unfolding byte_in
byte_filled image address file_size memory_size flags bytes rs k is found =
    let zeros : List ℕ = replicate (memory_size - file_size) 0 in
    let offset : address + k - address ≡ k = omega arith in
    ap (λ found. option_map_or (λ (region : Region). get_or region.bytes (address + k - region.base) 0) found 0) found
    ∙ ap (λ bytes. get_or (bytes ++ zeros) (address + k - address) 0) is
    ∙ ap (λ n. get_or (bytes ++ zeros) n 0) offset
    ∙ get_or-zeros bytes (memory_size - file_size) k

-- ---- words of code

skips : (a b c d n m : ℕ) (ys : List ℕ) → n ≡ suc (suc (suc (suc m))) → get_or (a ∷ b ∷ c ∷ d ∷ ys) n 0 ≡ get_or ys m 0
skips a b c d n m ys is = ap (λ n. get_or (a ∷ b ∷ c ∷ d ∷ ys) n 0) is

abbrev word_in_bytes : List ℕ → ℕ → ℕ
word_in_bytes bytes n =
    get_or bytes n 0 + 2 ^ 8 * get_or bytes (n + 1) 0 + 2 ^ 16 * get_or bytes (n + 2) 0 + 2 ^ 24 * get_or bytes (n + 3) 0

skips_word : (a b c d n m : ℕ) (ys : List ℕ) → n ≡ m + 4 → word_in_bytes (a ∷ b ∷ c ∷ d ∷ ys) n ≡ word_in_bytes ys m
skips_word a b c d n m ys is =
    let xs = a ∷ b ∷ c ∷ d ∷ ys in
    let e0 : get_or xs n 0 ≡ get_or ys m 0 = skips a b c d n m ys (omega arith) in
    let e1 : get_or xs (n + 1) 0 ≡ get_or ys (m + 1) 0 = skips a b c d (n + 1) (m + 1) ys (omega arith) in
    let e2 : get_or xs (n + 2) 0 ≡ get_or ys (m + 2) 0 = skips a b c d (n + 2) (m + 2) ys (omega arith) in
    let e3 : get_or xs (n + 3) 0 ≡ get_or ys (m + 3) 0 = skips a b c d (n + 3) (m + 3) ys (omega arith) in
    omega arith

first_word : (w : ℕ) (ys : List ℕ) → w < 2 ^ 32 → word_in_bytes (w % 256 ∷ w / 256 % 256 ∷ w / 65536 % 256 ∷ w / 16777216 % 256 ∷ ys) 0 ≡ w
first_word w ys fits = bytes_of-word w fits

word_there : (code : List Instr) (k : ℕ) (i : Instr) → list_all fits code ≡ true → slice_get code k ≡ Some i → word_in_bytes (words_of code) (4 * k) ≡ word_of i
word_there [] k i fit is = absurd cc
word_there (first ∷ code) zero i fit is =
    let parts = and_parts (fits first) (list_all fits code) fit in
    subst (λ i. word_in_bytes (words_of (first ∷ code)) 0 ≡ word_of i) (some_same first i is) (first_word (word_of first) (words_of code) (word_of-lt first parts.0))
word_there (first ∷ code) (suc k) i fit is =
    let parts = and_parts (fits first) (list_all fits code) fit in
    let w = word_of first in
    skips_word (w % 256) (w / 256 % 256) (w / 65536 % 256) (w / 16777216 % 256) (4 * suc k) (4 * k) (words_of code) (omega arith) ∙ word_there code k i parts.1 is

decodes_there : (code : List Instr) (k : ℕ) (i : Instr) → Decodes code → slice_get code k ≡ Some i → instr_at (word_of i) ≡ Some i
decodes_there [] k i decodes is = absurd cc
decodes_there (first ∷ code) zero i decodes is = subst (λ i. instr_at (word_of i) ≡ Some i) (some_same first i is) decodes.0
decodes_there (first ∷ code) (suc k) i decodes is = decodes_there code k i decodes.1 is

-- ---- where an instruction stands

pub record Located (code : List Instr) (at : ℕ) (i : Instr) : Type 0 where
  pub index : ℕ
  pub is : slice_get code index ≡ Some i
  pub before : index < length code
  pub place : code_address + 4 * index ≡ at

located_by : (code : List Instr) (at : ℕ) (i : Instr) (test : Bool) → (nat_le code_address at && nat_eq (at % 4) 0) ≡ test → cond test (slice_get code ((at - code_address) / 4)) None ≡ Some i → Located code at i
located_by code at i true test is =
    let parts = and_parts (nat_le 65536 at) (nat_eq (at % 4) 0) test in
    let from : 65536 ≤ at = leb-true 65536 at parts.0 in
    let fourth : at % 4 ≡ 0 = eqb-true (at % 4) 0 parts.1 in
    record { index = (at - 65536) / 4; is = is; before = slice_get_within code ((at - 65536) / 4) i is; place = omega arith }
located_by code at i false test is = absurd cc

pub located : (code : List Instr) (at : ℕ) (i : Instr) → instruction_at code at ≡ Some i → Located code at i
unfolding instruction_at
located code at i is = located_by code at i (nat_le code_address at && nat_eq (at % 4) 0) refl is

-- ---- a loaded image

-- where the stack lies
pub record StackLies (settings : Settings) : Type 0 where
  pub from : 0x60000000 ≤ stack_address settings
  pub sum : stack_address settings + stack_size settings ≡ 0x70000000
  pub whole : stack_address settings % 4 ≡ 0

pub stack_lies : (settings : Settings) → are_in_range settings ≡ true → StackLies settings
unfolding stack_address
stack_lies settings is =
    let range = in_range settings is in
    let least = range.stack_least in
    let most = range.stack_most in
    record { from = omega arith; sum = omega arith; whole = omega arith }

module _ (image : List ℕ) (sizes : Sizes) (settings : Settings) (code : List Instr) (loaded : IsLoaded image (segments_of sizes settings)) (words : take sizes.code (drop 4096 image) ≡ words_of code) (ranged : are_in_range settings ≡ true) (within : linked_size_of sizes ≤ 67108864) (few : sizes.zeros ≤ 15728640) where
  regions_are : regions_in image ≡ map (region_in image) (segments_of sizes settings)
  regions_are = ap (map (region_in image)) loaded.segments

  code_region : Region
  code_region = region_in image (filled code_address sizes.code sizes.code 5)

  in_code : (a : ℕ) → code_address ≤ a → a < code_address + 4 * length code → region_at (regions_in image) a ≡ Some code_region
  unfolding segments_of code_region
  in_code a lower upper =
      let four = length-words_of code in
      ap (λ rs. region_at rs a) regions_are ∙ in_filled image code_address sizes.code sizes.code 5 (words_of code) (map (region_in image) (drop 1 (segments_of sizes settings))) a words lower (omega arith)

  stack_region : Region
  stack_region = region_in image (empty (stack_address settings) (stack_size settings))

  in_stack : (a : ℕ) → stack_address settings ≤ a → a < 0x70000000 → region_at (regions_in image) a ≡ Some stack_region
  unfolding segments_of stack_region constants_address globals_address
  in_stack a lower upper =
      let range = in_range settings ranged in
      let heap = range.heap_most in
      let stack = stack_lies settings ranged in
      let from = stack.from in
      let sum = stack.sum in
      ap (λ rs. region_at rs a) regions_are
      ∙ past_segment image (filled code_address sizes.code sizes.code 5) (map (region_in image) (drop 1 (segments_of sizes settings))) a (omega arith) (omega arith)
      ∙ past_segment image (filled (constants_address sizes) sizes.constants sizes.constants 4) (map (region_in image) (drop 2 (segments_of sizes settings))) a (omega arith) (omega arith)
      ∙ past_segment image (filled (globals_address sizes) sizes.initial (sizes.initial + sizes.zeros) 6) (map (region_in image) (drop 3 (segments_of sizes settings))) a (omega arith) (omega arith)
      ∙ past_segment image (empty control_address 524312) (map (region_in image) (drop 4 (segments_of sizes settings))) a (omega arith) (omega arith)
      ∙ past_segment image (empty heap_address (heap_size settings)) (map (region_in image) (drop 5 (segments_of sizes settings))) a (omega arith) (omega arith)
      ∙ in_empty image (stack_address settings) (stack_size settings) a [] lower (omega arith)

  pub stack_readable : (a : ℕ) → stack_address settings ≤ a → a < 0x70000000 → readable_in (regions_in image) a ≡ true
  unfolding readable_in stack_region
  stack_readable a lower upper = ap (λ found. option_map_or (λ (region : Region). region.readable) found false) (in_stack a lower upper)

  pub stack_writable : (a : ℕ) → stack_address settings ≤ a → a < 0x70000000 → writable_in (regions_in image) a ≡ true
  unfolding writable_in stack_region
  stack_writable a lower upper = ap (λ found. option_map_or (λ (region : Region). region.writable) found false) (in_stack a lower upper)

  -- ---- the control region and the heap, which begin as zeros

  control_region : Region
  control_region = region_in image (empty control_address 524312)

  in_control : (a : ℕ) → control_address ≤ a → a < control_address + 524312 → region_at (regions_in image) a ≡ Some control_region
  unfolding segments_of control_region constants_address globals_address
  in_control a lower upper =
      ap (λ rs. region_at rs a) regions_are
      ∙ past_segment image (filled code_address sizes.code sizes.code 5) (map (region_in image) (drop 1 (segments_of sizes settings))) a (omega arith) (omega arith)
      ∙ past_segment image (filled (constants_address sizes) sizes.constants sizes.constants 4) (map (region_in image) (drop 2 (segments_of sizes settings))) a (omega arith) (omega arith)
      ∙ past_segment image (filled (globals_address sizes) sizes.initial (sizes.initial + sizes.zeros) 6) (map (region_in image) (drop 3 (segments_of sizes settings))) a (omega arith) (omega arith)
      ∙ in_empty image control_address 524312 a (map (region_in image) (drop 4 (segments_of sizes settings))) lower upper

  heap_region : Region
  heap_region = region_in image (empty heap_address (heap_size settings))

  in_heap : (a : ℕ) → heap_address ≤ a → a < heap_address + heap_size settings → region_at (regions_in image) a ≡ Some heap_region
  unfolding segments_of heap_region constants_address globals_address
  in_heap a lower upper =
      ap (λ rs. region_at rs a) regions_are
      ∙ past_segment image (filled code_address sizes.code sizes.code 5) (map (region_in image) (drop 1 (segments_of sizes settings))) a (omega arith) (omega arith)
      ∙ past_segment image (filled (constants_address sizes) sizes.constants sizes.constants 4) (map (region_in image) (drop 2 (segments_of sizes settings))) a (omega arith) (omega arith)
      ∙ past_segment image (filled (globals_address sizes) sizes.initial (sizes.initial + sizes.zeros) 6) (map (region_in image) (drop 3 (segments_of sizes settings))) a (omega arith) (omega arith)
      ∙ past_segment image (empty control_address 524312) (map (region_in image) (drop 4 (segments_of sizes settings))) a (omega arith) (omega arith)
      ∙ in_empty image heap_address (heap_size settings) a (map (region_in image) (drop 5 (segments_of sizes settings))) lower upper

  pub control_readable : (a : ℕ) → control_address ≤ a → a < control_address + 524312 → readable_in (regions_in image) a ≡ true
  unfolding readable_in control_region
  control_readable a lower upper = ap (λ found. option_map_or (λ (region : Region). region.readable) found false) (in_control a lower upper)

  pub control_writable : (a : ℕ) → control_address ≤ a → a < control_address + 524312 → writable_in (regions_in image) a ≡ true
  unfolding writable_in control_region
  control_writable a lower upper = ap (λ found. option_map_or (λ (region : Region). region.writable) found false) (in_control a lower upper)

  pub heap_readable : (a : ℕ) → heap_address ≤ a → a < heap_address + heap_size settings → readable_in (regions_in image) a ≡ true
  unfolding readable_in heap_region
  heap_readable a lower upper = ap (λ found. option_map_or (λ (region : Region). region.readable) found false) (in_heap a lower upper)

  pub heap_writable : (a : ℕ) → heap_address ≤ a → a < heap_address + heap_size settings → writable_in (regions_in image) a ≡ true
  unfolding writable_in heap_region
  heap_writable a lower upper = ap (λ found. option_map_or (λ (region : Region). region.writable) found false) (in_heap a lower upper)

  pub control_zero : (a : ℕ) → control_address ≤ a → a < control_address + 524312 → byte_in (regions_in image) a ≡ 0
  unfolding byte_in control_region
  control_zero a lower upper =
      ap (λ found. option_map_or (λ (region : Region). get_or region.bytes (a - region.base) 0) found 0) (in_control a lower upper) ∙ zeros_get 524312 (a - control_address)

  pub heap_zero : (a : ℕ) → heap_address ≤ a → a < heap_address + heap_size settings → byte_in (regions_in image) a ≡ 0
  unfolding byte_in heap_region
  heap_zero a lower upper =
      ap (λ found. option_map_or (λ (region : Region). get_or region.bytes (a - region.base) 0) found 0) (in_heap a lower upper) ∙ zeros_get (heap_size settings - 0) (a - heap_address)

  pub code_executable : (a : ℕ) → code_address ≤ a → a < code_address + 4 * length code → executable_in (regions_in image) a ≡ true
  unfolding executable_in code_region
  code_executable a lower upper = ap (λ found. option_map_or (λ (region : Region). region.executable) found false) (in_code a lower upper)

  pub code_fixed : (a : ℕ) → code_address ≤ a → a < code_address + 4 * length code → writable_in (regions_in image) a ≡ false
  unfolding writable_in code_region
  code_fixed a lower upper = ap (λ found. option_map_or (λ (region : Region). region.writable) found false) (in_code a lower upper)

  byte_of_code : (k : ℕ) → k < 4 * length code → byte_in (regions_in image) (code_address + k) ≡ get_or (words_of code) k 0
  unfolding code_region
  byte_of_code k before =
      let four = length-words_of code in
      byte_filled image code_address sizes.code sizes.code 5 (words_of code) (regions_in image) k words (in_code (code_address + k) (omega arith) (omega arith))

  pub code_decodes : list_all fits code ≡ true → Decodes code → (at : ℕ) (i : Instr) → instruction_at code at ≡ Some i → instr_at (word_at (byte_in (regions_in image)) at) ≡ Some i
  code_decodes fit decodes at i is =
      let there = located code at i is in
      let k = there.index in
      let before = there.before in
      let memory = byte_in (regions_in image) in
      let bytes = words_of code in
      let b0 : memory (65536 + 4 * k) ≡ get_or bytes (4 * k) 0 = byte_of_code (4 * k) (omega arith) in
      let b1 : memory (65536 + (4 * k + 1)) ≡ get_or bytes (4 * k + 1) 0 = byte_of_code (4 * k + 1) (omega arith) in
      let b2 : memory (65536 + (4 * k + 2)) ≡ get_or bytes (4 * k + 2) 0 = byte_of_code (4 * k + 2) (omega arith) in
      let b3 : memory (65536 + (4 * k + 3)) ≡ get_or bytes (4 * k + 3) 0 = byte_of_code (4 * k + 3) (omega arith) in
      let e1 : 65536 + (4 * k + 1) ≡ 65536 + 4 * k + 1 = omega arith in
      let e2 : 65536 + (4 * k + 2) ≡ 65536 + 4 * k + 2 = omega arith in
      let e3 : 65536 + (4 * k + 3) ≡ 65536 + 4 * k + 3 = omega arith in
      let c1 = ap memory (sym e1) ∙ b1 in
      let c2 = ap memory (sym e2) ∙ b2 in
      let c3 = ap memory (sym e3) ∙ b3 in
      let same : word_at memory (65536 + 4 * k) ≡ word_in_bytes bytes (4 * k) = omega arith in
      ap (λ at. instr_at (word_at memory at)) (sym there.place)
      ∙ ap instr_at (same ∙ word_there code k i fit there.is)
      ∙ decodes_there code k i decodes there.is

  module _ (constants : List ℕ) (stand : take sizes.constants (drop (constants_address sizes - 0xF000) image) ≡ constants) where
    constants_region : Region
    constants_region = region_in image (filled (constants_address sizes) sizes.constants sizes.constants 4)

    in_constants : (a : ℕ) → constants_address sizes ≤ a → a < constants_address sizes + length constants → region_at (regions_in image) a ≡ Some constants_region
    unfolding segments_of constants_region
    in_constants a lower upper =
        let from = constants_from sizes in
        ap (λ rs. region_at rs a) regions_are
        ∙ past_segment image (filled code_address sizes.code sizes.code 5) (map (region_in image) (drop 1 (segments_of sizes settings))) a (omega arith) (omega arith)
        ∙ in_filled image (constants_address sizes) sizes.constants sizes.constants 4 constants (map (region_in image) (drop 2 (segments_of sizes settings))) a stand lower (omega arith)

    pub constants_readable : (a : ℕ) → constants_address sizes ≤ a → a < constants_address sizes + length constants → readable_in (regions_in image) a ≡ true
    unfolding readable_in constants_region
    constants_readable a lower upper = ap (λ found. option_map_or (λ (region : Region). region.readable) found false) (in_constants a lower upper)

    pub constants_fixed : (a : ℕ) → constants_address sizes ≤ a → a < constants_address sizes + length constants → writable_in (regions_in image) a ≡ false
    unfolding writable_in constants_region
    constants_fixed a lower upper = ap (λ found. option_map_or (λ (region : Region). region.writable) found false) (in_constants a lower upper)

    pub byte_of_constants : (k : ℕ) → k < length constants → byte_in (regions_in image) (constants_address sizes + k) ≡ get_or constants k 0
    unfolding constants_region
    byte_of_constants k before =
        byte_filled image (constants_address sizes) sizes.constants sizes.constants 4 constants (regions_in image) k stand (in_constants (constants_address sizes + k) (omega arith) (omega arith))

  -- the globals end below the control region
  pub globals_end : globals_address sizes + (sizes.initial + sizes.zeros) ≤ control_address
  unfolding constants_address globals_address
  globals_end = omega arith

  module _ (initial : List ℕ) (stand : take sizes.initial (drop (globals_address sizes - 0xF000) image) ≡ initial) (long : length initial ≡ sizes.initial) where
    globals_region : Region
    globals_region = region_in image (filled (globals_address sizes) sizes.initial (sizes.initial + sizes.zeros) 6)

    in_globals : (a : ℕ) → globals_address sizes ≤ a → a < globals_address sizes + (sizes.initial + sizes.zeros) → region_at (regions_in image) a ≡ Some globals_region
    unfolding segments_of globals_region
    in_globals a lower upper =
        let first = constants_from sizes in
        let second = globals_from sizes in
        ap (λ rs. region_at rs a) regions_are
        ∙ past_segment image (filled code_address sizes.code sizes.code 5) (map (region_in image) (drop 1 (segments_of sizes settings))) a (omega arith) (omega arith)
        ∙ past_segment image (filled (constants_address sizes) sizes.constants sizes.constants 4) (map (region_in image) (drop 2 (segments_of sizes settings))) a (omega arith) (omega arith)
        ∙ in_filled image (globals_address sizes) sizes.initial (sizes.initial + sizes.zeros) 6 initial (map (region_in image) (drop 3 (segments_of sizes settings))) a stand lower (omega arith)

    pub globals_readable : (a : ℕ) → globals_address sizes ≤ a → a < globals_address sizes + (sizes.initial + sizes.zeros) → readable_in (regions_in image) a ≡ true
    unfolding readable_in globals_region
    globals_readable a lower upper = ap (λ found. option_map_or (λ (region : Region). region.readable) found false) (in_globals a lower upper)

    pub globals_writable : (a : ℕ) → globals_address sizes ≤ a → a < globals_address sizes + (sizes.initial + sizes.zeros) → writable_in (regions_in image) a ≡ true
    unfolding writable_in globals_region
    globals_writable a lower upper = ap (λ found. option_map_or (λ (region : Region). region.writable) found false) (in_globals a lower upper)

    pub byte_of_globals : (k : ℕ) → k < sizes.initial + sizes.zeros → byte_in (regions_in image) (globals_address sizes + k) ≡ get_or initial k 0
    unfolding globals_region
    byte_of_globals k before =
        byte_filled image (globals_address sizes) sizes.initial (sizes.initial + sizes.zeros) 6 initial (regions_in image) k stand (in_globals (globals_address sizes + k) (omega arith) (omega arith))
