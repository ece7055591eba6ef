-- A linked image meets the conditions on images, and has the segments that were meant.
use Rattle.std.proofs.Common.{◌≡◌, ℕ, ◌+◌, ◌%◌, ◌^◌, ◌<◌, ◌≤◌, Bool, true, ◌&&◌, None, nat_eq, nat_le, List, [], ◌∷◌, ◌++◌, length, map, drop, sum_by, refl, ap, sym, ◌∙◌, subst, arith, append_assoc, length-append}
use Rattle.std.proofs.lemmas.Bool.{and_from, le-leb}
use Rattle.std.proofs.lemmas.Bool.Decides.{nat_tests}
use Rattle.std.proofs.lemmas.List.{drop_at, drop-drop}
use Rattle.std.specs.List.{list_all, list_any}
use Rattle.byteorder.specs.Endian.{little_number}
use Rattle.byteorder.specs.Numbers.{little_number-reads_back}
use Rattle.op_link.specs.declared.table.ProgramHeader.{ProgramHeader}
use Rattle.op_link.specs.declared.table.Segment.{Segment}
use Rattle.op_link.specs.Region.{Range, is_apart, are_apart}
use Rattle.op_link.specs.Image.{half_in, word_in, entry_in, number_in, header_at, headers_from, headers, segments, memory_range, is_loadable, is_in_reach, has_entry, first_from, first_failing, has_image_size, has_magic, has_identity, is_executable_file, is_for_riscv, has_header_table, has_loadable_segments, has_segments_in_reach, has_executable_entry}
use Rattle.op_link.specs.Linking.{file_header, program_header, program_headers}
use Rattle.op_link.specs.Loaded.{IsLoaded}

-- ---- program headers are read back

header_of : Segment → ProgramHeader
header_of s = record { kind = 1; segment = s }

-- the numbers of a segment are words
pub record AreWords (s : Segment) : Type 0 where
  pub offset : s.offset < 256 ^ 4
  pub address : s.address < 256 ^ 4
  pub file_size : s.file_size < 256 ^ 4
  pub memory_size : s.memory_size < 256 ^ 4
  pub flags : s.flags < 256 ^ 4

drop_behind : (front xs : List ℕ) (at k : ℕ) → length front ≡ at → drop (at + k) (front ++ xs) ≡ drop k xs
drop_behind front xs at k long = sym (drop-drop k at (front ++ xs)) ∙ ap (drop k) (drop_at front xs at long)

word_behind : (front xs : List ℕ) (at k : ℕ) → length front ≡ at → word_in (front ++ xs) (at + k) ≡ word_in xs k
unfolding word_in
word_behind front xs at k long = ap (little_number 4) (drop_behind front xs at k long)

first_word_behind : (front xs : List ℕ) (at : ℕ) → length front ≡ at → word_in (front ++ xs) at ≡ word_in xs 0
unfolding word_in
first_word_behind front xs at long = ap (little_number 4) (drop_at front xs at long)

kind_read : (s : Segment) (rest : List ℕ) → word_in (program_header s ++ rest) 0 ≡ 1
unfolding word_in program_header
kind_read s rest = refl

offset_read : (s : Segment) (rest : List ℕ) → AreWords s → word_in (program_header s ++ rest) 4 ≡ s.offset
unfolding word_in program_header
offset_read s rest fits = little_number-reads_back 4 s.offset [] fits.offset

address_read : (s : Segment) (rest : List ℕ) → AreWords s → word_in (program_header s ++ rest) 8 ≡ s.address
unfolding word_in program_header
address_read s rest fits = little_number-reads_back 4 s.address [] fits.address

file_size_read : (s : Segment) (rest : List ℕ) → AreWords s → word_in (program_header s ++ rest) 16 ≡ s.file_size
unfolding word_in program_header
file_size_read s rest fits = little_number-reads_back 4 s.file_size [] fits.file_size

memory_size_read : (s : Segment) (rest : List ℕ) → AreWords s → word_in (program_header s ++ rest) 20 ≡ s.memory_size
unfolding word_in program_header
memory_size_read s rest fits = little_number-reads_back 4 s.memory_size [] fits.memory_size

flags_read : (s : Segment) (rest : List ℕ) → AreWords s → word_in (program_header s ++ rest) 24 ≡ s.flags
unfolding word_in program_header
flags_read s rest fits = little_number-reads_back 4 s.flags [] fits.flags

abbrev made_of : ℕ → ℕ → ℕ → ℕ → ℕ → ℕ → ProgramHeader
made_of k o a f m g =
    record {
      kind = k;
      segment = record { offset = o; address = a; file_size = f; memory_size = m; flags = g };
    }

same_header : (k o a f m g : ℕ) (s : Segment) → k ≡ 1 → o ≡ s.offset → a ≡ s.address → f ≡ s.file_size → m ≡ s.memory_size → g ≡ s.flags → made_of k o a f m g ≡ header_of s
unfolding header_of
same_header k o a f m g s is_k is_o is_a is_f is_m is_g =
    ap (λ k. made_of k o a f m g) is_k
    ∙ ap (λ o. made_of 1 o a f m g) is_o
    ∙ ap (λ a. made_of 1 s.offset a f m g) is_a
    ∙ ap (λ f. made_of 1 s.offset s.address f m g) is_f
    ∙ ap (λ m. made_of 1 s.offset s.address s.file_size m g) is_m
    ∙ ap (λ g. made_of 1 s.offset s.address s.file_size s.memory_size g) is_g

header_read : (front : List ℕ) (s : Segment) (rest : List ℕ) (at : ℕ) → length front ≡ at → AreWords s → header_at (front ++ (program_header s ++ rest)) at ≡ header_of s
header_read front s rest at long fits =
    let xs = program_header s ++ rest in
    same_header _ _ _ _ _ _ s
    (first_word_behind front xs at long ∙ kind_read s rest)
    (word_behind front xs at 4 long ∙ offset_read s rest fits)
    (word_behind front xs at 8 long ∙ address_read s rest fits)
    (word_behind front xs at 16 long ∙ file_size_read s rest fits)
    (word_behind front xs at 20 long ∙ memory_size_read s rest fits)
    (word_behind front xs at 24 long ∙ flags_read s rest fits)

abbrev pub AllWords : List Segment → Type 0
AllWords [] = Unit {0}
AllWords (s ∷ ss) = AreWords s × AllWords ss

pub length-program_header : (s : Segment) → length (program_header s) ≡ 32
unfolding program_header
length-program_header s = refl

headers_read : (ss : List Segment) (front rest : List ℕ) (at : ℕ) → length front ≡ at → AllWords ss → headers_from (front ++ (program_headers ss ++ rest)) at (length ss) ≡ map header_of ss
unfolding headers_from
headers_read [] front rest at long fits = refl
headers_read (s ∷ ss) front rest at long fits =
    let h = program_header s in
    let image = front ++ ((h ++ program_headers ss) ++ rest) in
    let first : image ≡ front ++ (h ++ (program_headers ss ++ rest)) = ap (λ more. front ++ more) (append_assoc h (program_headers ss) rest) in
    let next : image ≡ (front ++ h) ++ (program_headers ss ++ rest) = first ∙ sym (append_assoc front h (program_headers ss ++ rest)) in
    let longer : length (front ++ h) ≡ at + 32 = omega (arith, long, length-append front h, length-program_header s) in
    ap (λ first. first ∷ headers_from image (at + 32) (length ss)) (ap (λ image. header_at image at) first ∙ header_read front s (program_headers ss ++ rest) at long fits.0)
    ∙ ap (λ hs. header_of s ∷ hs) (ap (λ image. headers_from image (at + 32) (length ss)) next ∙ headers_read ss (front ++ h) rest (at + 32) longer fits.1)

segments_back : (ss : List Segment) → map (λ h. h.segment) (map header_of ss) ≡ ss
unfolding header_of
segments_back [] = refl
segments_back (s ∷ ss) = ap (λ ss. s ∷ ss) (segments_back ss)

-- ---- the conditions

image_with : List Segment → List ℕ → List ℕ
image_with ss rest = file_header ++ (program_headers ss ++ rest)

number_read : (ss : List Segment) (rest : List ℕ) → number_in (image_with ss rest) ≡ 6
unfolding half_in image_with file_header
number_read ss rest = refl

entry_read : (ss : List Segment) (rest : List ℕ) → entry_in (image_with ss rest) ≡ 0x00010000
unfolding word_in image_with file_header
entry_read ss rest = refl

all_headers : (ss : List Segment) (rest : List ℕ) → length ss ≡ 6 → AllWords ss → headers (image_with ss rest) ≡ map header_of ss
unfolding image_with file_header
all_headers ss rest six fits =
    ap (headers_from (image_with ss rest) 52) (number_read ss rest ∙ sym six) ∙ headers_read ss file_header rest 52 refl fits

all_segments : (ss : List Segment) (rest : List ℕ) → length ss ≡ 6 → AllWords ss → segments (image_with ss rest) ≡ ss
all_segments ss rest six fits = ap (map (λ h. h.segment)) (all_headers ss rest six fits) ∙ segments_back ss

magic : (ss : List Segment) (rest : List ℕ) → has_magic (image_with ss rest) ≡ true
unfolding has_magic image_with file_header
magic ss rest = refl

identity : (ss : List Segment) (rest : List ℕ) → has_identity (image_with ss rest) ≡ true
unfolding has_identity image_with file_header
identity ss rest = refl

executable : (ss : List Segment) (rest : List ℕ) → is_executable_file (image_with ss rest) ≡ true
unfolding is_executable_file half_in image_with file_header
executable ss rest = refl

riscv : (ss : List Segment) (rest : List ℕ) → is_for_riscv (image_with ss rest) ≡ true
unfolding is_for_riscv half_in image_with file_header
riscv ss rest = refl

table : (ss : List Segment) (rest : List ℕ) → 244 ≤ length (image_with ss rest) → has_header_table (image_with ss rest) ≡ true
unfolding has_header_table half_in word_in image_with file_header
table ss rest long = le-leb 244 (length (image_with ss rest)) long

-- each segment is loadable where its bytes stand in the file
abbrev pub AllStand : ℕ → List Segment → Type 0
AllStand size [] = Unit {0}
AllStand size (s ∷ ss) = (s.file_size ≤ s.memory_size) × (s.offset + s.file_size ≤ size) × AllStand size ss

all_loadable : (image : List ℕ) (ss : List Segment) → AllStand (length image) ss → list_all (is_loadable image) (map header_of ss) ≡ true
unfolding header_of
all_loadable image [] stand = refl
all_loadable image (s ∷ ss) stand =
    and_from _ (list_all (is_loadable image) (map header_of ss)) (and_from _ _ (le-leb s.file_size s.memory_size stand.0) (le-leb (s.offset + s.file_size) (length image) stand.1)) (all_loadable image ss stand.2)

-- each range begins behind the one before it
abbrev pub Rising : ℕ → List Segment → Type 0
Rising from [] = Unit {0}
Rising from (s ∷ ss) = (from ≤ s.address) × Rising (s.address + s.memory_size) ss

behind_apart : (q : Range) (s : Segment) → q.base + q.size ≤ s.address → is_apart q (memory_range s) ≡ true
behind_apart q s below = grind (arith, nat_tests)

all_apart : (q : Range) (from : ℕ) (ss : List Segment) → q.base + q.size ≤ from → Rising from ss → list_all (is_apart q) (map memory_range ss) ≡ true
all_apart q from [] below rising = refl
all_apart q from (s ∷ ss) below rising =
    and_from (is_apart q (memory_range s)) (list_all (is_apart q) (map memory_range ss)) (behind_apart q s (omega (arith, below, rising.0))) (all_apart q (s.address + s.memory_size) ss (omega (arith, below, rising.0)) rising.1)

rising_apart : (from : ℕ) (ss : List Segment) → Rising from ss → are_apart (map memory_range ss) ≡ true
rising_apart from [] rising = refl
rising_apart from (s ∷ ss) rising =
    and_from _ (are_apart (map memory_range ss)) (all_apart (memory_range s) (s.address + s.memory_size) ss (omega arith) rising.1) (rising_apart (s.address + s.memory_size) ss rising.1)

-- each segment is in reach
abbrev pub AllInReach : List Segment → Type 0
AllInReach [] = Unit {0}
AllInReach (s ∷ ss) = (0x00010000 ≤ s.address) × (s.address + s.memory_size ≤ 0x70000000) × AllInReach ss

all_in_reach : (ss : List Segment) → AllInReach ss → list_all is_in_reach ss ≡ true
all_in_reach [] reach = refl
all_in_reach (s ∷ ss) reach =
    and_from _ (list_all is_in_reach ss) (and_from _ _ (le-leb 0x00010000 s.address reach.0) (le-leb (s.address + s.memory_size) 0x70000000 reach.1)) (all_in_reach ss reach.2)

-- where each of nine tests holds, none fails
nine_pass : (a b c d e f g h i : Bool) → a ≡ true → b ≡ true → c ≡ true → d ≡ true → e ≡ true → f ≡ true → g ≡ true → h ≡ true → i ≡ true → first_from 1 (a ∷ b ∷ c ∷ d ∷ e ∷ f ∷ g ∷ h ∷ i ∷ []) ≡ None
nine_pass a b c d e f g h i p q r s t u v w x = simp (p, q, r, s, t, u, v, w, x) refl

-- what the segments of an image of so many bytes have to be
pub record Fit (size : ℕ) (ss : List Segment) : Type 0 where
  pub six : length ss ≡ 6
  pub words : AllWords ss
  pub stand : AllStand size ss
  pub rising : Rising 0 ss
  pub reach : AllInReach ss
  pub memory : sum_by (λ s. s.memory_size) ss ≤ 419430400
  pub entry : list_any (has_entry 0x00010000) ss ≡ true
  pub long : 244 ≤ size
  pub short : size ≤ 100663296

size_fits : (image : List ℕ) → 244 ≤ length image → length image ≤ 100663296 → has_image_size image ≡ true
unfolding has_image_size
size_fits image long short =
    and_from _ _ (le-leb 52 (length image) (omega (arith, long))) (le-leb (length image) 100663296 short)

loadable : (ss : List Segment) (rest : List ℕ) → Fit (length (image_with ss rest)) ss → has_loadable_segments (image_with ss rest) ≡ true
unfolding has_loadable_segments
loadable ss rest fit =
    let image = image_with ss rest in
    and_from (list_all (is_loadable image) (headers image)) (are_apart (map memory_range (segments image)))
    (ap (list_all (is_loadable image)) (all_headers ss rest fit.six fit.words) ∙ all_loadable image ss fit.stand)
    (ap (λ ss. are_apart (map memory_range ss)) (all_segments ss rest fit.six fit.words) ∙ rising_apart 0 ss fit.rising)

in_reach : (ss : List Segment) (rest : List ℕ) → Fit (length (image_with ss rest)) ss → has_segments_in_reach (image_with ss rest) ≡ true
unfolding has_segments_in_reach
in_reach ss rest fit =
    let image = image_with ss rest in
    and_from (list_all is_in_reach (segments image)) (nat_le (sum_by (λ s. s.memory_size) (segments image)) 419430400)
    (ap (list_all is_in_reach) (all_segments ss rest fit.six fit.words) ∙ all_in_reach ss fit.reach)
    (ap (λ ss. nat_le (sum_by (λ s. s.memory_size) ss) 419430400) (all_segments ss rest fit.six fit.words) ∙ le-leb (sum_by (λ s. s.memory_size) ss) 419430400 fit.memory)

entered : (ss : List Segment) (rest : List ℕ) → Fit (length (image_with ss rest)) ss → has_executable_entry (image_with ss rest) ≡ true
unfolding has_executable_entry
entered ss rest fit =
    ap (λ at. nat_eq (at % 4) 0 && list_any (has_entry at) (segments (image_with ss rest))) (entry_read ss rest)
    ∙ ap (list_any (has_entry 0x00010000)) (all_segments ss rest fit.six fit.words)
    ∙ fit.entry

all_meet : (ss : List Segment) (rest : List ℕ) → Fit (length (image_with ss rest)) ss → first_failing (image_with ss rest) ≡ None
unfolding first_failing
all_meet ss rest fit =
    nine_pass _ _ _ _ _ _ _ _ _ (size_fits (image_with ss rest) fit.long fit.short) (magic ss rest) (identity ss rest) (executable ss rest) (riscv ss rest) (table ss rest fit.long) (loadable ss rest fit) (in_reach ss rest fit) (entered ss rest fit)

pub fitting_loads : (ss : List Segment) (rest image : List ℕ) → image ≡ file_header ++ (program_headers ss ++ rest) → Fit (length image) ss → IsLoaded image ss
unfolding image_with
fitting_loads ss rest image is fit =
    let P : List ℕ → Type 0 = λ image. IsLoaded image ss in
    let fits = subst (λ (image : List ℕ). Fit (length image) ss) is fit in
    subst P (sym is) record {
      meets = all_meet ss rest fits;
      segments = all_segments ss rest fits.six fits.words;
      entry = entry_read ss rest;
    }
