-- The segments of images that meet the conditions, in memory.
use Rattle.std.proofs.Common.{◌≡◌, ℕ, ◌+◌, ◌-◌, ◌≤◌, true, nat_eq, None, Some, List, [], ◌∷◌, ◌++◌, length, get_or, map, take, drop, slice_get, replicate, refl, ap, sym, ◌∙◌, arith, length-append, length-drop}
use Rattle.std.proofs.lemmas.Bool.Decides.{nat_tests}
use Rattle.std.proofs.lemmas.List.{length-take-le, length-replicate, length-map, map-append, take_more, take_all}
use Rattle.std.proofs.lemmas.Option.{get_or_from_slice_get, slice_get_within}
use Rattle.std.specs.Cmp.{first_so, second_so}
use Rattle.std.specs.List.{list_all}
use Rattle.op_rv.specs.State.{State, Running}
use Rattle.op_link.specs.Image.{number_in, entry_in, headers, segments, memory_range, region_in, regions_in, has_file_bytes, is_loadable, first_failing, has_loadable_segments, start}
use Rattle.op_link.specs.declared.table.ProgramHeader.{ProgramHeader}
use Rattle.op_link.specs.declared.table.Segment.{Segment}
use Rattle.op_link.proofs.Headers.{length-headers_from}
use Rattle.op_link.proofs.Whole.{whole}
use Rattle.op_emu.specs.Region.{Region, range_of, are_apart, byte_in, rights_in}
use Rattle.op_emu.specs.Segments.{region_of, regions_of}
use Rattle.op_emu.specs.declared.memory.Segment.{Segment as Loaded}

-- the bytes of a segment are as many as its memory
module _ (image : List ℕ) (s : Segment) (has : has_file_bytes image s ≡ true) where
  file_fits : s.file_size ≤ s.memory_size
  file_fits = grind (arith, nat_tests)

  file_within : s.offset + s.file_size ≤ length image
  file_within = grind (arith, nat_tests)

  pub range_of-region_in : range_of (region_in image s) ≡ memory_range s
  range_of-region_in =
      let file = length-take-le s.file_size (drop s.offset image) (omega (arith, length-drop s.offset image, file_within)) in
      let all : length (region_in image s).bytes ≡ s.memory_size =
      omega (arith, length-append (take s.file_size (drop s.offset image)) (replicate (s.memory_size - s.file_size) 0), file, length-replicate {A = ℕ} (s.memory_size - s.file_size) 0, file_fits)
      in
      ap (λ size. record { base = s.address; size = size }) all

ranges : (image : List ℕ) (hs : List ProgramHeader) → list_all (is_loadable image) hs ≡ true → map range_of (map (region_in image) (map (λ h. h.segment) hs)) ≡ map memory_range (map (λ h. h.segment) hs)
ranges image [] all = refl
ranges image (h ∷ hs) all =
    let rest = map (λ (h : ProgramHeader). h.segment) hs in
    let first = second_so (nat_eq h.kind 1) _ (first_so (is_loadable image h) (list_all (is_loadable image) hs) all) in
    ap (λ r. r ∷ map range_of (map (region_in image) rest)) (range_of-region_in image h.segment first)
    ∙ ap (λ rs. memory_range h.segment ∷ rs) (ranges image hs (second_so (is_loadable image h) _ all))

-- the segments lie apart
pub lie_apart_in : (image : List ℕ) → first_failing image ≡ None → are_apart (map range_of (regions_in image)) ≡ true
unfolding has_loadable_segments
lie_apart_in image is =
    let good = (whole image is).segments in
    ap are_apart (ranges image (headers image) (first_so _ (are_apart (map memory_range (segments image))) good))
    ∙ second_so (list_all (is_loadable image) (headers image)) _ good

-- one more segment
pub one_more_region : (image : List ℕ) (made : List Loaded) (k : ℕ) (s : Segment) (next : Loaded) → regions_of made ≡ map (region_in image) (take k (segments image)) → slice_get (segments image) k ≡ Some s → region_of next ≡ region_in image s → regions_of (made ++ next ∷ []) ≡ map (region_in image) (take (k + 1) (segments image))
one_more_region image made k s next so_far at is =
    let more = take_more (segments image) k s (slice_get_within (segments image) k s at) in
    map-append region_of made (next ∷ [])
    ∙ ap (λ rs. rs ++ region_of next ∷ []) so_far
    ∙ ap (λ r. map (region_in image) (take k (segments image)) ++ r ∷ []) (is ∙ ap (region_in image) (sym (get_or_from_slice_get (segments image) k s s at)))
    ∙ sym (ap (map (region_in image)) more ∙ map-append (region_in image) (take k (segments image)) (get_or (segments image) k s ∷ []))

pub all_regions : (image : List ℕ) (n : ℕ) → n ≡ number_in image → map (region_in image) (take n (segments image)) ≡ regions_in image
all_regions image n is =
    let long : length (segments image) ≡ number_in image =
    length-map (headers image) (λ (h : ProgramHeader). h.segment) ∙ length-headers_from image 52 (number_in image)
    in
    ap (map (region_in image)) (take_all n (segments image) (omega arith))

abbrev pub state_from : List ℕ → ℕ → List Region → List ℕ → State
state_from words pc regions input =
    record {
      registers = words;
      pc = pc;
      memory = byte_in regions;
      rights = rights_in regions;
      input = input;
      output = [];
      errors = [];
      ending = Running;
    }

-- a state made of these parts is the first one of the image
pub begins : (image input words : List ℕ) (pc : ℕ) (regions : List Region) → words ≡ replicate 32 0 → pc ≡ entry_in image → regions ≡ regions_in image → state_from words pc regions input ≡ start image input
unfolding start
begins image input words pc regions is_words is_pc is_regions =
    ap (λ words. state_from words pc regions input) is_words
    ∙ ap (λ pc. state_from (replicate 32 0) pc regions input) is_pc
    ∙ ap (λ regions. state_from (replicate 32 0) (entry_in image) regions input) is_regions
