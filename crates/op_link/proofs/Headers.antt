-- The program headers of an image, one by one.
use Rattle.std.proofs.Common.{◌≡◌, ℕ, option_map, slice_get, zero, suc, ◌+◌, ◌*◌, ◌<◌, ◌≤◌, Bool, true, false, ◌&&◌, Some, List, [], ◌∷◌, ◌++◌, length, get_or, map, take, set, refl, ap, sym, ◌∙◌, arith}
use Rattle.std.proofs.lemmas.List.Folds.{list_all-map}
use Rattle.std.specs.List.{list_all}
use Rattle.op_link.specs.Region.{Range, is_apart, are_apart}
use Rattle.std.proofs.lemmas.List.{take_more, take_more_set, take_all}
use Rattle.std.proofs.lemmas.Option.{slice_get-map, slice_get-get_or}
use Rattle.std.proofs.lemmas.Bool.Decides.{nat_tests}
use Rattle.op_link.specs.Image.{memory_range, number_in, header_at, headers_from, headers, segments, segment_at, has_image_size, has_header_table}
use Rattle.op_link.specs.declared.table.ProgramHeader.{ProgramHeader}

pub has_room : (image : List ℕ) → true ≡ has_image_size image → 52 ≤ length image
unfolding has_image_size
has_room image is = grind (arith, nat_tests)

-- the table of program headers is short and stands in the file
pub record HasTable (image : List ℕ) : Type 0 where
  pub some : 1 ≤ number_in image
  pub few : number_in image ≤ 16
  pub within : 52 + 32 * number_in image ≤ length image

pub has_table : (image : List ℕ) → has_header_table image ≡ true → HasTable image
unfolding has_header_table
has_table image is =
    record { some = grind (arith, nat_tests); few = grind (arith, nat_tests); within = grind (arith, nat_tests) }

pub length-headers_from : (image : List ℕ) (at n : ℕ) → length (headers_from image at n) ≡ n
unfolding headers_from
length-headers_from image at zero = refl
length-headers_from image at (suc n) = omega (arith, length-headers_from image (at + 32) n)

pub get_or-headers_from : (image : List ℕ) (at n k : ℕ) (d : ProgramHeader) → k < n → get_or (headers_from image at n) k d ≡ header_at image (at + 32 * k)
unfolding headers_from
get_or-headers_from image at zero k d below = absurd (omega arith)
get_or-headers_from image at (suc n) zero d below = ap (header_at image) (omega arith)
get_or-headers_from image at (suc n) (suc k) d below =
    get_or-headers_from image (at + 32) n k d (omega arith) ∙ ap (header_at image) (omega arith)

-- the first k headers and the next one
pub take-headers : (image : List ℕ) (table : List ProgramHeader) (k : ℕ) (h : ProgramHeader) → k < number_in image → k < length table → take k table ≡ take k (headers image) → h ≡ header_at image (52 + 32 * k) → take (k + 1) (set table k h) ≡ take (k + 1) (headers image)
take-headers image table k h below room same is =
    let next = get_or-headers_from image 52 (number_in image) k h below in
    let long = length-headers_from image 52 (number_in image) in
    take_more_set table k h room
    ∙ ap (λ hs. hs ++ h ∷ []) same
    ∙ ap (λ h. take k (headers image) ++ h ∷ []) (is ∙ sym next)
    ∙ sym (take_more (headers image) k h (omega arith))

pub take-all_headers : (image : List ℕ) → take (number_in image) (headers image) ≡ headers image
take-all_headers image =
    let long = length-headers_from image 52 (number_in image) in
    take_all (number_in image) (headers image) (omega arith)

-- the segments one by one
pub nth_segment : (image : List ℕ) (k : ℕ) → k < number_in image → slice_get (segments image) k ≡ Some (segment_at image (52 + 32 * k))
nth_segment image k below =
    let long = length-headers_from image 52 (number_in image) in
    let d = header_at image 0 in
    slice_get-map (λ (h : ProgramHeader). h.segment) (headers image) k
    ∙ ap (option_map (λ (h : ProgramHeader). h.segment)) (slice_get-get_or (headers image) k d (omega arith) ∙ ap Some (get_or-headers_from image 52 (number_in image) k d below))

-- the segments of a first header and of the others
module _ (h : ProgramHeader) (hs headers : List ProgramHeader) (is : headers ≡ h ∷ hs) where
  ranges : List ProgramHeader → List Range
  ranges hs = map memory_range (map (λ h. h.segment) hs)

  are_apart-first : are_apart (ranges headers) ≡ (list_all (λ g. is_apart (memory_range h.segment) (memory_range g.segment)) hs && are_apart (ranges hs))
  unfolding ranges
  are_apart-first =
      ap (λ hs. are_apart (ranges hs)) is
      ∙ ap (λ b. b && are_apart (ranges hs)) (list_all-map (is_apart (memory_range h.segment)) memory_range (map (λ h. h.segment) hs) ∙ list_all-map (λ s. is_apart (memory_range h.segment) (memory_range s)) (λ h. h.segment) hs)

  pub apart_from_all : (first rest : Bool) → first ≡ list_all (λ g. is_apart (memory_range h.segment) (memory_range g.segment)) hs → first ≡ true → rest ≡ are_apart (map memory_range (map (λ h. h.segment) hs)) → rest ≡ are_apart (map memory_range (map (λ h. h.segment) headers))
  unfolding ranges
  apart_from_all first rest first_is apart rest_is =
      sym (are_apart-first ∙ ap (λ b. b && are_apart (ranges hs)) (sym first_is ∙ apart) ∙ sym rest_is)

  pub overlaps_some : (first : Bool) → first ≡ list_all (λ g. is_apart (memory_range h.segment) (memory_range g.segment)) hs → first ≡ false → first ≡ are_apart (map memory_range (map (λ h. h.segment) headers))
  unfolding ranges
  overlaps_some first first_is overlaps =
      overlaps ∙ sym (are_apart-first ∙ ap (λ b. b && are_apart (ranges hs)) (sym first_is ∙ overlaps))
