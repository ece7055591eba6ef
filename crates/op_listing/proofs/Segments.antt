-- The first segment that passes a test, found one by one.
use Rattle.std.proofs.Common.{◌≡◌, ◌≤◌, ℕ, zero, suc, ◌+◌, Bool, true, false, Option, Some, None, is_none, List, [], ◌∷◌, drop, length, slice_get, ap, sym, ◌∙◌, add-one, if◌then◌else◌}
use Rattle.std.specs.List.{find}
use Rattle.op_link.specs.Image.{first_failing, gives_execute, headers, number_in, segments}
use Rattle.op_link.proofs.Headers.{length-headers_from}
use Rattle.op_link.specs.declared.table.ProgramHeader.{ProgramHeader}
use Rattle.op_listing.specs.Listing.{code_segment_of}
use Rattle.std.proofs.lemmas.List.{drop_all, length-map}

-- what is left from the place k on begins with the element there
pub drop-slice_get : {X : Type 0} (xs : List X) (k : ℕ) (x : X) → slice_get xs k ≡ Some x → drop k xs ≡ x ∷ drop (suc k) xs
drop-slice_get [] k x is = cc
drop-slice_get (y ∷ xs) zero x is = cc
drop-slice_get (y ∷ xs) (suc k) x is = drop-slice_get xs k x is

-- the segment at the place k is the one, or it is behind it
module _ {X : Type 0} (test : X → Bool) (xs : List X) (k : ℕ) (x : X) (at_k : slice_get xs k ≡ Some x) (so_far : find test xs ≡ find test (drop k xs)) where
  left : find test xs ≡ (if test x then Some x else find test (drop (suc k) xs))
  left = so_far ∙ ap (find test) (drop-slice_get xs k x at_k)

  pub find_here : test x ≡ true → find test xs ≡ Some x
  find_here passes = left ∙ ap (λ b. if b then Some x else find test (drop (suc k) xs)) passes

  pub find_behind : test x ≡ false → find test xs ≡ find test (drop (k + 1) xs)
  find_behind fails =
      left
      ∙ ap (λ b. if b then Some x else find test (drop (suc k) xs)) fails
      ∙ ap (λ n. find test (drop n xs)) (sym (add-one k))

-- past the last segment there is none
pub find_none : {X : Type 0} (test : X → Bool) (xs : List X) (k : ℕ) → length xs ≤ k → find test xs ≡ find test (drop k xs) → find test xs ≡ None
find_none test xs k all so_far = so_far ∙ ap (find test) (drop_all k xs all)

pub length-segments : (image : List ℕ) → length (segments image) ≡ number_in image
length-segments image =
    length-map (headers image) (λ (h : ProgramHeader). h.segment) ∙ length-headers_from image 52 (number_in image)

-- an image has what is found, and other bytes have none
pub code_segment-is : (image : List ℕ) → first_failing image ≡ None → code_segment_of image ≡ find gives_execute (segments image)
unfolding code_segment_of
code_segment-is image meets = ap (λ (failing : Option ℕ). if is_none failing then find gives_execute (segments image) else None) meets

pub code_segment-none : (image : List ℕ) (condition : ℕ) → first_failing image ≡ Some condition → code_segment_of image ≡ None
unfolding code_segment_of
code_segment-none image condition fails = ap (λ (failing : Option ℕ). if is_none failing then find gives_execute (segments image) else None) fails
