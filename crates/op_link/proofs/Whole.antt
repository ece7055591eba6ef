-- What images that meet the conditions have.
use Rattle.std.proofs.Common.{◌≡◌, ℕ, ◌+◌, ◌*◌, ◌<◌, Bool, true, false, nat_eq, None, List, [], ◌∷◌, get_or, map, refl, ap, sym, ◌∙◌, arith}
use Rattle.std.proofs.lemmas.List.Recursion.{and_at}
use Rattle.std.specs.Cmp.{first_so, second_so}
use Rattle.std.specs.List.{list_all}
use Rattle.op_link.specs.Region.{are_apart}
use Rattle.op_link.proofs.Headers.{length-headers_from, get_or-headers_from}
use Rattle.op_link.specs.Image.{number_in, segment_at, header_at, headers, segments, memory_range, has_file_bytes, is_loadable, first_from, first_failing, has_image_size, has_magic, has_identity, is_executable_file, is_for_riscv, has_header_table, has_loadable_segments, has_segments_in_reach, has_executable_entry}

-- where no test fails, each holds
nine_hold : (a b c d e f g h i : Bool) → first_from 1 (a ∷ b ∷ c ∷ d ∷ e ∷ f ∷ g ∷ h ∷ i ∷ []) ≡ None → (a ≡ true) × (b ≡ true) × (c ≡ true) × (d ≡ true) × (e ≡ true) × (f ≡ true) × (g ≡ true) × (h ≡ true) × (i ≡ true)
nine_hold false b c d e f g h i is = absurd (cc)
nine_hold true false c d e f g h i is = absurd (cc)
nine_hold true true false d e f g h i is = absurd (cc)
nine_hold true true true false e f g h i is = absurd (cc)
nine_hold true true true true false f g h i is = absurd (cc)
nine_hold true true true true true false g h i is = absurd (cc)
nine_hold true true true true true true false h i is = absurd (cc)
nine_hold true true true true true true true false i is = absurd (cc)
nine_hold true true true true true true true true false is = absurd (cc)
nine_hold true true true true true true true true true is =
    (refl, refl, refl, refl, refl, refl, refl, refl, refl)

pub record IsWhole (image : List ℕ) : Type 0 where
  pub size : has_image_size image ≡ true
  pub magic : has_magic image ≡ true
  pub identity : has_identity image ≡ true
  pub executable : is_executable_file image ≡ true
  pub riscv : is_for_riscv image ≡ true
  pub table : has_header_table image ≡ true
  pub segments : has_loadable_segments image ≡ true
  pub reach : has_segments_in_reach image ≡ true
  pub entry : has_executable_entry image ≡ true

pub whole : (image : List ℕ) → first_failing image ≡ None → IsWhole image
unfolding first_failing
whole image is =
    let all = nine_hold (has_image_size image) (has_magic image) (has_identity image) (is_executable_file image) (is_for_riscv image) (has_header_table image) (has_loadable_segments image) (has_segments_in_reach image) (has_executable_entry image) is in
    record {
      size = all.0;
      magic = all.1;
      identity = all.2;
      executable = all.3;
      riscv = all.4;
      table = all.5;
      segments = all.6;
      reach = all.7;
      entry = all.8;
    }

-- each segment has its bytes in the file
pub has_file_bytes-at : (image : List ℕ) (k : ℕ) → first_failing image ≡ None → k < number_in image → has_file_bytes image (segment_at image (52 + 32 * k)) ≡ true
unfolding has_loadable_segments
has_file_bytes-at image k is below =
    let d = header_at image 0 in
    let long = length-headers_from image 52 (number_in image) in
    let all = first_so _ (are_apart (map memory_range (segments image))) (whole image is).segments in
    let here = and_at (list_all (is_loadable image)) (is_loadable image) refl (λ _ _. refl) (headers image) k d (omega arith) all in
    ap (λ h. has_file_bytes image h.segment) (sym (get_or-headers_from image 52 (number_in image) k d below))
    ∙ second_so (nat_eq (get_or (headers image) k d).kind 1) _ here
