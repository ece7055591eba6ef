-- Memory after bytes were written to one segment, and after several such writes.
use Rattle.std.proofs.Common.{◌≡◌, ℕ, zero, suc, ◌+◌, ◌-◌, ◌<◌, ◌≤◌, Bool, true, false, cond, ◌&&◌, List, [], ◌∷◌, ◌++◌, Some, None, length, get_or, set, take, drop, map, find, option_map, IsTrue, nat_le, nat_lt, refl, ap, sym, ◌∙◌, subst, arith, ⊎_elim, length-append, length-drop}
use Rattle.std.proofs.Math.Path.{fun_ext}
use Rattle.std.proofs.Math.Seq.{take-add}
use Rattle.std.proofs.lemmas.Bool.{false≢true, cases_lt, cond-true, cond-false}
use Rattle.std.proofs.lemmas.Bool.Decides.{nat_tests}
use Rattle.std.proofs.lemmas.List.{map-set, get_or-map, length-take-le, get_or_append_left, get_or-append_right, get_or-take, get_or-drop}
use Rattle.std.proofs.lemmas.List.Quantifiers.{position-Some}
use Rattle.std.proofs.lemmas.List.Sums.{fails_before_first}
use Rattle.std.specs.Cmp.{first_so, second_so}
use Rattle.std.specs.List.{list_all, position, position_or_len}
use Rattle.std.specs.Option.{option_map_or}
use Rattle.op_rv.specs.State.{Rights, with_bytes}
use Rattle.op_emu.specs.Region.{Region, Range, covers, is_apart, are_apart, range_of, region_at, byte_in, readable_in, writable_in, executable_in, rights_in}
use Rattle.op_emu.specs.Segments.{region_of, regions_of, lie_apart, written_over, HasAddress, IsWithin, IsFoundAt, IsWritten}
use Rattle.op_emu.specs.declared.memory.Segment.{Segment}
use Rattle.op_emu.proofs.Regions.{find-map, apart_covers}

-- a range that lies apart from all lies apart from the one at each place
apart_at : (q : Range) (rs : List Region) (k : ℕ) (r : Region) → k < length rs → get_or rs k r ≡ r → list_all (is_apart q) (map range_of rs) ≡ true → is_apart q (range_of r) ≡ true
apart_at q [] k r in_list at all = absurd (omega arith)
apart_at q (s ∷ rs) zero r in_list at all =
    subst (λ s. is_apart q (range_of s) ≡ true) at (first_so _ (list_all (is_apart q) (map range_of rs)) all)
apart_at q (s ∷ rs) (suc k) r in_list at all =
    apart_at q rs k r (omega arith) at (second_so (is_apart q (range_of s)) _ all)

-- the segment at an address that the one at a place covers
pub region_at-place : (rs : List Region) (k : ℕ) (r : Region) (x : ℕ) → are_apart (map range_of rs) ≡ true → k < length rs → get_or rs k r ≡ r → covers (range_of r) x ≡ true → region_at rs x ≡ Some r
region_at-place [] k r x lie in_list at there = absurd (omega arith)
region_at-place (s ∷ rs) zero r x lie in_list at there =
    let here : covers (range_of s) x ≡ true = subst (λ s. covers (range_of s) x ≡ true) (sym at) there in
    cond-true _ (Some s) (region_at rs x) here ∙ ap Some at
region_at-place (s ∷ rs) (suc k) r x lie in_list at there =
    let first : list_all (is_apart (range_of s)) (map range_of rs) ≡ true = first_so _ _ lie in
    let apart = apart_at (range_of s) rs k r (omega arith) at first in
    let away = apart_covers (range_of s) (range_of r) x apart there in
    cond-false _ (Some s) (region_at rs x) away ∙ region_at-place rs k r x (second_so _ _ lie) (omega arith) at there

-- where the one at a place is replaced by one of the same range, it is found where that one was
region_at-set : (rs : List Region) (k : ℕ) (r r' : Region) (x : ℕ) → k < length rs → get_or rs k r ≡ r → range_of r' ≡ range_of r → covers (range_of r) x ≡ false → region_at (set rs k r') x ≡ region_at rs x
region_at-set [] k r r' x in_list at same away = absurd (omega arith)
region_at-set (s ∷ rs) zero r r' x in_list at same away =
    cond-false _ (Some r') (region_at rs x) (ap (λ q. covers q x) same ∙ away)
    ∙ sym (cond-false _ (Some s) (region_at rs x) (ap (λ s. covers (range_of s) x) at ∙ away))
region_at-set (s ∷ rs) (suc k) r r' x in_list at same away =
    ap (cond (covers (range_of s) x) (Some s)) (region_at-set rs k r r' x (omega arith) at same away)

ranges-set : (rs : List Region) (k : ℕ) (r r' : Region) → k < length rs → get_or rs k r ≡ r → range_of r' ≡ range_of r → map range_of (set rs k r') ≡ map range_of rs
ranges-set [] k r r' in_list at same = absurd (omega arith)
ranges-set (s ∷ rs) zero r r' in_list at same =
    ap (λ q. q ∷ map range_of rs) (same ∙ ap range_of (sym at))
ranges-set (s ∷ rs) (suc k) r r' in_list at same =
    ap (λ qs. range_of s ∷ qs) (ranges-set rs k r r' (omega arith) at same)

get_or-set_here : {X : Type 0} (xs : List X) (k : ℕ) (y d : X) → k < length xs → get_or (set xs k y) k d ≡ y
get_or-set_here [] k y d in_list = absurd (omega arith)
get_or-set_here (x ∷ xs) zero y d in_list = refl
get_or-set_here (x ∷ xs) (suc k) y d in_list = get_or-set_here xs k y d (omega arith)

length-set_here : {X : Type 0} (xs : List X) (k : ℕ) (y : X) → length (set xs k y) ≡ length xs
length-set_here [] k y = refl
length-set_here (x ∷ xs) zero y = refl
length-set_here (x ∷ xs) (suc k) y = ap suc (length-set_here xs k y)

by_cases : {X : Type 0} (b : Bool) (x y : X) → (b ≡ true → x ≡ y) → (b ≡ false → x ≡ y) → x ≡ y
by_cases true x y holds fails = holds refl
by_cases false x y holds fails = fails refl

abbrev rights_of : (ℕ → Bool) → (ℕ → Bool) → (ℕ → Bool) → Rights
rights_of r w x = record { readable = r; writable = w; executable = x }

same_rights : (r r' w w' x x' : ℕ → Bool) → r ≡ r' → w ≡ w' → x ≡ x' → rights_of r w x ≡ rights_of r' w' x'
same_rights r r' w w' x x' p q s =
    ap (λ r. rights_of r w x) p ∙ ap (λ w. rights_of r' w x) q ∙ ap (λ x. rights_of r' w' x) s

-- the segment at a place is replaced by one of the same range and rights
module _ (rs : List Region) (k : ℕ) (r r' : Region) (lie : are_apart (map range_of rs) ≡ true) (in_list : k < length rs) (at : get_or rs k r ≡ r) (same : range_of r' ≡ range_of r) where
  lie_after : are_apart (map range_of (set rs k r')) ≡ true
  lie_after = ap are_apart (ranges-set rs k r r' in_list at same) ∙ lie

  found_before : (x : ℕ) → covers (range_of r) x ≡ true → region_at rs x ≡ Some r
  found_before x there = region_at-place rs k r x lie in_list at there

  found_after : (x : ℕ) → covers (range_of r) x ≡ true → region_at (set rs k r') x ≡ Some r'
  found_after x there =
      region_at-place (set rs k r') k r' x lie_after (omega (arith, length-set_here rs k r')) (get_or-set_here rs k r' r' in_list) (ap (λ q. covers q x) same ∙ there)

  -- what is the same for both segments is the same at each address
  kept_at : {Y : Type 0} (f : Region → Y) (d : Y) (x : ℕ) → (covers (range_of r) x ≡ true → f r' ≡ f r) → option_map_or f (region_at (set rs k r') x) d ≡ option_map_or f (region_at rs x) d
  kept_at f d x is =
      by_cases (covers (range_of r) x) _ _ (λ there.
      ap (λ found. option_map_or f found d) (found_after x there)
      ∙ is there
      ∙ sym (ap (λ found. option_map_or f found d) (found_before x there))) (λ away. ap (λ found. option_map_or f found d) (region_at-set rs k r r' x in_list at same away))

  rights_kept : r'.readable ≡ r.readable → r'.writable ≡ r.writable → r'.executable ≡ r.executable → rights_in (set rs k r') ≡ rights_in rs
  unfolding readable_in writable_in executable_in
  rights_kept read write execute =
      let readable : readable_in (set rs k r') ≡ readable_in rs = fun_ext (λ x. kept_at (λ q. q.readable) false x (λ _. read)) in
      let writable : writable_in (set rs k r') ≡ writable_in rs = fun_ext (λ x. kept_at (λ q. q.writable) false x (λ _. write)) in
      let executable : executable_in (set rs k r') ≡ executable_in rs = fun_ext (λ x. kept_at (λ q. q.executable) false x (λ _. execute)) in
      same_rights _ _ _ _ _ _ readable writable executable

-- a byte of a segment after these were written from an offset on
module _ (old bytes : List ℕ) (offset : ℕ) (fits : offset + length bytes ≤ length old) where
  length-written_over : length (written_over old offset bytes) ≡ length old
  length-written_over =
      omega (arith, length-append (take offset old) (bytes ++ drop (offset + length bytes) old), length-append bytes (drop (offset + length bytes) old), length-take-le offset old (omega arith), length-drop (offset + length bytes) old)

  front : length (take offset old) ≡ offset
  front = length-take-le offset old (omega arith)

  written_below : (i : ℕ) → i < offset → get_or (written_over old offset bytes) i 0 ≡ get_or old i 0
  written_below i below =
      get_or_append_left (take offset old) _ 0 i (omega (arith, front)) ∙ get_or-take offset old i 0 below

  past_front : (i : ℕ) → offset ≤ i → get_or (written_over old offset bytes) i 0 ≡ get_or (bytes ++ drop (offset + length bytes) old) (i - offset) 0
  past_front i from = get_or-append_right (take offset old) _ offset i 0 front from

  written_at : (i : ℕ) → offset ≤ i → i < offset + length bytes → get_or (written_over old offset bytes) i 0 ≡ get_or bytes (i - offset) 0
  written_at i from below = past_front i from ∙ get_or_append_left bytes _ 0 (i - offset) (omega arith)

  written_above : (i : ℕ) → offset + length bytes ≤ i → get_or (written_over old offset bytes) i 0 ≡ get_or old i 0
  written_above i from =
      let at : offset + length bytes + (i - offset - length bytes) ≡ i = omega arith in
      past_front i (omega arith)
      ∙ get_or-append_right bytes _ (length bytes) (i - offset) 0 refl (omega arith)
      ∙ get_or-drop (offset + length bytes) old (i - offset - length bytes) 0
      ∙ ap (λ i. get_or old i 0) at

-- whether an address lies in a range that was written
abbrev pub is_written : ℕ → ℕ → ℕ → Bool
is_written a n x = nat_le a x && nat_lt x (a + n)

pub written_from : (a n x : ℕ) → is_written a n x ≡ true → a ≤ x
written_from a n x is = grind (arith, nat_tests)

pub written_up_to : (a n x : ℕ) → is_written a n x ≡ true → x < a + n
written_up_to a n x is = grind (arith, nat_tests)

is_outside : (a n x : ℕ) → is_written a n x ≡ false → a ≤ x → a + n ≤ x
is_outside a n x is from = grind (arith, nat_tests)

covered_from : (r : Range) (x : ℕ) → covers r x ≡ true → r.base ≤ x
covered_from r x there = grind (arith, nat_tests)

not_written : (r : Range) (a n x : ℕ) → r.base ≤ a → a + n ≤ r.base + r.size → covers r x ≡ false → is_written a n x ≡ false
not_written r a n x low high away = grind (arith, nat_tests)

-- bytes are written from an address of the segment at a place on
module _ (rs : List Region) (k : ℕ) (r r' : Region) (lie : are_apart (map range_of rs) ≡ true) (in_list : k < length rs) (at : get_or rs k r ≡ r) (a : ℕ) (bytes : List ℕ) (low : r.base ≤ a) (fits : a - r.base + length bytes ≤ length r.bytes) (same : range_of r' ≡ range_of r) (is_base : r'.base ≡ r.base) (is_bytes : r'.bytes ≡ written_over r.bytes (a - r.base) bytes) where
  byte_there : (x : ℕ) → covers (range_of r) x ≡ true → byte_in (set rs k r') x ≡ get_or (written_over r.bytes (a - r.base) bytes) (x - r.base) 0
  unfolding byte_in
  byte_there x there =
      ap (λ found. option_map_or (λ region. get_or region.bytes (x - region.base) 0) found 0) (found_after rs k r r' lie in_list at same x there)
      ∙ ap (λ bs. get_or bs (x - r'.base) 0) is_bytes
      ∙ ap (λ base. get_or (written_over r.bytes (a - r.base) bytes) (x - base) 0) is_base

  byte_before : (x : ℕ) → covers (range_of r) x ≡ true → byte_in rs x ≡ get_or r.bytes (x - r.base) 0
  unfolding byte_in
  byte_before x there =
      ap (λ found. option_map_or (λ region. get_or region.bytes (x - region.base) 0) found 0) (found_before rs k r r' lie in_list at same x there)

  byte_away : (x : ℕ) → covers (range_of r) x ≡ false → byte_in (set rs k r') x ≡ byte_in rs x
  unfolding byte_in
  byte_away x away =
      ap (λ found. option_map_or (λ region. get_or region.bytes (x - region.base) 0) found 0) (region_at-set rs k r r' x in_list at same away)

  byte_written : (x : ℕ) → covers (range_of r) x ≡ true → is_written a (length bytes) x ≡ true → get_or (written_over r.bytes (a - r.base) bytes) (x - r.base) 0 ≡ get_or bytes (x - a) 0
  byte_written x there is =
      let from = written_from a (length bytes) x is in
      let below = written_up_to a (length bytes) x is in
      let i : x - r.base - (a - r.base) ≡ x - a = omega arith in
      written_at r.bytes bytes (a - r.base) fits (x - r.base) (omega arith) (omega arith) ∙ ap (λ i. get_or bytes i 0) i

  byte_kept : (x : ℕ) → covers (range_of r) x ≡ true → is_written a (length bytes) x ≡ false → get_or (written_over r.bytes (a - r.base) bytes) (x - r.base) 0 ≡ get_or r.bytes (x - r.base) 0
  byte_kept x there is =
      let from = covered_from (range_of r) x there in
      ⊎_elim (λ below. written_below r.bytes bytes (a - r.base) fits (x - r.base) (omega arith)) (λ above. written_above r.bytes bytes (a - r.base) fits (x - r.base) (let past = is_outside a (length bytes) x is above in omega arith)) (cases_lt x a)

  byte_after : (x : ℕ) → byte_in (set rs k r') x ≡ with_bytes (byte_in rs) a bytes x
  byte_after x =
      by_cases (covers (range_of r) x) _ _ (λ there.
      byte_there x there
      ∙ by_cases (is_written a (length bytes) x) _ _ (λ is. byte_written x there is ∙ sym (cond-true _ (get_or bytes (x - a) 0) (byte_in rs x) is)) (λ is.
      byte_kept x there is ∙ sym (byte_before x there) ∙ sym (cond-false _ (get_or bytes (x - a) 0) (byte_in rs x) is))) (λ away.
      byte_away x away
      ∙ sym (cond-false _ (get_or bytes (x - a) 0) (byte_in rs x) (not_written (range_of r) a (length bytes) x low (omega arith) away)))

-- no segment has an address that no place has
none_found : {X : Type 0} (p : X → Bool) (xs : List X) → ((i : ℕ) (d : X) → i < length xs → p (get_or xs i d) ≡ false) → find p xs ≡ None
none_found p [] fails = refl
none_found p (x ∷ xs) fails =
    cond-false (p x) (Some x) (find p xs) (fails 0 x (omega arith))
    ∙ none_found p xs (λ i d below. fails (suc i) d (omega arith))

position-None : {X : Type 0} (p : X → Bool) (xs : List X) → position p xs ≡ None → length xs ≤ position_or_len p xs
position-None p xs none = grind (arith, nat_tests)

pub no_place : {X : Type 0} (p : X → Bool) (xs : List X) → position p xs ≡ None → find p xs ≡ None
no_place p xs none =
    none_found p xs (λ i d below. fails_before_first p xs i d (omega (arith, position-None p xs none)))

-- a segment is found where a byte may be written
pub writable_somewhere : (ss : List Segment) (at : ℕ) → writable_in (regions_of ss) at ≡ true → position (λ s. covers (range_of (region_of s)) at) ss ≡ None → ⊥
unfolding writable_in
writable_somewhere ss at may none =
    let nothing = find-map region_of (λ region. covers (range_of region) at) ss
    ∙ ap (option_map region_of) (no_place (λ s. covers (range_of (region_of s)) at) ss none)
    in
    false≢true (sym (ap (λ found. option_map_or (λ region. region.writable) found false) nothing) ∙ may)

pub length-regions_of : (ss : List Segment) → length (regions_of ss) ≡ length ss
length-regions_of [] = refl
length-regions_of (s ∷ ss) = ap suc (length-regions_of ss)

-- the first place whose segment has an address
pub has_address : (ss : List Segment) (at k : ℕ) → position (λ s. covers (range_of (region_of s)) at) ss ≡ Some k → HasAddress ss at k
has_address [] at k is = cc
has_address (s ∷ ss) at k is =
    record {
      inside = (position-Some (λ s. covers (range_of (region_of s)) at) (s ∷ ss) k s is).0;
      covered = λ d. (position-Some (λ s. covers (range_of (region_of s)) at) (s ∷ ss) k d is).1;
    }

-- the segment at an address is the one at a place, and bytes were written to it
module _ (ss : List Segment) (at k : ℕ) (s : Segment) (there : HasAddress ss at k) (here : s ≡ get_or ss k s) where
  in_list : k < length ss
  in_list = there.inside

  covers_it : covers (range_of (region_of s)) at ≡ true
  covers_it =
      subst (λ s. covers (range_of (region_of s)) at ≡ true) (sym here) (there.covered s)

  pub place_within : IsWithin (region_of s) at
  place_within =
      let covered = covers_it in
      record { above = grind (arith, nat_tests); below = grind (arith, nat_tests) }

  in_regions : k < length (regions_of ss)
  in_regions = omega (arith, in_list, length-regions_of ss)

  at_place : get_or (regions_of ss) k (region_of s) ≡ region_of s
  at_place = get_or-map region_of ss k s (region_of s) in_list ∙ ap region_of (sym here)

  pub found_there : IsTrue (lie_apart ss) → IsFoundAt (regions_of ss) at (region_of s)
  found_there lie =
      record { found = region_at-place (regions_of ss) k (region_of s) at lie in_regions at_place covers_it; within = place_within }

  module _ (lie : IsTrue (lie_apart ss)) (s' : Segment) (bytes : List ℕ) (fits : at - s.base + length bytes ≤ length s.bytes.items) (is : region_of s' ≡ record (region_of s) { bytes = written_over s.bytes.items (at - s.base) bytes }) where
    same_range : range_of (region_of s') ≡ range_of (region_of s)
    same_range =
        ap range_of is
        ∙ ap (λ n. record { base = s.base; size = n }) (length-written_over s.bytes.items bytes (at - s.base) fits)

    pub apart_after : lie_apart (set ss k s') ≡ true
    apart_after =
        ap (λ rs. are_apart (map range_of rs)) (map-set region_of ss k s')
        ∙ lie_after (regions_of ss) k (region_of s) (region_of s') lie in_regions at_place same_range

    written_set : IsWritten (regions_of ss) (set (regions_of ss) k (region_of s')) at bytes
    written_set =
        record {
          memory = fun_ext (λ x. byte_after (regions_of ss) k (region_of s) (region_of s') lie in_regions at_place at bytes place_within.above fits same_range (ap (λ r. r.base) is) (ap (λ r. r.bytes) is) x);
          rights = rights_kept (regions_of ss) k (region_of s) (region_of s') lie in_regions at_place same_range (ap (λ r. r.readable) is) (ap (λ r. r.writable) is) (ap (λ r. r.executable) is);
        }

    pub written_after : IsWritten (regions_of ss) (regions_of (set ss k s')) at bytes
    written_after =
        subst (λ rs. IsWritten (regions_of ss) rs at bytes) (sym (map-set region_of ss k s')) written_set

-- a segment is replaced by itself
pub set_same : {X : Type 0} (xs : List X) (k : ℕ) (x y : X) → x ≡ get_or xs k x → y ≡ x → set xs k y ≡ xs
set_same [] k x y at same = refl
set_same (z ∷ zs) zero x y at same = ap (λ w. w ∷ zs) (same ∙ at)
set_same (z ∷ zs) (suc k) x y at same = ap (λ ws. z ∷ ws) (set_same zs k x y at same)

-- nothing was written
pub written_none : (rs : List Region) (at : ℕ) → IsWritten rs rs at []
written_none rs at =
    record {
      memory = fun_ext (λ x. sym (cond-false _ (get_or [] (x - at) 0) (byte_in rs x) (grind (arith, nat_tests))));
      rights = refl;
    }

-- memory after a write: what was written, and the rest as it was
module _ (memory : ℕ → ℕ) (at : ℕ) (bytes : List ℕ) (x : ℕ) where
  with_bytes-below : x < at → with_bytes memory at bytes x ≡ memory x
  with_bytes-below below = cond-false _ (get_or bytes (x - at) 0) (memory x) (grind (arith, nat_tests))

  with_bytes-above : at + length bytes ≤ x → with_bytes memory at bytes x ≡ memory x
  with_bytes-above above = cond-false _ (get_or bytes (x - at) 0) (memory x) (grind (arith, nat_tests))

  with_bytes-within : at ≤ x → x < at + length bytes → with_bytes memory at bytes x ≡ get_or bytes (x - at) 0
  with_bytes-within from below = cond-true _ (get_or bytes (x - at) 0) (memory x) (grind (arith, nat_tests))

-- what was written twice, the second time right behind the first
module _ (memory : ℕ → ℕ) (at : ℕ) (first second : List ℕ) (x : ℕ) where
  both_lengths : length (first ++ second) ≡ length first + length second
  both_lengths = length-append first second

  twice_within : at ≤ x → x < at + length first + length second → with_bytes (with_bytes memory at first) (at + length first) second x ≡ get_or (first ++ second) (x - at) 0
  twice_within from below =
      ⊎_elim (λ front.
      with_bytes-below (with_bytes memory at first) (at + length first) second x front
      ∙ with_bytes-within memory at first x from front
      ∙ sym (get_or_append_left first second 0 (x - at) (omega arith))) (λ past.
      let i : x - (at + length first) ≡ x - at - length first = omega arith in
      with_bytes-within (with_bytes memory at first) (at + length first) second x past below
      ∙ ap (λ i. get_or second i 0) i
      ∙ sym (get_or-append_right first second (length first) (x - at) 0 refl (omega arith))) (cases_lt x (at + length first))

  twice_above : at + length first + length second ≤ x → with_bytes (with_bytes memory at first) (at + length first) second x ≡ memory x
  twice_above above =
      with_bytes-above (with_bytes memory at first) (at + length first) second x above
      ∙ with_bytes-above memory at first x (omega arith)

  twice_below : x < at → with_bytes (with_bytes memory at first) (at + length first) second x ≡ memory x
  twice_below below =
      with_bytes-below (with_bytes memory at first) (at + length first) second x (omega arith)
      ∙ with_bytes-below memory at first x below

  with_bytes-twice : with_bytes (with_bytes memory at first) (at + length first) second x ≡ with_bytes memory at (first ++ second) x
  with_bytes-twice =
      ⊎_elim (λ below. twice_below below ∙ sym (with_bytes-below memory at (first ++ second) x below)) (λ from.
      ⊎_elim (λ below.
      twice_within from below
      ∙ sym (with_bytes-within memory at (first ++ second) x from (omega (arith, both_lengths)))) (λ above.
      twice_above above ∙ sym (with_bytes-above memory at (first ++ second) x (omega (arith, both_lengths)))) (cases_lt x (at + length first + length second))) (cases_lt x at)

pub written_then : (a b c : List Region) (at : ℕ) (first second : List ℕ) → IsWritten a b at first → IsWritten b c (at + length first) second → IsWritten a c at (first ++ second)
written_then a b c at first second p q =
    record {
      memory = q.memory ∙ ap (λ memory. with_bytes memory (at + length first) second) p.memory ∙ fun_ext (with_bytes-twice (byte_in a) at first second);
      rights = q.rights ∙ p.rights;
    }

-- the same rights stand after a write
pub still_writable : (a b : List Region) (at : ℕ) (bytes : List ℕ) → IsWritten a b at bytes → writable_in b ≡ writable_in a
still_writable a b at bytes is = ap (λ rights. rights.writable) is.rights

-- a front of the bytes was written, and then a front of the rest
pub written_more : (a b c : List Region) (at n k : ℕ) (bytes : List ℕ) → n ≤ length bytes → IsWritten a b at (take n bytes) → IsWritten b c (at + n) (take k (drop n bytes)) → IsWritten a c at (take (n + k) bytes)
written_more a b c at n k bytes within p q =
    let count = length-take-le n bytes within in
    let next = subst (λ m. IsWritten b c (at + m) (take k (drop n bytes))) (sym count) q in
    subst (IsWritten a c at) (sym (take-add n k bytes)) (written_then a b c at (take n bytes) (take k (drop n bytes)) p next)
