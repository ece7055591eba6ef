-- What lies in one segment.
use Rattle.std.proofs.Common.{◌≡◌, ℕ, zero, suc, ◌+◌, ◌-◌, ◌*◌, ◌^◌, ◌<◌, ◌≤◌, Bool, true, false, cond, ◌&&◌, List, [], ◌∷◌, Option, Some, None, length, get_or, take, drop, map, find, sym, refl, ap, ◌∙◌, subst, arith, option_map, drop-cons, length-drop, MatchOption, Bor}
use Rattle.std.proofs.lemmas.List.{length-take-le}
use Rattle.op_emu.specs.Segments.{region_of, regions_of, has_right, right_in, IsFoundAt, WordIs, IsAllowedFront, IsReadableFront}
use Rattle.op_emu.specs.declared.memory.Right.{Right}
use Rattle.op_emu.specs.declared.memory.Right.TheVariants.{Read, Write, Execute}
use Rattle.op_emu.specs.declared.memory.Segment.{Segment}
use Rattle.std.proofs.lemmas.Bool.Decides.{nat_tests}
use Rattle.std.specs.Cmp.{first_so, second_so}
use Rattle.std.specs.List.{list_all}
use Rattle.std.specs.Option.{option_map_or, option_copied}
use Rattle.op_rv.specs.State.{bytes_from, all_from, word_at}
use Rattle.op_emu.proofs.Stretches.{all_from-blocked}
use Rattle.op_emu.specs.Region.{Region, Range, covers, is_apart, are_apart, range_of, region_at, byte_in, readable_in, writable_in, executable_in}

find_holds_step : {X : Type 0} (p : X → Bool) (y : X) (ys : List X) (x : X) → (find p ys ≡ Some x → p x ≡ true) → (b : Bool) → p y ≡ b → cond b (Some y) (find p ys) ≡ Some x → p x ≡ true
find_holds_step p y ys x rest true is found = let same : y ≡ x = cc in subst (λ z. p z ≡ true) same is
find_holds_step p y ys x rest false is found = rest found

-- what is found passes the test
pub find_holds : {X : Type 0} (p : X → Bool) (xs : List X) (x : X) → find p xs ≡ Some x → p x ≡ true
find_holds p [] x found = cc
find_holds p (y ∷ ys) x found = find_holds_step p y ys x (find_holds p ys x) (p y) refl found

find-map_step : {X Y : Type 0} (b : Bool) (f : X → Y) (x : X) (r : Option Y) (s : Option X) → r ≡ option_map f s → cond b (Some (f x)) r ≡ option_map f (cond b (Some x) s)
find-map_step true f x r s h = refl
find-map_step false f x r s h = h

pub find-map : {X Y : Type 0} (f : X → Y) (p : Y → Bool) (xs : List X) → find p (map f xs) ≡ option_map f (find (λ x. p (f x)) xs)
find-map f p [] = refl
find-map f p (x ∷ xs) = find-map_step (p (f x)) f x (find p (map f xs)) (find (λ x. p (f x)) xs) (find-map f p xs)

-- no address is in two ranges that lie apart
pub apart_covers : (r s : Range) (a : ℕ) → is_apart r s ≡ true → covers s a ≡ true → covers r a ≡ false
apart_covers r s a apart there = grind (arith, nat_tests)

region_at_apart_step : (r s : Region) (rs : List Region) (a b : ℕ) → list_all (is_apart (range_of r)) (map range_of rs) ≡ true → (region_at rs a ≡ Some s → is_apart (range_of r) (range_of s) ≡ true) → (region_at rs a ≡ Some s → region_at rs b ≡ Some s) → covers (range_of s) b ≡ true → (test : Bool) → covers (range_of r) a ≡ test → cond test (Some r) (region_at rs a) ≡ Some s → cond (covers (range_of r) b) (Some r) (region_at rs b) ≡ Some s
region_at_apart_step r s rs a b all apart rest there true is found =
    let same : r ≡ s = cc in
    let here : covers (range_of r) b ≡ true = subst (λ z. covers (range_of z) b ≡ true) (sym same) there in
    rw here found
region_at_apart_step r s rs a b all apart rest there false is found =
    let away : covers (range_of r) b ≡ false = apart_covers (range_of r) (range_of s) b (apart found) there in
    rw away (rest found)

-- a segment that is found lies apart from whatever all segments lie apart from
found_apart_step : (r s : Region) (rest : Bool) (found : Option Region) (q : Range) (test : Bool) → (is_apart q (range_of r) && rest) ≡ true → (rest ≡ true → found ≡ Some s → is_apart q (range_of s) ≡ true) → cond test (Some r) found ≡ Some s → is_apart q (range_of s) ≡ true
found_apart_step r s rest found q true all more is =
    let same : r ≡ s = cc in subst (λ z. is_apart q (range_of z) ≡ true) same (grind arith)
found_apart_step r s rest found q false all more is = more (grind arith) is

found_apart : (q : Range) (rs : List Region) (a : ℕ) (s : Region) → list_all (is_apart q) (map range_of rs) ≡ true → region_at rs a ≡ Some s → is_apart q (range_of s) ≡ true
found_apart q [] a s all found = cc
found_apart q (r ∷ rs) a s all found =
    found_apart_step r s (list_all (is_apart q) (map range_of rs)) (region_at rs a) q (covers (range_of r) a) all (λ h f. found_apart q rs a s h f) found

-- where segments lie apart, each address of a segment that is found leads to it
pub region_at_apart : (rs : List Region) (a b : ℕ) (s : Region) → are_apart (map range_of rs) ≡ true → region_at rs a ≡ Some s → covers (range_of s) b ≡ true → region_at rs b ≡ Some s
region_at_apart [] a b s apart found there = cc
region_at_apart (r ∷ rs) a b s apart found there =
    let first : list_all (is_apart (range_of r)) (map range_of rs) ≡ true = first_so _ _ apart in
    region_at_apart_step r s rs a b first (λ f. found_apart (range_of r) rs a s first f) (λ f. region_at_apart rs a b s (second_so _ _ apart) f there) there (covers (range_of r) a) refl found

pub byte_in-found : (rs : List Region) (a : ℕ) (s : Region) → region_at rs a ≡ Some s → byte_in rs a ≡ get_or s.bytes (a - s.base) 0
unfolding byte_in
byte_in-found rs a s found = ap (λ found. option_map_or (λ region. get_or region.bytes (a - region.base) 0) found 0) found

-- the rights at an address are those of its segment
pub readable_in-found : (rs : List Region) (a : ℕ) (s : Region) → region_at rs a ≡ Some s → readable_in rs a ≡ s.readable
unfolding readable_in
readable_in-found rs a s found = ap (λ found. option_map_or (λ region. region.readable) found false) found

pub readable_in-none : (rs : List Region) (a : ℕ) → region_at rs a ≡ None → readable_in rs a ≡ false
unfolding readable_in
readable_in-none rs a found = ap (λ found. option_map_or (λ region. region.readable) found false) found

pub right_in-found : (right : Right) (rs : List Region) (a : ℕ) (s : Region) → region_at rs a ≡ Some s → right_in right rs a ≡ has_right right s
unfolding readable_in writable_in executable_in
right_in-found Read rs a s found = ap (λ found. option_map_or (λ region. region.readable) found false) found
right_in-found Write rs a s found = ap (λ found. option_map_or (λ region. region.writable) found false) found
right_in-found Execute rs a s found = ap (λ found. option_map_or (λ region. region.executable) found false) found

pub right_in-none : (right : Right) (rs : List Region) (a : ℕ) → region_at rs a ≡ None → right_in right rs a ≡ false
unfolding readable_in writable_in executable_in
right_in-none Read rs a found = ap (λ found. option_map_or (λ region. region.readable) found false) found
right_in-none Write rs a found = ap (λ found. option_map_or (λ region. region.writable) found false) found
right_in-none Execute rs a found = ap (λ found. option_map_or (λ region. region.executable) found false) found

-- n bytes from an address of a segment on, all within it
module _ (rs : List Region) (s : Region) (lie : are_apart (map range_of rs) ≡ true) (a : ℕ) (found : region_at rs a ≡ Some s) where
  pub within : (b : ℕ) → s.base ≤ b → b < s.base + length s.bytes → region_at rs b ≡ Some s
  within b low high = region_at_apart rs a b s lie found (grind (arith, nat_tests))

  pub bytes_from-within : (n b : ℕ) → s.base ≤ b → b + n ≤ s.base + length s.bytes → bytes_from (byte_in rs) b n ≡ take n (drop (b - s.base) s.bytes)
  unfolding bytes_from
  bytes_from-within zero b low high = refl
  bytes_from-within (suc n) b low high =
      let here = byte_in-found rs b s (within b low (omega arith)) in
      let more = bytes_from-within n (b + 1) (omega arith) (omega arith) in
      let at = b - s.base in
      let inside : at < length s.bytes = omega arith in
      let next : b + 1 - s.base ≡ suc at = omega arith in
      ap (λ xs. byte_in rs b ∷ xs) more
      ∙ ap (λ x. x ∷ take n (drop (b + 1 - s.base) s.bytes)) here
      ∙ ap (λ i. get_or s.bytes at 0 ∷ take n (drop i s.bytes)) next
      ∙ sym (ap (take (suc n)) (drop-cons s.bytes at 0 inside))

  pub all_allowed-within : (right : Right) → has_right right s ≡ true → (n b : ℕ) → s.base ≤ b → b + n ≤ s.base + length s.bytes → all_from (right_in right rs) b n ≡ true
  unfolding all_from
  all_allowed-within right may zero b low high = refl
  all_allowed-within right may (suc n) b low high =
      let here = right_in-found right rs b s (within b low (omega arith)) ∙ may in
      let more = all_allowed-within right may n (b + 1) (omega arith) (omega arith) in
      ap (λ t. t && all_from (right_in right rs) (b + 1) n) here ∙ more

-- a front of a range that lies in a segment with a right
pub allowed_of_found : (right : Right) (rs : List Region) (at most count : ℕ) (s : Region) → are_apart (map range_of rs) ≡ true → IsFoundAt rs at s → has_right right s ≡ true → count ≤ most → at + count ≤ s.base + length s.bytes → (count ≡ 0 → most ≡ 0) → IsAllowedFront right rs at most count
allowed_of_found right rs at most count s lie is may low high none =
    record {
      within = low;
      allowed = all_allowed-within rs s lie at is.found right may count at is.within.above high;
      stops = λ e l. absurd (omega (arith, none e));
    }

pub allowed_of_none : (right : Right) (rs : List Region) (at most : ℕ) → region_at rs at ≡ None → IsAllowedFront right rs at most 0
unfolding all_from
allowed_of_none right rs at most is =
    record { within = omega arith; allowed = refl; stops = λ _ _. right_in-none right rs at is }

pub allowed_of_other : (right : Right) (rs : List Region) (at most : ℕ) (s : Region) → IsFoundAt rs at s → has_right right s ≡ false → IsAllowedFront right rs at most 0
unfolding all_from
allowed_of_other right rs at most s is no_right =
    record {
      within = omega arith;
      allowed = refl;
      stops = λ _ _. right_in-found right rs at s is.found ∙ no_right;
    }

-- a front of a readable segment's bytes
pub front_of_found : (rs : List Region) (at most count : ℕ) (s : Region) → are_apart (map range_of rs) ≡ true → IsFoundAt rs at s → s.readable ≡ true → count ≤ most → count ≤ length (drop (at - s.base) s.bytes) → (count ≡ 0 → most ≡ 0) → IsReadableFront rs at most (take count (drop (at - s.base) s.bytes))
front_of_found rs at most count s lie is may low high none =
    let n = length-drop (at - s.base) s.bytes in
    let long : length (take count (drop (at - s.base) s.bytes)) ≡ count = length-take-le count (drop (at - s.base) s.bytes) high in
    record {
      within = omega arith;
      bytes = rw long (sym (bytes_from-within rs s lie at is.found count at is.within.above (omega (arith, is.within.below))));
      readable = rw long (all_allowed-within rs s lie at is.found Read may count at is.within.above (omega (arith, is.within.below)));
      stops = λ e l. absurd (omega (arith, none (sym long ∙ e)));
    }

-- there is none
pub front_of_none : (rs : List Region) (at most : ℕ) → region_at rs at ≡ None → IsReadableFront rs at most []
unfolding bytes_from all_from
front_of_none rs at most is =
    record { within = omega arith; bytes = refl; readable = refl; stops = λ _ _. readable_in-none rs at is }

pub front_of_unreadable : (rs : List Region) (at most : ℕ) (s : Region) → IsFoundAt rs at s → s.readable ≡ false → IsReadableFront rs at most []
unfolding bytes_from all_from
front_of_unreadable rs at most s is no_right =
    record { within = omega arith; bytes = refl; readable = refl; stops = λ _ _. readable_in-found rs at s is.found ∙ no_right }

found_from_option : (ss : List Segment) (a : ℕ) (o : Option Segment) → o ≡ find (λ s. covers (range_of (region_of s)) a) ss → MatchOption o (region_at (regions_of ss) a ≡ None) (λ s. IsFoundAt (regions_of ss) a (region_of s))
found_from_option ss a None is =
    find-map region_of (λ region. covers (range_of region) a) ss ∙ ap (option_map region_of) (sym is)
found_from_option ss a (Some s) is =
    let there : covers (range_of (region_of s)) a ≡ true =
    find_holds (λ s. covers (range_of (region_of s)) a) ss s (sym is)
    in
    record {
      found = find-map region_of (λ region. covers (range_of region) a) ss ∙ ap (option_map region_of) (sym is);
      within = record { above = grind (arith, nat_tests); below = grind (arith, nat_tests) };
    }

-- the segment that the code finds is the one of the definition
pub found_from_find : (ss : List Segment) (a : ℕ) (o : Option (Bor Segment)) → option_copied o ≡ find (λ s. covers (range_of (region_of s)) a) ss → MatchOption o (region_at (regions_of ss) a ≡ None) (λ s. IsFoundAt (regions_of ss) a (region_of s.now))
found_from_find ss a None is = found_from_option ss a None is
found_from_find ss a (Some s) is = found_from_option ss a (Some s.now) is

pub byte_in-none : (rs : List Region) (a : ℕ) → region_at rs a ≡ None → byte_in rs a ≡ 0
unfolding byte_in
byte_in-none rs a found = ap (λ found. option_map_or (λ region. get_or region.bytes (a - region.base) 0) found 0) found

pub same_word : (a a' b b' c c' d d' : ℕ) → a ≡ a' → b ≡ b' → c ≡ c' → d ≡ d' → a + 2 ^ 8 * b + 2 ^ 16 * c + 2 ^ 24 * d ≡ a' + 2 ^ 8 * b' + 2 ^ 16 * c' + 2 ^ 24 * d'
same_word a a' b b' c c' d d' p q r s = omega arith

-- the word at an address of a segment that has all of it
pub word_in_found : (rs : List Region) (at word : ℕ) (s : Region) → are_apart (map range_of rs) ≡ true → IsFoundAt rs at s → at + 4 ≤ s.base + length s.bytes → word ≡ word_at (λ i. get_or s.bytes i 0) (at - s.base) → word ≡ word_at (byte_in rs) at
word_in_found rs at word s lie is high value =
    let byte = λ (b : ℕ) (low : s.base ≤ b) (below : b < s.base + length s.bytes). byte_in-found rs b s (within rs s lie at is.found b low below) in
    let above = is.within.above in
    let one : at + 1 - s.base ≡ at - s.base + 1 = omega arith in
    let two : at + 2 - s.base ≡ at - s.base + 2 = omega arith in
    let three : at + 3 - s.base ≡ at - s.base + 3 = omega arith in
    let b0 = byte at above (omega arith) in
    let b1 = byte (at + 1) (omega arith) (omega arith) ∙ ap (λ i. get_or s.bytes i 0) one in
    let b2 = byte (at + 2) (omega arith) (omega arith) ∙ ap (λ i. get_or s.bytes i 0) two in
    let b3 = byte (at + 3) (omega arith) (omega arith) ∙ ap (λ i. get_or s.bytes i 0) three in
    value ∙ sym (same_word _ _ _ _ _ _ _ _ b0 b1 b2 b3)

pub word_of_found : (right : Right) (rs : List Region) (at word : ℕ) (s : Region) → are_apart (map range_of rs) ≡ true → IsFoundAt rs at s → at + 4 ≤ s.base + length s.bytes → has_right right s ≡ true → word ≡ word_at (λ i. get_or s.bytes i 0) (at - s.base) → WordIs right rs at (Some word)
word_of_found right rs at word s lie is high may value =
    (all_allowed-within rs s lie at is.found right may 4 at is.within.above high, word_in_found rs at word s lie is high value)

pub word_of_other : (right : Right) (rs : List Region) (at : ℕ) (s : Region) → IsFoundAt rs at s → has_right right s ≡ false → WordIs right rs at None
word_of_other right rs at s is no_right =
    all_from-blocked (right_in right rs) at 4 (omega arith) (right_in-found right rs at s is.found ∙ no_right)
