-- Words that were decoded ahead: where they stand, and that they still do after a write.
use Rattle.std.proofs.Common.{◌≡◌, ℕ, zero, suc, ◌+◌, ◌-◌, ◌*◌, ◌%◌, ◌<◌, ◌≤◌, Bool, true, false, List, [], ◌∷◌, ◌++◌, Some, length, get_or, set, map, IsTrue, refl, ap, sym, ◌∙◌, subst, arith, ⊎_elim, length-append}
use Rattle.std.proofs.lemmas.List.{get_or-map, get_or_append_left, get_or-append_right}
use Rattle.std.proofs.lemmas.Bool.{false≢true, cases_lt, false_from_ne_true, cond-false}
use Rattle.std.proofs.lemmas.Bool.Decides.{nat_tests}
use Rattle.op_rv.specs.State.{word_at, half_at, all_from}
use Rattle.op_rv.specs.Encoding.{fits}
use Rattle.op_rv.specs.Decoding.{instr_at}
use Rattle.op_rv.specs.Step.{can_access, load_size_of, load_value, extended_byte, extended_half}
use Rattle.op_rv.specs.declared.instruction.Instr.{Instr}
use Rattle.op_rv.specs.declared.instruction.LoadOp.{LoadOp}
use Rattle.op_rv.specs.declared.instruction.LoadOp.TheVariants.{Lb, Lh, Lw, Lbu, Lhu}
use Rattle.op_emu.specs.Region.{Region, range_of, are_apart, byte_in, readable_in, writable_in, executable_in}
use Rattle.op_emu.specs.Rows.{instr_of, IsRowOf, Stands, AreDecoded, AllDecoded, HasRows, HoldsStill}
use Rattle.op_emu.specs.declared.memory.Code.{Code}
use Rattle.op_emu.specs.Segments.{region_of, regions_of, lie_apart, written_over, HasAddress, IsFoundAt, IsWritten, WritesWhole}
use Rattle.op_emu.specs.declared.memory.Right.TheVariants.{Read, Write, Execute}
use Rattle.op_emu.specs.declared.memory.Segment.{Segment}
use Rattle.op_emu.specs.declared.row.Row.{Row}
use Rattle.op_emu.specs.declared.row.Row.TheVariants.{Other}
use Rattle.op_emu.proofs.Regions.{within, right_in-found, byte_in-found, same_word, word_of_found, word_in_found, all_allowed-within}
use Rattle.op_emu.proofs.Writing.{is_written, written_from, written_up_to, region_at-place, length-regions_of, place_within, found_there, apart_after, written_after, set_same}

pub accessed : (right : ℕ → Bool) (a size : ℕ) → a % size ≡ 0 → all_from right a size ≡ true → can_access right a size ≡ true
accessed right a size aligned all = grind (arith, nat_tests)

-- bytes that may be written were written
module _ (rs rs' : List Region) (at : ℕ) (bytes : List ℕ) (written : IsWritten rs rs' at bytes) (may : (x : ℕ) → at ≤ x → x < at + length bytes → writable_in rs x ≡ true) where
  outside : (x : ℕ) → writable_in rs x ≡ false → is_written at (length bytes) x ≡ false
  outside x fixed =
      false_from_ne_true (is_written at (length bytes) x) (λ is. false≢true (sym fixed ∙ may x (written_from at (length bytes) x is) (written_up_to at (length bytes) x is)))

  byte_kept : (x : ℕ) → writable_in rs x ≡ false → byte_in rs' x ≡ byte_in rs x
  byte_kept x fixed =
      ap (λ memory. memory x) written.memory ∙ cond-false _ (get_or bytes (x - at) 0) (byte_in rs x) (outside x fixed)

  Stands-kept : (a : ℕ) (i : Instr) → Stands rs a i → Stands rs' a i
  Stands-kept a i s =
      let b0 = byte_kept a (s.fixed a (omega arith) (omega arith)) in
      let b1 = byte_kept (a + 1) (s.fixed (a + 1) (omega arith) (omega arith)) in
      let b2 = byte_kept (a + 2) (s.fixed (a + 2) (omega arith) (omega arith)) in
      let b3 = byte_kept (a + 3) (s.fixed (a + 3) (omega arith) (omega arith)) in
      record {
        fit = s.fit;
        fetched = ap (λ rights. can_access rights.executable a 4) written.rights ∙ s.fetched;
        found = ap instr_at (same_word _ _ _ _ _ _ _ _ b0 b1 b2 b3) ∙ s.found;
        fixed = λ x low high. ap (λ rights. rights.writable x) written.rights ∙ s.fixed x low high;
      }

  pub decoded_after : (base : ℕ) (rows : List Row) → AreDecoded rs base rows → AreDecoded rs' base rows
  decoded_after base rows is =
      record {
        near = is.near;
        last = is.last;
        stand = λ k below i stands. Stands-kept (base + 4 * k) i (is.stand k below i stands);
      }

-- the segment that is found at an address
module _ (rs : List Region) (s : Region) (lie : are_apart (map range_of rs) ≡ true) (a : ℕ) (is : IsFoundAt rs a s) where
  found_at : (b : ℕ) → s.base ≤ b → b < s.base + length s.bytes → IsFoundAt rs b s
  found_at b low high =
      record { found = within rs s lie a is.found b low high; within = record { above = low; below = high } }

  pub writable_within : s.writable ≡ true → (x : ℕ) → s.base ≤ x → x < s.base + length s.bytes → writable_in rs x ≡ true
  writable_within may x low high = right_in-found Write rs x s (within rs s lie a is.found x low high) ∙ may

  byte_found : (b : ℕ) → s.base ≤ b → b < s.base + length s.bytes → get_or s.bytes (b - s.base) 0 ≡ byte_in rs b
  byte_found b low high = sym (byte_in-found rs b s (within rs s lie a is.found b low high))

  half_found : a + 2 ≤ s.base + length s.bytes → half_at (λ i. get_or s.bytes i 0) (a - s.base) ≡ half_at (byte_in rs) a
  half_found high =
      let above = is.within.above in
      let one : a - s.base + 1 ≡ a + 1 - s.base = omega arith in
      let b0 = byte_found a above (omega arith) in
      let b1 = ap (λ i. get_or s.bytes i 0) one ∙ byte_found (a + 1) (omega arith) (omega arith) in
      omega (arith, b0, b1)

  -- what a load finds in the segment
  pub load_found : (op : LoadOp) → a + load_size_of op ≤ s.base + length s.bytes → load_value op (λ i. get_or s.bytes i 0) (a - s.base) ≡ load_value op (byte_in rs) a
  load_found Lb high = ap extended_byte (byte_found a is.within.above is.within.below)
  load_found Lh high = ap extended_half (half_found high)
  load_found Lw high = word_in_found rs a _ s lie is high refl
  load_found Lbu high = byte_found a is.within.above is.within.below
  load_found Lhu high = half_found high

  pub readable_found : (size : ℕ) → a % size ≡ 0 → s.readable ≡ true → a + size ≤ s.base + length s.bytes → can_access (readable_in rs) a size ≡ true
  readable_found size aligned may high =
      accessed (readable_in rs) a size aligned (all_allowed-within rs s lie a is.found Read may size a is.within.above high)

  pub writable_found : (size : ℕ) → s.writable ≡ true → a + size ≤ s.base + length s.bytes → all_from (writable_in rs) a size ≡ true
  writable_found size may high = all_allowed-within rs s lie a is.found Write may size a is.within.above high

get_or-append_last : (rows : List Row) (row : Row) → get_or (rows ++ row ∷ []) (length rows) Other ≡ row
get_or-append_last [] row = refl
get_or-append_last (r ∷ rows) row = get_or-append_last rows row

-- behind the rows of the words there is none
none_past : (rows : List Row) (j : ℕ) → length rows ≤ j → (i : Instr) → instr_of (get_or (rows ++ Other ∷ []) j Other) ≡ Some i → ⊥
none_past [] zero past i is = cc
none_past [] (suc j) past i is = cc
none_past (r ∷ rows) zero past i is = absurd (omega arith)
none_past (r ∷ rows) (suc j) past i is = none_past rows j (omega arith) i is

-- the words of the segment at a place, which holds still, stand
module _ (ss : List Segment) (k : ℕ) (s : Segment) (inside : k < length ss) (here : s ≡ get_or ss k s) (lie : IsTrue (lie_apart ss)) (still : HoldsStill s) where
  at_address : (b : ℕ) → s.base ≤ b → b < s.base + length s.bytes.items → IsFoundAt (regions_of ss) b (region_of s)
  at_address b low high =
      record {
        found = region_at-place (regions_of ss) k (region_of s) b lie (omega (arith, length-regions_of ss)) (get_or-map region_of ss k s (region_of s) inside ∙ ap region_of (sym here)) (grind (arith, nat_tests));
        within = record { above = low; below = high };
      }

  word_stands : (j : ℕ) (i : Instr) → (4 * j + 4 ≤ length s.bytes.items) × (fits i ≡ true) × (instr_at (word_at (λ n. get_or s.bytes.items n 0) (4 * j)) ≡ Some i) → Stands (regions_of ss) (s.base + 4 * j) i
  word_stands j i of =
      let at = s.base + 4 * j in
      let room = of.0 in
      let base = still.aligned in
      let offset : at - s.base ≡ 4 * j = omega arith in
      let aligned : at % 4 ≡ 0 = omega arith in
      let word = word_of_found Execute (regions_of ss) at (word_at (λ n. get_or s.bytes.items n 0) (4 * j)) (region_of s) lie (at_address at (omega arith) (omega arith)) (omega arith) still.executable (ap (word_at (λ n. get_or s.bytes.items n 0)) (sym offset)) in
      record {
        fit = of.1;
        fetched = accessed (executable_in (regions_of ss)) at 4 aligned word.0;
        found = ap instr_at (sym word.1) ∙ of.2;
        fixed = λ x low high. right_in-found Write (regions_of ss) x (region_of s) (at_address x (omega arith) (omega arith)).found ∙ still.fixed;
      }

  pub rows_stand : (rows : List Row) → HasRows s.bytes.items rows → AreDecoded (regions_of ss) s.base rows
  rows_stand rows has =
      let many = has.many in
      let near = still.near in
      record {
        near = omega arith;
        last = has.last;
        stand = λ j below i stands. word_stands j i (has.rows_of j i stands);
      }

-- one more code
pub one_more_code : (rs : List Region) (codes : List Code) (code : Code) → AllDecoded rs codes → AreDecoded rs code.base code.rows.items → AllDecoded rs (codes ++ code ∷ [])
one_more_code rs codes code all more k d below at =
    ⊎_elim (λ before. all k d before (sym (get_or_append_left codes (code ∷ []) d k before) ∙ at)) (λ past.
    let here : k ≡ length codes = omega (arith, length-append codes (code ∷ [])) in
    let same : code ≡ d = sym (get_or-append_right codes (code ∷ []) (length codes) k d refl past ∙ ap (λ n. get_or (code ∷ []) n d) (let e : k - length codes ≡ 0 = omega arith in e)) ∙ at in
    subst (λ (d : Code). AreDecoded rs d.base d.rows.items) same more) (cases_lt k (length codes))

-- one more row
pub one_more_row : (bytes : List ℕ) (rows : List Row) (row : Row) → ((j : ℕ) → j < length rows → IsRowOf (word_at (λ n. get_or bytes n 0) (4 * j)) (get_or rows j Other)) → IsRowOf (word_at (λ n. get_or bytes n 0) (4 * length rows)) row → (j : ℕ) → j < length (rows ++ row ∷ []) → IsRowOf (word_at (λ n. get_or bytes n 0) (4 * j)) (get_or (rows ++ row ∷ []) j Other)
one_more_row bytes rows row all more j below =
    ⊎_elim (λ before.
    subst (IsRowOf (word_at (λ n. get_or bytes n 0) (4 * j))) (sym (get_or_append_left rows (row ∷ []) Other j before)) (all j before)) (λ past.
    let here : j ≡ length rows = omega (arith, length-append rows (row ∷ [])) in
    subst (λ j. IsRowOf (word_at (λ n. get_or bytes n 0) (4 * j)) (get_or (rows ++ row ∷ []) j Other)) (sym here) (subst (IsRowOf (word_at (λ n. get_or bytes n 0) (4 * length rows))) (sym (get_or-append_last rows row)) more)) (cases_lt j (length rows))

-- the rows of all words, and one more
pub all_rows : (bytes : List ℕ) (rows : List Row) → 4 * length rows ≤ length bytes → ((j : ℕ) → j < length rows → IsRowOf (word_at (λ n. get_or bytes n 0) (4 * j)) (get_or rows j Other)) → HasRows bytes (rows ++ Other ∷ [])
all_rows bytes rows within all =
    let long = length-append rows (Other ∷ []) in
    let end : length (rows ++ Other ∷ []) - 1 ≡ length rows = omega (arith, long) in
    record {
      many = omega (arith, long);
      last = ap (λ n. get_or (rows ++ Other ∷ []) n Other) end ∙ get_or-append_last rows Other;
      rows_of = λ j i is.
          ⊎_elim (λ before.
          let of = all j before i (ap instr_of (sym (get_or_append_left rows (Other ∷ []) Other j before)) ∙ is) in
          (omega arith, of.0, of.1)) (λ past. absurd (none_past rows j past i is)) (cases_lt j (length rows));
    }

-- bytes were written to the segment at an address, which is at this place
module _ (ss : List Segment) (at k : ℕ) (s : Segment) (there : HasAddress ss at k) (here : s ≡ get_or ss k s) (lie : IsTrue (lie_apart ss)) where
  pub still_decoded : (s' : Segment) (bytes : List ℕ) → at - s.base + length bytes ≤ length s.bytes.items → region_of s' ≡ record (region_of s) { bytes = written_over s.bytes.items (at - s.base) bytes } → s.writable ≡ true → (base : ℕ) (rows : List Row) → AreDecoded (regions_of ss) base rows → AreDecoded (regions_of (set ss k s')) base rows
  still_decoded s' bytes fits is may base rows decoded =
      let above = (place_within ss at k s there here).above in
      decoded_after (regions_of ss) (regions_of (set ss k s')) at bytes (written_after ss at k s there here lie s' bytes fits is) (λ x low high.
      writable_within (regions_of ss) (region_of s) lie at (found_there ss at k s there here lie) may x (omega arith) (omega arith)) base rows decoded

  pub is_writable_there : writable_in (regions_of ss) at ≡ true → s.writable ≡ true
  is_writable_there may =
      sym (right_in-found Write (regions_of ss) at (region_of s) (found_there ss at k s there here lie).found) ∙ may

  -- all were written or none
  module _ (s' : Segment) (bytes : List ℕ) where
    pub apart_whole : (b : Bool) → (b ≡ true → WritesWhole s s' at bytes) → (b ≡ false → s' ≡ s) → lie_apart (set ss k s') ≡ true
    apart_whole true done kept = let w = done refl in apart_after ss at k s there here lie s' bytes w.room w.wrote
    apart_whole false done kept = ap lie_apart (set_same ss k s s' here (kept refl)) ∙ lie

    pub decoded_whole : (b : Bool) → (b ≡ true → WritesWhole s s' at bytes) → (b ≡ false → s' ≡ s) → (base : ℕ) (rows : List Row) → AreDecoded (regions_of ss) base rows → AreDecoded (regions_of (set ss k s')) base rows
    decoded_whole true done kept base rows decoded =
        let w = done refl in still_decoded s' bytes w.room w.wrote w.may base rows decoded
    decoded_whole false done kept base rows decoded =
        subst (λ ss. AreDecoded (regions_of ss) base rows) (sym (set_same ss k s s' here (kept refl))) decoded

    pub wrote_whole : WritesWhole s s' at bytes → (all_from (writable_in (regions_of ss)) at (length bytes) ≡ true) × IsWritten (regions_of ss) (regions_of (set ss k s')) at bytes
    wrote_whole w =
        let above = (place_within ss at k s there here).above in
        let room = w.room in
        (writable_found (regions_of ss) (region_of s) lie at (found_there ss at k s there here lie) (length bytes) w.may (omega arith), written_after ss at k s there here lie s' bytes w.room w.wrote)
