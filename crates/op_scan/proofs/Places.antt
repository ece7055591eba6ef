-- Places, byte by byte.
use Rattle.std.proofs.Common.{◌≡◌, ℕ, ◌+◌, ◌-◌, ◌<◌, ◌≤◌, Bool, false, cond, eqb, List, [], ◌∷◌, ◌++◌, get_or, take, length, refl, sym, ap, ◌∙◌, append_assoc, arith}
use Rattle.std.specs.Prelude.{not, count_by}
use Rattle.std.specs.List.{after_last, suffix_len, prefix_len}
use Rattle.std.proofs.lemmas.List.{length-drop, reverse-append, take_more}
use Rattle.std.proofs.lemmas.List.Sums.{sum_by-append, suffix_len-le-length, count_by-le-length}
use Rattle.op_scan.proofs.Strings.{append_nil}
use Rattle.op_base.specs.declared.place.Place.{Place}
use Rattle.op_scan.specs.Scan.{place_of}

abbrev is_feed : ℕ → Bool
is_feed byte = eqb byte 10

count_push : (xs : List ℕ) (byte : ℕ) → count_by is_feed (xs ++ byte ∷ []) ≡ count_by is_feed xs + cond (eqb byte 10) 1 0
count_push xs byte =
    let e = sum_by-append (λ x. cond (eqb x 10) 1 0) xs (byte ∷ []) in omega (arith, e)

after_length : (xs : List ℕ) → length (after_last is_feed xs) ≡ suffix_len (λ x. not (is_feed x)) xs
after_length xs =
    let s = suffix_len-le-length (λ x. not (is_feed x)) xs in
    omega (arith, s, length-drop (length xs - suffix_len (λ x. not (is_feed x)) xs) xs)

suffix_push : (xs : List ℕ) (byte : ℕ) → suffix_len (λ x. not (is_feed x)) (xs ++ byte ∷ []) ≡ cond (not (eqb byte 10)) (1 + suffix_len (λ x. not (is_feed x)) xs) 0
suffix_push xs byte = ap (prefix_len (λ x. not (is_feed x))) (reverse-append xs (byte ∷ []))

place_same : (file : ℕ) {line line' col col' : ℕ} → line ≡ line' → col ≡ col' → ◌≡◌ {A = Place} (record { file = file; line = line; col = col }) (record { file = file; line = line'; col = col' })
place_same file {line' = line'} {col = col} l c =
    let P : Type 0 = Place in
    ap (λ n. let p : Place = record { file = file; line = n; col = col } in p) l ∙ ap (λ n. let p : Place = record { file = file; line = line'; col = n } in p) c

pub place_feed : (file : ℕ) (xs : List ℕ) (byte : ℕ) → byte ≡ 10 → place_of file (xs ++ byte ∷ []) ≡ record { file = file; line = (place_of file xs).line + 1; col = 1 }
unfolding place_of
place_feed file xs byte h =
    let n = count_push xs byte in
    let one : ◌≡◌ {A = ℕ} (cond (eqb byte 10) 1 0) 1 = ap (λ b. cond (eqb b 10) 1 0) h in
    let a = after_length (xs ++ byte ∷ []) in
    let s = suffix_push xs byte in
    let none : cond (not (eqb byte 10)) (1 + suffix_len (λ x. not (is_feed x)) xs) 0 ≡ 0 = ap (λ b. cond (not (eqb b 10)) (1 + suffix_len (λ x. not (is_feed x)) xs) 0) h in
    place_same file (omega (arith, n, one)) (omega (arith, a, s, none))

pub place_byte : (file : ℕ) (xs : List ℕ) (byte : ℕ) → eqb byte 10 ≡ false → place_of file (xs ++ byte ∷ []) ≡ record { file = file; line = (place_of file xs).line; col = (place_of file xs).col + 1 }
unfolding place_of
place_byte file xs byte h =
    let n = count_push xs byte in
    let none : ◌≡◌ {A = ℕ} (cond (eqb byte 10) 1 0) 0 = ap (λ t. cond t 1 0) h in
    let a = after_length (xs ++ byte ∷ []) in
    let b = after_length xs in
    let s = suffix_push xs byte in
    let more : cond (not (eqb byte 10)) (1 + suffix_len (λ x. not (is_feed x)) xs) 0 ≡ 1 + suffix_len (λ x. not (is_feed x)) xs = ap (λ t. cond (not t) (1 + suffix_len (λ x. not (is_feed x)) xs) 0) h in
    place_same file (omega (arith, n, none)) (omega (arith, a, b, s, more))

-- places are small in a small file
pub place_bounds : (file : ℕ) (xs : List ℕ) → ((place_of file xs).line ≤ 1 + length xs) × ((place_of file xs).col ≤ 1 + length xs)
unfolding place_of
place_bounds file xs =
    (omega (arith, count_by-le-length is_feed xs), omega (arith, after_length xs, suffix_len-le-length (λ x. not (is_feed x)) xs))

pub place_begin : (file : ℕ) → place_of file [] ≡ record { file = file; line = 1; col = 1 }
unfolding place_of
place_begin file = refl

-- the place after some of the bytes
pub record PlaceSoFar (start : Place) (bytes : List ℕ) (n : ℕ) (here : Place) : Type 0 where
  pub file : here.file ≡ start.file
  pub line_bound : here.line ≤ start.line + n
  pub column_bound : here.col ≤ start.col + n
  pub follows : (before : List ℕ) → start ≡ place_of start.file before → here ≡ place_of start.file (before ++ take n bytes)

after_feed : ℕ → Place → Place
after_feed file p = record { file = file; line = p.line + 1; col = 1 }

after_byte : ℕ → Place → Place
after_byte file p = record { file = file; line = p.line; col = p.col + 1 }

pub feed_follows : (p : Place) (byte : ℕ) (before : List ℕ) → byte ≡ 10 → p ≡ place_of p.file before → ◌≡◌ {A = Place} (record { file = p.file; line = p.line + 1; col = 1 }) (place_of p.file (before ++ byte ∷ []))
unfolding after_feed
feed_follows p byte before b h = ap (after_feed p.file) h ∙ sym (place_feed p.file before byte b)

pub byte_follows : (p : Place) (byte : ℕ) (before : List ℕ) → eqb byte 10 ≡ false → p ≡ place_of p.file before → ◌≡◌ {A = Place} (record { file = p.file; line = p.line; col = p.col + 1 }) (place_of p.file (before ++ byte ∷ []))
unfolding after_byte
byte_follows p byte before b h = ap (after_byte p.file) h ∙ sym (place_byte p.file before byte b)

pub places_begin : (start : Place) (bytes : List ℕ) → PlaceSoFar start bytes 0 start
places_begin start bytes = record {
  file = refl;
  line_bound = omega arith;
  column_bound = omega arith;
  follows = λ before h. h ∙ ap (place_of start.file) (sym (append_nil before));
}

pub places_more : (start : Place) (bytes : List ℕ) (n : ℕ) (here next : Place) (d : ℕ) → n < length bytes → PlaceSoFar start bytes n here → next.file ≡ here.file → next.line ≤ here.line + 1 → next.col ≤ here.col + 1 → ((before : List ℕ) → here ≡ place_of here.file before → next ≡ place_of here.file (before ++ get_or bytes n d ∷ [])) → PlaceSoFar start bytes (n + 1) next
places_more start bytes n here next d inside h file line col follows = record {
  file = file ∙ h.file;
  line_bound = omega (arith, line, h.line_bound);
  column_bound = omega (arith, col, h.column_bound);
  follows = λ before b.
      let now = h.follows before b in
      let then = follows (before ++ take n bytes) (now ∙ ap (λ f. place_of f (before ++ take n bytes)) (sym h.file)) in
      then ∙ ap (λ f. place_of f (before ++ take n bytes ++ get_or bytes n d ∷ [])) h.file
      ∙ ap (place_of start.file) (append_assoc before (take n bytes) (get_or bytes n d ∷ []) ∙ ap (λ xs. before ++ xs) (sym (take_more bytes n d inside)));
}
