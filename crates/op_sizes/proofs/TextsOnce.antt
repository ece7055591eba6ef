-- Texts of which each is kept once count for no more than those of any list that has them.
use Rattle.std.proofs.Common.{◌≡◌, ◌≤◌, ℕ, ◌+◌, Bool, true, false, ◌||◌, not, cond, List, [], ◌∷◌, refl, sym, ap, subst, ◌∙◌, arith, if◌then◌else◌}
use Rattle.std.proofs.lemmas.Bool.{false≢true, true≢false}
use Rattle.std.specs.Str.{bytes_eq}
use Rattle.op_constants.proofs.Distinct.{among_first, among_later, among_others, distinct_among, not_among_others, others, others_among, others_by, same_by}
use Rattle.op_constants.specs.Texts.{distinct, is_among}
use Rattle.op_sizes.proofs.TextsKept.{total}

-- ---- one text alone

-- it counts for one, and all others for nothing
abbrev pub is_one : List ℕ → List ℕ → ℕ
is_one text other = if bytes_eq text other then 1 else 0

pub some_counted : (text : List ℕ) (texts : List (List ℕ)) → is_among text texts ≡ true → 1 ≤ total (is_one text) texts
some_counted text [] h = absurd (false≢true h)
some_counted text (x ∷ xs) h = by (bytes_eq text x) refl (some_counted text xs)
  where
    by : (same : Bool) → bytes_eq text x ≡ same → (is_among text xs ≡ true → 1 ≤ total (is_one text) xs) → 1 ≤ total (is_one text) (x ∷ xs)
    by true e rest = let one : is_one text x ≡ 1 = ap (λ b. if b then 1 else 0) e in omega (arith, one)
    by false e rest = let more = rest (sym (ap (λ b. b || is_among text xs) e) ∙ h) in omega (arith, more)

pub counted_among : (text : List ℕ) (texts : List (List ℕ)) → 1 ≤ total (is_one text) texts → is_among text texts ≡ true
counted_among text [] some = absurd (omega (arith, some))
counted_among text (x ∷ xs) some = by (bytes_eq text x) refl (counted_among text xs)
  where
    by : (same : Bool) → bytes_eq text x ≡ same → (1 ≤ total (is_one text) xs → is_among text xs ≡ true) → is_among text (x ∷ xs) ≡ true
    by true e rest = ap (λ b. b || is_among text xs) e
    by false e rest =
        let none : is_one text x ≡ 0 = ap (λ b. if b then 1 else 0) e in
        ap (λ b. b || is_among text xs) e ∙ rest (omega (arith, none, some))

-- ---- texts that all differ

Apart : List (List ℕ) → Type 0
Apart [] = Unit {0}
Apart (x ∷ xs) = (is_among x xs ≡ false) × Apart xs

still_missing : (x y : List ℕ) (texts : List (List ℕ)) → is_among y texts ≡ false → is_among y (others x texts) ≡ false
still_missing x y texts missing = by (is_among y (others x texts)) refl
  where
    by : (there : Bool) → is_among y (others x texts) ≡ there → is_among y (others x texts) ≡ false
    by true e = absurd (true≢false (sym (among_others y x texts e) ∙ missing))
    by false e = e

others_apart : (x : List ℕ) (texts : List (List ℕ)) → Apart texts → Apart (others x texts)
unfolding Apart
others_apart x [] apart = tt
others_apart x (y ∷ ys) apart = by (bytes_eq x y) (others_apart x ys apart.1)
  where
    by : (same : Bool) → Apart (others x ys) → Apart (others_by y (others x ys) same)
    by true rest = rest
    by false rest = (still_missing x y ys apart.0, rest)

distinct_apart : (texts : List (List ℕ)) → Apart (distinct texts)
unfolding Apart
distinct_apart [] = tt
distinct_apart (x ∷ xs) = (not_among_others x (distinct xs), others_apart x (distinct xs) (distinct_apart xs))

-- ---- what they count for

module _ (w : List ℕ → ℕ) where
  others_less : (x : List ℕ) (texts : List (List ℕ)) → total w (others x texts) ≤ total w texts
  others_less x [] = omega arith
  others_less x (y ∷ ys) = by (bytes_eq x y) (others_less x ys)
    where
      by : (same : Bool) → total w (others x ys) ≤ total w ys → total w (others_by y (others x ys) same) ≤ w y + total w ys
      by true rest = omega (arith, rest)
      by false rest = omega (arith, rest)

  -- one is taken out of those that have it
  taken_out : (x : List ℕ) (texts : List (List ℕ)) → is_among x texts ≡ true → w x + total w (others x texts) ≤ total w texts
  taken_out x [] h = absurd (false≢true h)
  taken_out x (y ∷ ys) h = by (bytes_eq x y) refl (taken_out x ys)
    where
      by : (same : Bool) → bytes_eq x y ≡ same → (is_among x ys ≡ true → w x + total w (others x ys) ≤ total w ys) → w x + total w (others x (y ∷ ys)) ≤ total w (y ∷ ys)
      by true e rest =
          let is = ap (λ same. total w (others_by y (others x ys) same)) e in
          let weighs = ap w (same_by x y e) in
          let less = others_less x ys in
          omega (arith, is, weighs, less)
      by false e rest =
          let is = ap (λ same. total w (others_by y (others x ys) same)) e in
          let more = rest (sym (ap (λ b. b || is_among x ys) e) ∙ h) in
          omega (arith, is, more)

  apart_less : (texts all : List (List ℕ)) → Apart texts → ((text : List ℕ) → is_among text texts ≡ true → is_among text all ≡ true) → total w texts ≤ total w all
  unfolding Apart
  apart_less [] all apart there = omega arith
  apart_less (x ∷ xs) all apart there =
      let first = taken_out x all (there x (among_first x xs)) in
      let rest = apart_less xs (others x all) apart.1 (λ text h. others_among text x all (differs text (bytes_eq x text) refl h) (there text (among_later text x xs h))) in
      omega (arith, first, rest)
    where
      differs : (text : List ℕ) (same : Bool) → bytes_eq x text ≡ same → is_among text xs ≡ true → bytes_eq x text ≡ false
      differs text true e h = absurd (true≢false (sym (subst (λ t. is_among t xs ≡ true) (sym (same_by x text e)) h) ∙ apart.0))
      differs text false e h = e

  pub distinct_less : (texts all : List (List ℕ)) → ((text : List ℕ) → is_among text texts ≡ true → is_among text all ≡ true) → total w (distinct texts) ≤ total w all
  distinct_less texts all there = apart_less (distinct texts) all (distinct_apart texts) (λ text h. there text (distinct_among text texts h))
