-- Texts of which each is kept once.
use Rattle.std.proofs.Common.{◌≡◌, ◌<◌, ◌≤◌, ◌⊎◌, inl, inr, ℕ, suc, ◌+◌, Bool, true, false, ◌||◌, not, cond, List, [], ◌∷◌, ◌++◌, length, map, Some, Vec, slice_get, refl, sym, ap, subst, ◌∙◌, arith, append_assoc, append-nil, if◌then◌else◌}
use Rattle.std.proofs.lemmas.Bool.{false≢true, true≢false}
use Rattle.std.proofs.lemmas.List.Folds.{list_any-append}
use Rattle.std.proofs.lemmas.Slice.Eq.{bytes_eq-Decides}
use Rattle.std.specs.List.{filter, list_any, position_or_len}
use Rattle.std.specs.Str.{bytes_eq}
use Rattle.op_core.specs.declared.program.Core.{Core}
use Rattle.op_mir.specs.declared.code.Mir.{Mir}
use Rattle.op_constants.specs.Fixed.{fixed_literals}
use Rattle.op_constants.specs.Literals.{all_literals, literals_of, routine_literals, routines_literals}
use Rattle.op_constants.specs.Texts.{distinct, is_among, number_of}

-- ---- one that stands there

or_left : (a b : Bool) → a ≡ true → (a || b) ≡ true
or_left true b e = refl
or_left false b e = absurd (false≢true e)

or_right : (a b : Bool) → b ≡ true → (a || b) ≡ true
or_right true b e = refl
or_right false b e = e

or_cases : (a b : Bool) → (a || b) ≡ true → (a ≡ true) ⊎ (b ≡ true)
or_cases true b e = inl refl
or_cases false b e = inr e

pub same_by : (a b : List ℕ) → bytes_eq a b ≡ true → a ≡ b
same_by a b h = (bytes_eq-Decides a b).0 h

pub same_bytes : (a : List ℕ) → bytes_eq a a ≡ true
same_bytes a = (bytes_eq-Decides a a).1 refl

pub among_front : (text : List ℕ) (xs ys : List (List ℕ)) → is_among text xs ≡ true → is_among text (xs ++ ys) ≡ true
among_front text xs ys h = list_any-append (bytes_eq text) xs ys ∙ or_left (is_among text xs) (is_among text ys) h

pub among_back : (text : List ℕ) (xs ys : List (List ℕ)) → is_among text ys ≡ true → is_among text (xs ++ ys) ≡ true
among_back text xs ys h = list_any-append (bytes_eq text) xs ys ∙ or_right (is_among text xs) (is_among text ys) h

pub among_cases : (text : List ℕ) (xs ys : List (List ℕ)) → is_among text (xs ++ ys) ≡ true → (is_among text xs ≡ true) ⊎ (is_among text ys ≡ true)
among_cases text xs ys h = or_cases (is_among text xs) (is_among text ys) (sym (list_any-append (bytes_eq text) xs ys) ∙ h)

pub among_first : (text : List ℕ) (xs : List (List ℕ)) → is_among text (text ∷ xs) ≡ true
among_first text xs = or_left (bytes_eq text text) (is_among text xs) (same_bytes text)

pub among_later : (text x : List ℕ) (xs : List (List ℕ)) → is_among text xs ≡ true → is_among text (x ∷ xs) ≡ true
among_later text x xs h = or_right (bytes_eq text x) (is_among text xs) h

pub first_or_later : (text x : List ℕ) (xs : List (List ℕ)) → is_among text (x ∷ xs) ≡ true → (text ≡ x) ⊎ (is_among text xs ≡ true)
first_or_later text x xs h = by (or_cases (bytes_eq text x) (is_among text xs) h)
  where
    by : (bytes_eq text x ≡ true) ⊎ (is_among text xs ≡ true) → (text ≡ x) ⊎ (is_among text xs ≡ true)
    by (inl e) = inl (same_by text x e)
    by (inr e) = inr e

-- ---- numbers

-- at its number a text stands
pub stands_at_number : (texts : List (List ℕ)) (text : List ℕ) → is_among text texts ≡ true → slice_get texts (number_of texts text) ≡ Some text
stands_at_number [] text h = absurd (false≢true h)
stands_at_number (x ∷ xs) text h = by (bytes_eq text x) refl (stands_at_number xs text)
  where
    by : (b : Bool) → bytes_eq text x ≡ b → (is_among text xs ≡ true → slice_get xs (number_of xs text) ≡ Some text) → slice_get (x ∷ xs) (number_of (x ∷ xs) text) ≡ Some text
    by true e rest = ap (λ b. slice_get (x ∷ xs) (cond (not b) (1 + number_of xs text) 0)) e ∙ ap (λ y. Some y) (sym (same_by text x e))
    by false e rest =
        let next : 1 + number_of xs text ≡ suc (number_of xs text) = omega arith in
        ap (λ b. slice_get (x ∷ xs) (cond (not b) (1 + number_of xs text) 0)) e ∙ ap (slice_get (x ∷ xs)) next ∙ rest (sym (ap (λ b. b || is_among text xs) e) ∙ h)

pub number_within : (texts : List (List ℕ)) (text : List ℕ) → is_among text texts ≡ true → number_of texts text < length texts
number_within [] text h = absurd (false≢true h)
number_within (x ∷ xs) text h = by (bytes_eq text x) refl (number_within xs text)
  where
    by : (b : Bool) → bytes_eq text x ≡ b → (is_among text xs ≡ true → number_of xs text < length xs) → number_of (x ∷ xs) text < length (x ∷ xs)
    by true e rest = let is : number_of (x ∷ xs) text ≡ 0 = ap (λ b. cond (not b) (1 + number_of xs text) 0) e in omega (arith, is)
    by false e rest =
        let is : number_of (x ∷ xs) text ≡ 1 + number_of xs text = ap (λ b. cond (not b) (1 + number_of xs text) 0) e in
        let less = rest (sym (ap (λ b. b || is_among text xs) e) ∙ h) in
        omega (arith, is, less)

-- ---- those that are not a text

abbrev pub others : List ℕ → List (List ℕ) → List (List ℕ)
others x texts = filter (λ other. not (bytes_eq x other)) texts

-- by whether the first one is that text
abbrev pub others_by : List ℕ → List (List ℕ) → Bool → List (List ℕ)
others_by y rest same = cond (not same) (y ∷ rest) rest

-- what stands there stood there
pub among_others : (text x : List ℕ) (texts : List (List ℕ)) → is_among text (others x texts) ≡ true → is_among text texts ≡ true
among_others text x [] h = h
among_others text x (y ∷ ys) h = by (bytes_eq x y) h (among_others text x ys)
  where
    by : (same : Bool) → is_among text (others_by y (others x ys) same) ≡ true → (is_among text (others x ys) ≡ true → is_among text ys ≡ true) → is_among text (y ∷ ys) ≡ true
    by true there rest = among_later text y ys (rest there)
    by false there rest =
        elim (first_or_later text y (others x ys) there) [
          | inl is ↦ subst (λ t. is_among t (y ∷ ys) ≡ true) (sym is) (among_first y ys)
          | inr later ↦ among_later text y ys (rest later)
        ]

-- the text itself does not
pub not_among_others : (x : List ℕ) (texts : List (List ℕ)) → is_among x (others x texts) ≡ false
not_among_others x [] = refl
not_among_others x (y ∷ ys) = by (bytes_eq x y) refl (not_among_others x ys)
  where
    by : (same : Bool) → bytes_eq x y ≡ same → is_among x (others x ys) ≡ false → is_among x (others x (y ∷ ys)) ≡ false
    by true e rest = ap (λ same. is_among x (others_by y (others x ys) same)) e ∙ rest
    by false e rest = ap (λ same. is_among x (others_by y (others x ys) same)) e ∙ ap (λ b. b || is_among x (others x ys)) e ∙ rest

-- any other one that stood there does
pub others_among : (text x : List ℕ) (texts : List (List ℕ)) → bytes_eq x text ≡ false → is_among text texts ≡ true → is_among text (others x texts) ≡ true
others_among text x [] differs h = h
others_among text x (y ∷ ys) differs h = by (bytes_eq x y) refl (first_or_later text y ys h) (others_among text x ys differs)
  where
    by : (same : Bool) → bytes_eq x y ≡ same → (text ≡ y) ⊎ (is_among text ys ≡ true) → (is_among text ys ≡ true → is_among text (others x ys) ≡ true) → is_among text (others x (y ∷ ys)) ≡ true
    by true e (inl is) rest = absurd (true≢false (sym (ap (bytes_eq x) is ∙ e) ∙ differs))
    by true e (inr there) rest = ap (λ same. is_among text (others_by y (others x ys) same)) e ∙ rest there
    by false e (inl is) rest = ap (λ same. is_among text (others_by y (others x ys) same)) e ∙ subst (λ t. is_among t (y ∷ others x ys) ≡ true) (sym is) (among_first y (others x ys))
    by false e (inr there) rest = ap (λ same. is_among text (others_by y (others x ys) same)) e ∙ among_later text y (others x ys) (rest there)

-- ---- each once

pub among_distinct : (text : List ℕ) (texts : List (List ℕ)) → is_among text texts ≡ true → is_among text (distinct texts) ≡ true
among_distinct text [] h = h
among_distinct text (x ∷ xs) h = by (bytes_eq x text) refl (first_or_later text x xs h) (among_distinct text xs)
  where
    by : (same : Bool) → bytes_eq x text ≡ same → (text ≡ x) ⊎ (is_among text xs ≡ true) → (is_among text xs ≡ true → is_among text (distinct xs) ≡ true) → is_among text (x ∷ others x (distinct xs)) ≡ true
    by same e (inl is) rest = subst (λ t. is_among t (x ∷ others x (distinct xs)) ≡ true) (sym is) (among_first x (others x (distinct xs)))
    by true e (inr there) rest = subst (λ t. is_among t (x ∷ others x (distinct xs)) ≡ true) (same_by x text e) (among_first x (others x (distinct xs)))
    by false e (inr there) rest = among_later text x (others x (distinct xs)) (others_among text x (distinct xs) e (rest there))

pub distinct_among : (text : List ℕ) (texts : List (List ℕ)) → is_among text (distinct texts) ≡ true → is_among text texts ≡ true
distinct_among text [] h = h
distinct_among text (x ∷ xs) h = by (first_or_later text x (others x (distinct xs)) h) (distinct_among text xs)
  where
    by : (text ≡ x) ⊎ (is_among text (others x (distinct xs)) ≡ true) → (is_among text (distinct xs) ≡ true → is_among text xs ≡ true) → is_among text (x ∷ xs) ≡ true
    by (inl is) rest = subst (λ t. is_among t (x ∷ xs) ≡ true) (sym is) (among_first x xs)
    by (inr there) rest = among_later text x xs (rest (among_others text x (distinct xs) there))

-- ---- what code takes is among the literals

pub routines_among : (core : Core) (mir : Mir) (text : List ℕ) → is_among text (routines_literals core 0 mir.routines) ≡ true → is_among text (literals_of core mir) ≡ true
routines_among core mir text h =
    let own = routine_literals core (length mir.routines) mir.program in
    among_distinct text (all_literals core mir) (among_front text (fixed_literals ++ routines_literals core 0 mir.routines) own (among_back text fixed_literals (routines_literals core 0 mir.routines) h))

pub program_among : (core : Core) (mir : Mir) (text : List ℕ) → is_among text (routine_literals core (length mir.routines) mir.program) ≡ true → is_among text (literals_of core mir) ≡ true
program_among core mir text h =
    among_distinct text (all_literals core mir) (among_back text (fixed_literals ++ routines_literals core 0 mir.routines) (routine_literals core (length mir.routines) mir.program) h)
