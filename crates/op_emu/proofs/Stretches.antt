-- Ranges of addresses, a stretch at a time.
use Rattle.std.proofs.Common.{◌≡◌, ℕ, zero, suc, ◌+◌, ◌-◌, ◌<◌, ◌≤◌, Bool, true, false, ◌&&◌, List, [], ◌∷◌, ◌++◌, Option, Some, None, length, refl, ap, ◌∙◌, sym, arith, append_assoc}
use Rattle.std.proofs.lemmas.List.{append-nil}
use Rattle.std.proofs.lemmas.Bool.{false≢true}
use Rattle.std.specs.Cmp.{first_so, second_so}
use Rattle.op_base.proofs.Tests.{rose_since}
use Rattle.op_emu.specs.Region.{Region, readable_in}
use Rattle.op_emu.specs.Segments.{IsReadableFront}
use Rattle.op_rv.specs.State.{bytes_from, all_from}
use Rattle.op_base.specs.Outside.{appended, AppendsFront}

bytes_from-at : (memory : ℕ → ℕ) (a b n : ℕ) → a ≡ b → bytes_from memory a n ≡ bytes_from memory b n
bytes_from-at memory a b n e = ap (λ x. bytes_from memory x n) e

pub bytes_from-add : (memory : ℕ → ℕ) (a m n : ℕ) → bytes_from memory a (m + n) ≡ bytes_from memory a m ++ bytes_from memory (a + m) n
unfolding bytes_from
bytes_from-add memory a zero n =
    let e : zero + n ≡ n = omega arith in
    let f : a ≡ a + zero = omega arith in
    ap (bytes_from memory a) e ∙ bytes_from-at memory a (a + zero) n f
bytes_from-add memory a (suc m) n =
    let e : suc m + n ≡ suc (m + n) = omega arith in
    let f : a + 1 + m ≡ a + suc m = omega arith in
    ap (bytes_from memory a) e
    ∙ ap (λ xs. memory a ∷ xs) (bytes_from-add memory (a + 1) m n ∙ ap (λ xs. bytes_from memory (a + 1) m ++ xs) (bytes_from-at memory (a + 1 + m) (a + suc m) n f))

and_assoc : (a b c : Bool) → (a && (b && c)) ≡ ((a && b) && c)
and_assoc true b c = refl
and_assoc false b c = refl

pub all_from-add : (right : ℕ → Bool) (a m n : ℕ) → all_from right a (m + n) ≡ (all_from right a m && all_from right (a + m) n)
unfolding all_from
all_from-add right a zero n =
    let e : zero + n ≡ n = omega arith in
    let f : a ≡ a + zero = omega arith in
    ap (all_from right a) e ∙ ap (λ x. all_from right x n) f
all_from-add right a (suc m) n =
    let e : suc m + n ≡ suc (m + n) = omega arith in
    let f : a + 1 + m ≡ a + suc m = omega arith in
    ap (all_from right a) e
    ∙ ap (λ b. right a && b) (all_from-add right (a + 1) m n ∙ ap (λ x. all_from right (a + 1) m && all_from right x n) f)
    ∙ and_assoc (right a) (all_from right (a + 1) m) (all_from right (a + suc m) n)

-- what cannot be read at its first address cannot be read
pub all_from-first : (right : ℕ → Bool) (a n : ℕ) → right a ≡ false → all_from right a (suc n) ≡ false
unfolding all_from
all_from-first right a n e = ap (λ b. b && all_from right (a + 1) n) e

-- appending twice is appending both
pub appended-append : (o : Option (List ℕ)) (a b : List ℕ) → appended o (a ++ b) ≡ appended (appended o a) b
appended-append None a b = refl
appended-append (Some old) a b = ap Some (sym (append_assoc old a b))

pub appended-nil : (o : Option (List ℕ)) → appended o [] ≡ o
appended-nil None = refl
appended-nil (Some old) = ap Some (append-nil old)

-- a front of what comes after a whole part
pub AppendsFront-after : (old mid new : Option (List ℕ)) (a b : List ℕ) → mid ≡ appended old a → AppendsFront mid b new → AppendsFront old (a ++ b) new
AppendsFront-after old mid new a b first then =
    record {
      front = a ++ then.front;
      rest = then.rest;
      parts = append_assoc a then.front then.rest ∙ ap (λ xs. a ++ xs) then.parts;
      appends = then.appends ∙ ap (λ o. appended o then.front) first ∙ sym (appended-append old a then.front);
    }

pub all_from-rest : (right : ℕ → Bool) (a n k : ℕ) → k ≤ n → all_from right a k ≡ true → all_from right (a + k) (n - k) ≡ all_from right a n
all_from-rest right a n k le front =
    let e : k + (n - k) ≡ n = omega arith in
    sym (sym (ap (all_from right a) e) ∙ all_from-add right a k (n - k) ∙ ap (λ b. b && all_from right (a + k) (n - k)) front)

pub bytes_from-rest : (memory : ℕ → ℕ) (a n k : ℕ) → k ≤ n → bytes_from memory a k ++ bytes_from memory (a + k) (n - k) ≡ bytes_from memory a n
bytes_from-rest memory a n k le =
    let e : k + (n - k) ≡ n = omega arith in
    sym (bytes_from-add memory a k (n - k)) ∙ ap (bytes_from memory a) e

-- a range that is not empty and cannot be read at its first address cannot be read
pub all_from-blocked : (right : ℕ → Bool) (a n : ℕ) → 0 < n → right a ≡ false → all_from right a n ≡ false
all_from-blocked right a n more e =
    let is : n ≡ suc (n - 1) = omega arith in
    ap (all_from right a) is ∙ all_from-first right a (n - 1) e

pub all_from-none : (right : ℕ → Bool) (a n : ℕ) → n ≤ 0 → all_from right a n ≡ true
unfolding all_from
all_from-none right a n e =
    let is : n ≡ 0 = omega arith in
    ap (all_from right a) is

pub bytes_from-none : (memory : ℕ → ℕ) (a n : ℕ) → n ≤ 0 → bytes_from memory a n ≡ []
unfolding bytes_from
bytes_from-none memory a n e =
    let is : n ≡ 0 = omega arith in
    ap (bytes_from memory a) is

-- a front of a front
pub AppendsFront-longer : (old new : Option (List ℕ)) (a b : List ℕ) → AppendsFront old a new → AppendsFront old (a ++ b) new
AppendsFront-longer old new a b part =
    record {
      front = part.front;
      rest = part.rest ++ b;
      parts = sym (append_assoc part.front part.rest b) ∙ ap (λ xs. xs ++ b) part.parts;
      appends = part.appends;
    }

above_zero : (n : ℕ) → (n ≡ 0 → ⊥) → 0 < n
above_zero zero h = absurd (h refl)
above_zero (suc n) h = omega arith

-- a range that can be read has a front that can
pub front_is_some : (regions : List Region) (at left : ℕ) (front : List ℕ) → 0 < left → all_from (readable_in regions) at left ≡ true → IsReadableFront regions at left front → 0 < length front
front_is_some regions at left front more all is =
    above_zero (length front) (λ none. false≢true (sym (all_from-blocked (readable_in regions) at left more (is.stops none more)) ∙ all))

-- each address of a range with a right has it
pub all_from-at : (right : ℕ → Bool) (a n k : ℕ) → k < n → all_from right a n ≡ true → right (a + k) ≡ true
unfolding all_from
all_from-at right a zero k below all = absurd (omega arith)
all_from-at right a (suc n) zero below all =
    let e : a + zero ≡ a = omega arith in
    ap right e ∙ first_so _ (all_from right (a + 1) n) all
all_from-at right a (suc n) (suc k) below all =
    let e : a + suc k ≡ a + 1 + k = omega arith in
    ap right e ∙ all_from-at right (a + 1) n k (omega arith) (second_so (right a) _ all)

-- a part of a range with a right has it
pub all_from-part : (right : ℕ → Bool) (a n k m : ℕ) → k + m ≤ n → all_from right a n ≡ true → all_from right (a + k) m ≡ true
all_from-part right a n k m within all =
    let e : k + m + (n - (k + m)) ≡ n = omega arith in
    let split : all_from right a n ≡ (all_from right a (k + m) && all_from right (a + (k + m)) (n - (k + m))) =
    sym (ap (all_from right a) e) ∙ all_from-add right a (k + m) (n - (k + m))
    in
    let front : all_from right a (k + m) ≡ true = first_so _ (all_from right (a + (k + m)) (n - (k + m))) (sym split ∙ all) in
    second_so (all_from right a k) _ (sym (all_from-add right a k m) ∙ front)

-- a front of a range with a right has it
pub all_from-front : (right : ℕ → Bool) (a n m : ℕ) → m ≤ n → all_from right a n ≡ true → all_from right a m ≡ true
all_from-front right a n m within all =
    let e : m + (n - m) ≡ n = omega arith in
    first_so _ (all_from right (a + m) (n - m)) (sym (all_from-add right a m (n - m)) ∙ ap (all_from right a) e ∙ all)
