-- How often a name stands in a value: what is written at a path is added, and what stood there taken away.
use Rattle.std.proofs.Common.{◌≡◌, ℕ, zero, suc, ◌+◌, ◌<◌, List, [], ◌∷◌, length, refl, sym, ap, ap₂, ◌∙◌, subst, arith, length-append, inl, inr}
use Rattle.std.proofs.lemmas.Bool.{eqb-true, eqb-false, eq-eqb, ne_eqb, cases_lt}
use Rattle.std.specs.Prelude.{Bool, true, false, None, nat_eq, if◌then◌else◌}
use Rattle.op_counts.specs.Counting.{sum_below, count_in, Leads, split_by, AreApart}
use Rattle.op_meaning.specs.Holding.{names, each, places_in}
use Rattle.op_meaning.specs.Values.{Value, number, parts, text, line, array, instance, Place, part_of, get, put, part_at}

-- ---- tests

pub if_true : {A : Type 0} (b : Bool) (x y : A) → b ≡ true → (if b then x else y) ≡ x
if_true true x y e = refl
if_true false x y e = absurd cc

pub if_false : {A : Type 0} (b : Bool) (x y : A) → b ≡ false → (if b then x else y) ≡ y
if_false true x y e = absurd cc
if_false false x y e = refl

-- ---- sums of so many numbers

pub sum_same : (n : ℕ) (f g : ℕ → ℕ) → ((j : ℕ) → j < n → f j ≡ g j) → sum_below n f ≡ sum_below n g
unfolding sum_below
sum_same zero f g h = refl
sum_same (suc n) f g h = ap₂ (λ a b. a + b) (sum_same n f g (λ j less. h j (omega arith))) (h n (omega arith))

pub sum_none : (n : ℕ) (f : ℕ → ℕ) → ((j : ℕ) → j < n → f j ≡ 0) → sum_below n f ≡ 0
unfolding sum_below
sum_none zero f h = refl
sum_none (suc n) f h = ap₂ (λ a b. a + b) (sum_none n f (λ j less. h j (omega arith))) (h n (omega arith))

lesser : (n k : ℕ) → k < suc n → (n ≡ k → ⊥) → k < n
lesser n k less other = elim (cases_lt k n) [ inl p ↦ p | inr p ↦ absurd (other (omega arith)) ]

-- one of the numbers is another one
pub sum_changed : (n k : ℕ) (f g : ℕ → ℕ) → k < n → ((j : ℕ) → nat_eq j k ≡ false → f j ≡ g j) → sum_below n f + g k ≡ sum_below n g + f k
unfolding sum_below
sum_changed zero k f g less h = absurd (omega arith)
sum_changed (suc n) k f g less h = by (nat_eq n k) refl (λ less'. sum_changed n k f g less' h)
  where
    by : (b : Bool) → nat_eq n k ≡ b → (k < n → sum_below n f + g k ≡ sum_below n g + f k) → sum_below n f + f n + g k ≡ sum_below n g + g n + f k
    by true e again =
        let same : n ≡ k = eqb-true n k e in
        let rest : sum_below n f ≡ sum_below n g = sum_same n f g (λ j less'. h j (ne_eqb j k (λ e'. omega arith))) in
        let one : f n ≡ f k = ap f same in
        let two : g n ≡ g k = ap g same in
        omega arith
    by false e again =
        let rest : sum_below n f + g k ≡ sum_below n g + f k = again (lesser n k less (eqb-false n k e)) in
        let last : f n ≡ g n = h n e in
        omega arith

-- the first one of the numbers in front
pub sum_front : (n : ℕ) (f : ℕ → ℕ) → sum_below (suc n) f ≡ f 0 + sum_below n (λ j. f (suc j))
unfolding sum_below
sum_front zero f = omega arith
sum_front (suc n) f =
    let again : sum_below (suc n) f ≡ f 0 + sum_below n (λ j. f (suc j)) = sum_front n f in
    omega arith

-- ---- places in a value

pub each_counted : {A : Type 0} (n : ℕ) (f : ℕ → List A) → length (each n f) ≡ sum_below n (λ k. length (f k))
unfolding each sum_below
each_counted zero f = refl
each_counted (suc n) f = length-append (each n f) (f n) ∙ ap (λ m. m + length (f n)) (each_counted n f)

one_or_none : (b : Bool) (p : Place) → length (if b then p ∷ [] else []) ≡ (if b then 1 else 0)
one_or_none true p = refl
one_or_none false p = refl

-- as many places of a value contain a name as it stands in parts
pub places_counted : (y : ℕ) (p : Place) (v : Value) → length (places_in y p v) ≡ count_in y v
places_counted y p (parts count part) = each_counted count (λ k. places_in y (part_at k p) (part k)) ∙ sum_same count _ _ (λ j less. places_counted y (part_at j p) (part j))
places_counted y p (number n) = refl
places_counted y p (text t) = one_or_none (names (text t) y) p
places_counted y p (line n) = one_or_none (names (line n) y) p
places_counted y p (array n) = one_or_none (names (array n) y) p
places_counted y p (instance holds n) = one_or_none (names (instance holds n) y) p

pub nil_nameless : (y : ℕ) (holds : Bool) → count_in y (instance holds None) ≡ 0
nil_nameless y true = refl
nil_nameless y false = refl

-- ---- a write

-- Where a path leads to a part that is there, what is written there is counted in place of what stood there.
pub put_counted : (y : ℕ) (path : List ℕ) (new v : Value) → Leads path v → count_in y (put path new v) + count_in y (get path v) ≡ count_in y v + count_in y new
put_counted y [] new v h = omega arith
put_counted y (k ∷ ks) new (parts count part) h =
    let inner = put ks new (part k) in
    let deep : count_in y inner + count_in y (get ks (part k)) ≡ count_in y (part k) + count_in y new = put_counted y ks new (part k) h.1 in
    let f = λ (j : ℕ). count_in y (if nat_eq j k then inner else part j) in
    let g = λ (j : ℕ). count_in y (part j) in
    let here : f k ≡ count_in y inner = ap (count_in y) (if_true (nat_eq k k) inner (part k) (eq-eqb k k refl)) in
    let all : sum_below count f + g k ≡ sum_below count g + f k = sum_changed count k f g h.0 (λ j e. ap (count_in y) (if_false (nat_eq j k) inner (part j) e)) in
    omega arith
put_counted y (k ∷ ks) new (number n) h = absurd (omega (arith, h.0))
put_counted y (k ∷ ks) new (text n) h = absurd (omega (arith, h.0))
put_counted y (k ∷ ks) new (line n) h = absurd (omega (arith, h.0))
put_counted y (k ∷ ks) new (array n) h = absurd (omega (arith, h.0))
put_counted y (k ∷ ks) new (instance holds n) h = absurd (omega (arith, h.0))

-- ---- two paths of which neither leads into the part of the other one

-- What is written at the one leaves what is at the other one.
pub apart_stays : (a b : List ℕ) (new v : Value) → AreApart a b → get a (put b new v) ≡ get a v
apart_stays [] b new v h = absurd h
apart_stays (j ∷ a) [] new v h = absurd h
apart_stays (j ∷ a) (k ∷ b) new v h = by (nat_eq j k) refl h (λ h'. apart_stays a b new (part_of k v) h')
  where
    by : (c : Bool) → nat_eq j k ≡ c → split_by c (AreApart a b) → (AreApart a b → get a (put b new (part_of k v)) ≡ get a (part_of k v)) → get a (if c then put b new (part_of k v) else part_of j v) ≡ get a (part_of j v)
    by true e h' again = again h' ∙ ap (λ i. get a (part_of i v)) (sym (eqb-true j k e))
    by false e h' again = refl

-- The other one still leads to a part that is there.
pub apart_leads : (a b : List ℕ) (new v : Value) → AreApart a b → Leads a v → Leads a (put b new v)
apart_leads [] b new v h leads = absurd h
apart_leads (j ∷ a) [] new v h leads = absurd h
apart_leads (j ∷ a) (k ∷ b) new v h (less, leads) = (less, by (nat_eq j k) refl h (λ h' inner. apart_leads a b new (part_of k v) h' inner))
  where
    by : (c : Bool) → nat_eq j k ≡ c → split_by c (AreApart a b) → (AreApart a b → Leads a (part_of k v) → Leads a (put b new (part_of k v))) → Leads a (if c then put b new (part_of k v) else part_of j v)
    by true e h' again = again h' (subst (λ i. Leads a (part_of i v)) (eqb-true j k e) leads)
    by false e h' again = leads
