-- Elements of lists by their numbers, and tests that every element passes.
use Rattle.std.proofs.Common.{◌≡◌, ◌<◌, ℕ, zero, suc, ◌+◌, Bool, true, List, [], ◌∷◌, ◌++◌, length, take, drop, Option, Some, slice_get, refl, sym, ap, ◌∙◌, arith}
use Rattle.std.proofs.lemmas.Bool.{and_from}
use Rattle.std.specs.Cmp.{first_so, second_so}
use Rattle.std.specs.List.{list_all}

-- ---- an element by its number

-- among the first elements each is where it was
pub slice_get-take : {A : Type 0} (n k : ℕ) (xs : List A) → k < n → slice_get (take n xs) k ≡ slice_get xs k
slice_get-take zero k xs few = absurd (omega (arith, few))
slice_get-take (suc n) k [] few = refl
slice_get-take (suc n) zero (y ∷ ys) few = refl
slice_get-take (suc n) (suc k) (y ∷ ys) few = slice_get-take n k ys (omega (arith, few))

-- and what stands among them has a number below theirs
pub slice_get-take_is : {A : Type 0} (n : ℕ) (xs : List A) (k : ℕ) (x : A) → slice_get (take n xs) k ≡ Some x → (k < n) × (slice_get xs k ≡ Some x)
slice_get-take_is zero xs k x e = absurd cc
slice_get-take_is (suc n) [] k x e = absurd cc
slice_get-take_is (suc n) (y ∷ ys) zero x e = (omega arith, e)
slice_get-take_is (suc n) (y ∷ ys) (suc k) x e = let (low, is) = slice_get-take_is n ys k x e in (omega (arith, low), is)

-- behind what is dropped the elements go on
pub slice_get-drop : {A : Type 0} (n k : ℕ) (xs : List A) → slice_get (drop n xs) k ≡ slice_get xs (n + k)
slice_get-drop zero k xs = let e : k ≡ 0 + k = omega arith in ap (slice_get xs) e
slice_get-drop (suc n) k [] = refl
slice_get-drop (suc n) k (y ∷ ys) = let e : suc (n + k) ≡ suc n + k = omega arith in slice_get-drop n k ys ∙ ap (slice_get (y ∷ ys)) e

-- an element of the first of two lists
pub slice_get-front : {A : Type 0} (xs ys : List A) (k : ℕ) → k < length xs → slice_get (xs ++ ys) k ≡ slice_get xs k
slice_get-front [] ys k less = absurd (omega (arith, less))
slice_get-front (x ∷ xs) ys zero less = refl
slice_get-front (x ∷ xs) ys (suc k) less = slice_get-front xs ys k (omega (arith, less))

pub stays_front : {A : Type 0} (xs ys : List A) (k : ℕ) (x : A) → slice_get xs k ≡ Some x → slice_get (xs ++ ys) k ≡ Some x
stays_front [] ys k x e = absurd cc
stays_front (y ∷ xs) ys zero x e = e
stays_front (y ∷ xs) ys (suc k) x e = stays_front xs ys k x e

-- an element of the second one
pub slice_get-behind : {A : Type 0} (xs ys : List A) (k : ℕ) → slice_get (xs ++ ys) (length xs + k) ≡ slice_get ys k
slice_get-behind [] ys k = let e : 0 + k ≡ k = omega arith in ap (slice_get ys) e
slice_get-behind (x ∷ xs) ys k = let e : suc (length xs) + k ≡ suc (length xs + k) = omega arith in ap (slice_get (x ∷ xs ++ ys)) e ∙ slice_get-behind xs ys k

-- ---- a test that every element passes

pub passes_at : {A : Type 0} (test : A → Bool) (xs : List A) (k : ℕ) (x : A) → list_all test xs ≡ true → slice_get xs k ≡ Some x → test x ≡ true
passes_at test [] k x all at = absurd cc
passes_at test (y ∷ ys) zero x all at = let same : y ≡ x = cc in ap test (sym same) ∙ first_so _ _ all
passes_at test (y ∷ ys) (suc k) x all at = passes_at test ys k x (second_so _ _ all) at

-- what each element passes, each passes that asks for less
pub all_also : {A : Type 0} (test other : A → Bool) (xs : List A) → ((x : A) → test x ≡ true → other x ≡ true) → list_all test xs ≡ true → list_all other xs ≡ true
all_also test other [] leads all = refl
all_also test other (x ∷ xs) leads all = and_from _ _ (leads x (first_so _ _ all)) (all_also test other xs leads (second_so _ _ all))
