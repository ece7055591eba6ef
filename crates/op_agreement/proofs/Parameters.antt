-- What an activation has when it begins: its parameters, and of all else what it had.
use Rattle.std.proofs.Common.{◌≡◌, ◌≤◌, ◌<◌, ◌⊎◌, inl, inr, ℕ, zero, suc, ◌+◌, List, [], ◌∷◌, length, Some, refl, sym, ap, ap₂, ◌∙◌, subst, arith}
use Rattle.std.specs.Prelude.{◌^◌, true, false, ◌&&◌, nat_eq, slice_get, slice_index, if◌then◌else◌}
use Rattle.std.proofs.Math.Bool.{and-false}
use Rattle.std.proofs.lemmas.Bool.Decides.{nat_tests}
use Rattle.op_core.specs.declared.routine.Variable.{Variable}
use Rattle.op_meaning.specs.Calls.{given_all, given_one}
use Rattle.op_meaning.specs.Frames.{Handed, a_value, a_place}
use Rattle.op_meaning.specs.Shapes.{is_reference}
use Rattle.op_meaning.specs.Values.{Holder, local, same_holder}
use Rattle.op_meaning.specs.World.{World}
use Rattle.op_agreement.specs.Chart.{Floor, IsAt}
use Rattle.op_agreement.specs.Handing.{AreHanded, ArePartsHanded, IsHanded, IsNumberHanded}
use Rattle.op_agreement.specs.Settings.{Setting}

-- ---- what is given changes parameters alone

-- other holders have what they had
pub given_other : (d k : ℕ) (xs : List Handed) (w : World) (h : Holder) → ((v : ℕ) → k ≤ v → v < k + length xs → same_holder h (local d v) ≡ false) → (given_all d k xs w).memory h ≡ w.memory h
given_other d k [] w h apart = refl
given_other d k (a_value v ∷ xs) w h apart =
    given_other d (suc k) xs (given_one d k (a_value v) w) h (λ u from to. apart u (omega arith) (omega arith))
    ∙ ap (λ b. if b then v else w.memory h) (apart k (omega arith) (omega arith))
given_other d k (a_place q ∷ xs) w h apart = given_other d (suc k) xs (given_one d k (a_place q) w) h (λ u from to. apart u (omega arith) (omega arith))

-- other variables stand for what they stood for
pub bound_other : (d k : ℕ) (xs : List Handed) (w : World) (e u : ℕ) → ((v : ℕ) → k ≤ v → (nat_eq e d && nat_eq u v) ≡ false) → (given_all d k xs w).bound e u ≡ w.bound e u
bound_other d k [] w e u apart = refl
bound_other d k (a_value v ∷ xs) w e u apart = bound_other d (suc k) xs (given_one d k (a_value v) w) e u (λ v from. apart v (omega arith))
bound_other d k (a_place q ∷ xs) w e u apart =
    bound_other d (suc k) xs (given_one d k (a_place q) w) e u (λ v from. apart v (omega arith))
    ∙ ap (λ b. if b then q else w.bound e u) (apart k (omega arith))

-- all but values and what variables stand for is as it was
pub given_rest : (d k : ℕ) (xs : List Handed) (w : World) → given_all d k xs w ≡ record w { memory = (given_all d k xs w).memory; bound = (given_all d k xs w).bound }
given_rest d k [] w = refl
given_rest d k (a_value v ∷ xs) w = given_rest d (suc k) xs (given_one d k (a_value v) w)
given_rest d k (a_place q ∷ xs) w = given_rest d (suc k) xs (given_one d k (a_place q) w)

-- ---- tests of numbers

-- a number is itself
pub both_same : (d v : ℕ) → (nat_eq d d && nat_eq v v) ≡ true
both_same d v =
    let a : nat_eq d d ≡ true = grind (arith, nat_tests) in
    let b : nat_eq v v ≡ true = grind (arith, nat_tests) in
    ap₂ (λ x y. x && y) a b

-- other variables of a level
pub second_differs : (e d v u : ℕ) → (v ≡ u → ⊥) → (nat_eq e d && nat_eq v u) ≡ false
second_differs e d v u other = let b : nat_eq v u ≡ false = grind (arith, nat_tests) in ap (λ y. nat_eq e d && y) b ∙ and-false (nat_eq e d)

-- another level
pub first_differs : (e d v u : ℕ) → (e ≡ d → ⊥) → (nat_eq e d && nat_eq v u) ≡ false
first_differs e d v u other = let b : nat_eq e d ≡ false = grind (arith, nat_tests) in ap (λ y. y && nat_eq v u) b

-- ---- each parameter is what was handed over

module _ (g : Setting) (floors : ℕ → Floor) (d : ℕ) (w0 : World) where
  -- a parameter by value of the activation with so many below it is what its word tells, and one that stands for a place stands for that at
  -- the address
  abbrev pub IsParameter : World → (e k : ℕ) → Variable → (word : ℕ) → Type 0
  IsParameter w e k p word =
      ((is_reference p.role ≡ false) × (IsNumberHanded g (w.memory (local e k)) p word ⊎ ArePartsHanded g floors d w0 (w.memory (local e k)) p word))
      ⊎ ((is_reference p.role ≡ true) × IsAt g floors d (w.bound e k) p.of word × (word < 2 ^ 32))

  -- the first of them, which those behind it do not change
  parameter_first : (e k : ℕ) (x : Handed) (xs : List Handed) (w : World) (p : Variable) (n : ℕ) → IsHanded g floors d w0 x p n → IsParameter (given_all e (suc k) xs (given_one e k x w)) e k p n
  parameter_first e k (a_value v) xs w p n is =
      let there : (given_all e (suc k) xs (given_one e k (a_value v) w)).memory (local e k) ≡ v =
      given_other e (suc k) xs (given_one e k (a_value v) w) (local e k) (λ u from to. second_differs e e k u (λ same. omega arith)) ∙ ap (λ b. if b then v else w.memory (local e k)) (both_same e k) in
      inl (subst (λ y. (is_reference p.role ≡ false) × (IsNumberHanded g y p n ⊎ ArePartsHanded g floors d w0 y p n)) (sym there) is)
  parameter_first e k (a_place q) xs w p n is =
      let there : (given_all e (suc k) xs (given_one e k (a_place q) w)).bound e k ≡ q =
      bound_other e (suc k) xs (given_one e k (a_place q) w) e k (λ u from. second_differs e e k u (λ same. omega arith)) ∙ ap (λ b. if b then q else w.bound e k) (both_same e k) in
      inr (subst (λ y. (is_reference p.role ≡ true) × IsAt g floors d y p.of n × (n < 2 ^ 32)) (sym there) is)

  -- each of them, by its number
  pub parameter_stands : (e k : ℕ) (xs : List Handed) (ps : List Variable) (ns : List ℕ) (w : World) → AreHanded g floors d w0 xs ps ns → (j : ℕ) (p : Variable) → slice_get ps j ≡ Some p → IsParameter (given_all e k xs w) e (k + j) p (slice_index ns j)
  parameter_stands e k [] [] [] w are j p found = absurd cc
  parameter_stands e k [] [] (n ∷ ns) w are j p found = absurd are
  parameter_stands e k [] (q ∷ ps) ns w are j p found = absurd are
  parameter_stands e k (x ∷ xs) [] ns w are j p found = absurd are
  parameter_stands e k (x ∷ xs) (q ∷ ps) [] w are j p found = absurd are
  parameter_stands e k (x ∷ xs) (q ∷ ps) (n ∷ ns) w (is, are) zero p found =
      let same : q ≡ p = cc in
      let at : k ≡ k + 0 = omega arith in
      subst (λ i. IsParameter (given_all e (suc k) xs (given_one e k x w)) e i p n) at (subst (λ y. IsParameter (given_all e (suc k) xs (given_one e k x w)) e k y n) same (parameter_first e k x xs w q n is))
  parameter_stands e k (x ∷ xs) (q ∷ ps) (n ∷ ns) w (is, are) (suc j) p found =
      let at : suc k + j ≡ k + suc j = omega arith in
      subst (λ i. IsParameter (given_all e (suc k) xs (given_one e k x w)) e i p (slice_index ns j)) at (parameter_stands e (suc k) xs ps ns (given_one e k x w) are j p found)

  -- as many are handed over as there are rows, and words
  pub as_many : (xs : List Handed) (ps : List Variable) (ns : List ℕ) → AreHanded g floors d w0 xs ps ns → (length xs ≡ length ps) × (length ns ≡ length ps)
  as_many [] [] [] are = (refl, refl)
  as_many [] [] (n ∷ ns) are = absurd are
  as_many [] (p ∷ ps) ns are = absurd are
  as_many (x ∷ xs) [] ns are = absurd are
  as_many (x ∷ xs) (p ∷ ps) [] are = absurd are
  as_many (x ∷ xs) (p ∷ ps) (n ∷ ns) (is, are) = let (a, b) = as_many xs ps ns are in (ap suc a, ap suc b)
