-- Tests, equations, options and answers; and counts of faults that rose.
use Rattle.std.proofs.Common.{◌≡◌, ◌≤◌, ℕ, Bool, true, false, ◌||◌, not, nat_eq, Option, Some, None, IsSome, IfOk, Result, Ok, Err, refl, ap, ap₂, ◌∙◌, inl, inr, arith}
use Rattle.std.proofs.lemmas.Bool.{eq-eqb}
use Rattle.std.proofs.lemmas.Bool.Decides.{nat_tests}
use Rattle.op_base.specs.Outside.{Rose}

-- ---- tests

pub or_second : (a b : Bool) → a ≡ false → (a || b) ≡ true → b ≡ true
or_second false b e f = f
or_second true b e f = absurd cc

pub twice_not : (b : Bool) → b ≡ not (not b)
twice_not true = refl
twice_not false = refl

pub eqb-itself : (n : ℕ) → nat_eq n n ≡ true
eqb-itself n = eq-eqb n n refl

pub eqb-turned : (a b : ℕ) → nat_eq a b ≡ false → nat_eq b a ≡ false
eqb-turned a b is = grind (arith, nat_tests)

-- ---- options and answers

pub some_there : {A : Type 0} (o : Option A) → IsSome o → (a : A) × (o ≡ Some a)
some_there None h = absurd cc
some_there (Some a) h = (a, refl)

pub none_of_some : {A : Type 0} {a : A} → Some a ≡ None → ⊥
none_of_some e = absurd cc

pub map_ok : {A E : Type 0} {P Q : A → Type 0} (r : Result A E) → ((a : A) → P a → Q a) → IfOk r P → IfOk r Q
map_ok (Ok a) f h = f a h
map_ok (Err e) f h = h

-- ---- equations

pub ap₃ : {A B C D : Type 0} (f : A → B → C → D) {a a' : A} {b b' : B} {c c' : C} → a ≡ a' → b ≡ b' → c ≡ c' → f a b c ≡ f a' b' c'
ap₃ f {a} {a'} {b} {b'} {c} {c'} p q r = ap (λ x. f x b c) p ∙ ap₂ (f a') q r

-- ---- faults

-- a count that rose since it was greater
pub rose_since : (a b c : ℕ) → a ≤ b → Rose b c → Rose a c
rose_since a b c le (inl more) = inl (omega (arith, le, more))
rose_since a b c le (inr most) = inr most
