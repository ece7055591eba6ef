-- Tests of all numbers below one, from the last one down.
use Rattle.std.proofs.Common.{◌≡◌, ℕ, suc, ◌-◌, ◌<◌, Bool, true, false, ◌&&◌, refl, ap, sym, ◌∙◌, arith}

and_true : (a b : Bool) → b ≡ true → (a && b) ≡ a
and_true true true is = refl
and_true true false is = absurd cc
and_true false true is = refl
and_true false false is = refl

and_false : (a b : Bool) → b ≡ false → (a && b) ≡ false
and_false true b is = is
and_false false b is = refl

pub tests_go_on : (all test : ℕ → Bool) → ((n : ℕ) → all (suc n) ≡ (all n && test n)) → (k : ℕ) → 0 < k → test (k - 1) ≡ true → all (k - 1) ≡ all k
tests_go_on all test next k some is =
    let e : suc (k - 1) ≡ k = omega arith in
    sym (and_true (all (k - 1)) _ is) ∙ sym (next (k - 1)) ∙ ap all e

pub tests_fail : (all test : ℕ → Bool) → ((n : ℕ) → all (suc n) ≡ (all n && test n)) → (k : ℕ) → 0 < k → test (k - 1) ≡ false → false ≡ all k
tests_fail all test next k some is =
    let e : suc (k - 1) ≡ k = omega arith in
    sym (and_false (all (k - 1)) _ is) ∙ sym (next (k - 1)) ∙ ap all e

pub tests_end : (all : ℕ → Bool) → all 0 ≡ true → (k : ℕ) → k ≡ 0 → true ≡ all k
tests_end all none k is = sym none ∙ ap all (sym is)
