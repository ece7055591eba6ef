-- The elements of sets among constants.
use Rattle.std.proofs.Common.{◌≡◌, ℕ, zero, suc, ◌+◌, ◌-◌, ◌<◌, Bool, List, ◌++◌, append_assoc, ap, sym, ◌∙◌, arith}
use Rattle.std.proofs.lemmas.List.{append-nil}
use Rattle.op_types.specs.Sets.{only, those_from}

further : (n count left : ℕ) (test : ℕ → Bool) → count ≡ suc left → those_from n count test ≡ only n (test n) ++ those_from (n + 1) left test
unfolding those_from
further n zero left test e = absurd (cc)
further n (suc k) left test e = (λ i. only n (test n) ++ those_from (next i) (same i) test)
  where
    next : suc n ≡ n + 1
    next = omega arith

    same : k ≡ left
    same = cc

-- one number more
pub one_more : (old new : List ℕ) (n : ℕ) (b : Bool) (test : ℕ → Bool) (whole : List ℕ) → n < 32 → b ≡ test n → new ≡ old ++ only n b → old ++ those_from n (32 - n) test ≡ whole → new ++ those_from (n + 1) (32 - (n + 1)) test ≡ whole
one_more old new n b test whole h e f g =
    ap (λ xs. xs ++ those_from (n + 1) (32 - (n + 1)) test) (f ∙ ap (λ b. old ++ only n b) e)
    ∙ append_assoc old (only n (test n)) (those_from (n + 1) (32 - (n + 1)) test)
    ∙ ap (λ xs. old ++ xs) (sym (further n (32 - n) (32 - (n + 1)) test (omega (arith, h))))
    ∙ g

-- none is left
pub no_more : (set : List ℕ) (n : ℕ) (test : ℕ → Bool) (whole : List ℕ) → n ≡ 32 → set ++ those_from n (32 - n) test ≡ whole → set ≡ whole
unfolding those_from
no_more set n test whole e g = sym (append-nil set) ∙ ap (λ k. set ++ those_from k (32 - k) test) (sym e) ∙ g
