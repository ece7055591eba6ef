-- Parts that break no rule, and those that break one: what is kept of them.
use Rattle.std.proofs.Common.{◌≡◌, Bool, true, false, Option, Some, None, is_some, refl, sym, ap, ◌∙◌}
use Rattle.std.proofs.lemmas.Bool.{and_parts}
use Rattle.op_base.specs.declared.rule.Refusal.{Refusal}
use Rattle.op_check_unit.specs.Steps.{is_clear}
use Rattle.op_core.specs.Faults.{Faults, both, kept, none, one}
use Rattle.op_judgement.proofs.Clear.{by_first}

-- ---- what is kept

pub kept_clear : (f : Faults) (o : Option Refusal) → is_clear f ≡ true → kept o f ≡ o
kept_clear none o e = refl
kept_clear (one q) o e = absurd (cc)
kept_clear (both a b) o e = kept_clear b (kept o a) (and_parts _ _ e).1 ∙ kept_clear a o (and_parts _ _ e).0

stays_some : (f : Faults) (r : Refusal) → (q : Refusal) × (kept (Some r) f ≡ Some q)
stays_some none r = (r, refl)
stays_some (one q) r = (_, refl)
stays_some (both a b) r = let s = stays_some a r in let t = stays_some b s.0 in (t.0, ap (λ o. kept o b) s.1 ∙ t.1)

pub kept_faulty : (f : Faults) (o : Option Refusal) → is_clear f ≡ false → (q : Refusal) × (kept o f ≡ Some q)
kept_faulty none o e = absurd (cc)
kept_faulty (one q) None e = (q, refl)
kept_faulty (one q) (Some r) e = (_, refl)
kept_faulty (both a b) o e =
    by_first a b (is_clear a) refl e (λ h. let s = kept_faulty a o h in let t = stays_some b s.0 in (t.0, ap (λ o. kept o b) s.1 ∙ t.1)) (λ h. kept_faulty b (kept o a) h)

pub some_kept : (o : Option Refusal) → is_some o ≡ true → (q : Refusal) × (o ≡ Some q)
some_kept None e = absurd (cc)
some_kept (Some q) e = (q, refl)

pub none_kept : (o : Option Refusal) → is_some o ≡ false → o ≡ None
none_kept None e = refl
none_kept (Some q) e = absurd (cc)

-- so a part breaks no rule where none is kept behind it
pub clear_is : (f : Faults) → kept None f ≡ None → is_clear f ≡ true
clear_is f e = by_test (is_clear f) refl
  where
    no : {q : Refusal} → None ≡ Some q → ⊥
    no z = absurd (cc)

    by_test : (x : Bool) → is_clear f ≡ x → is_clear f ≡ true
    by_test true h = h
    by_test false h = let s = kept_faulty f None h in absurd (no (sym e ∙ s.1))

pub not_clear_is : (f : Faults) (q : Refusal) → kept None f ≡ Some q → is_clear f ≡ false
not_clear_is f q e = by_test (is_clear f) refl
  where
    no : None ≡ Some q → ⊥
    no z = absurd (cc)

    by_test : (x : Bool) → is_clear f ≡ x → is_clear f ≡ false
    by_test false h = h
    by_test true h = absurd (no (sym (kept_clear f None h) ∙ e))
