-- Parts that break no rule, and what comes behind them.
use Rattle.std.proofs.Common.{◌≡◌, inl, inr, ◌&&◌, Bool, true, false, refl, sym, ap, ◌∙◌}
use Rattle.std.proofs.lemmas.Bool.{and_parts}
use Rattle.std.proofs.lemmas.Option.{none-some}
use Rattle.op_base.specs.declared.rule.Refusal.{Refusal}
use Rattle.op_core.proofs.Agreeing.{lists_both}
use Rattle.op_core.specs.Faults.{Faults, none, one, both, IsIn, here, front, behind}
use Rattle.op_core.specs.Relations.{Either, Holds, Lists, NoneBroken, Where}
use Rattle.op_judgement.specs.Given.{Given, is_clear, unless, unless_faulty}

pub no_fault : (f : Faults) → is_clear f ≡ true → (r : Refusal) → IsIn r f → ⊥
no_fault none e r i = elim i [ ]
no_fault (one q) e r i = absurd (cc)
no_fault (both a b) e r (front i) = no_fault a (and_parts _ _ e).0 r i
no_fault (both a b) e r (behind i) = no_fault b (and_parts _ _ e).1 r i

-- by the first part, and where that is clear by the others
pub by_first : {A : Type 0} (a b : Faults) (x : Bool) → is_clear a ≡ x → is_clear (both a b) ≡ false → (is_clear a ≡ false → A) → (is_clear b ≡ false → A) → A
by_first a b false h e f g = f h
by_first a b true h e f g = g (sym (ap (λ x. x && is_clear b) h) ∙ e)

pub some_fault : (f : Faults) → is_clear f ≡ false → (r : Refusal) × IsIn r f
some_fault none e = absurd (cc)
some_fault (one q) e = (q, here)
some_fault (both a b) e = by_first a b (is_clear a) refl e (λ h. let s = some_fault a h in (s.0, front s.1)) (λ h. let s = some_fault b h in (s.0, behind s.1))

none_broken : (f : Faults) (P : Refusal → Type 0) → Lists f P → is_clear f ≡ true → NoneBroken P
none_broken f P l e r p = no_fault f e r ((l r).1 p)

some_broken : (f : Faults) (P : Refusal → Type 0) → Lists f P → is_clear f ≡ false → NoneBroken P → ⊥
some_broken f P l e n = let s = some_fault f e in n s.0 ((l s.0).0 s.1)

-- what comes behind a part that breaks no rule
pub holds_unless : {S A B : Type 0} (g : Given S A) (f : S → Given S B) {T : B → Type 0} {P : Refusal → Type 0} → Lists g.faults P → Holds (f g.here).typed T → Holds (unless_faulty g f).typed (Where (NoneBroken P) T)
holds_unless {S} {A} {B} g f {T} {P} l k = by_test (is_clear g.faults) refl
  where
    by_test : (b : Bool) → is_clear g.faults ≡ b → Holds (unless b g f).typed (Where (NoneBroken P) T)
    by_test true e b = (λ t. (none_broken g.faults P l e, (k b).0 t), λ s. (k b).1 s.1)
    by_test false e b = (λ t. absurd (none-some _ t), λ s. absurd (some_broken g.faults P l e s.0))

pub lists_unless : {S A B : Type 0} (g : Given S A) (f : S → Given S B) {P Q : Refusal → Type 0} → Lists g.faults P → Lists (f g.here).faults Q → Lists (unless_faulty g f).faults (Either P (Where (NoneBroken P) Q))
lists_unless {S} {A} {B} g f {P} {Q} l k = by_test (is_clear g.faults) refl
  where
    fine : is_clear g.faults ≡ true → (r : Refusal) → Either P Q r → Either P (Where (NoneBroken P) Q) r
    fine e r (inl p) = inl p
    fine e r (inr q) = inr (none_broken g.faults P l e, q)

    plain : (r : Refusal) → Either P (Where (NoneBroken P) Q) r → Either P Q r
    plain r (inl p) = inl p
    plain r (inr q) = inr q.1

    first : is_clear g.faults ≡ false → (r : Refusal) → Either P (Where (NoneBroken P) Q) r → IsIn r g.faults
    first e r (inl p) = (l r).1 p
    first e r (inr q) = absurd (some_broken g.faults P l e q.0)

    by_test : (b : Bool) → is_clear g.faults ≡ b → Lists (unless b g f).faults (Either P (Where (NoneBroken P) Q))
    by_test true e r = let a = lists_both g.faults (f g.here).faults P Q l k r in (λ i. fine e r (a.0 i), λ s. a.1 (plain r s))
    by_test false e r = (λ i. inl ((l r).0 i), λ s. first e r s)
