-- Checked parts agree with relations where their parts do.
use Rattle.std.proofs.Common.{◌≡◌, ◌⊎◌, inl, inr, Option, Some, None, refl, ap, subst, ◌∙◌}
use Rattle.std.proofs.lemmas.Option.{none-some}
use Rattle.std.specs.Option.{option_map}
use Rattle.op_base.specs.declared.rule.Refusal.{Refusal}
use Rattle.op_core.specs.Faults.{Checked, Faults, FirstIs, IsIn, after, behind, both, front, here, none, one}
use Rattle.op_core.specs.Relations.{Agrees, Either, Entry, Holds, IsFirstOf, Lists, Never, NoneBroken, Only, Through}

-- ---- what has a meaning

pub some_is : {A : Type 0} {a b : A} → Some a ≡ Some b → a ≡ b
some_is e = cc

pub holds_some : {A : Type 0} (x : A) → Holds (Some x) (Only x)
holds_some x a = (some_is, ap Some)

pub holds_none : {A : Type 0} (T : A → Type 0) → ((a : A) → T a → ⊥) → Holds None T
holds_none T never a = (λ e. absurd (cc), λ t. absurd (never a t))

pub holds_entry : {A : Type 0} (o : Option A) → Holds o (Entry o)
holds_entry o a = (λ e. e, λ e. e)

-- ---- faults

pub lists_none : Lists none Never
lists_none r = (λ h. elim h [ ], λ never. absurd never)

only_one : (f r : Refusal) → IsIn r (one f) → f ≡ r
only_one f r here = refl

pub lists_one : (f : Refusal) → Lists (one f) (Only f)
lists_one f r = (only_one f r, λ e. subst (λ r. IsIn r (one f)) e here)

apart : (a b : Faults) (r : Refusal) → IsIn r (both a b) → IsIn r a ⊎ IsIn r b
apart a b r (front h) = inl h
apart a b r (behind h) = inr h

pub either_by : {P Q R S : Type 0} → (P → R) → (Q → S) → P ⊎ Q → R ⊎ S
either_by f g (inl h) = inl (f h)
either_by f g (inr h) = inr (g h)

together : (a b : Faults) (r : Refusal) → IsIn r a ⊎ IsIn r b → IsIn r (both a b)
together a b r (inl h) = front h
together a b r (inr h) = behind h

pub lists_both : (a b : Faults) (P Q : Refusal → Type 0) → Lists a P → Lists b Q → Lists (both a b) (Either P Q)
lists_both a b P Q p q r = (λ h. either_by (p r).0 (q r).0 (apart a b r h), λ h. together a b r (either_by (p r).1 (q r).1 h))

-- ---- parts

pub agrees_fine : {A : Type 0} (x : A) → Agrees (record { typed = Some x; faults = none }) (Only x) Never
agrees_fine x = (holds_some x, lists_none)

pub agrees_untyped : {A : Type 0} → Agrees {A = A} (record { typed = None; faults = none }) Never Never
agrees_untyped = (holds_none Never (λ a never. never), lists_none)

pub agrees_after : {A : Type 0} {faults : Faults} {c : Checked A} {T : A → Type 0} {P Q : Refusal → Type 0} → Lists faults P → Agrees c T Q → Agrees (after faults c) T (Either P Q)
agrees_after {A} {faults} {c} {T} {P} {Q} p h = (h.0, lists_both faults c.faults P Q p h.1)

-- what there is already, with no fault
pub agrees_standing : {A : Type 0} {o : Option A} {T : A → Type 0} → Holds o T → Agrees (record { typed = o; faults = none }) T Never
agrees_standing {A} {o} {T} h = (h, lists_none)

pub holds_map : {A B : Type 0} {f : A → B} {o : Option A} {T : A → Type 0} → Holds o T → Holds (option_map f o) (Through T (λ a. Only (f a)))
holds_map {A} {B} {f} {o = None} {T} h b = (λ e. absurd (none-some _ e), λ s. absurd (none-some _ ((h s.0).1 s.1)))
holds_map {A} {B} {f} {o = Some x} {T} h b = (λ e. (x, (h x).0 refl, some_is e), λ s. ap (λ a. Some (f a)) (some_is ((h s.0).1 s.1)) ∙ ap Some s.2)

pub agrees_changed : {A B : Type 0} {f : A → B} {c : Checked A} {T : A → Type 0} {P : Refusal → Type 0} → Agrees c T P → Agrees (record { typed = option_map f c.typed; faults = c.faults }) (Through T (λ a. Only (f a))) P
agrees_changed {A} {B} {f} {c} {T} {P} h = (holds_map h.0, h.1)

-- a rule by itself
pub agrees_rule : {A : Type 0} (f : Refusal) → Agrees {A = A} (record { typed = None; faults = one f }) Never (Only f)
agrees_rule f = (holds_none Never (λ a never. never), lists_one f)

-- ---- answers

pub none_broken : (faults : Faults) (B : Refusal → Type 0) → Lists faults B → FirstIs faults None → NoneBroken B
none_broken faults B h first r b = first r ((h r).1 b)

pub first_broken : (faults : Faults) (B : Refusal → Type 0) (r : Refusal) → Lists faults B → FirstIs faults (Some r) → IsFirstOf B r
first_broken faults B r h first = ((h r).0 first.is_in, λ q b. first.least q ((h q).1 b))
