-- Parts have a type or break a rule where their own parts do.
use Rattle.std.proofs.Common.{◌≡◌, Bool, true, false, Option, Some, None, refl, if◌then◌else◌}
use Rattle.std.specs.Option.{option_map}
use Rattle.op_base.specs.declared.place.Place.{Place}
use Rattle.op_base.specs.declared.rule.Refusal.{Refusal}
use Rattle.op_judgement.specs.declared.rules.LanguageRule.{LanguageRule}
use Rattle.op_core.specs.Faults.{Checked, Faults, after, behind, both, front, here, none, one}
use Rattle.op_core.specs.Relations.{Filled, IsWhole, Whole, faulty, filled, typed}
use Rattle.op_judgement.proofs.Computed.{changed, followed, of_two}
use Rattle.op_judgement.specs.Judgement.{both_typed, by, fault, or_fault, unless}

pub whole_gives : {A : Type 0} {P : A → Type 0} {a : A} → P a → Whole P (record { typed = Some a; faults = none })
whole_gives {a} p = typed (filled a p)

pub whole_fine : {A : Type 0} {a : A} → IsWhole (record { typed = Some a; faults = none })
whole_fine {a} = typed (filled a tt)

pub whole_standing : {A : Type 0} {P : A → Type 0} {o : Option A} → Filled P o → Whole P (record { typed = o; faults = none })
whole_standing h = typed h

pub whole_rule : {A : Type 0} {P : A → Type 0} {f : Refusal} → Whole P (record { typed = None; faults = one f })
whole_rule {f} = faulty f here

-- what the entry is, and that the test holds
pub whole_entered : {A B : Type 0} {P : B → Type 0} {f : A → Checked B} (rule : LanguageRule) (place : Place) (o : Option A) → ((a : A) → o ≡ Some a → Whole P (f a)) → Whole P (or_fault (fault rule place) f o)
whole_entered rule place None g = whole_rule
whole_entered rule place (Some a) g = g a refl

pub whole_tested : {A : Type 0} {P : A → Type 0} {c : Checked A} (rule : LanguageRule) (place : Place) (b : Bool) → (b ≡ true → Whole P c) → Whole P (unless (fault rule place) c b)
whole_tested rule place false g = whole_rule
whole_tested rule place true g = g refl

pub whole_with : {A B : Type 0} {P : A → Type 0} {Q : B → Type 0} {f : A → Checked B} {o : Option A} → Filled P o → ((a : A) → P a → Whole Q (f a)) → Whole Q (by f o)
whole_with (filled a p) g = g a p

-- behind faults
pub whole_after : {A : Type 0} {P : A → Type 0} {faults : Faults} {c : Checked A} → Whole P c → Whole P (after faults c)
whole_after (typed h) = typed h
whole_after (faulty r i) = faulty r (behind i)

-- a part and what is made of it
pub whole_followed : {A B : Type 0} {P : A → Type 0} {Q : B → Type 0} {c : Checked A} {f : Option A → Checked B} → Whole P c → ((o : Option A) → Filled P o → Whole Q (f o)) → Whole Q (followed c f)
whole_followed {c} (typed h) g = whole_after (g c.typed h)
whole_followed (faulty r i) g = faulty r (front i)

-- a part and what is made of its meaning
pub whole_behind : {A B : Type 0} {P : A → Type 0} {Q : B → Type 0} {c : Checked A} {f : A → Checked B} → Whole P c → ((a : A) → P a → Whole Q (f a)) → Whole Q (after c.faults (by f c.typed))
whole_behind h g = whole_followed h (λ o k. whole_with k g)

filled_map : {A B : Type 0} {P : A → Type 0} {Q : B → Type 0} {o : Option A} (f : A → B) → Filled P o → ((a : A) → P a → Q (f a)) → Filled Q (option_map f o)
filled_map f (filled a p) g = filled (f a) (g a p)

pub whole_changed_so : {A B : Type 0} {P : A → Type 0} {Q : B → Type 0} {c : Checked A} (f : A → B) → Whole P c → ((a : A) → P a → Q (f a)) → Whole Q (changed f c)
whole_changed_so f (typed h) g = typed (filled_map f h g)
whole_changed_so f (faulty r i) g = faulty r i

pub whole_if : {A : Type 0} {P : A → Type 0} {c d : Checked A} (b : Bool) → Whole P c → Whole P d → Whole P (if b then c else d)
whole_if true h k = h
whole_if false h k = k

-- of a part, and one that is read by its meaning
filled_behind : {A B C : Type 0} {Q : B → Type 0} {R : C → Type 0} (f : A → B → C) (x : A) {o : Option B} → Filled Q o → ((y : B) → Q y → R (f x y)) → Filled R (both_typed f (Some x) o)
filled_behind f x (filled y q) l = filled (f x y) (l y q)

second_whole : {A B C : Type 0} {Q : B → Type 0} {R : C → Type 0} (f : A → B → C) (x : A) (faults : Faults) {b : Checked B} → Whole Q b → ((y : B) → Q y → R (f x y)) → Whole R (record { typed = both_typed f (Some x) b.typed; faults = both faults b.faults })
second_whole f x faults (typed h) l = typed (filled_behind f x h l)
second_whole f x faults (faulty r i) l = faulty r (behind i)

read_whole : {A B C : Type 0} {P : A → Type 0} {Q : A → B → Type 0} {R : C → Type 0} (f : A → B → C) {o : Option A} (faults : Faults) (g : Option A → Checked B) → Filled P o → ((x : A) → P x → Whole (Q x) (g (Some x))) → ((x : A) (y : B) → P x → Q x y → R (f x y)) → Whole R (record { typed = both_typed f o (g o).typed; faults = both faults (g o).faults })
read_whole f faults g (filled x p) k l = second_whole f x faults (k x p) (λ y q. l x y p q)

pub whole_upon : {A B C : Type 0} {P : A → Type 0} {Q : A → B → Type 0} {R : C → Type 0} (f : A → B → C) {a : Checked A} (g : Option A → Checked B) → Whole P a → ((x : A) → P x → Whole (Q x) (g (Some x))) → ((x : A) (y : B) → P x → Q x y → R (f x y)) → Whole R (of_two f a (g a.typed))
whole_upon f {a} g (typed h) k l = read_whole f a.faults g h k l
whole_upon f g (faulty r i) k l = faulty r (front i)

-- of two parts
pub whole_two : {A B C : Type 0} {P : A → Type 0} {Q : B → Type 0} {R : C → Type 0} (f : A → B → C) {a : Checked A} {b : Checked B} → Whole P a → Whole Q b → ((x : A) (y : B) → P x → Q y → R (f x y)) → Whole R (of_two f a b)
whole_two {Q} f {b} h k l = whole_upon {Q = λ x. Q} f (λ o. b) h (λ x p. k) l

-- what holds beside what is said of it
pub whole_as : {A : Type 0} {P Q : A → Type 0} {c : Checked A} → Whole P c → ((a : A) → P a → Q a) → Whole Q c
whole_as {P} {Q} {c} (typed h) g = typed (also h g)
  where
    also : {A : Type 0} {P Q : A → Type 0} {o : Option A} → Filled P o → ((a : A) → P a → Q a) → Filled Q o
    also (filled a p) g = filled a (g a p)
whole_as (faulty r i) g = faulty r i
