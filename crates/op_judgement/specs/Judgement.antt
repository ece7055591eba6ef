-- A judgement says of a part of a program what it means and which rules it breaks. It is a datum with two readings: what a checker
-- computes of the part, and what is said of it in the words of relations. That these agree is proved once, over the datum.
use Rattle.std.specs.Prelude.{◌≡◌, Bool, true, false, Option, Some, None, if◌then◌else◌}
use Rattle.std.specs.Option.{option_map}
use Rattle.op_base.specs.declared.place.Place.{Place}
use Rattle.op_base.specs.declared.rule.Refusal.{Refusal}
use Rattle.op_base.specs.Rule.{HasText}
use Rattle.op_core.specs.Faults.{Checked, Faults, after, both, kept, none, one}
use Rattle.op_core.specs.Relations.{Agrees, Either, Entry, Holds, Never, Only, Through, Where}
use Rattle.op_core.specs.declared.error.CheckError.{CheckError}
use Rattle.op_core.specs.declared.error.CheckError.TheVariants.{Refused, NoMemory}
use Rattle.op_core.specs.declared.first_refusal.FirstRefusal.{FirstRefusal}
use Rattle.op_judgement.specs.Rules.{rule_of}
use Rattle.op_judgement.specs.declared.rules.LanguageRule.{LanguageRule}

-- each of them is of a rule that has a text
abbrev pub HaveTexts : Faults → Type 0
HaveTexts none = Unit {0}
HaveTexts (one r) = HasText r.rule
HaveTexts (both first others) = HaveTexts first × HaveTexts others

pub data Judgement : Type 0 → Type 1 where
  -- it means this
  fine : {A : Type 0} → A → Judgement A
  -- it has no meaning, since a part of it has none, which is told there
  untyped : {A : Type 0} → Judgement A
  -- it breaks the rule, at a place
  refused : {A : Type 0} → LanguageRule → Place → Judgement A
  -- it is what such a part is made to
  changed : {A B : Type 0} → (A → B) → Judgement A → Judgement B
  -- it is made of two parts
  of_two : {A B C : Type 0} → (A → B → C) → Judgement A → Judgement B → Judgement C
  -- it is what the part's meaning makes it
  through : {A B : Type 0} → Judgement A → (A → Judgement B) → Judgement B
  -- the same, where it is something also of a part without a meaning
  followed : {A B : Type 0} → Judgement A → (Option A → Judgement B) → Judgement B
  -- it is judged by the meaning of a part that is judged elsewhere, if that has one
  given : {A B : Type 0} → Judgement A → (Option A → Judgement B) → Judgement B
  -- it is what an entry makes it, if there is an entry
  with_part : {A B : Type 0} → (A → Judgement B) → Option A → Judgement B
  -- the same; where there is none it breaks the rule
  by_entry : {A B : Type 0} → LanguageRule → Place → (A → Judgement B) → Option A → Judgement B
  -- it breaks the rule where the test fails
  by_test : {A : Type 0} → LanguageRule → Place → Judgement A → Bool → Judgement A
  -- it is the first where the test holds, else the second
  when : {A : Type 0} → Bool → Judgement A → Judgement A → Judgement A
  -- it is judged so by another law
  known : {A : Type 0} (c : Checked A) (T : A → Type 0) (B : Refusal → Type 0) → Agrees c T B → HaveTexts c.faults → Judgement A

-- ---- what is computed

-- the rule is broken at the place
abbrev pub fault : LanguageRule → Place → Refusal
fault rule place = record { rule = rule_of rule; place = place }

abbrev pub both_typed : {A B C : Type 0} → (A → B → C) → Option A → Option B → Option C
both_typed f None b = None
both_typed f (Some a) None = None
both_typed f (Some a) (Some b) = Some (f a b)

abbrev pub by : {A B : Type 0} → (A → Checked B) → Option A → Checked B
by g None = record { typed = None; faults = none }
by g (Some a) = g a

abbrev pub or_fault : {A B : Type 0} → Refusal → (A → Checked B) → Option A → Checked B
or_fault fault g None = record { typed = None; faults = one fault }
or_fault fault g (Some a) = g a

abbrev pub unless : {A : Type 0} → Refusal → Checked A → Bool → Checked A
unless fault c true = c
unless fault c false = record { typed = None; faults = one fault }

-- a typed part or none, and the faults in the order in which they are met
abbrev pub checked : {A : Type 0} → Judgement A → Checked A
checked (fine a) = record { typed = Some a; faults = none }
checked untyped = record { typed = None; faults = none }
checked (refused rule place) = record { typed = None; faults = one (fault rule place) }
checked (changed f j) = record { typed = option_map f (checked j).typed; faults = (checked j).faults }
checked (of_two f j k) = record { typed = both_typed f (checked j).typed (checked k).typed; faults = both (checked j).faults (checked k).faults }
checked (through j g) = after (checked j).faults (by (λ a. checked (g a)) (checked j).typed)
checked (followed j g) = after (checked j).faults (checked (g (checked j).typed))
checked (given j g) = checked (g (checked j).typed)
checked (with_part g o) = by (λ a. checked (g a)) o
checked (by_entry rule place g o) = or_fault (fault rule place) (λ a. checked (g a)) o
checked (by_test rule place j b) = unless (fault rule place) (checked j) b
checked (when b j k) = if b then checked j else checked k
checked (known c T B law told) = c

-- ---- what is said

-- by what a part means, if it means anything
abbrev pub Whether : {A B : Type 0} → (A → Type 0) → (Option A → B → Type 0) → B → Type 0
Whether {A} T U b = (o : Option A) × Holds o T × U o b

-- the first where the test holds, else the second
abbrev pub When : {A : Type 0} → Bool → (A → Type 0) → (A → Type 0) → A → Type 0
When true P Q = P
When false P Q = Q

-- exactly what is meant
abbrev pub Means : {A : Type 0} → Judgement A → A → Type 0
Means (fine a) = Only a
Means untyped = Never
Means (refused rule place) = Never
Means (changed f j) = Through (Means j) (λ a. Only (f a))
Means (of_two f j k) = Through (Means j) (λ a. Through (Means k) (λ b. Only (f a b)))
Means (through j g) = Through (Means j) (λ a. Means (g a))
Means (followed j g) = Whether (Means j) (λ o. Means (g o))
Means (given j g) = Whether (Means j) (λ o. Means (g o))
Means (with_part g o) = Through (Entry o) (λ a. Means (g a))
Means (by_entry rule place g o) = Through (Entry o) (λ a. Means (g a))
Means (by_test rule place j b) = Where (b ≡ true) (Means j)
Means (when b j k) = When b (Means j) (Means k)
Means (known c T B law told) = T

-- exactly the rules that are broken
abbrev pub Breaks : {A : Type 0} → Judgement A → Refusal → Type 0
Breaks (fine a) = Never
Breaks untyped = Never
Breaks (refused rule place) = Only (fault rule place)
Breaks (changed f j) = Breaks j
Breaks (of_two f j k) = Either (Breaks j) (Breaks k)
Breaks (through j g) = Either (Breaks j) (Through (Means j) (λ a. Breaks (g a)))
Breaks (followed j g) = Either (Breaks j) (Whether (Means j) (λ o. Breaks (g o)))
Breaks (given j g) = Whether (Means j) (λ o. Breaks (g o))
Breaks (with_part g o) = Through (Entry o) (λ a. Breaks (g a))
Breaks (by_entry rule place g o) = Either (Where (o ≡ None) (Only (fault rule place))) (Through (Entry o) (λ a. Breaks (g a)))
Breaks (by_test rule place j b) = Either (Where (b ≡ false) (Only (fault rule place))) (Where (b ≡ true) (Breaks j))
Breaks (when b j k) = When b (Breaks j) (Breaks k)
Breaks (known c T B law told) = B

-- ---- what a checker does

-- a part that may be untyped, its faults reported
abbrev pub Reports : {A : Type 0} → Judgement A → FirstRefusal → FirstRefusal → Option A → Type 0
Reports j old new typed = (typed ≡ (checked j).typed) × (new.kept ≡ kept old.kept (checked j).faults)

-- where a check refuses, the rule has a text
abbrev pub RefusalHasText : CheckError → Type 0
RefusalHasText (Refused r) = HasText r.rule
RefusalHasText NoMemory = Unit {0}
