-- What a part means and which rules it breaks, said as relations; and when what is checked agrees with them.
use Rattle.std.specs.Prelude.{◌≡◌, ◌⊎◌, ◌↔◌, false, Option, Some}
use Rattle.op_base.specs.declared.rule.Refusal.{Refusal}
use Rattle.op_core.specs.Faults.{Checked, Faults, IsIn, comes_before}

-- ---- the words of relations

-- this one
abbrev pub Only : {A : Type 0} → A → A → Type 0
Only a b = a ≡ b

-- what stands in a table, if anything does
abbrev pub Entry : {A : Type 0} → Option A → A → Type 0
Entry o a = o ≡ Some a

-- by a part that means T, what it gives
abbrev pub Through : {A B : Type 0} → (A → Type 0) → (A → B → Type 0) → B → Type 0
Through {A} T U b = (a : A) × T a × U a b

abbrev pub Either : {A : Type 0} → (A → Type 0) → (A → Type 0) → A → Type 0
Either P Q a = P a ⊎ Q a

-- only where the condition holds
abbrev pub Where : {A : Type 0} → Type 0 → (A → Type 0) → A → Type 0
Where C P a = C × P a

abbrev pub Never : {A : Type 0} → A → Type 0
Never a = ⊥

-- ---- what is checked

-- exactly what is meant
abbrev pub Holds : {A : Type 0} → Option A → (A → Type 0) → Type 0
Holds {A} o T = (a : A) → (o ≡ Some a) ↔ T a

-- exactly the rules that are broken
abbrev pub Lists : Faults → (Refusal → Type 0) → Type 0
Lists faults B = (r : Refusal) → IsIn r faults ↔ B r

abbrev pub Agrees : {A : Type 0} → Checked A → (A → Type 0) → (Refusal → Type 0) → Type 0
Agrees c T B = Holds c.typed T × Lists c.faults B

-- ---- answers

-- no rule is broken
abbrev pub NoneBroken : (Refusal → Type 0) → Type 0
NoneBroken B = (r : Refusal) → B r → ⊥

-- this rule is broken, and none that comes before it
abbrev pub IsFirstOf : (Refusal → Type 0) → Refusal → Type 0
IsFirstOf B r = B r × ((q : Refusal) → B q → comes_before q r ≡ false)

-- ---- what is left

-- there is one, and it is so
pub data Filled {A : Type 0} (P : A → Type 0) : Option A → Type 0 where
  filled : (a : A) → P a → Filled P (Some a)

-- a type that is so, or a rule that is broken
pub data Whole {A : Type 0} (P : A → Type 0) (c : Checked A) : Type 0 where
  typed : Filled P c.typed → Whole P c
  faulty : (r : Refusal) → IsIn r c.faults → Whole P c

-- whatever it is
abbrev pub Always : {A : Type 0} → A → Type 0
Always a = Unit {0}

-- where no rule is broken, there is a typed part
abbrev pub IsWhole : {A : Type 0} → Checked A → Type 0
IsWhole c = Whole Always c
