-- What is computed of a part: a typed tree or none, and a tree of faults; and which of these is the first.
use Rattle.std.specs.Prelude.{◌≡◌, ℕ, Bool, false, ◌&&◌, ◌||◌, Option, Some, None, nat_lt, nat_eq, if◌then◌else◌, Result, Ok, Err}
use Rattle.op_base.specs.declared.place.Place.{Place}
use Rattle.op_base.specs.declared.rule.Refusal.{Refusal}
use Rattle.op_core.specs.declared.error.CheckError.{CheckError}
use Rattle.op_core.specs.declared.error.CheckError.TheVariants.{Refused}

pub data Faults : Type 0 where
  none : Faults
  one : (fault : Refusal) → Faults
  both : (first others : Faults) → Faults

-- ---- what a part means

-- without a type where anything in the part breaks a rule
pub record Checked (A : Type 0) : Type 0 where
  pub typed : Option A
  pub faults : Faults

-- the rule number, at a place
abbrev pub broken : ℕ → Place → Refusal
broken number place = record { rule = record { number = number; feature = 0 }; place = place }

-- with the faults of the parts in front
abbrev pub after : {A : Type 0} → Faults → Checked A → Checked A
after faults c = record { typed = c.typed; faults = both faults c.faults }

-- ---- the first one

-- by the first number, and where these are equal by what follows
abbrev pub lower_or : ℕ → ℕ → Bool → Bool
lower_or a b others = nat_lt a b || (nat_eq a b && others)

-- by line, column and the rule's number
abbrev pub comes_before : Refusal → Refusal → Bool
comes_before a b =
    lower_or a.place.line b.place.line (lower_or a.place.col b.place.col (nat_lt a.rule.number b.rule.number))

-- of two faults the first, and the one that was there where they stand alike
abbrev pub earlier : Option Refusal → Refusal → Option Refusal
earlier None b = Some b
earlier (Some a) b = Some (if comes_before b a then b else a)

-- what is kept when these faults are reported
abbrev pub kept : Option Refusal → Faults → Option Refusal
kept old none = old
kept old (one fault) = earlier old fault
kept old (both first others) = kept (kept old first) others

-- ---- what that means

pub data IsIn (r : Refusal) : Faults → Type 0 where
  here : IsIn r (one r)
  front : {first others : Faults} → IsIn r first → IsIn r (both first others)
  behind : {first others : Faults} → IsIn r others → IsIn r (both first others)

-- this one is among the faults, and none of them comes before it
pub record IsFirst (faults : Faults) (r : Refusal) : Type 0 where
  pub is_in : IsIn r faults
  pub least : (q : Refusal) → IsIn q faults → comes_before q r ≡ false

-- none is kept where there is none, else the first one
abbrev pub FirstIs : Faults → Option Refusal → Type 0
FirstIs faults None = (r : Refusal) → IsIn r faults → ⊥
FirstIs faults (Some r) = IsFirst faults r

-- a typed part, or its first fault
abbrev pub or_typed : {A : Type 0} → Option Refusal → A → Result A CheckError
or_typed None typed = Ok typed
or_typed (Some r) typed = Err (Refused r)
