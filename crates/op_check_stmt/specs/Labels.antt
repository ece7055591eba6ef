-- Labels of a case that have a value in common.
use Rattle.std.specs.Prelude.{ℤ, ◌⊎◌, ◌≤ℤ◌, int_le, Bool, ◌&&◌, List, [], ◌∷◌, ◌++◌, Option, Some, None, if◌then◌else◌}
use Rattle.std.specs.List.{list_any}
use Rattle.op_base.specs.declared.place.Place.{Place}
use Rattle.op_base.specs.declared.rule.Refusal.{Refusal}
use Rattle.op_core.specs.Faults.{Checked, none, one}
use Rattle.op_core.specs.Relations.{Either, Never, Only, Through, Where}
use Rattle.op_core.specs.declared.statement.Label.{Label}
use Rattle.op_judgement.specs.Judgement.{fault}
use Rattle.op_judgement.specs.declared.rules.LanguageRule.TheVariants.{LabelTwice}
use Rattle.op_check_stmt.specs.declared.case.Spot.{Spot}

abbrev pub HasValue : Label → ℤ → Type 0
HasValue l n = (l.first ≤ℤ n) × (n ≤ℤ l.last)

-- a value that both have
abbrev pub Common : Label → Label → Type 0
Common a b = (n : ℤ) × HasValue a n × HasValue b n

-- a label has a value in common with one in front of it
abbrev pub IsMet : List Spot → Spot → Type 0
IsMet [] s = ⊥
IsMet (b ∷ front) s = Common b.label s.label ⊎ IsMet front s

-- the first label, behind those in front, that has a value in common with an earlier one
abbrev pub FirstMet : List Spot → List Spot → Place → Type 0
FirstMet front [] = Never
FirstMet front (s ∷ ss) = Either (Where (IsMet front s) (Only s.place)) (Where (IsMet front s → ⊥) (FirstMet (front ++ s ∷ []) ss))

-- no label has a value in common with an earlier one
abbrev pub NoneMet : List Spot → Type 0
NoneMet ss = (place : Place) → FirstMet [] ss place → ⊥

-- where the first one stands that has, the rule is broken
abbrev pub TwiceBreaks : List Spot → Refusal → Type 0
TwiceBreaks ss = Through (FirstMet [] ss) (λ place. Only (fault LabelTwice place))

-- ---- the same, as tests

-- both have a value, and neither ends before the other begins
abbrev pub overlap : Label → Label → Bool
overlap a b = int_le a.first a.last && int_le b.first b.last && int_le a.first b.last && int_le b.first a.last

abbrev pub is_repeated : List Spot → Spot → Bool
is_repeated before s = list_any (λ b. overlap b.label s.label) before

abbrev pub repeated_after : List Spot → List Spot → Option Place
repeated_after before [] = None
repeated_after before (s ∷ ss) = if is_repeated before s then Some s.place else repeated_after (before ++ s ∷ []) ss

abbrev pub repeated : List Spot → Option Place
repeated ss = repeated_after [] ss

-- what has labels of which one, at this place, has a value of an earlier one
abbrev pub once : {A : Type 0} → Option A → Option Place → Checked A
once a None = record { typed = a; faults = none }
once a (Some place) = record { typed = None; faults = one (fault LabelTwice place) }
