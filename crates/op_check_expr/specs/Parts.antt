-- The words in which parts of expressions are judged, besides those of every judgement.
use Rattle.std.specs.Prelude.{Bool, true, false, Option, Some, None, Result, Ok, Err}
use Rattle.op_base.specs.declared.place.Place.{Place}
use Rattle.op_core.proofs.Agreeing.{agrees_standing, holds_entry}
use Rattle.op_core.specs.Faults.{none}
use Rattle.op_core.specs.Relations.{Entry, Never}
use Rattle.op_judgement.specs.Judgement.{Judgement, known, refused}
use Rattle.op_judgement.specs.declared.rules.Feature.{Feature}
use Rattle.op_judgement.specs.declared.rules.LanguageRule.TheVariants.{NotInProfile}

-- what is there already, with no further fault
abbrev pub standing : {A : Type 0} → Option A → Judgement A
standing a = known (record { typed = a; faults = none }) (Entry a) Never (agrees_standing (holds_entry a)) tt

-- the first where the test holds, else the second
abbrev pub whether : {A : Type 0} → Bool → Judgement A → Judgement A → Judgement A
whether true j k = j
whether false j k = k

-- the answer is there, and of it that is true
abbrev pub OfOk : {A E : Type 0} → Result A E → (A → Type 0) → Type 0
OfOk (Ok a) P = P a
OfOk (Err e) P = ⊥

-- what stands behind an answer: where it is there, so is that
abbrev pub Behind : {A E : Type 0} → Result A E → Type 0 → Type 0
Behind r P = OfOk r (λ _. P)

-- unless it shows a feature that is left out
abbrev pub by_feature : {A : Type 0} → Place → Option Feature → Judgement A → Judgement A
by_feature place None j = j
by_feature place (Some feature) j = refused (NotInProfile feature) place
