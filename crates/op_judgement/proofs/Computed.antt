-- Words of what is computed, for lemmas over any judgement: this is not found from what is computed of it.
use Rattle.std.proofs.Common.{◌≡◌, Option}
use Rattle.std.specs.Option.{option_map}
use Rattle.op_core.specs.Faults.{Checked, after, both, kept}
use Rattle.op_core.specs.declared.first_refusal.FirstRefusal.{FirstRefusal}
use Rattle.op_judgement.specs.Judgement.{both_typed}

-- a part that may be untyped, its faults reported
abbrev pub Reports : {A : Type 0} → Checked A → FirstRefusal → FirstRefusal → Option A → Type 0
Reports c old new typed = (typed ≡ c.typed) × (new.kept ≡ kept old.kept c.faults)

-- what is made of a part stands behind the part's faults
abbrev pub followed : {A B : Type 0} → Checked A → (Option A → Checked B) → Checked B
followed c f = after c.faults (f c.typed)

abbrev pub changed : {A B : Type 0} → (A → B) → Checked A → Checked B
changed f c = record { typed = option_map f c.typed; faults = c.faults }

abbrev pub of_two : {A B C : Type 0} → (A → B → C) → Checked A → Checked B → Checked C
of_two f a b = record { typed = both_typed f a.typed b.typed; faults = both a.faults b.faults }

abbrev pub paired : {A B : Type 0} → Checked A → Checked B → Checked (A × B)
paired a b = of_two (λ a b. (a, b)) a b
