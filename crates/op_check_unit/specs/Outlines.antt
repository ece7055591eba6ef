-- What the code holds of the interface parts: what each declares, and of the rules that it breaks the first one.
use Rattle.std.specs.Prelude.{◌≡◌, ℕ, Bool, true, false, List, Option, Some, None, slice_get}
use Rattle.op_check_unit.specs.Programs.{Outline}
use Rattle.op_check_unit.specs.Steps.{here_of}
use Rattle.op_check_unit.specs.declared.declarer.Declarer.{Declarer}
use Rattle.op_check_unit.specs.declared.uses.Export.{Export}
use Rattle.op_core.specs.Faults.{Faults, kept}

abbrev pub outline_of : List (Option Export) → Declarer → Outline
outline_of es d = record { exports = es; here = here_of d }

-- there is such a unit, and its interface part is not declared
abbrev pub is_blank : Option (Option Export) → Bool
is_blank None = false
is_blank (Some None) = true
is_blank (Some (Some e)) = false

-- it has the first of these faults; where the part is not declared there is none
abbrev pub Tells : Option Export → Faults → Type 0
Tells None f = kept None f ≡ None
Tells (Some e) f = e.broken ≡ kept None f

-- each has the first of its own
abbrev pub AllTell : List (Option Export) → (ℕ → Faults) → Type 0
AllTell es faults = (k : ℕ) (e : Option Export) → slice_get es k ≡ Some e → Tells e (faults k)
