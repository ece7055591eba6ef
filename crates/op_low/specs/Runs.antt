-- Runs of valid code: each instruction that is still to be done is valid.
use Rattle.std.specs.Prelude.{◌≡◌, true, List, [], ◌∷◌}
use Rattle.std.specs.List.{list_all}
use Rattle.op_low.specs.State.{Activation, Caller, State, routine_of}
use Rattle.op_low.specs.Valid.{is_valid_instruction}
use Rattle.op_low.specs.declared.code.Low.{Low}

-- of an activation, what is left of its block
abbrev pub IsValidRest : Low → Activation → Type 0
IsValidRest low a = list_all (is_valid_instruction low (routine_of low a.routine)) a.now ≡ true

abbrev pub AreValidRests : Low → List Caller → Type 0
AreValidRests low [] = Unit {0}
AreValidRests low (c ∷ cs) = IsValidRest low c.activation × AreValidRests low cs

pub record RunsValid (low : Low) (m : State) : Type 0 where
  pub top : IsValidRest low m.top
  pub callers : AreValidRests low m.callers
