use Rattle.std.proofs.Common.{◌≡◌, ◌++◌, drop}
use Rattle.op_places.specs.Places.{steps_code, steps_spot}
use Rattle.op_places.proofs.place.push_steps.Given as goal

-- the steps that are left give the rest
abbrev pub invariant-loop-step : goal.invariant-loop-step
invariant-loop-step l =
    record {
      code : l.code.items ++ steps_code l.core l.frame (drop l.step-index l.steps) l.spot ≡ l.fn.code.items ++ steps_code l.core l.frame l.steps l.fn.first;
      spot : steps_spot l.core (drop l.step-index l.steps) l.spot ≡ steps_spot l.core l.steps l.fn.first;
    }
