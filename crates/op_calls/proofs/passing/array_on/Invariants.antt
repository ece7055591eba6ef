use Rattle.std.proofs.Common.{◌≡◌, None, drop, map}
use Rattle.op_semantics.specs.Paths.{array_on}
use Rattle.op_values.specs.View.{view_step}
use Rattle.op_calls.proofs.passing.array_on.Given as goal

-- What is left gives the whole.
abbrev pub invariant-loop-step : goal.invariant-loop-step
invariant-loop-step l = array_on l.holder (map view_step (drop l.step-index l.steps)) ≡ array_on None (map view_step l.steps)
