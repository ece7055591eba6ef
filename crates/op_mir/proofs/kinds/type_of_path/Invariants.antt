use Rattle.std.proofs.Common.{◌≡◌, drop}
use Rattle.op_mir.specs.Kinds.{type_behind_all, type_of_root}
use Rattle.op_mir.proofs.kinds.type_of_path.Given as goal

abbrev pub invariant-loop-step : goal.invariant-loop-step
invariant-loop-step l =
    type_behind_all l.core l.found (drop l.step-index l.step-items) ≡ type_behind_all l.core (type_of_root l.core l.fn.variables l.path.root) l.step-items
