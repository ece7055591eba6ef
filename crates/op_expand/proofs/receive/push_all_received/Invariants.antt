use Rattle.std.proofs.Common.{◌≡◌, ◌++◌, drop}
use Rattle.op_expand.specs.Routines.{all_received}
use Rattle.op_expand.proofs.receive.push_all_received.Given as goal

-- the parameters that are left give the rest
abbrev pub invariant-loop-variable : goal.invariant-loop-variable
invariant-loop-variable l =
    l.code.items ++ all_received l.core l.frame l.k (drop l.variable-index l.parameters) ≡ l.fn.code.items ++ all_received l.core l.frame 0 l.parameters
