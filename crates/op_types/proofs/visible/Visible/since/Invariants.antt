use Rattle.std.proofs.Common.{◌≡◌, ◌++◌, drop}
use Rattle.op_types.specs.Names.{all_of}
use Rattle.op_types.proofs.visible.Visible.since.Given as goal

-- what is left gives the whole
abbrev pub invariant-loop-stretch : goal.invariant-loop-stretch
invariant-loop-stretch l =
    l.copy ++ drop l.left (all_of (drop l.stretch-index l.stretch-items)) ≡ drop l.fn.count l.fn.self
