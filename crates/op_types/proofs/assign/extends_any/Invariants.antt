use Rattle.std.proofs.Common.{◌≡◌, drop}
use Rattle.op_types.specs.Assignable.{extends_any}
use Rattle.op_types.proofs.assign.extends_any.Given as goal

-- what is left tells
abbrev pub invariant-loop-a : goal.invariant-loop-a
invariant-loop-a l = extends_any l.core (drop l.a-index l.listed) l.b ≡ extends_any l.core l.listed l.b
