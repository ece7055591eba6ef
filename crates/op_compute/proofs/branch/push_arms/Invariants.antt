use Rattle.std.proofs.Common.{◌≡◌, ◌++◌, take}
use Rattle.op_compute.specs.Branches.{arms_code}
use Rattle.op_compute.proofs.branch.push_arms.Given as goal

abbrev pub invariant-loop-arm : goal.invariant-loop-arm
invariant-loop-arm l = l.code.items ≡ l.fn.code.items ++ arms_code l.work l.from (take l.arm-index l.arms)
