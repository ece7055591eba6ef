use Rattle.std.proofs.Common.{◌≡◌, ◌++◌, take}
use Rattle.op_compute.specs.Branches.{labels_code}
use Rattle.op_compute.proofs.branch.push_labels.Given as goal

abbrev pub invariant-loop-label : goal.invariant-loop-label
invariant-loop-label l =
    l.code.items ≡ l.fn.code.items ++ labels_code l.work l.from l.block (take l.label-index l.labels)
