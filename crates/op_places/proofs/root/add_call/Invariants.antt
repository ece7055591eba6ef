use Rattle.std.proofs.Common.{◌≡◌, take}
use Rattle.std.specs.List.{fold}
use Rattle.op_places.specs.Homes.{with_given}
use Rattle.op_places.proofs.root.add_call.Given as goal

abbrev pub invariant-loop-given : goal.invariant-loop-given
invariant-loop-given l =
    l.roots.items ≡ fold with_given l.fn.roots.items (take l.given-index l.given-items)
