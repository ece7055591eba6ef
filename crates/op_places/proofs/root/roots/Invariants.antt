use Rattle.std.proofs.Common.{◌≡◌, [], take}
use Rattle.std.specs.List.{fold}
use Rattle.op_places.specs.Homes.{with_block}
use Rattle.op_places.proofs.root.roots.Given as goal

abbrev pub invariant-loop-block : goal.invariant-loop-block
invariant-loop-block l =
    l.roots.items ≡ fold with_block [] (take l.block-index l.block-items)
