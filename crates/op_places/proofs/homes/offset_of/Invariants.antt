use Rattle.std.proofs.Common.{◌≡◌, drop}
use Rattle.op_places.specs.Homes.{offset_of}
use Rattle.op_places.proofs.homes.offset_of.Given as goal

abbrev pub invariant-loop-each : goal.invariant-loop-each
invariant-loop-each l =
    offset_of l.core l.root l.offset (drop l.each-index l.roots) ≡ offset_of l.core l.root l.first l.roots
