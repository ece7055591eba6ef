use Rattle.std.proofs.Common.{◌≡◌, drop}
use Rattle.op_places.specs.Homes.{end_of}
use Rattle.op_places.proofs.homes.end_of.Given as goal

abbrev pub invariant-loop-each : goal.invariant-loop-each
invariant-loop-each l =
    end_of l.core l.offset (drop l.each-index l.roots) ≡ end_of l.core l.first l.roots
