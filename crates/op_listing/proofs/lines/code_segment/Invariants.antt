use Rattle.std.proofs.Common.{◌≡◌, drop}
use Rattle.std.specs.List.{find}
use Rattle.op_link.specs.Image.{gives_execute, segments}
use Rattle.op_listing.proofs.lines.code_segment.Given as goal

abbrev pub invariant-loop-k : goal.invariant-loop-k
invariant-loop-k l = find gives_execute (segments l.image) ≡ find gives_execute (drop l.k (segments l.image))
