use Rattle.std.proofs.Common.{◌≡◌, ◌≤◌}
use Rattle.op_units.specs.Walk.{Visits, walked_of}
use Rattle.op_units.proofs.Walking.{Completes}
use Rattle.op_units.proofs.loader.visit_all.Given as goal

abbrev pub invariant-loop : goal.invariant-loop
invariant-loop g l = record {
  stays : g.F.Files.stored l.files ≡ g.F.Files.stored l.fn.files;
  rises : g.F.Files.faults l.fn.files ≤ g.F.Files.faults l.files;
  completes : Completes (g.F.Files.stored l.fn.files) l.folder (Visits (g.F.Files.stored l.fn.files) l.folder l.fn.first.file l.fn.first.closing (walked_of l.fn.walk) l.fn.first.uses.items) l.frames.items (walked_of l.walk);
}
