use Rattle.std.proofs.Common.{subst}
use Rattle.op_units.specs.Cycles.{StopsAt}
use Rattle.op_units.specs.Names.{IsFolder}
use Rattle.op_units.specs.Walk.{Visits, walked, walked_of}
use Rattle.op_units.proofs.Loading.{handed_on, stops_on, walks_on}
use Rattle.op_units.proofs.Told.{told_answer, told_error}
use Rattle.op_units.proofs.loader.load.Goals as goal

pub returns-in_err-first-clause-told : goal.returns-in_err-first-clause-told
returns-in_err-first-clause-told g c =
    let stored = g.F.Files.stored c.args.files.now in
    let main = c.args.main.now in
    let before = g.F.Files.faults c.args.files.now in
    let after = g.F.Files.faults c.first_frame.new.files in
    let error = c.in_err-first.field-0.0 in
    handed_on c.from_residual.result c.from_residual.ensures.1 (λ y e. rw e (told_error stored main before after error c.in_err-first.ensures.is))

pub returns-in_err-visit_all-clause-failed : goal.returns-in_err-visit_all-clause-failed
returns-in_err-visit_all-clause-failed g c =
    let stored = g.F.Files.stored c.args.files.now in
    let main = c.args.main.now in
    let folder = c.folder_of-folder.result.now in
    let initial = g.F.Files.faults c.args.files.now in
    let before = g.F.Files.faults c.first_frame.new.files in
    let after = g.F.Files.faults c.visit_all.new.files in
    let w = walked_of c.first_frame.new.walk in
    let first = c.in_ok-first.first in
    let error = c.in_err-visit_all.field-0.0 in
    handed_on c.from_residual-in_err-visit_all.result c.from_residual-in_err-visit_all.ensures.1
    (λ y e. rw e (stops_on stored main folder first w initial before after error c.in_ok-first.ensures.is (subst (λ n. IsFolder n folder) c.as_bytes.ensures.value c.folder_of-folder.ensures) c.first_frame.ensures.counts
    (subst (λ s. StopsAt s folder first w before after error) c.first_frame.ensures.unchanged c.in_err-visit_all.ensures.failed)))

pub returns-in_err-visit_all-clause-told : goal.returns-in_err-visit_all-clause-told
returns-in_err-visit_all-clause-told g c =
    let stored = g.F.Files.stored c.args.files.now in
    let before = g.F.Files.faults c.args.files.now in
    let after = g.F.Files.faults c.visit_all.new.files in
    told_answer stored c.args.main.now before after c.from_residual-in_err-visit_all.result (returns-in_err-visit_all-clause-failed g c)

pub returns-clause-loaded : goal.returns-clause-loaded
returns-clause-loaded g c =
    let stored = g.F.Files.stored c.args.files.now in
    let main = c.args.main.now in
    let folder = c.folder_of-folder.result.now in
    let initial = g.F.Files.faults c.args.files.now in
    let before = g.F.Files.faults c.first_frame.new.files in
    let w = walked_of c.first_frame.new.walk in
    let all = walked_of c.visit_all.new.walk in
    let first = c.in_ok-first.first in
    record {
      all = all;
      walks = walks_on stored main folder first w initial before (walked all) c.in_ok-first.ensures.is (subst (λ n. IsFolder n folder) c.as_bytes.ensures.value c.folder_of-folder.ensures)
          (subst (λ s. Visits s folder first.file first.closing w first.uses.items (walked all)) c.first_frame.ensures.unchanged c.in_ok-visit_all.ensures.visited);
      is_forest = c.into_forest.ensures;
    }
