use Rattle.std.proofs.Common.{◌≤◌, arith, refl, sym, ap, subst, ◌∙◌, Ok, Err}
use Rattle.op_base.proofs.Tests.{rose_since}
use Rattle.op_core.specs.Faults.{broken}
use Rattle.op_units.specs.Walk.{Visits, walked_of}
use Rattle.op_units.proofs.Loading.{handed_on, none_left, refused_by, use_in}
use Rattle.op_units.proofs.Walking.{Completes, closed, goes_on_in, put_in_order, stopped}
use Rattle.op_units.proofs.loader.visit_all.Goals as goal
use Rattle.op_units.proofs.loader.visit_all.Goals.{in-Some-pop_front+in_ok-inner-in-Some-pop_front+in_ok-put-in-Some-pop_front, in-None+in-None-closing+in_ok-place-in-None-closing}

pub returns-in_err-inner-in-Some-pop_front-clause-failed : goal.returns-in_err-inner-in-Some-pop_front-clause-failed
returns-in_err-inner-in-Some-pop_front-clause-failed g c =
    let stored = g.F.Files.stored c.args.files.now in
    let folder = c.args.folder.now in
    let initial = g.F.Files.faults c.args.files.now in
    let before = g.F.Files.faults c.loop.files in
    let after = g.F.Files.faults c.visit.new.files in
    let error = c.in_err-inner-in-Some-pop_front.field-0.0 in
    let start = walked_of c.args.walk.now in
    let w = walked_of c.loop.walk in
    let new = walked_of c.visit.new.self in
    let f = c.in-Some.frame in
    let used = c.in-Some-pop_front.used in
    handed_on c.from_residual-in_err-inner-in-Some-pop_front.result c.from_residual-in_err-inner-in-Some-pop_front.ensures.1
    (λ y e. rw e (stopped stored folder c.loop.frames.items c.pop_front.new.self.items c.args.first f used c.pop_front-in-loop.new.self.items start w new initial before after error c.in-Some.ensures.items c.in-Some-pop_front.ensures.items
    (use_in (g.F.Files.stored c.loop.files) stored folder c.as_slice.result.now f.file used w new before after (Err error) c.loop.invariant.stays c.as_slice.ensures c.in_err-inner-in-Some-pop_front.ensures.comes)
    (rose_since initial before after c.loop.invariant.rises) c.loop.invariant.completes))

pub returns-in-Some-closing-clause-failed : goal.returns-in-Some-closing-clause-failed
returns-in-Some-closing-clause-failed g c =
    let stored = g.F.Files.stored c.args.files.now in
    let folder = c.args.folder.now in
    let f = c.in-Some.frame in
    let place = c.in-Some-closing.place in
    closed stored folder c.loop.frames.items c.pop_front.new.self.items c.args.first f place (walked_of c.args.walk.now) (walked_of c.loop.walk) (g.F.Files.faults c.args.files.now) (g.F.Files.faults c.loop.files) c.refused.result c.in-Some.ensures.items (none_left f.uses.items c.pop_front-in-loop.new.self.items c.in-None.ensures.items c.in-None.ensures.rest) c.in-Some-closing.is
    (refused_by c.as_slice-in-Some-closing.result.now f.file c.broken.result (broken 11 place) c.refused.result c.as_slice-in-Some-closing.ensures c.broken.ensures c.refused.ensures) c.loop.invariant.completes

pub loop-preserved : goal.loop-preserved
loop-preserved g c =
    let stored = g.F.Files.stored c.args.files.now in
    let folder = c.args.folder.now in
    let initial = g.F.Files.faults c.args.files.now in
    let before = g.F.Files.faults c.loop.files in
    let whole = Visits stored folder c.args.first.file c.args.first.closing (walked_of c.args.walk.now) c.args.first.uses.items in
    let frames = c.loop.frames.items in
    let rest = c.pop_front.new.self.items in
    let f = c.in-Some.frame in
    let m = c.match-pop_front-2 in
    elim c.match-pop_front-2.branch [
      | in-Some-pop_front+in_ok-inner-in-Some-pop_front+in_ok-put-in-Some-pop_front w ↦ record {
        stays = ap (λ x. g.F.Files.stored x) w.files-is ∙ w.visit.ensures.unchanged ∙ c.loop.invariant.stays;
        rises = subst (λ x. initial ≤ g.F.Files.faults x) (sym w.files-is) (omega (arith, c.loop.invariant.rises, w.visit.ensures.counts));
        completes = subst (λ x. Completes stored folder whole x.items (walked_of m.walk)) (sym w.frames-is) (subst (λ x. Completes stored folder whole w.put-in-Some-pop_front.new.frames.items (walked_of x)) (sym w.walk-is)
            (goes_on_in stored folder whole frames rest w.put-in-Some-pop_front.new.frames.items f (record { file = f.file; unit = f.unit; uses = c.pop_front-in-loop.new.self; closing = f.closing }) w.in-Some-pop_front.used (walked_of c.loop.walk) (walked_of w.visit.new.self) before (g.F.Files.faults w.visit.new.files) w.in_ok-inner-in-Some-pop_front.inner c.in-Some.ensures.items refl refl refl w.in-Some-pop_front.ensures.items
            (use_in (g.F.Files.stored c.loop.files) stored folder w.as_slice.result.now f.file w.in-Some-pop_front.used (walked_of c.loop.walk) (walked_of w.visit.new.self) before (g.F.Files.faults w.visit.new.files) (Ok w.in_ok-inner-in-Some-pop_front.inner) c.loop.invariant.stays w.as_slice.ensures w.in_ok-inner-in-Some-pop_front.ensures.comes)
            w.in_ok-put-in-Some-pop_front.ensures c.loop.invariant.completes));
      }
      | in-None+in-None-closing+in_ok-place-in-None-closing w ↦ record {
        stays = ap (λ x. g.F.Files.stored x) w.files-is ∙ c.loop.invariant.stays;
        rises = subst (λ x. initial ≤ g.F.Files.faults x) (sym w.files-is) c.loop.invariant.rises;
        completes = subst (λ x. Completes stored folder whole x.items (walked_of m.walk)) (sym w.frames-is) (subst (λ x. Completes stored folder whole rest (walked_of x)) (sym w.walk-is)
            (put_in_order stored folder whole frames rest f (walked_of c.loop.walk) (walked_of w.place.new.self) c.in-Some.ensures.items (none_left f.uses.items c.pop_front-in-loop.new.self.items w.in-None.ensures.items w.in-None.ensures.rest) w.in-None-closing.is w.in_ok-place-in-None-closing.ensures c.loop.invariant.completes));
      }
    ]
