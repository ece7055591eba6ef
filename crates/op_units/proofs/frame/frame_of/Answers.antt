use Rattle.std.proofs.Common.{Some, IfSome, length, ◌<◌, refl, sym, ap, subst, ◌∙◌}
use Rattle.op_units.specs.Cycles.{FrameIs}
use Rattle.op_units.specs.declared.frame.Frame.{Frame}
use Rattle.op_units.proofs.Entering.{place_at}
use Rattle.op_units.proofs.frame.frame_of.Goals as goal
use Rattle.op_units.proofs.frame.frame_of.Goals.{in-None+in_ok-append-in-None, in-Some}

pub returns : goal.returns
returns c =
    let file = c.args.file in
    let unit = c.args.unit in
    let interface = c.args.interface.items in
    let implementation = c.args.implementation.items in
    let frame : Frame = record { file = file; unit = unit; uses = c.from_vec.result; closing = c.match-closing.closing } in
    elim c.match-closing.branch [
      | in-None+in_ok-append-in-None w ↦ subst (λ k. FrameIs file unit k interface implementation frame) (sym w.in-None.is) (record {
        file_is = refl;
        unit_is = refl;
        uses_are = c.from_vec.ensures.items ∙ ap (λ v. v.items) w.interface-is ∙ w.in_ok-append-in-None.ensures.items;
        closing_is = w.closing-is;
      })
      | in-Some w ↦ subst (λ k. FrameIs file unit k interface implementation frame) (sym w.in-Some.is) (record {
        file_is = refl;
        unit_is = refl;
        uses_are = c.from_vec.ensures.items ∙ ap (λ v. v.items) w.interface-is ∙ w.truncate.ensures.items;
        closing_is = w.closing-is ∙ sym (place_at interface w.in-Some.at w.index.result.now (subst (λ k. IfSome k (λ at. at < length interface)) w.in-Some.is c.requires) ∙ ap (λ u. Some u.place) (sym w.index.ensures));
      })
    ]
