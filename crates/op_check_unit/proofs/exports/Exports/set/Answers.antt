use Rattle.std.proofs.Common.{None, Some, ap, refl, slice_get, subst, sym, ◌∙◌}
use Rattle.op_check_unit.proofs.Finding.{blank_is, noted_at}
use Rattle.op_check_unit.specs.Numbering.{Finds, Notes, exported_name}
use Rattle.op_check_unit.specs.Outlines.{is_blank}
use Rattle.op_check_unit.proofs.exports.Exports.set.Goals as goal

pub invariant_of-self-2 : goal.invariant_of-self-2
invariant_of-self-2 c =
    let slots = c.self.inside.slots in
    let old = c.self.inside.numbering.numbers in
    let new = c.note.new.self.numbers in
    let k = c.args.number in
    let blank = blank_is (slice_get slots k) (ap (λ es. is_blank (slice_get es k)) c.self.view_is ∙ c.requires) in
    subst (λ es. Finds exported_name es new) (sym c.replace.ensures)
    (noted_at exported_name slots k (Some c.args.export) None old new blank refl c.self.invariant (subst (λ name. Notes old new (Some name) k) c.as_slice.ensures c.in_ok-note.ensures.noted))
