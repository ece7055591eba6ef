use Rattle.std.proofs.Common.{None, Some, ap, slice_get, ◌∙◌}
use Rattle.std.specs.Option.{option_copied, option_flatten}
use Rattle.op_check_unit.proofs.Finding.{export_is, found_as, no_export_is}
use Rattle.op_check_unit.proofs.exports.Exports.of.Goals as goal

pub returns-in-None : goal.returns-in-None
returns-in-None c =
    let numbers = c.self.inside.numbering.numbers in
    let found = found_as numbers c.as_slice.result.now c.args.name.now.text c.in_ok-find.field-0 None c.in_ok-find.ensures c.as_slice.ensures c.in-None.is in
    no_export_is c.self.inside.slots c.args.self.now c.args.name.now numbers c.self.invariant found c.self.view_is

pub returns-in-Some : goal.returns-in-Some
returns-in-Some c =
    let numbers = c.self.inside.numbering.numbers in
    let k = c.in-Some.number in
    let found = found_as numbers c.as_slice.result.now c.args.name.now.text c.in_ok-find.field-0 (Some k) c.in_ok-find.ensures c.as_slice.ensures c.in-Some.is in
    export_is c.self.inside.slots c.args.self.now c.args.name.now numbers k (option_copied c.export_at.result) c.self.invariant found c.self.view_is
    (c.export_at.ensures ∙ ap (λ es. option_flatten (slice_get es k)) c.as_slice-in-Some.ensures)
