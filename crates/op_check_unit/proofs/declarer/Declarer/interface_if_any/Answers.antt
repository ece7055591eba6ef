use Rattle.std.proofs.Common.{ap, map, slice_get, sym, ◌∙◌}
use Rattle.std.specs.Option.{option_copied, option_map}
use Rattle.op_check_unit.proofs.Outlines.{outlined_now}
use Rattle.op_check_unit.specs.Outlines.{is_blank, outline_of}
use Rattle.op_tree.specs.File.{file_of, unit_of}
use Rattle.op_check_unit.proofs.declarer.Declarer.interface_if_any.Goals as goal

pub set-requires : goal.set-requires
set-requires c = ap (λ xs. is_blank (slice_get xs c.args.number)) (sym c.as_slice.ensures) ∙ sym c.is_blank.ensures ∙ c.if-not-is_blank.false

pub returns-clause-outline : goal.returns-clause-outline
returns-clause-outline c =
    let es = c.args.exports.now in
    let k = c.args.number in
    let u = unit_of c.in-Some.unit.now in
    let new = c.interface.new.self in
    outlined_now c.args.order.now (map file_of c.args.files.now.trees.now) k u (outline_of es c.args.self.now) (outline_of c.set.new.self new)
    (ap (λ xs. is_blank (slice_get xs k)) (sym c.as_slice.ensures) ∙ sym c.is_blank.ensures ∙ c.if-not-is_blank.false)
    (ap (λ o. option_map unit_of (option_copied o)) (sym c.in-Some.is) ∙ c.in_ok-unit.ensures)
    (ap (λ xs. outline_of xs new) c.in_ok-set.ensures ∙ c.in_ok-export.ensures.outline)
