use Rattle.std.proofs.Common.{◌≡◌, ◌<◌, ap, arith, get_or, length, map, subst, sym, ◌∙◌}
use Rattle.op_check_unit.proofs.Clear.{none_kept, some_kept}
use Rattle.op_check_unit.proofs.UnitSteps.{unit_more, unit_stops, units_end}
use Rattle.op_tree.specs.File.{file_of}
use Rattle.op_check_unit.proofs.declarer.Declarer.units.Goals as goal

pub returns-then-is_some : goal.returns-then-is_some
returns-then-is_some c = λ faults told.
    let q = some_kept c.unit_if_any.new.self.sink.kept (sym c.is_some.ensures ∙ c.if-is_some.true) in
    unit_stops (map file_of c.args.files.now.trees.now) c.args.exports.now c.loop-export.export-index c.export-item.result c.args.self.now c.loop-export.self c.unit_if_any.new.self q.0 (subst (λ xs. c.loop-export.export-index < length xs) c.as_slice-export-items.ensures c.loop-export-test.true) (subst (λ xs. c.export-item.result ≡ get_or xs c.loop-export.export-index c.export-item.result) c.as_slice-export-items.ensures c.export-item.is) c.loop-export.invariant (λ f t. c.in_ok-unit_if_any.ensures f t) q.1 faults told

pub loop-export-preserved : goal.loop-export-preserved
loop-export-preserved c =
    unit_more (map file_of c.args.files.now.trees.now) c.args.exports.now c.loop-export.export-index c.export-item.result c.args.self.now c.loop-export.self c.unit_if_any.new.self (subst (λ xs. c.loop-export.export-index < length xs) c.as_slice-export-items.ensures c.loop-export-test.true) (subst (λ xs. c.export-item.result ≡ get_or xs c.loop-export.export-index c.export-item.result) c.as_slice-export-items.ensures c.export-item.is) c.loop-export.invariant (λ f t. c.in_ok-unit_if_any.ensures f t)
    (none_kept c.unit_if_any.new.self.sink.kept (sym c.is_some.ensures ∙ c.if-is_some.false))

pub returns : goal.returns
returns c = λ faults told.
    let h = c.loop-export-test.false in
    let slots = ap length c.as_slice-export-items.ensures in
    units_end (map file_of c.args.files.now.trees.now) c.args.exports.now c.loop-export.export-index c.args.self.now c.loop-export.self (omega (arith, h, slots)) c.loop-export.invariant faults told
