use Rattle.std.proofs.Common.{Some, subst}
use Rattle.op_check_unit.proofs.Finding.{noted_next}
use Rattle.op_check_unit.specs.Numbering.{Notes}
use Rattle.op_check_unit.proofs.unit_names.UnitNames.new.Goals as goal

pub loop-number-preserved : goal.loop-number-preserved
loop-number-preserved c =
    let old = c.loop-number.numbering.numbers in
    let new = c.note.new.self.numbers in
    let k = c.loop-number.number in
    noted_next Some c.args.order.now k c.index-order-number.result old new c.loop-number-test.true c.index-order-number.is c.loop-number.invariant
    (subst (λ name. Notes old new (Some name) k) c.as_slice.ensures c.in_ok-note.ensures.noted)
