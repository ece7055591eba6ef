use Rattle.std.proofs.Common.{refl}
use Rattle.op_check_unit.proofs.Finding.{found_as, unit_number_is}
use Rattle.op_check_unit.proofs.unit_names.UnitNames.number_of.Goals as goal

pub returns : goal.returns
returns c =
    let numbers = c.self.inside.numbering.numbers in
    let name = c.args.name.now.text in
    let k = c.in_ok-number.number in
    unit_number_is c.self.inside.order.now c.args.self.now name numbers k c.self.invariant (found_as numbers c.as_slice.result.now name k k c.in_ok-number.ensures c.as_slice.ensures refl) c.self.view_is
