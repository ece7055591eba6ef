use Rattle.std.proofs.Common.{◌≡◌, [], ◌∷◌, IfSome, get_or, sym, subst}
use Rattle.op_check_unit.proofs.Rows.{in_variable}
use Rattle.op_check_unit.specs.FirstValues.{Begins, begins_so}
use Rattle.op_core.specs.Initial.{first_value_of}
use Rattle.op_check_unit.proofs.first_value.begin.Goals as goal

pub returns : goal.returns
returns c =
    let core = c.args.core.now in
    let b = c.args.begun in
    let old = c.in-Some.row.now in
    let at : old ≡ get_or core.variables b.variable.0 old = subst (λ xs. old ≡ get_or xs b.variable.0 old) c.as_slice.ensures (subst (λ r. IfSome r (λ x. x.now ≡ get_or c.as_slice.result.now b.variable.0 x.now)) c.in-Some.is c.get.ensures.lookup.1) in
    subst (λ rs. Begins (begins_so b ∷ []) core (record core { variables = rs })) (sym c.replace.ensures)
    (in_variable core b.variable (first_value_of b.value) c.in_ok-row.row old at c.in_ok-row.ensures.others c.in_ok-row.ensures.value)
