use Rattle.std.proofs.Common.{◌≡◌, [], ◌∷◌, IfSome, get_or, sym, subst}
use Rattle.op_check_unit.proofs.Placing.{in_row}
use Rattle.op_check_unit.specs.Bodies.{said}
use Rattle.op_check_unit.specs.Checking.{Places}
use Rattle.op_core.specs.Statement.{stmts_of}
use Rattle.op_check_unit.proofs.body.place.Goals as goal

pub returns : goal.returns
returns c =
    let core = c.args.core.now in
    let b = c.args.body in
    let old = c.in-Some.row.now in
    let at : old ≡ get_or core.routines b.routine.0 old = subst (λ xs. old ≡ get_or xs b.routine.0 old) c.as_slice.ensures (subst (λ r. IfSome r (λ x. x.now ≡ get_or c.as_slice.result.now b.routine.0 x.now)) c.in-Some.is c.get.ensures.lookup.1) in
    subst (λ rs. Places (said b ∷ []) core (record core { routines = rs })) (sym c.replace.ensures)
    (in_row core b.routine (stmts_of b.statements.items) c.in_ok-row.row old at c.in_ok-row.ensures.others c.in_ok-row.ensures.body)
