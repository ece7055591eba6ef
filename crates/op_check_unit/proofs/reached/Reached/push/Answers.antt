use Rattle.std.proofs.Common.{[], ◌∷◌, ◌++◌, subst, sym}
use Rattle.op_check_unit.proofs.Marking.{one_marked}
use Rattle.op_check_unit.specs.Numbering.{Marks}
use Rattle.op_check_unit.proofs.reached.Reached.push.Goals as goal

pub invariant_of-self-2 : goal.invariant_of-self-2
invariant_of-self-2 c =
    let numbers = c.self.inside.numbers.items in
    let n = c.args.number in
    subst (λ ns. Marks ns c.mark.new.marks.items) (sym c.in_ok-push.ensures.items)
    (subst (λ marks. Marks (numbers ++ n ∷ []) marks) (sym c.mark.ensures) (one_marked numbers c.self.inside.marks.items n c.self.invariant))
