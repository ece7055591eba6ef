use Rattle.std.proofs.Common.{None, Some, ap, ◌∙◌, arith}
use Rattle.op_check_unit.proofs.Beginning.{enough, few, none_at, some_at}
use Rattle.op_check_unit.proofs.initial.wrong_count.Goals as goal

pub returns-then-items-count : goal.returns-then-items-count
returns-then-items-count c = few c.args.bracket c.args.count c.args.items.now c.if-items-count.true

pub returns-in-None : goal.returns-in-None
returns-in-None c =
    let h = c.if-items-count.false in
    enough c.args.bracket c.args.count c.args.items.now None (omega (arith, h)) (none_at c.args.items.now c.args.count c.in-None.ensures.lookup.3)

pub returns-in-Some : goal.returns-in-Some
returns-in-Some c =
    let h = c.if-items-count.false in
    let found = c.in-Some.ensures.lookup in
    enough c.args.bracket c.args.count c.args.items.now (Some c.start_of_initial.result) (omega (arith, h)) (ap Some c.start_of_initial.ensures ∙ some_at c.args.items.now c.args.count c.in-Some.item.now found.3.0 found.1)
