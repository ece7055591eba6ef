use Rattle.op_lower.proofs.ProgramLemmas.{unit_put}
use Rattle.op_lower.proofs.program.begin_unit.Goals as goal

pub returns : goal.returns
returns c = unit_put c.make_due.result c.args.code.now.items c.enter.new.code.items c.make_due.new.code.items c.args.unit.now c.in_ok-enter.ensures c.make_due.ensures
