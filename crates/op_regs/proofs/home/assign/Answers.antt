use Rattle.std.proofs.Common.{subst}
use Rattle.op_regs.specs.Homes.{AreAllHomes}
use Rattle.op_regs.proofs.HomeLemmas.{all_given, all_needed}
use Rattle.op_regs.proofs.home.assign.Goals as goal

pub returns-clause-needed : goal.returns-clause-needed
returns-clause-needed c = all_needed c.args.low.now (record { routines = c.in_ok-routines.routines }) (subst (λ routines. AreAllHomes routines c.in_ok-routines.routines) c.as_slice.ensures c.in_ok-routines.ensures)

pub returns-clause-given : goal.returns-clause-given
returns-clause-given c = all_given c.args.low.now (record { routines = c.in_ok-routines.routines }) (subst (λ routines. AreAllHomes routines c.in_ok-routines.routines) c.as_slice.ensures c.in_ok-routines.ensures)
