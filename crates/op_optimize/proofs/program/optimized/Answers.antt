use Rattle.std.proofs.Common.{subst}
use Rattle.op_optimize.specs.Optimizing.{Improved}
use Rattle.op_optimize.specs.Simplifying.{RoutineIs}
use Rattle.op_optimize.proofs.program.optimized.Goals as goal

pub returns-then-better-routine : goal.returns-then-better-routine
returns-then-better-routine c =
    let made = subst (RoutineIs c.args.routine) c.in-Some.is c.in_ok-simplified_routine.ensures in
    Improved (record { live = made.0; middle = c.in-Some.simple; simplifies = made.1; renames = c.in_ok-better-in-Some.ensures; registers = c.if-better-routine.true })
