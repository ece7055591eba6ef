use Rattle.std.proofs.Common.{◌≡◌, ◌++◌}
use Rattle.op_optimize.specs.Each.{Each}
use Rattle.op_optimize.specs.Optimizing.{OptimizesRoutine}
use Rattle.op_optimize.proofs.program.optimized_routines.Given as goal

-- the routines in front
abbrev pub invariant-loop-routine : goal.invariant-loop-routine
invariant-loop-routine l = (l.yielded ++ l.routine-iterator.rest.items ≡ l.fn.routines) × Each OptimizesRoutine l.yielded l.made.items
