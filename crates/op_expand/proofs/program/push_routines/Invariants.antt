use Rattle.std.proofs.Common.{◌≡◌, ◌+◌, ◌++◌, length}
use Rattle.op_expand.specs.Programs.{routines_from}
use Rattle.op_expand.proofs.program.push_routines.Given as goal

-- the routines that are left give the rest
abbrev pub invariant-loop-each : goal.invariant-loop-each
invariant-loop-each l =
    record {
      routines : l.low.items ++ routines_from l.core l.charges l.literals l.id.0 l.each-iterator.rest.items ≡ l.fn.low.items ++ routines_from l.core l.charges l.literals 0 l.initial.each-iterator.rest.items;
      number : l.id.0 + length l.each-iterator.rest.items ≡ length l.initial.each-iterator.rest.items;
    }
