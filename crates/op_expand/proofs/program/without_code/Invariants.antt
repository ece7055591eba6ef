use Rattle.std.proofs.Common.{◌≡◌, map, take}
use Rattle.op_expand.specs.Programs.{routine_without_code}
use Rattle.op_expand.proofs.program.without_code.Given as goal

abbrev pub invariant-loop-each : goal.invariant-loop-each
invariant-loop-each l = l.list.items ≡ map routine_without_code (take l.each-index l.each-items)
