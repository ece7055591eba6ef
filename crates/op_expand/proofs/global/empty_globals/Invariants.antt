use Rattle.std.proofs.Common.{◌≡◌, replicate}
use Rattle.op_expand.specs.Programs.{no_bytes}
use Rattle.op_expand.proofs.global.empty_globals.Given as goal

abbrev pub invariant-loop-row : goal.invariant-loop-row
invariant-loop-row l =
    l.globals.items ≡ replicate l._row no_bytes
