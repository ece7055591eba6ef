use Rattle.std.proofs.Common.{◌≡◌, ◌≤◌, drop}
use Rattle.op_link.specs.Memory.{behind_globals}
use Rattle.op_link.proofs.globals.end_within.Given as goal

abbrev pub invariant-loop-global : goal.invariant-loop-global
invariant-loop-global l =
    record {
      rest : behind_globals l.as_zero l.end (drop l.global-index l.globals) ≡ behind_globals l.fn.as_zero l.fn.from l.globals;
      small : l.end ≤ 15728640;
    }
