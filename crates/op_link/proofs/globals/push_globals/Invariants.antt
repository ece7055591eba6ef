use Rattle.std.proofs.Common.{◌≡◌, ◌≤◌, ◌++◌, drop, false}
use Rattle.op_link.specs.Memory.{behind_globals, bytes_of_globals, initial_bytes}
use Rattle.op_link.proofs.globals.push_globals.Given as goal

abbrev pub invariant-loop-global : goal.invariant-loop-global
invariant-loop-global l =
    record {
      rest : l.image.items ++ bytes_of_globals l.from (drop l.global-index l.globals) ≡ l.fn.image.items ++ initial_bytes l.globals;
      few : behind_globals false l.from (drop l.global-index l.globals) ≤ 15728640;
    }
