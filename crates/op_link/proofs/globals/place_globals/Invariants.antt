use Rattle.std.proofs.Common.{◌≡◌, ◌≤◌, ◌++◌, drop, false, true}
use Rattle.op_link.specs.Memory.{addresses_from, behind_globals, global_addresses}
use Rattle.op_link.proofs.globals.place_globals.Given as goal

abbrev pub invariant-loop-global : goal.invariant-loop-global
invariant-loop-global l =
    record {
      placed : l.addresses.items ++ addresses_from l.start l.own l.other (drop l.global-index l.globals) ≡ global_addresses l.fn.start l.globals;
      own : behind_globals false l.own (drop l.global-index l.globals) ≤ 15728640;
      other : behind_globals true l.other (drop l.global-index l.globals) ≤ 15728640;
    }
