use Rattle.std.proofs.Common.{◌≡◌, ◌+◌, ◌-◌, ◌^◌, ◌≤◌, min, drop}
use Rattle.op_mir.proofs.NeedLemmas.{bytes_of_ids}
use Rattle.op_mir.proofs.validity.globals_have_room.Given as goal

abbrev pub invariant-loop-id : goal.invariant-loop-id
invariant-loop-id l = min (l.sum + bytes_of_ids l.core (drop l.id-index l.id-items)) (2 ^ 64 - 1) ≡ min (bytes_of_ids l.core l.id-items) (2 ^ 64 - 1)
