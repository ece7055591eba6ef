use Rattle.std.proofs.Common.{◌≡◌, length, replicate, take}
use Rattle.std.specs.List.{fold}
use Rattle.op_expand.specs.Programs.{no_bytes, with_global}
use Rattle.op_expand.proofs.global.globals_in.Given as goal

abbrev pub invariant-loop-id : goal.invariant-loop-id
invariant-loop-id l =
    l.globals.items ≡ fold (with_global l.core) (replicate (length l.core.variables) no_bytes) (take l.id-index l.id-items)
