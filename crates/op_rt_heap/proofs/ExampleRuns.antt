-- Programs that take and give back blocks, run by computation.
use Rattle.std.proofs.Common.{◌≡◌, refl}
use Rattle.op_low.specs.Machine.{act, call, done, load, start, step, step_by_ending, store, write}
use Rattle.op_low.specs.State.{Ended}
use Rattle.op_rt_heap.specs.Example.{ended}
use Rattle.op_rv.specs.State.{all_from, bytes_from}
use Rattle.op_simulation.specs.System.{run}

-- 80 bytes: the two that were given back have become one hole, so the address is that of the heap
pub merged : (ended 81).ending ≡ Ended 0
unfolding run start step step_by_ending done act call load store write all_from bytes_from
merged = refl

-- 96 bytes fit behind the third block, at 144
pub behind_third : (ended 98).ending ≡ Ended 9
unfolding run start step step_by_ending done act call load store write all_from bytes_from
behind_third = refl

-- 1,024 do not fit
pub no_hole : (ended 1025).ending ≡ Ended 203
unfolding run start step step_by_ending done act call load store write all_from bytes_from
no_hole = refl
