use Rattle.std.proofs.Common.{◌≤◌, ◌-◌, length, take}
use Rattle.op_emu.specs.Segments.{regions_of, IsWritten}
use Rattle.op_emu.proofs.memory.Memory.write.Given as goal

abbrev pub invariant-loop-done : goal.invariant-loop-done
invariant-loop-done l =
    record {
      within : l.done ≤ length l.bytes;
      written : IsWritten (regions_of l.fn.self.segments.items) (regions_of l.self.segments.items) l.at (take l.done l.bytes);
    }

abbrev pub decreases-loop-done : goal.decreases-loop-done
decreases-loop-done l = length l.bytes - l.done
