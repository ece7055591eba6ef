use Rattle.std.proofs.Common.{◌<◌, ◌≤◌, ◌-◌, length}
use Rattle.op_emu.specs.Filling.{Fills}
use Rattle.op_emu.specs.Segments.{regions_of}
use Rattle.op_emu.proofs.memory.Memory.fill.Given as goal

abbrev pub invariant-loop-done : goal.invariant-loop-done
invariant-loop-done g l =
    let source = g.R.Source in
    record {
      within : l.done ≤ l.count;
      counts : source.faults l.fn.from ≤ source.faults l.from;
      room : 0 < length l.buffer;
      fills : Fills l.done (regions_of l.fn.self.segments.items) (regions_of l.self.segments.items) l.at (source.left l.fn.from) (source.left l.from);
    }

abbrev pub decreases-loop-done : goal.decreases-loop-done
decreases-loop-done g l = l.count - l.done
