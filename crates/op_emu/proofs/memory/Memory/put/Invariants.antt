use Rattle.std.proofs.Common.{◌≡◌, ◌≤◌, ◌+◌, ◌++◌, ℕ, List, IsTrue}
use Rattle.op_base.specs.Outside.{appended}
use Rattle.op_rv.specs.State.{all_from, bytes_from}
use Rattle.op_emu.specs.Region.{readable_in, byte_in}
use Rattle.op_emu.specs.Segments.{regions_of}
use Rattle.op_emu.proofs.memory.Memory.put.Given as goal

abbrev pub invariant-loop-left : goal.invariant-loop-left
invariant-loop-left g l =
    let regions = regions_of l.self.segments.items in
    let bytes = bytes_from (byte_in regions) in
    let sink = g.W.Sink in
    record {
      end : l.at + l.left ≡ l.fn.at + l.count;
      counts : sink.faults l.fn.to ≤ sink.faults l.to;
      readable : IsTrue (all_from (readable_in regions) l.at l.left);
      sent : (front : List ℕ) × (sink.written l.to ≡ appended (sink.written l.fn.to) front) × (front ++ bytes l.at l.left ≡ bytes l.fn.at l.count);
    }

abbrev pub decreases-loop-left : goal.decreases-loop-left
decreases-loop-left g l = l.left
