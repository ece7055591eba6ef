use Rattle.std.proofs.Common.{◌≡◌, ◌+◌}
use Rattle.op_rv.specs.State.{all_from}
use Rattle.op_emu.specs.Segments.{regions_of, right_in}
use Rattle.op_emu.proofs.memory.Memory.allows.Given as goal

abbrev pub invariant-loop-left : goal.invariant-loop-left
invariant-loop-left l =
    let allowed = right_in l.right (regions_of l.self.segments.items) in
    record {
      end : l.at + l.left ≡ l.fn.at + l.count;
      same : all_from allowed l.at l.left ≡ all_from allowed l.fn.at l.count;
    }

abbrev pub decreases-loop-left : goal.decreases-loop-left
decreases-loop-left l = l.left
