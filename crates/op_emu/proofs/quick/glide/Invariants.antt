use Rattle.std.proofs.Common.{ℕ, ◌+◌, ◌*◌, ◌-◌, ◌<◌, ◌≤◌, List, IsTrue, length}
use Rattle.op_rv.specs.Step.{after}
use Rattle.op_emu.specs.Quick.{Goes}
use Rattle.op_emu.specs.Rows.{AreDecoded}
use Rattle.op_emu.specs.Segments.{regions_of, lie_apart}
use Rattle.op_emu.specs.declared.row.Row.{Row}
use Rattle.op_emu.proofs.quick.glide.Given as goal

abbrev pub invariant-steps : goal.invariant-steps
invariant-steps l =
    record {
      inside : l.k < length l.rows;
      low : length l.rows ≤ l.credit + l.k;
      high : l.credit ≤ l.limit;
      apart : IsTrue (lie_apart l.segments);
      decoded : (start : ℕ) (rows : List Row) → AreDecoded (regions_of l.fn.segments) start rows → AreDecoded (regions_of l.segments) start rows;
      goes : Goes (after (l.credit + l.k - length l.rows)) l.fn.registers.words (l.base + 4 * l.from) (regions_of l.fn.segments) l.words.words (l.base + 4 * l.k) (regions_of l.segments);
    }

abbrev pub decreases-steps : goal.decreases-steps
decreases-steps l = l.limit + length l.rows - (l.credit + l.k)
