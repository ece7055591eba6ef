use Rattle.std.proofs.Common.{◌≡◌, ℕ, ◌*◌, ◌<◌, length, get_or}
use Rattle.op_rv.specs.State.{word_at}
use Rattle.op_emu.specs.Rows.{IsRowOf}
use Rattle.op_emu.specs.declared.row.Row.TheVariants.{Other}
use Rattle.op_emu.proofs.loader.rows.Given as goal

abbrev pub invariant-loop-k : goal.invariant-loop-k
invariant-loop-k l =
    record {
      many : length l.rows.items ≡ l.k;
      rows_of : (j : ℕ) → j < length l.rows.items → IsRowOf (word_at (λ n. get_or l.segment.bytes.items n 0) (4 * j)) (get_or l.rows.items j Other);
    }
