use Rattle.std.proofs.Common.{◌≡◌, ◌++◌, ◌+◌, ◌*◌, length}
use Rattle.op_listing.specs.Listing.{lines_of, words_in}
use Rattle.op_listing.proofs.lines.push_lines.Given as goal

abbrev pub invariant-loop-turn : goal.invariant-loop-turn
invariant-loop-turn l =
    record {
      lines : l.text.items ++ lines_of l.at (words_in l.rest) ≡ l.fn.text.items ++ lines_of l.fn.at (words_in l.fn.bytes);
      left : length l.rest + 4 * l._turn ≡ length l.fn.bytes;
    }
