use Rattle.std.proofs.Common.{◌≡◌, length, take}
use Rattle.op_link.specs.Image.{number_in, headers}
use Rattle.op_link.proofs.table.program_headers.Given as goal

abbrev pub invariant-loop-k : goal.invariant-loop-k
invariant-loop-k l =
    record {
      room : length l.table ≡ 16;
      all : l.number ≡ number_in l.image;
      same : take l.k l.table ≡ take l.k (headers l.image);
    }
