use Rattle.std.proofs.Common.{◌≡◌, ◌∷◌, take}
use Rattle.std.specs.List.{flat_map}
use Rattle.op_print.specs.Spelling.{quoted_byte}
use Rattle.op_print.proofs.string.quoted.Given as goal

abbrev pub invariant-loop-byte : goal.invariant-loop-byte
invariant-loop-byte l = l.spelled.items ≡ 39 ∷ flat_map quoted_byte (take l.byte-index l.text)
