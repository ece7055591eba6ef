use Rattle.std.proofs.Common.{◌≡◌, ◌++◌, take}
use Rattle.op_link.specs.Linking.{halves}
use Rattle.op_link.proofs.elf.push_halves.Given as goal

abbrev pub invariant-loop-field : goal.invariant-loop-field
invariant-loop-field l = l.image.items ≡ l.fn.image.items ++ halves (take l.field-index l.fields)
