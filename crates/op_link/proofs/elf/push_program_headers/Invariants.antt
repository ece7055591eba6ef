use Rattle.std.proofs.Common.{◌≡◌, ◌++◌, take}
use Rattle.op_link.specs.Linking.{program_headers}
use Rattle.op_link.proofs.elf.push_program_headers.Given as goal

abbrev pub invariant-loop-segment : goal.invariant-loop-segment
invariant-loop-segment l = l.image.items ≡ l.fn.image.items ++ program_headers (take l.segment-index l.segments)
