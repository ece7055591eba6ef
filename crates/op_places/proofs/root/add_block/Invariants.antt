use Rattle.std.proofs.Common.{◌≡◌, take}
use Rattle.std.specs.List.{fold}
use Rattle.op_places.specs.Homes.{with_instruction}
use Rattle.op_places.proofs.root.add_block.Given as goal

abbrev pub invariant-loop-instruction : goal.invariant-loop-instruction
invariant-loop-instruction l =
    l.roots.items ≡ fold with_instruction l.fn.roots.items (take l.instruction-index l.instruction-items)
