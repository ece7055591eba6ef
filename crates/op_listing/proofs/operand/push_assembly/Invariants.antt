use Rattle.std.proofs.Common.{◌≡◌, ◌++◌, ◌∷◌, codes, drop}
use Rattle.std.specs.List.{flat_map}
use Rattle.op_listing.specs.Instruction.{assembly, operand_text}
use Rattle.op_listing.specs.declared.operand.Operand.TheVariants.{Register}
use Rattle.op_listing.proofs.operand.push_assembly.Given as goal

abbrev pub invariant-loop-operand : goal.invariant-loop-operand
invariant-loop-operand l =
    l.text.items ++ flat_map (λ operand. codes ", " ++ operand_text operand) (drop l.operand-index l.others)
    ≡ l.fn.text.items ++ assembly l.fn.name (Register l.fn.first ∷ l.fn.others)
