use Rattle.std.proofs.Common.{◌≡◌, ◌++◌, drop}
use Rattle.op_optimize.specs.Renaming.{renamed_code}
use Rattle.op_optimize.proofs.renaming.renamed_code.Given as goal

-- with what is left it is the whole
abbrev pub invariant-loop-instruction : goal.invariant-loop-instruction
invariant-loop-instruction l = l.made.items ++ renamed_code l.names (drop l.instruction-index l.code) ≡ renamed_code l.fn.names l.fn.code
