use Rattle.std.proofs.Common.{◌≡◌, ◌++◌, drop, map}
use Rattle.op_optimize.specs.Renaming.{renamed}
use Rattle.op_optimize.proofs.renaming.renamed_all.Given as goal

-- with what is left it is the whole
abbrev pub invariant-loop-register : goal.invariant-loop-register
invariant-loop-register l = l.made.items ++ map (renamed l.names) (drop l.register-index l.registers) ≡ map (renamed l.fn.names) l.fn.registers
