use Rattle.std.proofs.Common.{◌≡◌, drop}
use Rattle.op_optimize.specs.Renaming.{is_safe_code}
use Rattle.op_optimize.proofs.harmless.is_safe_code.Given as goal

-- what is left tells it
abbrev pub invariant-loop-k : goal.invariant-loop-k
invariant-loop-k l = is_safe_code l.live l.names l.registers (drop l.k l.code) ≡ is_safe_code l.fn.live l.fn.names l.fn.registers l.fn.code
