use Rattle.std.proofs.Common.{◌≡◌, drop}
use Rattle.op_optimize.specs.Rewriting.{behind, sources}
use Rattle.op_optimize.proofs.rewriting.sources.Given as goal

-- with what is left it is the whole
abbrev pub invariant-loop-register : goal.invariant-loop-register
invariant-loop-register l = behind l.made.items (sources l.facts l.nothing (drop l.register-index l.registers)) ≡ sources l.fn.facts l.fn.nothing l.fn.registers
