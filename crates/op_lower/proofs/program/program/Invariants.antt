use Rattle.std.proofs.Common.{◌≡◌, ℕ, ◌++◌, drop}
use Rattle.std.specs.List.{flat_map}
use Rattle.op_core.specs.declared.program.Core.{Core}
use Rattle.op_lower.specs.Seen.{seen}
use Rattle.op_mir.specs.Code.{unit_code}
use Rattle.op_lower.proofs.program.program.Given as goal

-- The units that are left give the whole.
abbrev pub invariant-loop-unit : goal.invariant-loop-unit
invariant-loop-unit l = record { begun : (core : Core) (r : ℕ) → seen core r l.code.items ++ flat_map unit_code (drop l.unit-index l.units) ≡ flat_map unit_code l.units }
