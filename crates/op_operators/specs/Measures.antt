-- What a function of a literal gives.
use Rattle.std.specs.Prelude.{ℕ, ℤ, pos, Option, Some}
use Rattle.op_core.specs.declared.operation.Function.{Function}
use Rattle.op_core.specs.declared.operation.Function.TheVariants.{Length}
use Rattle.op_semantics.specs.Expressions.{measured_by}

-- its indices begin at 1
abbrev pub measured_text : Function → ℕ → Option ℤ
measured_text Length n = Some (pos n)
measured_text f n = measured_by f (Some (pos 1, pos n))
