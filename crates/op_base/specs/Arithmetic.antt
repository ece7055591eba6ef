-- What the arithmetic of `Integer` cites.
use Rattle.std.specs.Prelude.{ℕ, ℤ, ◌%◌}
use Rattle.std.specs.Int.{w32, cast_unsigned}

-- the low five bits of a shift's right operand
abbrev pub shift_count : ℤ → ℕ
shift_count b = cast_unsigned w32 b % 32
