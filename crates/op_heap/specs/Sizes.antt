-- How many bytes the block of a string, an array or an instance has: four words, what it holds, and behind a string's bytes a zero; up to the next
-- multiple of 16. The numbers are exact however large.
use Rattle.std.specs.Prelude.{ℕ, ◌+◌, ◌*◌, ◌/◌}

-- the least multiple of 16 with room for so many bytes
abbrev pub sixteens : ℕ → ℕ
sixteens bytes = 16 * ((bytes + 15) / 16)

abbrev pub string_bytes : (length : ℕ) → ℕ
string_bytes length = sixteens (length + 17)

-- of so many elements of so many bytes each
abbrev pub array_bytes : (count element : ℕ) → ℕ
array_bytes count element = sixteens (count * element + 16)

-- of fields that take so many bytes
abbrev pub instance_bytes : (fields : ℕ) → ℕ
instance_bytes fields = sixteens (fields + 16)
