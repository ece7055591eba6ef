-- Registers as a list of words.
use Rattle.std.specs.Prelude.{ℕ, List, nat_eq, slice_index, slice_set, if◌then◌else◌}

-- x0 is always 0
abbrev pub value_of : List ℕ → ℕ → ℕ
value_of registers r = if nat_eq r 0 then 0 else slice_index registers r

-- a write of x0 is lost
abbrev pub with_value : List ℕ → ℕ → ℕ → List ℕ
with_value registers r value = if nat_eq r 0 then registers else slice_set registers r value
