-- Words in hexadecimal digits.
use Rattle.std.specs.Prelude.{ℕ, ◌+◌, ◌/◌, ◌%◌, ◌^◌, List, [], ◌∷◌, map, nat_lt, if◌then◌else◌}

-- a digit: 0 to 9, then a to f
abbrev pub hex_digit : ℕ → ℕ
hex_digit d = if nat_lt d 10 then 48 + d else 87 + d

-- a word in eight digits, the highest one first
unfoldable pub eight_digits : ℕ → List ℕ
eight_digits n =
    map
    hex_digit
    (n / 2 ^ 28
    ∷ n / 2 ^ 24 % 16
    ∷ n / 2 ^ 20 % 16
    ∷ n / 2 ^ 16 % 16
    ∷ n / 2 ^ 12 % 16
    ∷ n / 2 ^ 8 % 16
    ∷ n / 2 ^ 4 % 16
    ∷ n % 16
    ∷ [])
