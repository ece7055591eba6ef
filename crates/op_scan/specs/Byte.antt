-- Kinds of bytes (Free Pascal Reference Guide, "Symbols").
use Rattle.std.specs.Prelude.{ℕ, Bool, false, List, [], ◌∷◌, ◌||◌, not, nat_eq, nat_lt}
use Rattle.std.specs.Char.{is_ascii_alphabetic, is_ascii_alphanumeric, digit_value}
use Rattle.op_scan.specs.declared.number.Base.{Base}
use Rattle.op_scan.specs.declared.number.Base.TheVariants.{Decimal, Hexadecimal, Octal, Binary}
use Rattle.op_scan.specs.declared.byte.ByteKind.{ByteKind}
use Rattle.op_scan.specs.declared.byte.ByteKind.TheVariants.{NameByte, Blank, NotBlank, NotLineFeed, Digit}

-- a letter or `_`
unfoldable pub is_name_start : ℕ → Bool
is_name_start byte = is_ascii_alphabetic byte || nat_eq byte 95

-- a letter, a digit or `_`
unfoldable pub is_name_byte : ℕ → Bool
is_name_byte byte = is_ascii_alphanumeric byte || nat_eq byte 95

-- blank, tab, line feed, form feed or carriage return
unfoldable pub is_blank : ℕ → Bool
is_blank byte = nat_eq byte 32 || nat_eq byte 9 || nat_eq byte 10 || nat_eq byte 12 || nat_eq byte 13

-- carriage return or line feed
unfoldable pub is_line_end : ℕ → Bool
is_line_end byte = nat_eq byte 13 || nat_eq byte 10

abbrev pub radix_of : Base → ℕ
radix_of Decimal = 10
radix_of Hexadecimal = 16
radix_of Octal = 8
radix_of Binary = 2

unfoldable pub is_digit_in : Base → ℕ → Bool
is_digit_in base byte = nat_lt (digit_value byte) (radix_of base)

-- the byte is of this kind
abbrev pub is_of : ByteKind → ℕ → Bool
is_of NameByte byte = is_name_byte byte
is_of Blank byte = is_blank byte
is_of NotBlank byte = not (is_blank byte)
is_of NotLineFeed byte = not (nat_eq byte 10)
is_of (Digit base) byte = is_digit_in base byte

-- the first byte is this one
abbrev pub begins_with : List ℕ → ℕ → Bool
begins_with [] byte = false
begins_with (first ∷ after) byte = nat_eq first byte
