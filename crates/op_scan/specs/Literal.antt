-- Numbers and strings (Free Pascal Reference Guide, "Numbers" and "Character strings").
use Rattle.std.specs.Prelude.{◌≡◌, ◌≢◌, ℕ, ◌+◌, ◌*◌, ◌≤◌, false, List, [], ◌∷◌, ◌++◌, codes, fold, nat_eq, if◌then◌else◌}
use Rattle.std.specs.List.{take_while, flat_map, list_any}
use Rattle.std.specs.Char.{digit_value}
use Rattle.op_scan.specs.Byte.{radix_of, is_digit_in, is_line_end, begins_with}
use Rattle.op_scan.specs.declared.number.Base.{Base}
use Rattle.op_scan.specs.declared.number.Base.TheVariants.{Decimal, Hexadecimal, Octal, Binary}

-- what stands before the digits of a number
abbrev pub mark_of : Base → List ℕ
mark_of Decimal = []
mark_of Hexadecimal = codes "$"
mark_of Octal = codes "&"
mark_of Binary = codes "%"

-- the number that the digits are
abbrev pub value_of : Base → List ℕ → ℕ
value_of base digits = fold (λ value digit. value * radix_of base + digit_value digit) 0 digits

-- all the digits of this base that stand there, and at least one
pub record AreDigits (base : Base) (digits rest : List ℕ) : Type 0 where
  pub some : digits ≢ []
  pub longest : digits ≡ take_while (is_digit_in base) (digits ++ rest)

-- a byte of a quoted part: a quote is doubled
abbrev pub double_of : ℕ → List ℕ
double_of byte = if nat_eq byte 39 then 39 ∷ 39 ∷ [] else byte ∷ []

-- a text with each quote doubled
abbrev pub doubled : List ℕ → List ℕ
doubled text = flat_map double_of text

-- the inside of a quoted part, which stands on one line, and what follows its last quote
pub record IsQuoted (bytes text rest : List ℕ) : Type 0 where
  pub spelled : bytes ≡ doubled text ++ 39 ∷ rest
  pub one_line : list_any is_line_end text ≡ false
  pub last : begins_with rest 39 ≡ false

-- the number of a character
pub record IsCharacter (base : Base) (digits rest : List ℕ) : Type 0 where
  pub are_digits : AreDigits base digits rest
  pub in_range : value_of base digits ≤ 255

-- one part of a string: how it is spelled, what follows, and what it stands for
pub data Part : List ℕ → List ℕ → List ℕ → Type 0 where
  quoted : {text rest : List ℕ} → list_any is_line_end text ≡ false → begins_with rest 39 ≡ false → Part (39 ∷ doubled text ++ 39 ∷ []) rest text
  decimal : {digits rest : List ℕ} → IsCharacter Decimal digits rest → Part (35 ∷ digits) rest (value_of Decimal digits ∷ [])
  hexadecimal : {digits rest : List ℕ} → IsCharacter Hexadecimal digits rest → Part (35 ∷ 36 ∷ digits) rest (value_of Hexadecimal digits ∷ [])

-- no part stands in front of the bytes
abbrev pub NoPart : List ℕ → Type 0
NoPart bytes = (piece rest text : List ℕ) → bytes ≡ piece ++ rest → Part piece rest text → ⊥

-- one does, with these bytes behind it, and what it stands for was put behind the old text
pub record AddsPart (bytes rest old new : List ℕ) : Type 0 where
  pub piece : List ℕ
  pub text : List ℕ
  pub front : bytes ≡ piece ++ rest
  pub is_part : Part piece rest text
  pub added : new ≡ old ++ text

-- from the first bytes to the second there are parts with nothing between them, as many as there can be
pub data Parts : List ℕ → List ℕ → List ℕ → Type 0 where
  stop : {bytes : List ℕ} → NoPart bytes → Parts bytes bytes []
  more : {bytes rest others : List ℕ} (piece after text : List ℕ) → bytes ≡ piece ++ after → Part piece after text → Parts after rest others → Parts bytes rest (text ++ others)

-- what parts stand for was put behind the old text
pub record AddsParts (bytes rest old new : List ℕ) : Type 0 where
  pub text : List ℕ
  pub are_parts : Parts bytes rest text
  pub added : new ≡ old ++ text

-- what a quoted part stands for was put behind the old text
pub record AddsQuoted (bytes rest old new : List ℕ) : Type 0 where
  pub text : List ℕ
  pub is_quoted : IsQuoted bytes text rest
  pub added : new ≡ old ++ text
