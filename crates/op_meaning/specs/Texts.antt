-- Texts: what Write makes of values, how texts are compared, cut and changed, and which numbers they denote. (Free Pascal Reference Guide,
-- "Ansistrings"; reference of the unit System, "Write", "Copy", "SetLength" and "Val".)
use Rattle.std.specs.Prelude.{ℕ, zero, suc, ◌+◌, ◌-◌, ◌*◌, ◌/◌, ◌%◌, ℤ, pos, negsuc, neg_ℤ, unsigned_abs, int_lt, nat_eq, nat_le, nat_lt, Bool, true, false, ◌&&◌, ◌||◌, List, [], ◌∷◌, ◌++◌, length, take, drop, replicate, codes, if◌then◌else◌}
use Rattle.std.specs.Int.{w32, int_wrap, int_rem_euclid}
use Rattle.std.specs.Ordering.{int_eq}

-- ---- what Write makes of values

unfoldable pub decimal_by : ℕ → ℕ → List ℕ
decimal_by zero n = []
decimal_by (suc k) n = if nat_lt n 10 then (48 + n) ∷ [] else decimal_by k (n / 10) ++ (48 + n % 10) ∷ []

-- an integer is written in decimal, with a minus where it is negative
abbrev pub text_of_number : ℤ → List ℕ
text_of_number n = if int_lt n (pos 0) then 45 ∷ decimal_by 10 (unsigned_abs n) else decimal_by 10 (unsigned_abs n)

abbrev pub text_of_truth : ℤ → List ℕ
text_of_truth n = if int_eq n (pos 0) then codes "FALSE" else codes "TRUE"

abbrev pub byte_of : ℤ → ℕ
byte_of n = unsigned_abs (int_rem_euclid n (pos 256))

abbrev pub text_of_char : ℤ → List ℕ
text_of_char n = byte_of n ∷ []

-- a width below 0 is none
abbrev pub width_of : ℤ → ℕ
width_of n = if int_lt n (pos 0) then 0 else unsigned_abs n

-- blanks stand on the left, and nothing is cut
abbrev pub padded : ℕ → List ℕ → List ℕ
padded width text = replicate {A = ℕ} (width - length text) 32 ++ text

abbrev pub line_feed : List ℕ
line_feed = 10 ∷ []

-- an error number in three digits
abbrev pub digits_of : ℕ → List ℕ
digits_of n = (48 + n / 100 % 10) ∷ (48 + n / 10 % 10) ∷ (48 + n % 10) ∷ []

-- ---- comparisons, pieces and changes

-- below zero where the first one comes before the second one by its bytes, above zero where it comes behind it, and zero where they are equal
unfoldable pub order_of : List ℕ → List ℕ → ℤ
order_of [] [] = pos 0
order_of [] (y ∷ ys) = negsuc 0
order_of (x ∷ xs) [] = pos 1
order_of (x ∷ xs) (y ∷ ys) = if nat_eq x y then order_of xs ys else if nat_lt x y then negsuc 0 else pos 1

-- a number below zero counts as zero
abbrev pub at_least_zero : ℤ → ℕ
at_least_zero n = if int_lt n (pos 0) then 0 else unsigned_abs n

-- so many behind so many, or what there is of these
abbrev pub piece_of : {A : Type 0} → (before count : ℕ) → List A → List A
piece_of before count xs = take count (drop before xs)

-- cut, or filled with zeros
abbrev pub resized : ℕ → List ℕ → List ℕ
resized n bytes = take n bytes ++ replicate {A = ℕ} (n - length bytes) 0

-- with another byte behind so many
abbrev pub with_byte : (before byte : ℕ) → List ℕ → List ℕ
with_byte before byte bytes = take before bytes ++ byte ∷ drop (suc before) bytes

-- ---- what texts denote

-- a number and 0, or the place of the first character that no text of a number has there
pub record Denoted : Type 0 where
  pub number : ℤ
  pub code : ℕ

-- How a number is spelled: to which base, up to which number, and what its digits stand for. Decimal ones have a sign, all others are the
-- two's complement of 32 bits.
pub record Spelling : Type 0 where
  pub base : ℕ
  pub most : ℕ
  pub value : ℕ → ℤ

abbrev decimal : Spelling
decimal = record { base = 10; most = 2147483647; value = λ n. pos n }

abbrev negative_decimal : Spelling
negative_decimal = record { base = 10; most = 2147483648; value = λ n. neg_ℤ (pos n) }

abbrev in_word : ℕ → Spelling
in_word base = record { base = base; most = 4294967295; value = λ n. int_wrap w32 (pos n) }

-- what is above all digits is no digit
abbrev digit_of : ℕ → ℕ
digit_of b =
    if nat_le 48 b && nat_le b 57 then b - 48
    else if nat_le 97 b && nat_le b 102 then b - 87
    else if nat_le 65 b && nat_le b 70 then b - 55
    else 36

-- the digits from the one at this place on, where those in front of it come to n, and `any` says that there are some
unfoldable pub digits_from : Spelling → (place : ℕ) → (any : Bool) → (n : ℕ) → List ℕ → Denoted
digits_from s place true n [] = record { number = s.value n; code = 0 }
digits_from s place false n [] = record { number = pos 0; code = place }
digits_from s place any n (b ∷ bs) =
    if nat_lt (digit_of b) s.base && nat_le (n * s.base + digit_of b) s.most
    then digits_from s (suc place) true (n * s.base + digit_of b) bs
    else record { number = pos 0; code = place }

-- a sign or the prefix of a base, and digits
abbrev pub spelled : (place b : ℕ) → List ℕ → Denoted
spelled place b bs =
    if nat_eq b 36 then digits_from (in_word 16) (suc place) false 0 bs
    else if nat_eq b 38 then digits_from (in_word 8) (suc place) false 0 bs
    else if nat_eq b 37 then digits_from (in_word 2) (suc place) false 0 bs
    else if nat_eq b 43 then digits_from decimal (suc place) false 0 bs
    else if nat_eq b 45 then digits_from negative_decimal (suc place) false 0 bs
    else digits_from decimal place false 0 (b ∷ bs)

-- blanks and tabs in front do not count
unfoldable pub denoted_from : (place : ℕ) → List ℕ → Denoted
denoted_from place [] = record { number = pos 0; code = place }
denoted_from place (b ∷ bs) = if nat_eq b 32 || nat_eq b 9 then denoted_from (suc place) bs else spelled place b bs

abbrev pub denoted : List ℕ → Denoted
denoted bytes = denoted_from 1 bytes
