-- Each word of a print stands for its token, before what does not run into it.
use Rattle.std.proofs.Common.{◌≡◌, ◌≢◌, ℕ, ◌+◌, ◌-◌, ◌*◌, ◌/◌, ◌%◌, ◌<◌, ◌≤◌, ◌^◌, Bool, true, false, cond, ◌&&◌, ◌||◌, List, [], ◌∷◌, ◌++◌, length, map, get_or, refl, sym, ap, ◌∙◌, subst, arith}
use Rattle.std.specs.Prelude.{decimal, nat_eq, nat_lt, unwrap_or}
use Rattle.std.proofs.lemmas.Bool.{and_parts, le-ltb, or_parts}
use Rattle.std.specs.Char.{to_ascii_lowercase, digit_value}
use Rattle.std.specs.List.{list_all, take_while}
use Rattle.std.proofs.lemmas.Bool.Decides.{nat_tests}
use Rattle.std.proofs.lemmas.Fmt.{decimal_by_steps}
use Rattle.std.proofs.lemmas.List.Sums.{fold-append, take_while-cons}
use Rattle.op_print.specs.Page.{last_byte, runs_together}
use Rattle.op_print.specs.Scanned.{begins_as_name, IsIdentifierText}
use Rattle.op_print.specs.Spelling.{spelling}
use Rattle.op_scan.specs.Byte.{is_name_byte, is_digit_in}
use Rattle.op_scan.specs.Directive.{rule}
use Rattle.op_scan.specs.Item.{Item, a_name, a_number, Stands, name, number, effect_of}
use Rattle.op_scan.specs.Keyword.{keyword_of}
use Rattle.op_scan.specs.Literal.{value_of}
use Rattle.op_scan.specs.declared.effect.Effect.TheVariants.{Gives, Breaks}
use Rattle.op_scan.specs.declared.number.Base.TheVariants.{Decimal}
use Rattle.op_scan.specs.declared.token.Switches.{Switches}
use Rattle.op_scan.specs.declared.token.TokenKind.{TokenKind}
use Rattle.op_scan.specs.declared.token.TokenKind.TheVariants as kind

-- ---- tests

pub true_false : {A : Type 0} → true ≡ false → A
true_false e = absurd cc

pub and_false : (a b : Bool) → (a && b) ≡ false → a ≡ true → b ≡ false
and_false true b h e = h
and_false false b h e = true_false (sym e)

-- ---- runs of bytes

-- the first byte of what follows fails the test
abbrev pub Stops : (ℕ → Bool) → List ℕ → Type 0
Stops p [] = Unit {0}
Stops p (x ∷ xs) = p x ≡ false

pub take_while-all : (p : ℕ → Bool) (xs rest : List ℕ) → list_all p xs ≡ true → Stops p rest → take_while p (xs ++ rest) ≡ xs
take_while-all p [] [] a h = refl
take_while-all p [] (x ∷ rest) a h = take_while-cons p x rest ∙ ap (λ t. cond t (x ∷ take_while p rest) []) h
take_while-all p (x ∷ xs) rest a h =
    let b = and_parts (p x) (list_all p xs) a in
    take_while-cons p x (xs ++ rest) ∙ ap (λ t. cond t (x ∷ take_while p (xs ++ rest)) []) b.0 ∙ ap (λ ys. x ∷ ys) (take_while-all p xs rest b.1 h)

pub last_all : (p : ℕ → Bool) (x : ℕ) (xs : List ℕ) → list_all p (x ∷ xs) ≡ true → p (get_or (x ∷ xs) (length xs) 10) ≡ true
last_all p x [] a = (and_parts (p x) true a).0
last_all p x (y ∷ xs) a = last_all p y xs (and_parts (p x) (list_all p (y ∷ xs)) a).1

pub last_cons : (x : ℕ) (xs : List ℕ) → last_byte (x ∷ xs) ≡ get_or (x ∷ xs) (length xs) 10
last_cons x xs =
    let n : length (x ∷ xs) - 1 ≡ length xs = omega arith in
    ap (λ k. get_or (x ∷ xs) k 10) n

-- ---- what stands behind a word

-- the first byte of what follows does not run into the last one
abbrev pub IsApart : ℕ → List ℕ → Type 0
IsApart last [] = Unit {0}
IsApart last (x ∷ xs) = runs_together last x ≡ false

pub record Apart (last first : ℕ) : Type 0 where
  pub names : (is_name_byte last && is_name_byte first) ≡ false
  pub strings : (nat_eq last 39 && (nat_eq first 39 || nat_eq first 35)) ≡ false
  pub comment : (nat_eq last 40 && nat_eq first 42) ≡ false
  pub line_comment : (nat_eq last 47 && nat_eq first 47) ≡ false
  pub range : (nat_eq last 46 && nat_eq first 46) ≡ false
  pub assignment : (nat_eq last 58 && nat_eq first 61) ≡ false
  pub less : (nat_eq last 60 && (nat_eq first 61 || nat_eq first 62)) ≡ false
  pub greater : (nat_eq last 62 && nat_eq first 61) ≡ false

pub apart_tests : (last first : ℕ) → runs_together last first ≡ false → Apart last first
unfolding runs_together
apart_tests last first h =
    let a = or_parts _ _ h in
    let b = or_parts _ _ a.1 in
    let c = or_parts _ _ b.1 in
    let d = or_parts _ _ c.1 in
    let e = or_parts _ _ d.1 in
    let f = or_parts _ _ e.1 in
    let g = or_parts _ _ f.1 in
    record { names = a.0; strings = b.0; comment = c.0; line_comment = d.0; range = e.0; assignment = f.0; less = g.0; greater = g.1 }

-- a word stands for its token
pub record IsSpelled (k : TokenKind) (rest : List ℕ) : Type 0 where
  pub item : Item
  pub stands : Stands (spelling k) rest item
  pub gives : (s : Switches) → effect_of s item ≡ Gives k

-- ---- names and reserved words

name_stops : (w rest : List ℕ) → begins_as_name w ≡ true → list_all is_name_byte w ≡ true → IsApart (last_byte w) rest → Stops is_name_byte rest
name_stops w [] b a h = tt
name_stops [] (y ∷ rest) b a h = true_false (sym b)
name_stops (x ∷ xs) (y ∷ rest) b a h =
    let l = ap is_name_byte (last_cons x xs) in
    and_false (is_name_byte (last_byte (x ∷ xs))) (is_name_byte y) (apart_tests (last_byte (x ∷ xs)) y h).names (l ∙ last_all is_name_byte x xs a)

named : (w rest : List ℕ) → begins_as_name w ≡ true → list_all is_name_byte w ≡ true → Stops is_name_byte rest → Stands w rest (a_name w)
named [] rest b a h = true_false (sym b)
named (x ∷ xs) rest b a h = name b (sym (take_while-all is_name_byte (x ∷ xs) rest a h))

pub spelled_name : (k : TokenKind) (rest : List ℕ) → begins_as_name (spelling k) ≡ true → list_all is_name_byte (spelling k) ≡ true → nat_lt 127 (length (spelling k)) ≡ false → unwrap_or (keyword_of (map to_ascii_lowercase (spelling k))) (kind.Identifier (spelling k)) ≡ k → IsApart (last_byte (spelling k)) rest → IsSpelled k rest
spelled_name k rest b a n e h = record {
  item = a_name (spelling k);
  stands = named (spelling k) rest b a (name_stops (spelling k) rest b a h);
  gives = λ s. ap (λ t. cond t (Breaks (rule 65)) (Gives (unwrap_or (keyword_of (map to_ascii_lowercase (spelling k))) (kind.Identifier (spelling k))))) n ∙ ap Gives e;
}

pub spelled_identifier : (text rest : List ℕ) → IsIdentifierText text → IsApart (last_byte text) rest → IsSpelled (kind.Identifier text) rest
spelled_identifier text rest i h = spelled_name (kind.Identifier text) rest i.first i.others (le-ltb 127 (length text) i.short) (ap (λ o. unwrap_or o (kind.Identifier text)) i.not_reserved) h

-- ---- numbers

-- the digits of a number
abbrev pub AreDigitsOf : ℕ → List ℕ → Type 0
AreDigitsOf n ds = (list_all (is_digit_in Decimal) ds ≡ true) × (ds ≢ []) × (value_of Decimal ds ≡ n)

digit_of : (n : ℕ) → n < 10 → (is_digit_in Decimal (48 + n) ≡ true) × (digit_value (48 + n) ≡ n)
unfolding is_digit_in
digit_of n h = (grind (arith, nat_tests), grind (arith, nat_tests))

pub all_append : (p : ℕ → Bool) (xs ys : List ℕ) → list_all p xs ≡ true → list_all p ys ≡ true → list_all p (xs ++ ys) ≡ true
all_append p [] ys a b = b
all_append p (x ∷ xs) ys a b =
    let c = and_parts (p x) (list_all p xs) a in
    ap (λ t. t && list_all p (xs ++ ys)) c.0 ∙ all_append p xs ys c.1 b

value_append : (xs : List ℕ) (y : ℕ) → value_of Decimal (xs ++ y ∷ []) ≡ value_of Decimal xs * 10 + digit_value y
value_append xs y = fold-append _ 0 xs (y ∷ [])

not_nil : (xs : List ℕ) (y : ℕ) → xs ++ y ∷ [] ≢ []
not_nil [] y e = cc
not_nil (x ∷ xs) y e = cc

zero_plus : (n : ℕ) → 0 * 10 + n ≡ n
zero_plus n = omega arith

one_digit : (n : ℕ) → n < 10 → AreDigitsOf n ((48 + n) ∷ [])
one_digit n h =
    let d = digit_of n h in
    (ap (λ t. t && true) d.0, λ e. cc, ap (λ z. 0 * 10 + z) d.1 ∙ zero_plus n)

more_digits : (n : ℕ) (ds : List ℕ) → 10 ≤ n → AreDigitsOf (n / 10) ds → AreDigitsOf n (ds ++ (48 + n % 10) ∷ [])
more_digits n ds h a =
    let m : n % 10 < 10 = omega arith in
    let d = digit_of (n % 10) m in
    let v = value_append ds (48 + n % 10) in
    let w = a.2 in
    let x = d.1 in
    (all_append (is_digit_in Decimal) ds ((48 + n % 10) ∷ []) a.0 (ap (λ t. t && true) d.0), not_nil ds (48 + n % 10), omega (arith, v, w, x))

pub decimal_digits : (n : ℕ) → n < 2 ^ 64 → AreDigitsOf n (decimal n)
decimal_digits n h = decimal_by_steps AreDigitsOf one_digit more_digits n h

digit_is_name : (byte : ℕ) → is_name_byte byte ≡ false → is_digit_in Decimal byte ≡ false
unfolding is_name_byte is_digit_in
digit_is_name byte h = grind (arith, nat_tests)

digit_in_name : (byte : ℕ) → is_digit_in Decimal byte ≡ true → is_name_byte byte ≡ true
unfolding is_name_byte is_digit_in
digit_in_name byte h = grind (arith, nat_tests)

digits_stop : (ds rest : List ℕ) → ds ≢ [] → list_all (is_digit_in Decimal) ds ≡ true → IsApart (last_byte ds) rest → Stops (is_digit_in Decimal) rest
digits_stop ds [] n a h = tt
digits_stop [] (y ∷ rest) n a h = absurd (n refl)
digits_stop (x ∷ xs) (y ∷ rest) n a h =
    let l = ap is_name_byte (last_cons x xs) ∙ digit_in_name (get_or (x ∷ xs) (length xs) 10) (last_all (is_digit_in Decimal) x xs a) in
    digit_is_name y (and_false (is_name_byte (last_byte (x ∷ xs))) (is_name_byte y) (apart_tests (last_byte (x ∷ xs)) y h).names l)

number_stands : (n : ℕ) (ds rest : List ℕ) → AreDigitsOf n ds → Stops (is_digit_in Decimal) rest → Stands ds rest (a_number n)
number_stands n ds rest a h =
    subst (λ v. Stands ds rest (a_number v)) a.2
    (number Decimal (record { some = a.1; longest = sym (take_while-all (is_digit_in Decimal) ds rest a.0 h) }))

pub spelled_number : (n : ℕ) (rest : List ℕ) → n ≤ 2147483648 → IsApart (last_byte (decimal n)) rest → IsSpelled (kind.Number n) rest
spelled_number n rest h a =
    let fits : n < 2 ^ 64 = omega arith in
    let d = decimal_digits n fits in
    record {
      item = a_number n;
      stands = number_stands n (decimal n) rest d (digits_stop (decimal n) rest d.1 d.0 a);
      gives = λ s. ap (λ t. cond t (Breaks (rule 4)) (Gives (kind.Number n))) (le-ltb 2147483648 n h);
    }
