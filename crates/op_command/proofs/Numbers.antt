-- The numbers of the command line.
use Rattle.std.proofs.Common.{◌≡◌, ℕ, ◌<◌, ◌≤◌, ◌^◌, Bool, true, false, ◌&&◌, if◌then◌else◌, nat_eq, nat_lt, nat_le, Option, Some, None, List, [], ◌∷◌, length, cond, drop, refl, ap, sym, ◌∙◌, subst, arith, codes}
use Rattle.std.proofs.lemmas.Bool.{and_from, and_parts, le-leb, leb-true, lt-ltb, ltb-true, not-true}
use Rattle.std.specs.Char.{digit_value}
use Rattle.std.specs.List.{starts_with}
use Rattle.std.specs.Str.Parse.{AllDigits, IsNumeral, digits_value, without_leading_plus}
use Rattle.op_base.proofs.Tests.{eqb-turned}
use Rattle.op_command.specs.Command.{IsNumber, Range}
use Rattle.op_command.specs.Reading.{are_digits, is_in, number_in}

-- ---- tests

pub if_some : {A : Type 0} (test : Bool) (value given : A) → (if test then Some value else None) ≡ Some given → (test ≡ true) × (value ≡ given)
if_some true value given is = (refl, cc)
if_some false value given is = absurd cc

pub if_true : {A : Type 0} (test : Bool) (value given : A) → test ≡ true → value ≡ given → (if test then Some value else None) ≡ Some given
if_true true value given is same = ap Some same
if_true false value given is same = absurd cc

pub is_none_of : {A : Type 0} (o : Option A) → ((a : A) → o ≡ Some a → ⊥) → None ≡ o
is_none_of None never = refl
is_none_of (Some a) never = absurd (never a refl)

-- ---- digits

digits_of : (ds : List ℕ) → are_digits ds ≡ true → AllDigits 10 ds
digits_of [] is = tt
digits_of (d ∷ ds) is =
    let p = and_parts (nat_lt (digit_value d) 10) (are_digits ds) is in
    (ltb-true (digit_value d) 10 p.0, digits_of ds p.1)

are_digits_of : (ds : List ℕ) → AllDigits 10 ds → are_digits ds ≡ true
are_digits_of [] h = refl
are_digits_of (d ∷ ds) (lt, more) =
    and_from (nat_lt (digit_value d) 10) (are_digits ds) (lt-ltb (digit_value d) 10 lt) (are_digits_of ds more)

-- ---- numbers

pub number_read : (range : Range) (digits : List ℕ) (number : ℕ) → number_in range digits ≡ Some number → IsNumber range digits number
unfolding number_in
number_read range digits number is =
    let value = digits_value 10 digits in
    let found = if_some (nat_lt 0 (length digits) && (nat_le (length digits) 20 && (are_digits digits && is_in range value))) value number is in
    let first = and_parts (nat_lt 0 (length digits)) (nat_le (length digits) 20 && (are_digits digits && is_in range value)) found.0 in
    let second = and_parts (nat_le (length digits) 20) (are_digits digits && is_in range value) first.1 in
    let third = and_parts (are_digits digits) (is_in range value) second.1 in
    let fourth = and_parts (nat_le range.least value) (nat_le value range.most) third.1 in
    record {
      numeral = (ltb-true 0 (length digits) first.0, digits_of digits third.0);
      few = leb-true (length digits) 20 second.0;
      value = found.1;
      from = subst (λ n. range.least ≤ n) found.1 (leb-true range.least value fourth.0);
      up_to = subst (λ n. n ≤ range.most) found.1 (leb-true value range.most fourth.1);
    }

pub number_found : (range : Range) (digits : List ℕ) (number : ℕ) → IsNumber range digits number → number_in range digits ≡ Some number
unfolding number_in
number_found range digits number is =
    let value = digits_value 10 digits in
    let from = le-leb range.least value (subst (λ n. range.least ≤ n) (sym is.value) is.from) in
    let to = le-leb value range.most (subst (λ n. n ≤ range.most) (sym is.value) is.up_to) in
    let fourth = and_from (nat_le range.least value) (nat_le value range.most) from to in
    let third = and_from (are_digits digits) (is_in range value) (are_digits_of digits is.numeral.1) fourth in
    let second = and_from (nat_le (length digits) 20) (are_digits digits && is_in range value) (le-leb (length digits) 20 is.few) third in
    let first = and_from (nat_lt 0 (length digits)) (nat_le (length digits) 20 && (are_digits digits && is_in range value)) (lt-ltb 0 (length digits) is.numeral.0) second in
    if_true (nat_lt 0 (length digits) && (nat_le (length digits) 20 && (are_digits digits && is_in range value))) value number first is.value

-- ---- as std reads them

without : (b : Bool) (d : ℕ) (ds : List ℕ) → b ≡ false → drop (cond b 1 0) (d ∷ ds) ≡ d ∷ ds
without true d ds is = absurd cc
without false d ds is = refl

pub alone : (b : Bool) → (b && true) ≡ false → b ≡ false
alone true is = is
alone false is = refl

pub no_plus : (digits : List ℕ) → starts_with nat_eq digits (codes "+") ≡ false → without_leading_plus digits ≡ digits
no_plus [] is = refl
no_plus (d ∷ ds) is = without (nat_eq d 43) d ds (eqb-turned 43 d (alone (nat_eq 43 d) is))

pub number_parsed : (range : Range) (digits : List ℕ) (number : ℕ) → without_leading_plus digits ≡ digits → length digits ≤ 20 → IsNumeral 10 (without_leading_plus digits) → number ≡ digits_value 10 (without_leading_plus digits) → range.least ≤ number → number ≤ range.most → Some number ≡ number_in range digits
number_parsed range digits number whole few numeral value from to =
    sym (number_found range digits number (record {
      numeral = subst (IsNumeral 10) whole numeral;
      few = few;
      value = sym (value ∙ ap (digits_value 10) whole);
      from = from;
      up_to = to;
    }))

pub not_parsed : (range : Range) (digits : List ℕ) → without_leading_plus digits ≡ digits → range.most < 2 ^ 64 → (IsNumeral 10 (without_leading_plus digits) × (digits_value 10 (without_leading_plus digits) < 2 ^ 64) → ⊥) → None ≡ number_in range digits
not_parsed range digits whole small never =
    is_none_of (number_in range digits) (λ number found.
    let is = number_read range digits number found in
    let up = is.up_to in
    let value = is.value in
    let less : digits_value 10 digits < 2 ^ 64 = omega arith in
    never (subst (λ ds. IsNumeral 10 ds × (digits_value 10 ds < 2 ^ 64)) (sym whole) (is.numeral, less)))
