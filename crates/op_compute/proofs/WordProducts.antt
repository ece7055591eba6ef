-- Products, quotients and remainders of words and of the numbers that they are.
use Rattle.std.proofs.Common.{◌≡◌, ◌≢◌, ℕ, ℤ, zero, suc, pos, negsuc, ◌-◌, ◌/◌, ◌%◌, ◌^◌, ◌<◌, ◌≤◌, ◌*ℤ◌, neg_ℤ, unsigned_abs, Bool, true, false, not, ◌&&◌, nat_eq, nat_le, inl, inr, refl, ap, ap₂, sym, ◌∙◌, subst, arith}
use Rattle.std.proofs.Math.Nat.{div-le_self}
use Rattle.std.proofs.lemmas.Bool.{cases_lt}
use Rattle.std.proofs.lemmas.Bool.Decides.{nat_tests}
use Rattle.std.proofs.lemmas.Int.{ints, wrapping_mul-bits, of_z-to_z, unsigned_abs-mul, rem_below, fits_signed_from_abs}
use Rattle.std.proofs.lemmas.Nat.{and_shr, and_le_l, mul-le}
use Rattle.std.specs.Int.{w32, int_wrap, int_rem_euclid}
use Rattle.std.specs.Int.Bits.{bit_and}
use Rattle.std.specs.Prelude.{int_div, int_rem, int_lt}
use Rattle.std.specs.Ordering.{int_eq}
use Rattle.op_compute.proofs.Words.{unsigned_is, wrapped_is, number_is, word_fits}
use Rattle.op_compute.proofs.WordBits.{sign_none, sign_all}
use Rattle.op_compute.specs.Meaning.{IsWordOf}
use Rattle.op_compute.specs.Straight.{alu_of, shift_of, takes}
use Rattle.op_meaning.specs.Numbers.{fits_word, wrapped}
use Rattle.op_rv.proofs.Numbers.{abs_div, abs_signed, not_negative}
use Rattle.op_rv.specs.Operation.{signed, upper_word, word_from}
use Rattle.op_rv.specs.declared.instruction.AluOp.TheVariants.{And, Mul, Mulh, Div, Rem}
use Rattle.op_rv.specs.declared.instruction.BranchOp.TheVariants.{Beq, Blt, Bne}
use Rattle.op_rv.specs.declared.instruction.ShiftOp.TheVariants.{Srai}

-- ---- products

pub product_is : (a b : ℕ) (x y : ℤ) → IsWordOf a x → IsWordOf b y → IsWordOf (alu_of Mul a b) (wrapped (x *ℤ y))
unfolding alu_of
product_is a b x y p q =
    record { number = wrapping_mul-bits w32 a b p.bound q.bound ∙ ap₂ (λ u v. int_wrap w32 (u *ℤ v)) p.number q.number; bound = omega arith }

abs_product : (a b : ℕ) (x y : ℤ) → IsWordOf a x → IsWordOf b y → unsigned_abs (x *ℤ y) ≤ 2 ^ 62
abs_product a b x y p q =
    let first : unsigned_abs x ≤ 2 ^ 31 = subst (λ z. unsigned_abs z ≤ 2 ^ 31) p.number (abs_signed a p.bound) in
    let second : unsigned_abs y ≤ 2 ^ 31 = subst (λ z. unsigned_abs z ≤ 2 ^ 31) q.number (abs_signed b q.bound) in
    omega (arith, unsigned_abs-mul x y, mul-le (unsigned_abs x) (unsigned_abs y) (2 ^ 31) (2 ^ 31) first second)

rem_bound : (z : ℤ) → unsigned_abs (int_rem_euclid z (pos (2 ^ 32))) < 2 ^ 32
rem_bound (pos n) = omega arith
rem_bound (negsuc n) = omega arith

-- the lower word of a number
lower_word : (n : ℕ) (z : ℤ) → IsWordOf n (wrapped z) → n ≡ unsigned_abs (int_rem_euclid z (pos (2 ^ 32)))
unfolding int_wrap
lower_word n z p = sym (unsigned_is n (wrapped z) p) ∙ of_z-to_z w32 (unsigned_abs (int_rem_euclid z (pos (2 ^ 32)))) (rem_bound z)

-- the upper word of a number is the sign of the lower one where the number has 32 bits
upper_is_sign : (z : ℤ) (n : ℕ) → unsigned_abs z ≤ 2 ^ 62 → n ≡ unsigned_abs (int_rem_euclid z (pos (2 ^ 32))) → nat_eq (upper_word z) (shift_of Srai n 31) ≡ fits_word z
upper_is_sign (pos k) n p e =
    elim (cases_lt n (2 ^ 31)) [
      | inl less ↦ let s : shift_of Srai n 31 ≡ 0 = sign_none n less in simp s (grind (arith, nat_tests))
      | inr most ↦ let s : shift_of Srai n 31 ≡ 2 ^ 32 - 1 = sign_all n most (omega arith) in simp s (grind (arith, nat_tests))
    ]
upper_is_sign (negsuc k) n p e =
    elim (cases_lt n (2 ^ 31)) [
      | inl less ↦ let s : shift_of Srai n 31 ≡ 0 = sign_none n less in simp s (grind (arith, nat_tests))
      | inr most ↦ let s : shift_of Srai n 31 ≡ 2 ^ 32 - 1 = sign_all n most (omega arith) in simp s (grind (arith, nat_tests))
    ]

upper_of_product : (a b : ℕ) (x y : ℤ) → IsWordOf a x → IsWordOf b y → alu_of Mulh a b ≡ upper_word (x *ℤ y)
unfolding alu_of
upper_of_product a b x y p q = ap₂ (λ u v. upper_word (u *ℤ v)) p.number q.number

differ : (a b : ℕ) → takes Bne a b ≡ not (nat_eq a b)
unfolding takes
differ a b = refl

pub product_test : (a b : ℕ) (x y : ℤ) → IsWordOf a x → IsWordOf b y → takes Bne (alu_of Mulh a b) (shift_of Srai (alu_of Mul a b) 31) ≡ not (fits_word (x *ℤ y))
product_test a b x y p q =
    let low = alu_of Mul a b in
    differ (alu_of Mulh a b) (shift_of Srai low 31)
    ∙ ap (λ u. not (nat_eq u (shift_of Srai low 31))) (upper_of_product a b x y p q)
    ∙ ap not (upper_is_sign (x *ℤ y) low (abs_product a b x y p q) (lower_word low (x *ℤ y) (product_is a b x y p q)))

-- ---- quotients and remainders

near_is : (z : ℤ) → unsigned_abs z ≤ 2 ^ 31 → IsWordOf (word_from z) (wrapped z)
unfolding int_wrap
near_is (pos n) p = wrapped_is n (omega arith)
near_is (negsuc n) p =
    let same : 2 ^ 32 - suc n ≡ 2 ^ 32 - 1 - n % 2 ^ 32 = omega arith in
    record { number = ap signed same; bound = omega arith }

abs_of : (a : ℕ) (x : ℤ) → IsWordOf a x → unsigned_abs x ≤ 2 ^ 31
abs_of a x p = subst (λ z. unsigned_abs z ≤ 2 ^ 31) p.number (abs_signed a p.bound)

divided : (b : ℕ) → b ≢ 0 → nat_eq b 0 ≡ false
divided b p = grind (arith, nat_tests)

pub quotient_is : (a b : ℕ) (x y : ℤ) → IsWordOf a x → IsWordOf b y → b ≢ 0 → IsWordOf (alu_of Div a b) (wrapped (int_div x y))
unfolding alu_of
quotient_is a b x y p q some =
    let less = abs_div x y in
    let most = abs_of a x p in
    let value : word_from (int_div x y) ≡ word_from (int_div (signed a) (signed b)) = ap₂ (λ u v. word_from (int_div u v)) (sym p.number) (sym q.number) in
    simp (divided b some) (subst (λ v. IsWordOf v (wrapped (int_div x y))) value (near_is (int_div x y) (omega arith)))

some_signed : (b : ℕ) → b < 2 ^ 32 → b ≢ 0 → 0 < unsigned_abs (signed b)
some_signed b p some = grind (arith, ints, nat_tests)

some_number : (b : ℕ) (y : ℤ) → IsWordOf b y → b ≢ 0 → 0 < unsigned_abs y
some_number b y q some = subst (λ z. 0 < unsigned_abs z) q.number (some_signed b q.bound some)

pub remainder_is : (a b : ℕ) (x y : ℤ) → IsWordOf a x → IsWordOf b y → b ≢ 0 → IsWordOf (alu_of Rem a b) (int_rem x y)
unfolding alu_of
remainder_is a b x y p q some =
    let below = rem_below x y (some_number b y q some) in
    let most = abs_of b y q in
    let value : word_from (int_rem x y) ≡ word_from (int_rem (signed a) (signed b)) = ap₂ (λ u v. word_from (int_rem u v)) (sym p.number) (sym q.number) in
    simp (divided b some) (subst (λ v. IsWordOf v (int_rem x y)) value (number_is (int_rem x y) (fits_signed_from_abs w32 (int_rem x y) (omega arith))))

-- ---- the test of a quotient

is_high : ℕ → Bool
is_high a = nat_le (2 ^ 31) a

high_sign : (a : ℕ) → a < 2 ^ 32 → int_lt (signed a) (pos 0) ≡ is_high a
unfolding is_high
high_sign a p = grind (arith, ints, nat_tests)

top_bit : (a b : ℕ) → (i j : ℕ) → a / 2 ^ 31 ≡ i → b / 2 ^ 31 ≡ j → bit_and a b / 2 ^ 31 ≡ bit_and i j
top_bit a b i j p q = and_shr a b 31 ∙ ap₂ bit_and p q

high_and : (a b : ℕ) → a < 2 ^ 32 → b < 2 ^ 32 → is_high (bit_and a b) ≡ (is_high a && is_high b)
unfolding is_high
high_and a b p q =
    elim (cases_lt a (2 ^ 31)) [
      | inl less ↦ let top : bit_and a b / 2 ^ 31 ≡ bit_and 0 (b / 2 ^ 31) = top_bit a b 0 (b / 2 ^ 31) (omega arith) refl in grind (arith, nat_tests)
      | inr most ↦
          elim (cases_lt b (2 ^ 31)) [
            | inl less ↦ let top : bit_and a b / 2 ^ 31 ≡ 0 = top_bit a b 1 0 (omega arith) (omega arith) in grind (arith, nat_tests)
            | inr more ↦ let top : bit_and a b / 2 ^ 31 ≡ 1 = top_bit a b 1 1 (omega arith) (omega arith) in grind (arith, nat_tests)
          ]
    ]

fits_neg : (k : ℕ) → k ≤ 2 ^ 31 → fits_word (neg_ℤ (pos k)) ≡ true
fits_neg zero p = refl
fits_neg (suc k) p = grind (arith, nat_tests)

none_of : (s t u : Bool) → s ≡ false → ((s && t) && u) ≡ false
none_of s t u p = simp p refl

-- a quotient is too large where both numbers and its word are negative
high_quotient : (x y : ℤ) → unsigned_abs x ≤ 2 ^ 31 → fits_word x ≡ true → ((int_lt x (pos 0) && int_lt y (pos 0)) && is_high (word_from (int_div x y))) ≡ not (fits_word (int_div x y))
unfolding is_high
high_quotient (pos m) (pos n) p f = let less = div-le_self m n in grind (arith, nat_tests)
high_quotient (pos m) (negsuc n) p f = let less = div-le_self m (suc n) in
    none_of (int_lt (pos m) (pos 0)) true (is_high (word_from (neg_ℤ (pos (m / suc n))))) (not_negative m) ∙ ap not (sym (fits_neg (m / suc n) (omega arith)))
high_quotient (negsuc m) (pos n) p f = let less = div-le_self (suc m) n in
    simp (not_negative n) (ap not (sym (fits_neg (suc m / n) (omega arith))))
high_quotient (negsuc m) (negsuc n) p f = let less = div-le_self (suc m) (suc n) in grind (arith, nat_tests)

quotient_word : (a b : ℕ) (x y : ℤ) → IsWordOf a x → IsWordOf b y → b ≢ 0 → alu_of Div a b ≡ word_from (int_div x y)
unfolding alu_of
quotient_word a b x y p q some = simp (divided b some) (ap₂ (λ u v. word_from (int_div u v)) p.number q.number)

high_test : (v : ℕ) → v < 2 ^ 32 → takes Blt v 0 ≡ is_high v
unfolding takes
high_test v p = high_sign v p

both : (a b : ℕ) → alu_of And a b ≡ bit_and a b
unfolding alu_of
both a b = refl

pub quotient_test : (a b : ℕ) (x y : ℤ) → IsWordOf a x → IsWordOf b y → b ≢ 0 → takes Blt (alu_of And (alu_of And a b) (alu_of Div a b)) 0 ≡ not (fits_word (int_div x y))
quotient_test a b x y p q some =
    let c = alu_of Div a b in
    let first = p.bound in
    let ab : bit_and a b < 2 ^ 32 = omega (arith, and_le_l a b) in
    let bound = (quotient_is a b x y p q some).bound in
    let abc : bit_and (bit_and a b) c < 2 ^ 32 = omega (arith, and_le_l (bit_and a b) c) in
    let value : alu_of And (alu_of And a b) c ≡ bit_and (bit_and a b) c = both (alu_of And a b) c ∙ ap (λ u. bit_and u c) (both a b) in
    let sign_x : is_high a ≡ int_lt x (pos 0) = sym (high_sign a p.bound) ∙ ap (λ z. int_lt z (pos 0)) p.number in
    let sign_y : is_high b ≡ int_lt y (pos 0) = sym (high_sign b q.bound) ∙ ap (λ z. int_lt z (pos 0)) q.number in
    ap (λ u. takes Blt u 0) value
    ∙ high_test (bit_and (bit_and a b) c) abc
    ∙ high_and (bit_and a b) c ab bound
    ∙ ap (λ u. u && is_high c) (high_and a b p.bound q.bound ∙ ap₂ (λ u v. u && v) sign_x sign_y)
    ∙ ap (λ u. (int_lt x (pos 0) && int_lt y (pos 0)) && is_high u) (quotient_word a b x y p q some)
    ∙ high_quotient x y (abs_of a x p) (word_fits a x p)

pub zero_test : (b : ℕ) (y : ℤ) → IsWordOf b y → takes Beq b 0 ≡ int_eq y (pos 0)
unfolding takes
zero_test b y q = zero_sign b q.bound ∙ ap (λ z. int_eq z (pos 0)) q.number
  where
    zero_sign : (b : ℕ) → b < 2 ^ 32 → nat_eq b 0 ≡ int_eq (signed b) (pos 0)
    zero_sign b p = grind (arith, ints, nat_tests)

pub some_word : (b : ℕ) (y : ℤ) → IsWordOf b y → int_eq y (pos 0) ≡ false → b ≢ 0
some_word b y q some is = absurd (contradiction (int_eq y (pos 0)) (ap (λ z. int_eq z (pos 0)) (sym q.number ∙ ap signed is)) some)
  where
    contradiction : (t : Bool) → t ≡ true → t ≡ false → ⊥
    contradiction t p q = absurd cc
