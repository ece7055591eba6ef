-- The class of a place tells what kind of item can stand there.
use Rattle.std.proofs.Common.{◌≡◌, ℕ, ◌<◌, ◌≤◌, true, false, cond, eqb, ◌&&◌, List, ◌∷◌, ◌++◌, drop, length, ◌⊎◌, inl, inr, ap, ◌∙◌, arith}
use Rattle.std.specs.Char.{is_ascii_digit}
use Rattle.std.proofs.lemmas.Bool.{eqb-true}
use Rattle.std.proofs.lemmas.Bool.Decides.{nat_tests}
use Rattle.op_scan.proofs.Lists.{cond_case, one_true, two_true}
use Rattle.op_scan.specs.Byte.{is_name_start, is_blank, is_digit_in, begins_with}
use Rattle.op_scan.specs.Class.{class_of, class_of_mark}
use Rattle.op_scan.specs.Comment.{opening}
use Rattle.op_scan.specs.declared.class.Class.{Class}
use Rattle.op_scan.specs.declared.class.Class.TheVariants as class
use Rattle.op_scan.specs.declared.number.Base.TheVariants.{Decimal, Hexadecimal, Octal, Binary}

-- ---- what a class tells of the first bytes

-- the first byte begins neither a number behind a mark, nor a string, nor a comment
pub record NoMark (first : ℕ) (after : List ℕ) : Type 0 where
  pub no_dollar : eqb first 36 ≡ false
  pub no_ampersand : eqb first 38 ≡ false
  pub no_percent : eqb first 37 ≡ false
  pub no_quote : eqb first 39 ≡ false
  pub no_hash : eqb first 35 ≡ false
  pub no_brace : eqb first 123 ≡ false
  pub no_star : (eqb first 40 && begins_with after 42) ≡ false
  pub no_slashes : (eqb first 47 && begins_with after 47) ≡ false

abbrev pub Means : Class → ℕ → List ℕ → Type 0
Means class.Name first after = is_name_start first ≡ true
Means class.Blank first after = is_blank first ≡ true
Means (class.Number Decimal) first after = is_ascii_digit first ≡ true
Means (class.Number Hexadecimal) first after = first ≡ 36
Means (class.Number Octal) first after = first ≡ 38
Means (class.Number Binary) first after = first ≡ 37
Means class.String first after = (first ≡ 39) ⊎ (first ≡ 35)
Means (class.Comment marks) first after = first ∷ after ≡ opening marks ++ drop (length (opening marks)) (first ∷ after)
Means class.LineComment first after = first ∷ after ≡ 47 ∷ 47 ∷ drop 1 after
Means class.Symbol first after = NoMark first after

mark_means : (first : ℕ) (after : List ℕ) → Means (class_of_mark first after) first after
mark_means first after =
    cond_case (λ k. Means k first after) (eqb first 36) (λ h. eqb-true first 36 h) (λ h1.
    cond_case (λ k. Means k first after) (eqb first 38) (λ h. eqb-true first 38 h) (λ h2.
    cond_case (λ k. Means k first after) (eqb first 37) (λ h. eqb-true first 37 h) (λ h3.
    cond_case (λ k. Means k first after) (eqb first 39) (λ h. inl (eqb-true first 39 h)) (λ h4.
    cond_case (λ k. Means k first after) (eqb first 35) (λ h. inr (eqb-true first 35 h)) (λ h5.
    cond_case (λ k. Means k first after) (eqb first 123) (λ h. one_true first 123 after h) (λ h6.
    cond_case (λ k. Means k first after) (eqb first 40 && begins_with after 42) (λ h. two_true first 40 42 after h) (λ h7.
    cond_case (λ k. Means k first after) (eqb first 47 && begins_with after 47) (λ h. two_true first 47 47 after h) (λ h8.
    record { no_dollar = h1; no_ampersand = h2; no_percent = h3; no_quote = h4; no_hash = h5; no_brace = h6; no_star = h7; no_slashes = h8 }))))))))

pub class_means : (first : ℕ) (after : List ℕ) → Means (class_of first after) first after
unfolding class_of
class_means first after =
    cond_case (λ k. Means k first after) (is_name_start first) (λ h. h) (λ h1.
    cond_case (λ k. Means k first after) (is_blank first) (λ h. h) (λ h2.
    cond_case (λ k. Means k first after) (is_ascii_digit first) (λ h. h) (λ h3. mark_means first after)))

-- ---- the class of an item

pub class_name : (first : ℕ) (after : List ℕ) → is_name_start first ≡ true → class_of first after ≡ class.Name
unfolding class_of
class_name first after h = ap (λ t. cond t class.Name (cond (is_blank first) class.Blank (cond (is_ascii_digit first) (class.Number Decimal) (class_of_mark first after)))) h

blank_is_no_name : (byte : ℕ) → is_blank byte ≡ true → is_name_start byte ≡ false
unfolding is_blank is_name_start
blank_is_no_name byte h = grind (arith, nat_tests)

pub class_blank : (first : ℕ) (after : List ℕ) → is_blank first ≡ true → class_of first after ≡ class.Blank
unfolding class_of
class_blank first after h =
    ap (λ t. cond t class.Name (cond (is_blank first) class.Blank (cond (is_ascii_digit first) (class.Number Decimal) (class_of_mark first after)))) (blank_is_no_name first h)
    ∙ ap (λ t. cond t class.Blank (cond (is_ascii_digit first) (class.Number Decimal) (class_of_mark first after))) h

digit_range : (byte : ℕ) → is_digit_in Decimal byte ≡ true → (48 ≤ byte) × (byte < 58)
unfolding is_digit_in
digit_range byte h = grind (arith, nat_tests)

digit_is_no_name : (byte : ℕ) → (48 ≤ byte) × (byte < 58) → is_name_start byte ≡ false
unfolding is_name_start
digit_is_no_name byte h = grind (arith, nat_tests)

digit_is_no_blank : (byte : ℕ) → (48 ≤ byte) × (byte < 58) → is_blank byte ≡ false
unfolding is_blank
digit_is_no_blank byte h = grind (arith, nat_tests)

digit_is_ascii : (byte : ℕ) → (48 ≤ byte) × (byte < 58) → is_ascii_digit byte ≡ true
digit_is_ascii byte h = grind (arith, nat_tests)

pub ascii_is_digit : (byte : ℕ) → is_ascii_digit byte ≡ true → is_digit_in Decimal byte ≡ true
unfolding is_digit_in
ascii_is_digit byte h = grind (arith, nat_tests)

pub class_digit : (first : ℕ) (after : List ℕ) → is_digit_in Decimal first ≡ true → class_of first after ≡ class.Number Decimal
unfolding class_of
class_digit first after h =
    let r = digit_range first h in
    ap (λ t. cond t class.Name (cond (is_blank first) class.Blank (cond (is_ascii_digit first) (class.Number Decimal) (class_of_mark first after)))) (digit_is_no_name first r)
    ∙ ap (λ t. cond t class.Blank (cond (is_ascii_digit first) (class.Number Decimal) (class_of_mark first after))) (digit_is_no_blank first r)
    ∙ ap (λ t. cond t (class.Number Decimal) (class_of_mark first after)) (digit_is_ascii first r)
