-- The low code of each computation comes to what is meant by it.
use Rattle.std.proofs.Common.{◌≡◌, ℕ, ℤ, Bool, true, false, List, [], ◌∷◌, ◌++◌, refl, ap₂, ◌∙◌, subst, arith, if◌then◌else◌}
use Rattle.std.proofs.lemmas.Int.{ints}
use Rattle.std.specs.Int.{w32}
use Rattle.std.specs.Int.RustNames.{FitsSigned}
use Rattle.std.specs.Prelude.{int_lt}
use Rattle.op_compute.proofs.ArithmeticLemmas.{arithmetic, negate}
use Rattle.op_compute.proofs.ComparisonLemmas.{comparison}
use Rattle.op_compute.proofs.ConversionLemmas.{complement, invert, odd, absolute, low_bits, upper, check, neighbour}
use Rattle.op_compute.proofs.Registers.{kept_none, result_set}
use Rattle.op_compute.proofs.SetLemmas.{single, span, combination, contains, checked_set}
use Rattle.op_compute.proofs.Words.{number_is}
use Rattle.op_compute.specs.Arithmetic.{arithmetic_code, sum_code, difference_code, product_code, divisor_test, quotient_code, remainder_code, least_test, negate_code, absolute_code}
use Rattle.op_compute.specs.Bank.{register_of, work_of}
use Rattle.op_compute.specs.Comparisons.{compare_code, equal_code}
use Rattle.op_compute.specs.Computing.{constant_code, registers_of, code_of, computation_code}
use Rattle.op_compute.specs.Conversions.{low_bits_code, upper_code, check_code, neighbour_test, neighbour_code}
use Rattle.op_compute.specs.Meaning.{gives, meant, to_of, left_of, right_of, HasWords, Answers, IsApart, IsWordOf}
use Rattle.op_compute.specs.Moves.{move_code}
use Rattle.op_compute.specs.Ranges.{is_immediate, sum_with, distance_code, has_every_number, within_code, range_code, lower_end, higher_end}
use Rattle.op_compute.specs.SetCode.{single_code, span_code, bits_from_code, combine_code, without_code, inclusion_code, contains_code, check_set_code}
use Rattle.op_compute.specs.Straight.{outcome, fewest_steps}
use Rattle.op_compute.specs.declared.bank.Bank.{Bank}
use Rattle.op_compute.specs.declared.bank.Operands.{Operands}
use Rattle.op_compute.specs.declared.bank.Work.{Work}
use Rattle.op_core.specs.declared.types.IntegerKind.TheVariants.{Signed8, Unsigned8, Signed16, Unsigned16, Signed32}
use Rattle.op_low.specs.declared.ids.VirtualRegister.{VirtualRegister}
use Rattle.op_low.specs.declared.instruction.Instruction.{Instruction}
use Rattle.op_low.specs.declared.instruction.Instruction.TheVariants.{Move}
use Rattle.op_meaning.specs.Numbers.{fits_word}
use Rattle.op_mir.specs.declared.action.Computation.{Computation}
use Rattle.op_mir.specs.declared.action.Computation.TheVariants.{Arithmetic, Compare, Negate, Complement, Invert, Absolute, Odd, Upper, LowBits, Check, Neighbour, Single, Span, Combine, Contains, CheckSet}
use Rattle.op_tree.specs.declared.operator.Operator.{Operator}
use Rattle.op_tree.specs.declared.operator.Operator.TheVariants.{Equal, NotEqual, Less, Greater, LessEqual, GreaterEqual, Add, Subtract, Multiply, Div}

pub constant : (w : Work) (to : VirtualRegister) (f : ℕ → ℕ) (n : ℤ) → FitsSigned w32 n → Answers w to f (gives n) (outcome (constant_code to n) f)
unfolding outcome constant_code
constant w to f n fits = result_set w to f f _ n (kept_none w to f) (number_is n fits)

pub code_answers : (w : Work) (o : Operands) (c : Computation) (f : ℕ → ℕ) (x y : ℤ) → HasWords c → IsApart w o → IsWordOf (f o.left.0) x → IsWordOf (f o.right.0) y → Answers w o.to f (meant c x y) (outcome (code_of w o c) f)
unfolding outcome code_of meant
code_answers w o (Arithmetic operator checked to a b) f x y words apart p q = arithmetic w o f x y apart p q operator checked
code_answers w o (Compare operator to a b) f x y words apart p q = comparison w o f x y p q operator
code_answers w o (Negate checked to a) f x y words apart p q = negate w o f x y apart p q checked
code_answers w o (Complement to a) f x y words apart p q = complement w o f x apart p
code_answers w o (Invert to a) f x y words apart p q = invert w o f x apart p
code_answers w o (Absolute checked to a) f x y words apart p q = absolute w o f x apart p checked
code_answers w o (Odd to a) f x y words apart p q = odd w o f x apart p
code_answers w o (Upper to a) f x y words apart p q = upper w o f x apart p
code_answers w o (LowBits kind to a) f x y words apart p q = low_bits w o f x apart p kind
code_answers w o (Check low high to a) f x y words apart p q = check w o f x apart p low high
code_answers w o (Neighbour distance low high to a) f x y words apart p q = neighbour w o f x apart p distance low high words.0 words.1 words.2
code_answers w o (Single to a) f x y words apart p q = single w o f x y apart p q
code_answers w o (Span to a b) f x y words apart p q = span w o f x y apart p q
code_answers w o (Combine operator to a b) f x y words apart p q = combination w o f x y apart p q operator
code_answers w o (Contains to a b) f x y words apart p q = contains w o f x y apart p q
code_answers w o (CheckSet all to a) f x y words apart p q = checked_set w o f x all apart p

-- the registers are those of the computation's temporaries
to_is : (bank : Bank) (c : Computation) → (registers_of bank c).to ≡ register_of bank (to_of c)
unfolding registers_of
to_is bank (Arithmetic operator checked to a b) = refl
to_is bank (Compare operator to a b) = refl
to_is bank (Negate checked to a) = refl
to_is bank (Complement to a) = refl
to_is bank (Invert to a) = refl
to_is bank (Absolute checked to a) = refl
to_is bank (Odd to a) = refl
to_is bank (Upper to a) = refl
to_is bank (LowBits kind to a) = refl
to_is bank (Check low high to a) = refl
to_is bank (Neighbour distance low high to a) = refl
to_is bank (Single to a) = refl
to_is bank (Span to a b) = refl
to_is bank (Combine operator to a b) = refl
to_is bank (Contains to a b) = refl
to_is bank (CheckSet all to a) = refl

left_is : (bank : Bank) (c : Computation) → register_of bank (left_of c) ≡ (registers_of bank c).left
unfolding registers_of
left_is bank (Arithmetic operator checked to a b) = refl
left_is bank (Compare operator to a b) = refl
left_is bank (Negate checked to a) = refl
left_is bank (Complement to a) = refl
left_is bank (Invert to a) = refl
left_is bank (Absolute checked to a) = refl
left_is bank (Odd to a) = refl
left_is bank (Upper to a) = refl
left_is bank (LowBits kind to a) = refl
left_is bank (Check low high to a) = refl
left_is bank (Neighbour distance low high to a) = refl
left_is bank (Single to a) = refl
left_is bank (Span to a b) = refl
left_is bank (Combine operator to a b) = refl
left_is bank (Contains to a b) = refl
left_is bank (CheckSet all to a) = refl

right_is : (bank : Bank) (c : Computation) → register_of bank (right_of c) ≡ (registers_of bank c).right
unfolding registers_of
right_is bank (Arithmetic operator checked to a b) = refl
right_is bank (Compare operator to a b) = refl
right_is bank (Negate checked to a) = refl
right_is bank (Complement to a) = refl
right_is bank (Invert to a) = refl
right_is bank (Absolute checked to a) = refl
right_is bank (Odd to a) = refl
right_is bank (Upper to a) = refl
right_is bank (LowBits kind to a) = refl
right_is bank (Check low high to a) = refl
right_is bank (Neighbour distance low high to a) = refl
right_is bank (Single to a) = refl
right_is bank (Span to a b) = refl
right_is bank (Combine operator to a b) = refl
right_is bank (Contains to a b) = refl
right_is bank (CheckSet all to a) = refl

pub computation_answers : (bank : Bank) (c : Computation) (f : ℕ → ℕ) (x y : ℤ) → HasWords c → IsApart (work_of bank) (registers_of bank c) → IsWordOf (f (register_of bank (left_of c)).0) x → IsWordOf (f (register_of bank (right_of c)).0) y → Answers (work_of bank) (register_of bank (to_of c)) f (meant c x y) (outcome (computation_code bank c) f)
unfolding computation_code
computation_answers bank c f x y words apart p q =
    subst (λ to. Answers (work_of bank) to f (meant c x y) (outcome (code_of (work_of bank) (registers_of bank c) c) f)) (to_is bank c)
    (code_answers (work_of bank) (registers_of bank c) c f x y words apart
    (subst (λ r. IsWordOf (f r.0) x) (left_is bank c) p)
    (subst (λ r. IsWordOf (f r.0) y) (right_is bank c) q))

-- ---- how many instructions

first_of : (xs ys : List Instruction) → fewest_steps xs ≡ 1 → fewest_steps (xs ++ ys) ≡ 1
first_of [] ys e = absurd cc
first_of (x ∷ xs) ys e = refl

second_of : (xs ys : List Instruction) → fewest_steps ys ≡ 1 → fewest_steps (xs ++ ys) ≡ 1
second_of [] ys e = e
second_of (x ∷ xs) ys e = refl

either_way : (b : Bool) (xs ys : List Instruction) → fewest_steps xs ≡ 1 → fewest_steps ys ≡ 1 → fewest_steps (if b then xs else ys) ≡ 1
either_way true xs ys p q = p
either_way false xs ys p q = q

sum_with_steps : (via to from : VirtualRegister) (n : ℤ) → fewest_steps (sum_with via to from n) ≡ 1
unfolding sum_with
sum_with_steps via to from n = either_way (is_immediate n) _ _ refl refl

-- a range of two numbers of 32 bits that has not every number is tested
tested_range : (empty : Bool) (jump within : List Instruction) → fewest_steps jump ≡ 1 → (empty ≡ false → fewest_steps within ≡ 1) → fewest_steps (if empty then jump else within) ≡ 1
tested_range true jump within p q = p
tested_range false jump within p q = q refl

within_if : (every : Bool) (code : List Instruction) → every ≡ false → fewest_steps code ≡ 1 → fewest_steps (if every then [] else code) ≡ 1
within_if true code e p = absurd cc
within_if false code e p = p

within_steps : (w : Work) (from : VirtualRegister) (low high : ℤ) → has_every_number low high ≡ false → fewest_steps (within_code w from low high) ≡ 1
unfolding within_code
within_steps w from low high e = within_if (has_every_number low high) _ e (second_of (distance_code w.first from low) _ refl)

same_lower : (low : ℤ) → fits_word low ≡ true → lower_end low ≡ low
same_lower low p = grind (arith, ints)

same_higher : (high : ℤ) → fits_word high ≡ true → higher_end high ≡ high
same_higher high p = grind (arith, ints)

range_steps : (w : Work) (from : VirtualRegister) (low high : ℤ) → fits_word low ≡ true → fits_word high ≡ true → has_every_number low high ≡ false → fewest_steps (range_code w from low high) ≡ 1
unfolding range_code
range_steps w from low high p q e =
    tested_range (int_lt (higher_end high) (lower_end low)) _ (within_code w from (lower_end low) (higher_end high)) refl
    (λ order. within_steps w from (lower_end low) (higher_end high) (ap₂ has_every_number (same_lower low p) (same_higher high q) ∙ e))

check_if : (w : Work) (o : Operands) (low high : ℤ) (every : Bool) → has_every_number low high ≡ every → fits_word low ≡ true → fits_word high ≡ true → fewest_steps (if every then Move o.to o.left ∷ [] else range_code w o.left low high ++ move_code o.to o.left) ≡ 1
check_if w o low high true e p q = refl
check_if w o low high false e p q = first_of (range_code w o.left low high) (move_code o.to o.left) (range_steps w o.left low high p q e)

check_steps : (w : Work) (o : Operands) (low high : ℤ) → fits_word low ≡ true → fits_word high ≡ true → fewest_steps (check_code w o low high) ≡ 1
unfolding check_code
check_steps w o low high p q = check_if w o low high (has_every_number low high) refl p q

arithmetic_steps : (w : Work) (o : Operands) (operator : Operator) (checked : Bool) → fewest_steps (arithmetic_code w o operator checked) ≡ 1
unfolding arithmetic_code sum_code difference_code product_code divisor_test quotient_code remainder_code
arithmetic_steps w o Add true = refl
arithmetic_steps w o Add false = refl
arithmetic_steps w o Subtract true = refl
arithmetic_steps w o Subtract false = refl
arithmetic_steps w o Multiply true = refl
arithmetic_steps w o Multiply false = refl
arithmetic_steps w o Div true = refl
arithmetic_steps w o Div false = refl
arithmetic_steps w o _ checked = refl

code_steps : (w : Work) (o : Operands) (c : Computation) → HasWords c → fewest_steps (code_of w o c) ≡ 1
unfolding code_of compare_code equal_code negate_code absolute_code least_test upper_code low_bits_code single_code span_code bits_from_code contains_code check_set_code combine_code without_code inclusion_code neighbour_code
code_steps w o (Arithmetic operator checked to a b) words = arithmetic_steps w o operator checked
code_steps w o (Compare Equal to a b) words = refl
code_steps w o (Compare NotEqual to a b) words = refl
code_steps w o (Compare Less to a b) words = refl
code_steps w o (Compare Greater to a b) words = refl
code_steps w o (Compare LessEqual to a b) words = refl
code_steps w o (Compare GreaterEqual to a b) words = refl
code_steps w o (Compare _ to a b) words = refl
code_steps w o (Negate true to a) words = refl
code_steps w o (Negate false to a) words = refl
code_steps w o (Complement to a) words = refl
code_steps w o (Invert to a) words = refl
code_steps w o (Absolute true to a) words = refl
code_steps w o (Absolute false to a) words = refl
code_steps w o (Odd to a) words = refl
code_steps w o (Upper to a) words = refl
code_steps w o (LowBits Signed8 to a) words = refl
code_steps w o (LowBits Unsigned8 to a) words = refl
code_steps w o (LowBits Signed16 to a) words = refl
code_steps w o (LowBits Unsigned16 to a) words = refl
code_steps w o (LowBits Signed32 to a) words = refl
code_steps w o (Check low high to a) words = check_steps w o low high words.0 words.1
code_steps w o (Neighbour distance low high to a) words = second_of (neighbour_test w o.left distance low high) (sum_with w.first o.to o.left distance) (sum_with_steps w.first o.to o.left distance)
code_steps w o (Single to a) words = refl
code_steps w o (Span to a b) words = refl
code_steps w o (Combine Add to a b) words = refl
code_steps w o (Combine Subtract to a b) words = refl
code_steps w o (Combine Multiply to a b) words = refl
code_steps w o (Combine LessEqual to a b) words = refl
code_steps w o (Combine GreaterEqual to a b) words = refl
code_steps w o (Combine Equal to a b) words = refl
code_steps w o (Combine NotEqual to a b) words = refl
code_steps w o (Combine _ to a b) words = refl
code_steps w o (Contains to a b) words = refl
code_steps w o (CheckSet all to a) words = refl

pub computation_steps : (bank : Bank) (c : Computation) → HasWords c → fewest_steps (computation_code bank c) ≡ 1
unfolding computation_code
computation_steps bank c words = code_steps (work_of bank) (registers_of bank c) c words
