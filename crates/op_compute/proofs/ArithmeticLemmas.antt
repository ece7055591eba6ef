-- The low code of arithmetic comes to what is meant.
use Rattle.std.proofs.Common.{◌≡◌, ◌≢◌, ℕ, ℤ, pos, ◌^◌, ◌<◌, ◌+ℤ◌, ◌-ℤ◌, ◌*ℤ◌, neg_ℤ, Bool, true, false, not, ◌&&◌, refl, ap, sym, ◌∙◌, subst, arith, if◌then◌else◌}
use Rattle.std.specs.Ordering.{int_eq}
use Rattle.std.specs.Prelude.{int_div, int_rem}
use Rattle.op_compute.proofs.Registers.{put_same, put_lower, kept_none, kept_scratch, result_set, moved, tested, overflow_tested}
use Rattle.op_compute.proofs.WordBits.{and_is, or_is, xor_is, shl_is, shr_is}
use Rattle.op_compute.proofs.WordProducts.{product_is, product_test, quotient_is, quotient_test, remainder_is, some_word, zero_test}
use Rattle.op_compute.proofs.Words.{sum_is, sum_test, difference_is, difference_test, word_gives, small_is, opposite_is, opposite_test}
use Rattle.op_compute.specs.Arithmetic.{arithmetic_code, sum_code, difference_code, product_code, divisor_test, quotient_code, remainder_code, least_test, negate_code}
use Rattle.op_compute.specs.Meaning.{Meant, gives, fails, computed, Answers, IsApart, IsWordOf, AreKept}
use Rattle.op_compute.specs.Moves.{move_code}
use Rattle.op_compute.specs.Straight.{put, outcome, alu_of, imm_of, shift_of, takes, Outcome, Behind, Away}
use Rattle.op_compute.specs.declared.bank.Operands.{Operands}
use Rattle.op_compute.specs.declared.bank.RuntimeError.TheVariants.{DivisionByZero, IntegerOverflow}
use Rattle.op_compute.specs.declared.bank.Work.{Work}
use Rattle.op_meaning.specs.Numbers.{divides, exact, fits_word, wrapped}
use Rattle.op_rv.specs.declared.instruction.AluOp.TheVariants.{Add, And, Sub, Mul, Mulh, Div, Or, Rem, Sll, Slt, Srl, Xor}
use Rattle.op_rv.specs.declared.instruction.BranchOp.TheVariants.{Beq, Blt, Bne}
use Rattle.op_rv.specs.declared.instruction.ImmOp.TheVariants.{Slti}
use Rattle.op_rv.specs.declared.instruction.ShiftOp.TheVariants.{Srai}
use Rattle.op_tree.specs.declared.operator.Operator.{Operator}
use Rattle.op_tree.specs.declared.operator.Operator.TheVariants.{Add as Plus, Subtract, Multiply, Div as Quotient, Mod_, And as Both, Or as Either, Xor as Differ, Shl, Shr, Equal, NotEqual, Less, Greater, LessEqual, GreaterEqual, In_, Is, Slash, As_}

module _ (w : Work) (o : Operands) (f : ℕ → ℕ) (x y : ℤ) (apart : IsApart w o) (p : IsWordOf (f o.left.0) x) (q : IsWordOf (f o.right.0) y) where
  -- one instruction, whose result always fits
  pub plain : (v : ℕ) (n : ℤ) (checked : Bool) → IsWordOf v n → Answers w o.to f (computed checked n) (Behind (put f o.to v))
  plain v n checked is =
      subst (λ m. Answers w o.to f m (Behind (put f o.to v))) (word_gives checked v n is) (result_set w o.to f f v n (kept_none w o.to f) is)

  pub sum : (checked : Bool) → Answers w o.to f (computed checked (x +ℤ y)) (outcome (sum_code w o checked) f)
  unfolding outcome sum_code
  sum false = result_set w o.to f f (alu_of Add (f o.left.0) (f o.right.0)) (wrapped (x +ℤ y)) (kept_none w o.to f) (sum_is (f o.left.0) (f o.right.0) x y p q)
  sum true =
      let a = f o.left.0 in
      let b = f o.right.0 in
      let f1 = put f w.first (alu_of Add a b) in
      let t = alu_of Slt (f1 w.first.0) (f1 o.left.0) in
      let u = imm_of Slti (put f1 w.second t o.right.0) (pos 0) in
      let lf : o.left.0 < w.first.0 = apart.left in
      let rf : o.right.0 < w.first.0 = apart.right in
      let rs : o.right.0 < w.second.0 = omega arith in
      let test : takes Bne t u ≡ not (fits_word (x +ℤ y)) = simp (put_same, put_lower) (sum_test a b x y p q) in
      overflow_tested w o f (alu_of Add a b) t u (x +ℤ y) apart test (sum_is a b x y p q)

  pub difference : (checked : Bool) → Answers w o.to f (computed checked (x -ℤ y)) (outcome (difference_code w o checked) f)
  unfolding outcome difference_code
  difference false = result_set w o.to f f (alu_of Sub (f o.left.0) (f o.right.0)) (wrapped (x -ℤ y)) (kept_none w o.to f) (difference_is (f o.left.0) (f o.right.0) x y p q)
  difference true =
      let a = f o.left.0 in
      let b = f o.right.0 in
      let f1 = put f w.first (alu_of Sub a b) in
      let t = alu_of Slt (f1 o.left.0) (f1 w.first.0) in
      let u = imm_of Slti (put f1 w.second t o.right.0) (pos 0) in
      let lf : o.left.0 < w.first.0 = apart.left in
      let rf : o.right.0 < w.first.0 = apart.right in
      let rs : o.right.0 < w.second.0 = omega arith in
      let test : takes Bne t u ≡ not (fits_word (x -ℤ y)) = simp (put_same, put_lower) (difference_test a b x y p q) in
      overflow_tested w o f (alu_of Sub a b) t u (x -ℤ y) apart test (difference_is a b x y p q)

  pub product : (checked : Bool) → Answers w o.to f (computed checked (x *ℤ y)) (outcome (product_code w o checked) f)
  unfolding outcome product_code
  product false = result_set w o.to f f (alu_of Mul (f o.left.0) (f o.right.0)) (wrapped (x *ℤ y)) (kept_none w o.to f) (product_is (f o.left.0) (f o.right.0) x y p q)
  product true =
      let a = f o.left.0 in
      let b = f o.right.0 in
      let s = alu_of Mul a b in
      let f1 = put f w.first s in
      let t = alu_of Mulh (f1 o.left.0) (f1 o.right.0) in
      let u = shift_of Srai (put f1 w.second t w.first.0) 31 in
      let lf : o.left.0 < w.first.0 = apart.left in
      let rf : o.right.0 < w.first.0 = apart.right in
      let fs : w.first.0 < w.second.0 = apart.second in
      let test : takes Bne t u ≡ not (fits_word (x *ℤ y)) = simp (put_same, put_lower) (product_test a b x y p q) in
      overflow_tested w o f s t u (x *ℤ y) apart test (product_is a b x y p q)

  -- from registers that differ from the first ones by scratch registers
  negated : (n : ℤ) (g : ℕ → ℕ) → AreKept w o.to f g → g o.left.0 ≡ f o.left.0 → Answers w o.to f (gives (wrapped (neg_ℤ x))) (Behind (put (put g w.first 0) o.to (alu_of Sub (put g w.first 0 w.first.0) (put g w.first 0 o.left.0))))
  negated n g kept same =
      let h = put g w.first 0 in
      let lf : o.left.0 < w.first.0 = apart.left in
      let value : alu_of Sub (h w.first.0) (h o.left.0) ≡ alu_of Sub 0 (f o.left.0) = simp (put_same, put_lower, same) refl in
      result_set w o.to f h (alu_of Sub (h w.first.0) (h o.left.0)) (wrapped (neg_ℤ x)) (kept_scratch w o.to w.first f g 0 (omega arith) kept)
      (subst (λ v. IsWordOf v (wrapped (neg_ℤ x))) (sym value) (opposite_is (f o.left.0) x p))

  pub negate : (checked : Bool) → Answers w o.to f (computed checked (neg_ℤ x)) (outcome (negate_code w o checked) f)
  unfolding outcome negate_code least_test
  negate false = negated x f (kept_none w o.to f) refl
  negate true =
      let g = put f w.first (2 ^ 31) in
      let lf : o.left.0 < w.first.0 = apart.left in
      let same : g o.left.0 ≡ f o.left.0 = put_lower f w.first (2 ^ 31) o.left.0 lf in
      let kept : AreKept w o.to f g = kept_scratch w o.to w.first f f (2 ^ 31) (omega arith) (kept_none w o.to f) in
      let test : takes Beq (g o.left.0) (g w.first.0) ≡ not (fits_word (neg_ℤ x)) = simp (put_same, put_lower) (opposite_test (f o.left.0) x p) in
      tested w o.to f g (takes Beq (g o.left.0) (g w.first.0)) (not (fits_word (neg_ℤ x))) IntegerOverflow (gives (wrapped (neg_ℤ x))) _ test kept (λ fits. negated x g kept same)

  -- behind the test of the divisor
  divided : (meaning : Meant) (rest : Outcome) → (f o.right.0 ≢ 0 → Answers w o.to f meaning rest) → Answers w o.to f (if int_eq y (pos 0) then fails DivisionByZero else meaning) (if takes Beq (put f w.first 0 o.right.0) (put f w.first 0 w.first.0) then Away w.division (put f w.first 0) else rest)
  divided meaning rest behind =
      let g = put f w.first 0 in
      let rf : o.right.0 < w.first.0 = apart.right in
      let test : takes Beq (g o.right.0) (g w.first.0) ≡ int_eq y (pos 0) = simp (put_same, put_lower) (zero_test (f o.right.0) y q) in
      tested w o.to f g (takes Beq (g o.right.0) (g w.first.0)) (int_eq y (pos 0)) DivisionByZero meaning rest test
      (kept_scratch w o.to w.first f f 0 (omega arith) (kept_none w o.to f))
      (λ some. behind (some_word (f o.right.0) y q some))

  pub remainder : (checked : Bool) → Answers w o.to f (if int_eq y (pos 0) then fails DivisionByZero else computed checked (int_rem x y)) (outcome (remainder_code w o) f)
  unfolding outcome remainder_code divisor_test
  remainder checked =
      let a = f o.left.0 in
      let b = f o.right.0 in
      let g = put f w.first 0 in
      let v = alu_of Rem (g o.left.0) (g o.right.0) in
      let lf : o.left.0 < w.first.0 = apart.left in
      let rf : o.right.0 < w.first.0 = apart.right in
      let value : v ≡ alu_of Rem a b = simp put_lower refl in
      let kept : AreKept w o.to f g = kept_scratch w o.to w.first f f 0 (omega arith) (kept_none w o.to f) in
      divided (computed checked (int_rem x y)) (Behind (put g o.to v))
      (λ some.
      let is : IsWordOf v (int_rem x y) = subst (λ u. IsWordOf u (int_rem x y)) (sym value) (remainder_is a b x y p q some) in
      subst (λ m. Answers w o.to f m (Behind (put g o.to v))) (word_gives checked v (int_rem x y) is) (result_set w o.to f g v (int_rem x y) kept is))

  pub quotient : (checked : Bool) → Answers w o.to f (if int_eq y (pos 0) then fails DivisionByZero else computed checked (int_div x y)) (outcome (quotient_code w o checked) f)
  unfolding outcome quotient_code divisor_test
  quotient false =
      let a = f o.left.0 in
      let b = f o.right.0 in
      let g = put f w.first 0 in
      let v = alu_of Div (g o.left.0) (g o.right.0) in
      let lf : o.left.0 < w.first.0 = apart.left in
      let rf : o.right.0 < w.first.0 = apart.right in
      let value : v ≡ alu_of Div a b = simp put_lower refl in
      let kept : AreKept w o.to f g = kept_scratch w o.to w.first f f 0 (omega arith) (kept_none w o.to f) in
      divided (computed false (int_div x y)) (Behind (put g o.to v))
      (λ some. result_set w o.to f g v (wrapped (int_div x y)) kept (subst (λ u. IsWordOf u (wrapped (int_div x y))) (sym value) (quotient_is a b x y p q some)))
  quotient true =
      let a = f o.left.0 in
      let b = f o.right.0 in
      let n = int_div x y in
      let f1 = put f w.first 0 in
      let v = alu_of Div (f1 o.left.0) (f1 o.right.0) in
      let f2 = put f1 w.second v in
      let u = alu_of And (f2 o.left.0) (f2 o.right.0) in
      let f3 = put f2 w.third u in
      let t = alu_of And (f3 w.third.0) (f3 w.second.0) in
      let f4 = put f3 w.third t in
      let lf : o.left.0 < w.first.0 = apart.left in
      let rf : o.right.0 < w.first.0 = apart.right in
      let ls : o.left.0 < w.second.0 = omega arith in
      let rs : o.right.0 < w.second.0 = omega arith in
      let fs : w.first.0 < w.second.0 = apart.second in
      let st : w.second.0 < w.third.0 = apart.third in
      let ft : w.first.0 < w.third.0 = omega arith in
      let value : v ≡ alu_of Div a b = simp put_lower refl in
      let product : t ≡ alu_of And (alu_of And a b) (alu_of Div a b) = simp (put_same, put_lower) refl in
      let last : takes Blt (f4 w.third.0) (f4 w.first.0) ≡ takes Blt t 0 = simp (put_same, put_lower) refl in
      let second : f4 w.second.0 ≡ v = simp (put_same, put_lower) refl in
      let kept : AreKept w o.to f f4 =
      kept_scratch w o.to w.third f f3 t (omega arith) (kept_scratch w o.to w.third f f2 u (omega arith)
      (kept_scratch w o.to w.second f f1 v (omega arith) (kept_scratch w o.to w.first f f 0 (omega arith) (kept_none w o.to f)))) in
      divided (computed true n) (if takes Blt (f4 w.third.0) (f4 w.first.0) then Away w.overflow f4 else outcome (move_code o.to w.second) f4)
      (λ some.
      tested w o.to f f4 (takes Blt (f4 w.third.0) (f4 w.first.0)) (not (fits_word n)) IntegerOverflow (gives (wrapped n)) (outcome (move_code o.to w.second) f4)
      (last ∙ ap (λ z. takes Blt z 0) product ∙ quotient_test a b x y p q some) kept
      (λ fits. moved w o.to w.second f f4 (wrapped n) kept (subst (λ z. IsWordOf z (wrapped n)) (sym (second ∙ value)) (quotient_is a b x y p q some))))

  nothing : (checked : Bool) → Answers w o.to f (computed checked (pos 0)) (Behind (put f o.to 0))
  nothing checked = plain 0 (pos 0) checked (small_is 0 (omega arith))

  pub arithmetic : (operator : Operator) (checked : Bool) → Answers w o.to f (if divides operator && int_eq y (pos 0) then fails DivisionByZero else computed checked (exact operator x y)) (outcome (arithmetic_code w o operator checked) f)
  unfolding outcome arithmetic_code
  arithmetic Plus checked = sum checked
  arithmetic Subtract checked = difference checked
  arithmetic Multiply checked = product checked
  arithmetic Quotient checked = quotient checked
  arithmetic Mod_ checked = remainder checked
  arithmetic Both checked = plain (alu_of And (f o.left.0) (f o.right.0)) (exact Both x y) checked (and_is (f o.left.0) (f o.right.0) x y p q)
  arithmetic Either checked = plain (alu_of Or (f o.left.0) (f o.right.0)) (exact Either x y) checked (or_is (f o.left.0) (f o.right.0) x y p q)
  arithmetic Differ checked = plain (alu_of Xor (f o.left.0) (f o.right.0)) (exact Differ x y) checked (xor_is (f o.left.0) (f o.right.0) x y p q)
  arithmetic Shl checked = plain (alu_of Sll (f o.left.0) (f o.right.0)) (exact Shl x y) checked (shl_is (f o.left.0) (f o.right.0) x y p q)
  arithmetic Shr checked = plain (alu_of Srl (f o.left.0) (f o.right.0)) (exact Shr x y) checked (shr_is (f o.left.0) (f o.right.0) x y p q)
  arithmetic Equal checked = nothing checked
  arithmetic NotEqual checked = nothing checked
  arithmetic Less checked = nothing checked
  arithmetic Greater checked = nothing checked
  arithmetic LessEqual checked = nothing checked
  arithmetic GreaterEqual checked = nothing checked
  arithmetic In_ checked = nothing checked
  arithmetic Is checked = nothing checked
  arithmetic Slash checked = nothing checked
  arithmetic As_ checked = nothing checked
