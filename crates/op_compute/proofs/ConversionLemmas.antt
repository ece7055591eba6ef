-- The low code of conversions comes to what is meant.
use Rattle.std.proofs.Common.{◌≡◌, ℕ, ℤ, pos, negsuc, ◌+◌, ◌%◌, ◌^◌, ◌<◌, ◌+ℤ◌, ◌-ℤ◌, unsigned_abs, Bool, true, false, not, [], ◌∷◌, ◌++◌, append-nil, refl, ap, sym, ◌∙◌, subst, arith, if◌then◌else◌}
use Rattle.std.specs.Int.{w32, from_bool, int_bit_not}
use Rattle.std.specs.Int.RustNames.{FitsSigned}
use Rattle.std.specs.Ordering.{int_eq}
use Rattle.op_base.proofs.Tests.{twice_not}
use Rattle.op_compute.proofs.ComparisonLemmas.{truth_set}
use Rattle.op_compute.proofs.RangeLemmas.{range_then, sum_then, every_number}
use Rattle.op_compute.proofs.Registers.{put_same, put_lower, kept_none, kept_scratch, kept_result, result_set, moved, tested}
use Rattle.op_compute.proofs.WordBits.{complement_is}
use Rattle.op_compute.proofs.WordParts.{absolute_is, absolute_test, zero_is, odd_is, byte_is, half_is, signed_byte_is, signed_half_is, upper_is, in_front, sum_with_is, between_fits}
use Rattle.op_compute.proofs.Words.{word_wraps, word_fits, number_is}
use Rattle.op_compute.specs.Arithmetic.{least_test, absolute_code}
use Rattle.op_compute.specs.Conversions.{low_bits_code, upper_code, check_code, neighbour_test, neighbour_code}
use Rattle.op_compute.specs.Meaning.{gives, fails, computed, within, Answers, IsApart, IsWordOf, AreKept}
use Rattle.op_compute.specs.Moves.{move_code}
use Rattle.op_compute.specs.Ranges.{has_every_number, range_code, sum_with}
use Rattle.op_compute.specs.Straight.{put, outcome, alu_of, imm_of, shift_of, takes, Behind}
use Rattle.op_compute.specs.declared.bank.Operands.{Operands}
use Rattle.op_compute.specs.declared.bank.RuntimeError.TheVariants.{IntegerOverflow, RangeCheck}
use Rattle.op_compute.specs.declared.bank.Work.{Work}
use Rattle.op_core.specs.declared.types.IntegerKind.{IntegerKind}
use Rattle.op_core.specs.declared.types.IntegerKind.TheVariants.{Signed8, Unsigned8, Signed16, Unsigned16, Signed32}
use Rattle.op_low.specs.declared.instruction.Instruction.TheVariants.{Move}
use Rattle.op_meaning.specs.Numbers.{fits_word, is_true, low_bits_of, upper_case, wrapped}
use Rattle.op_meaning.specs.Sets.{bit, truth}
use Rattle.op_rv.specs.Operation.{word_from}
use Rattle.op_rv.specs.declared.instruction.AluOp.TheVariants.{Sub, Xor}
use Rattle.op_rv.specs.declared.instruction.BranchOp.TheVariants.{Beq}
use Rattle.op_rv.specs.declared.instruction.ImmOp.TheVariants.{Addi, Andi, Sltiu, Xori}
use Rattle.op_rv.specs.declared.instruction.ShiftOp.TheVariants.{Slli, Srai, Srli}

module _ (w : Work) (o : Operands) (f : ℕ → ℕ) (x : ℤ) (apart : IsApart w o) (p : IsWordOf (f o.left.0) x) where
  -- ---- one instruction

  pub complement : Answers w o.to f (gives (int_bit_not w32 x)) (Behind (put f o.to (imm_of Xori (f o.left.0) (negsuc 0))))
  complement = result_set w o.to f f (imm_of Xori (f o.left.0) (negsuc 0)) (int_bit_not w32 x) (kept_none w o.to f) (complement_is (f o.left.0) x p)

  pub invert : Answers w o.to f (gives (truth (not (is_true x)))) (Behind (put f o.to (imm_of Sltiu (f o.left.0) (pos 1))))
  invert = truth_set w o.to f f (imm_of Sltiu (f o.left.0) (pos 1)) (not (is_true x)) (kept_none w o.to f) (zero_is (f o.left.0) x p ∙ ap from_bool (twice_not (int_eq x (pos 0))))

  pub odd : Answers w o.to f (gives (truth (bit x 0))) (Behind (put f o.to (imm_of Andi (f o.left.0) (pos 1))))
  odd = truth_set w o.to f f (imm_of Andi (f o.left.0) (pos 1)) (bit x 0) (kept_none w o.to f) (odd_is (f o.left.0) x p)

  -- ---- without the sign

  -- from registers that differ from the first ones by scratch registers
  cleared : (g : ℕ → ℕ) → AreKept w o.to f g → g o.left.0 ≡ f o.left.0 →
      let g1 = put g w.first (shift_of Srai (g o.left.0) 31) in
      let g2 = put g1 w.second (alu_of Xor (g1 o.left.0) (g1 w.first.0)) in
      Answers w o.to f (gives (wrapped (pos (unsigned_abs x)))) (Behind (put g2 o.to (alu_of Sub (g2 w.second.0) (g2 w.first.0))))
  cleared g kept same =
      let a = f o.left.0 in
      let s = shift_of Srai (g o.left.0) 31 in
      let g1 = put g w.first s in
      let t = alu_of Xor (g1 o.left.0) (g1 w.first.0) in
      let g2 = put g1 w.second t in
      let v = alu_of Sub (g2 w.second.0) (g2 w.first.0) in
      let n = wrapped (pos (unsigned_abs x)) in
      let lf : o.left.0 < w.first.0 = apart.left in
      let fs : w.first.0 < w.second.0 = apart.second in
      let value : v ≡ alu_of Sub (alu_of Xor a (shift_of Srai a 31)) (shift_of Srai a 31) = simp (put_same, put_lower, same) refl in
      let after : AreKept w o.to f g2 = kept_scratch w o.to w.second f g1 t (omega arith) (kept_scratch w o.to w.first f g s (omega arith) kept) in
      result_set w o.to f g2 v n after (subst (λ u. IsWordOf u n) (sym value) (absolute_is a x p))

  pub absolute : (checked : Bool) → Answers w o.to f (computed checked (pos (unsigned_abs x))) (outcome (absolute_code w o checked) f)
  unfolding outcome absolute_code least_test
  absolute false = cleared f (kept_none w o.to f) refl
  absolute true =
      let g = put f w.first (2 ^ 31) in
      let n = pos (unsigned_abs x) in
      let lf : o.left.0 < w.first.0 = apart.left in
      let same : g o.left.0 ≡ f o.left.0 = put_lower f w.first (2 ^ 31) o.left.0 lf in
      let kept : AreKept w o.to f g = kept_scratch w o.to w.first f f (2 ^ 31) (omega arith) (kept_none w o.to f) in
      let test : takes Beq (g o.left.0) (g w.first.0) ≡ not (fits_word n) = simp (put_same, put_lower) (absolute_test (f o.left.0) x p) in
      tested w o.to f g (takes Beq (g o.left.0) (g w.first.0)) (not (fits_word n)) IntegerOverflow (gives (wrapped n)) _ test kept (λ fits. cleared g kept same)

  -- ---- low bits, and upper case

  twice_set : (u v : ℕ) (n : ℤ) → IsWordOf v n → Answers w o.to f (gives n) (Behind (put (put f o.to u) o.to v))
  twice_set u v n is = result_set w o.to f (put f o.to u) v n (kept_result w o.to f f u (kept_none w o.to f)) is

  pub low_bits : (kind : IntegerKind) → Answers w o.to f (gives (low_bits_of kind x)) (outcome (low_bits_code o.to kind o.left) f)
  unfolding outcome low_bits_code
  low_bits Signed8 =
      let u = shift_of Slli (f o.left.0) 24 in
      twice_set u (shift_of Srai (put f o.to u o.to.0) 24) (low_bits_of Signed8 x) (subst (λ z. IsWordOf (shift_of Srai z 24) (low_bits_of Signed8 x)) (sym (put_same f o.to u)) (signed_byte_is (f o.left.0) x p))
  low_bits Unsigned8 = result_set w o.to f f (imm_of Andi (f o.left.0) (pos 255)) (low_bits_of Unsigned8 x) (kept_none w o.to f) (byte_is (f o.left.0) x p)
  low_bits Signed16 =
      let u = shift_of Slli (f o.left.0) 16 in
      twice_set u (shift_of Srai (put f o.to u o.to.0) 16) (low_bits_of Signed16 x) (subst (λ z. IsWordOf (shift_of Srai z 16) (low_bits_of Signed16 x)) (sym (put_same f o.to u)) (signed_half_is (f o.left.0) x p))
  low_bits Unsigned16 =
      let u = shift_of Slli (f o.left.0) 16 in
      twice_set u (shift_of Srli (put f o.to u o.to.0) 16) (low_bits_of Unsigned16 x) (subst (λ z. IsWordOf (shift_of Srli z 16) (low_bits_of Unsigned16 x)) (sym (put_same f o.to u)) (half_is (f o.left.0) x p))
  low_bits Signed32 = result_set w o.to f f (f o.left.0) (wrapped x) (kept_none w o.to f) (subst (IsWordOf (f o.left.0)) (sym (word_wraps (f o.left.0) x p)) p)

  pub upper : Answers w o.to f (gives (upper_case x)) (outcome (upper_code w o) f)
  unfolding outcome upper_code
  upper =
      let a = f o.left.0 in
      let f1 = put f w.first (imm_of Addi a (negsuc 96)) in
      let f2 = put f1 w.first (imm_of Sltiu (f1 w.first.0) (pos 26)) in
      let f3 = put f2 w.first (shift_of Slli (f2 w.first.0) 5) in
      let v = alu_of Sub (f3 o.left.0) (f3 w.first.0) in
      let lf : o.left.0 < w.first.0 = apart.left in
      let value : v ≡ alu_of Sub a (shift_of Slli (imm_of Sltiu (imm_of Addi a (negsuc 96)) (pos 26)) 5) = simp (put_same, put_lower) refl in
      let kept : AreKept w o.to f f3 =
      kept_scratch w o.to w.first f f2 _ (omega arith) (kept_scratch w o.to w.first f f1 _ (omega arith) (kept_scratch w o.to w.first f f _ (omega arith) (kept_none w o.to f))) in
      result_set w o.to f f3 v (upper_case x) kept (subst (λ u. IsWordOf u (upper_case x)) (sym value) (upper_is a x p))

  -- ---- ranges

  check_by : (every : Bool) (low high : ℤ) → has_every_number low high ≡ every → Answers w o.to f (within low high x) (outcome (if every then Move o.to o.left ∷ [] else range_code w o.left low high ++ move_code o.to o.left) f)
  unfolding outcome
  check_by true low high e =
      subst (λ t. Answers w o.to f (if t then gives x else fails RangeCheck) (Behind (put f o.to (f o.left.0)))) (sym (every_number low high x e (word_fits (f o.left.0) x p)))
      (result_set w o.to f f (f o.left.0) x (kept_none w o.to f) p)
  check_by false low high e =
      range_then w o f apart low high x (move_code o.to o.left) (gives x) p (kept_none w o.to f)
      (λ yes g kept same. moved w o.to o.left f g x kept (subst (λ u. IsWordOf u x) (sym same) p))

  pub check : (low high : ℤ) → Answers w o.to f (within low high x) (outcome (check_code w o low high) f)
  unfolding check_code
  check low high = check_by (has_every_number low high) low high refl

  sum_result : (distance : ℤ) (h : ℕ → ℕ) → AreKept w o.to f h → h o.to.0 ≡ (f o.left.0 + word_from distance) % 2 ^ 32 → FitsSigned w32 distance → fits_word (x +ℤ distance) ≡ true → Answers w o.to f (gives (x +ℤ distance)) (outcome [] h)
  unfolding outcome
  sum_result distance h after value q fits =
      record { result = subst (λ u. IsWordOf u (x +ℤ distance)) (sym value) (sum_with_is (f o.left.0) (word_from distance) x distance p (number_is distance q) fits); others = after }

  pub neighbour : (distance low high : ℤ) → FitsSigned w32 distance → fits_word low ≡ true → fits_word high ≡ true → Answers w o.to f (within low high (x +ℤ distance)) (outcome (neighbour_code w o distance low high) f)
  unfolding neighbour_code neighbour_test
  neighbour distance low high q lower higher =
      let n = x +ℤ distance in
      let front = in_front x distance low high in
      let code = sum_with w.first o.to o.left distance in
      subst (λ t. Answers w o.to f (if t then gives n else fails RangeCheck) (outcome (range_code w o.left (low -ℤ distance) (high -ℤ distance) ++ code) f)) (sym front)
      (range_then w o f apart (low -ℤ distance) (high -ℤ distance) x code (gives n) p (kept_none w o.to f)
      (λ yes g kept same.
      let fits : fits_word n ≡ true = between_fits low high n lower higher (front ∙ yes) in
      subst (λ is. Answers w o.to f (gives n) (outcome is g)) (append-nil code)
      (sum_then w o f apart o.to (λ h v before. kept_result w o.to f h v before) distance [] (Answers w o.to f (gives n)) g kept same
      (λ h after value left. sum_result distance h after value q fits))))
