-- The low code of sets comes to what is meant.
use Rattle.std.proofs.Common.{◌≡◌, ◌≢◌, ℕ, ℤ, pos, negsuc, ◌<◌, Bool, true, false, not, List, [], ◌∷◌, ◌++◌, refl, ap, ap₂, sym, ◌∙◌, subst, arith, if◌then◌else◌}
use Rattle.std.specs.Int.{w32, cast_unsigned, int_bit_not}
use Rattle.std.specs.Ordering.{int_eq}
use Rattle.op_compute.proofs.ComparisonLemmas.{truth_set, comparison}
use Rattle.op_compute.proofs.Registers.{put_same, put_other, put_lower, kept_none, kept_scratch, kept_result, result_set, moved, tested}
use Rattle.op_compute.proofs.WordBits.{and_is, or_is}
use Rattle.op_compute.proofs.WordParts.{zero_is}
use Rattle.op_compute.proofs.WordSets.{single_is, from_on, all_if_negative, span_of, span_is, element_is, without_is, others_test}
use Rattle.op_compute.proofs.Words.{small_is}
use Rattle.op_compute.specs.Meaning.{gives, fails, Answers, IsApart, IsWordOf, AreKept}
use Rattle.op_compute.specs.Moves.{move_code}
use Rattle.op_compute.specs.SetCode.{without_code, inclusion_code, combine_code, single_code, bits_from_code, all_if_negative_code, span_code, contains_code, check_set_code}
use Rattle.op_compute.specs.Straight.{put, outcome, alu_of, imm_of, shift_of, takes, Outcome, Behind, Away}
use Rattle.op_compute.specs.declared.bank.Operands.{Operands}
use Rattle.op_compute.specs.declared.bank.RuntimeError.TheVariants.{RangeCheck}
use Rattle.op_compute.specs.declared.bank.Work.{Work}
use Rattle.op_low.specs.declared.ids.VirtualRegister.{VirtualRegister}
use Rattle.op_low.specs.declared.instruction.Instruction.{Instruction}
use Rattle.op_low.specs.declared.instruction.Instruction.TheVariants.{Alu, AluImm, Shift}
use Rattle.op_meaning.specs.Numbers.{between}
use Rattle.op_meaning.specs.Sets.{truth, set_of, without, combined, is_element}
use Rattle.op_rv.specs.declared.instruction.AluOp.TheVariants.{And, Or, Sll, Srl}
use Rattle.op_rv.specs.declared.instruction.BranchOp.TheVariants.{Bne}
use Rattle.op_rv.specs.declared.instruction.ImmOp.TheVariants.{Addi, Sltiu, Xori}
use Rattle.op_rv.specs.declared.instruction.ShiftOp.TheVariants.{Slli, Srai}
use Rattle.op_tree.specs.declared.operator.Operator.{Operator}
use Rattle.op_tree.specs.declared.operator.Operator.TheVariants.{Equal, NotEqual, Less, Greater, LessEqual, GreaterEqual, In_, Is, Add, Subtract, Or as Either, Xor as Differ, Multiply, Slash, Div, Mod_, And as Both, Shl, Shr, As_}

-- ---- parts of the code of a span, in front of other code

pub bits_then : (to from : VirtualRegister) (a : ℕ) (g : ℕ → ℕ) (rest : List Instruction) (Holds : Outcome → Type 0) → from.0 < to.0 → g from.0 ≡ a → ((h : ℕ → ℕ) → h to.0 ≡ from_on a → ((r : ℕ) → r ≢ to.0 → h r ≡ g r) → Holds (outcome rest h)) → Holds (outcome (bits_from_code to from ++ rest) g)
unfolding outcome bits_from_code
bits_then to from a g rest Holds below same behind =
    let g1 = put g to (imm_of Addi (g from.0) (negsuc 31)) in
    let g2 = put g1 to (shift_of Srai (g1 to.0) 31) in
    let v = alu_of Sll (g2 to.0) (g2 from.0) in
    let value : v ≡ from_on a = simp (put_same, put_lower, same) refl in
    behind (put g2 to v) (put_same g2 to v ∙ value)
    (λ r differs. put_other g2 to v r differs ∙ put_other g1 to (shift_of Srai (g1 to.0) 31) r differs ∙ put_other g to (imm_of Addi (g from.0) (negsuc 31)) r differs)

pub negative_then : (to via from : VirtualRegister) (a v : ℕ) (g : ℕ → ℕ) (rest : List Instruction) (Holds : Outcome → Type 0) → to.0 < via.0 → g from.0 ≡ a → g to.0 ≡ v → ((h : ℕ → ℕ) → h to.0 ≡ all_if_negative v a → ((r : ℕ) → r ≢ to.0 → r ≢ via.0 → h r ≡ g r) → Holds (outcome rest h)) → Holds (outcome (all_if_negative_code to via from ++ rest) g)
unfolding outcome all_if_negative_code all_if_negative
negative_then to via from a v g rest Holds below same before behind =
    let s = shift_of Srai (g from.0) 31 in
    let g1 = put g via s in
    let u = alu_of Or (g1 to.0) (g1 via.0) in
    let value : u ≡ alu_of Or v (shift_of Srai a 31) = simp (put_same, put_lower, same, before) refl in
    behind (put g1 to u) (put_same g1 to u ∙ value) (λ r differs apart. put_other g1 to u r differs ∙ put_other g via s r apart)

module _ (w : Work) (o : Operands) (f : ℕ → ℕ) (x y : ℤ) (apart : IsApart w o) (p : IsWordOf (f o.left.0) x) (q : IsWordOf (f o.right.0) y) where
  pub single : Answers w o.to f (gives (set_of (λ n. int_eq (pos n) x))) (outcome (single_code o.to w.first o.left) f)
  unfolding outcome single_code
  single =
      let a = f o.left.0 in
      let s = imm_of Sltiu a (pos 32) in
      let g = put f w.first s in
      let v = alu_of Sll (g w.first.0) (g o.left.0) in
      let lf : o.left.0 < w.first.0 = apart.left in
      let value : v ≡ alu_of Sll (imm_of Sltiu a (pos 32)) a = simp (put_same, put_lower) refl in
      let n = set_of (λ n. int_eq (pos n) x) in
      result_set w o.to f g v n (kept_scratch w o.to w.first f f s (omega arith) (kept_none w o.to f)) (subst (λ u. IsWordOf u n) (sym value) (single_is a x p))

  pub contains : Answers w o.to f (gives (truth (is_element x y))) (outcome (contains_code w o) f)
  unfolding outcome contains_code
  contains =
      let a = f o.left.0 in
      let b = f o.right.0 in
      let s = imm_of Sltiu a (pos 32) in
      let g1 = put f w.first s in
      let t = alu_of Srl (g1 o.right.0) (g1 o.left.0) in
      let g2 = put g1 w.second t in
      let v = alu_of And (g2 w.first.0) (g2 w.second.0) in
      let lf : o.left.0 < w.first.0 = apart.left in
      let rf : o.right.0 < w.first.0 = apart.right in
      let fs : w.first.0 < w.second.0 = apart.second in
      let value : v ≡ alu_of And (imm_of Sltiu a (pos 32)) (alu_of Srl b a) = simp (put_same, put_lower) refl in
      truth_set w o.to f g2 v (is_element x y) (kept_scratch w o.to w.second f g1 t (omega arith) (kept_scratch w o.to w.first f f s (omega arith) (kept_none w o.to f)))
      (value ∙ element_is a b x y p q)

  -- ---- operators

  pub lacking : Answers w o.to f (gives (without x y)) (outcome (without_code w o.to o.left o.right) f)
  unfolding outcome without_code
  lacking =
      let s = imm_of Xori (f o.right.0) (negsuc 0) in
      let g = put f w.first s in
      let v = alu_of And (g o.left.0) (g w.first.0) in
      let lf : o.left.0 < w.first.0 = apart.left in
      let value : v ≡ alu_of And (f o.left.0) s = simp (put_same, put_lower) refl in
      result_set w o.to f g v (without x y) (kept_scratch w o.to w.first f f s (omega arith) (kept_none w o.to f))
      (subst (λ u. IsWordOf u (without x y)) (sym value) (without_is (f o.left.0) (f o.right.0) x y p q))

  pub span : Answers w o.to f (gives (set_of (λ n. between x y (pos n)))) (outcome (span_code w o) f)
  unfolding outcome span_code bits_from_code all_if_negative_code span_of
  span =
      let a = f o.left.0 in
      let b = f o.right.0 in
      let n = set_of (λ n. between x y (pos n)) in
      let Holds = Answers w o.to f (gives n) in
      let lf : o.left.0 < w.first.0 = apart.left in
      let rf : o.right.0 < w.first.0 = apart.right in
      let fs : w.first.0 < w.second.0 = apart.second in
      let st : w.second.0 < w.third.0 = apart.third in
      let rest4 : List Instruction = AluImm Xori w.second w.second (negsuc 0) ∷ Alu And o.to w.first w.second ∷ [] in
      let rest3 : List Instruction = Shift Slli w.second w.second 1 ∷ (all_if_negative_code w.second w.third o.right ++ rest4) in
      let rest2 : List Instruction = bits_from_code w.second o.right ++ rest3 in
      let rest1 : List Instruction = all_if_negative_code w.first w.second o.left ++ rest2 in
      bits_then w.first o.left a f rest1 Holds lf refl
      (λ h1 v1 k1.
      negative_then w.first w.second o.left a (from_on a) h1 rest2 Holds fs (k1 o.left.0 (omega arith)) v1
      (λ h2 v2 k2.
      let right : h2 o.right.0 ≡ b = k2 o.right.0 (omega arith) (omega arith) ∙ k1 o.right.0 (omega arith) in
      bits_then w.second o.right b h2 rest3 Holds (omega arith) right
      (λ h3 v3 k3.
      let d = shift_of Slli (h3 w.second.0) 1 in
      let h4 = put h3 w.second d in
      let right4 : h4 o.right.0 ≡ b = put_lower h3 w.second d o.right.0 (omega arith) ∙ k3 o.right.0 (omega arith) ∙ right in
      let second4 : h4 w.second.0 ≡ shift_of Slli (from_on b) 1 = put_same h3 w.second d ∙ ap (λ z. shift_of Slli z 1) v3 in
      negative_then w.second w.third o.right b (shift_of Slli (from_on b) 1) h4 rest4 Holds st right4 second4
      (λ h5 v5 k5.
      let c = imm_of Xori (h5 w.second.0) (negsuc 0) in
      let g = put h5 w.second c in
      let v = alu_of And (g w.first.0) (g w.second.0) in
      let same : (r : ℕ) → r < w.first.0 → g r ≡ f r = λ r below.
      put_lower h5 w.second c r (omega arith) ∙ k5 r (omega arith) (omega arith) ∙ put_lower h3 w.second d r (omega arith)
      ∙ k3 r (omega arith) ∙ k2 r (omega arith) (omega arith) ∙ k1 r (omega arith) in
      let first5 : g w.first.0 ≡ all_if_negative (from_on a) a =
      put_lower h5 w.second c w.first.0 fs ∙ k5 w.first.0 (omega arith) (omega arith) ∙ put_lower h3 w.second d w.first.0 fs ∙ k3 w.first.0 (omega arith) ∙ v2 in
      let second5 : g w.second.0 ≡ imm_of Xori (all_if_negative (shift_of Slli (from_on b) 1) b) (negsuc 0) =
      put_same h5 w.second c ∙ ap (λ z. imm_of Xori z (negsuc 0)) v5 in
      result_set w o.to f g v n (λ r below differs. same r below)
      (subst (λ u. IsWordOf u n) (sym (ap₂ (alu_of And) first5 second5)) (span_is a b x y p q))))))

-- ---- whether one set contains another

module _ (w : Work) (to : VirtualRegister) (f : ℕ → ℕ) where
  pub inclusion : (a b : VirtualRegister) (x y : ℤ) → a.0 < w.first.0 → IsWordOf (f a.0) x → IsWordOf (f b.0) y → Answers w to f (gives (truth (int_eq (without x y) (pos 0)))) (outcome (inclusion_code w to a b) f)
  unfolding outcome inclusion_code without_code
  inclusion a b x y af p q =
      let s = imm_of Xori (f b.0) (negsuc 0) in
      let g1 = put f w.first s in
      let u = alu_of And (g1 a.0) (g1 w.first.0) in
      let g2 = put g1 to u in
      let v = imm_of Sltiu (g2 to.0) (pos 1) in
      let value : u ≡ alu_of And (f a.0) s = simp (put_same, put_lower) refl in
      let is : IsWordOf u (without x y) = subst (λ z. IsWordOf z (without x y)) (sym value) (without_is (f a.0) (f b.0) x y p q) in
      truth_set w to f g2 v (int_eq (without x y) (pos 0)) (kept_result w to f g1 u (kept_scratch w to w.first f f s (omega arith) (kept_none w to f)))
      (ap (λ z. imm_of Sltiu z (pos 1)) (put_same g1 to u) ∙ zero_is u (without x y) is)

module _ (w : Work) (o : Operands) (f : ℕ → ℕ) (x y : ℤ) (apart : IsApart w o) (p : IsWordOf (f o.left.0) x) (q : IsWordOf (f o.right.0) y) where
  no_operator : Answers w o.to f (gives (pos 0)) (Behind (put f o.to 0))
  no_operator = result_set w o.to f f 0 (pos 0) (kept_none w o.to f) (small_is 0 (omega arith))

  pub combination : (operator : Operator) → Answers w o.to f (gives (combined operator x y)) (outcome (combine_code w o operator) f)
  unfolding outcome combine_code
  combination Add = result_set w o.to f f (alu_of Or (f o.left.0) (f o.right.0)) (combined Add x y) (kept_none w o.to f) (or_is (f o.left.0) (f o.right.0) x y p q)
  combination Subtract = lacking w o f x y apart p q
  combination Multiply = result_set w o.to f f (alu_of And (f o.left.0) (f o.right.0)) (combined Multiply x y) (kept_none w o.to f) (and_is (f o.left.0) (f o.right.0) x y p q)
  combination LessEqual = inclusion w o.to f o.left o.right x y apart.left p q
  combination GreaterEqual = inclusion w o.to f o.right o.left y x apart.right q p
  combination Equal = comparison w o f x y p q Equal
  combination NotEqual = comparison w o f x y p q NotEqual
  combination Less = no_operator
  combination Greater = no_operator
  combination In_ = no_operator
  combination Is = no_operator
  combination Either = no_operator
  combination Differ = no_operator
  combination Slash = no_operator
  combination Div = no_operator
  combination Mod_ = no_operator
  combination Both = no_operator
  combination Shl = no_operator
  combination Shr = no_operator
  combination As_ = no_operator

-- ---- elements but those of a set

flipped : (w : Work) (to : VirtualRegister) (f : ℕ → ℕ) (n : ℤ) (none : Bool) (outcome : Outcome) → Answers w to f (if not none then fails RangeCheck else gives n) outcome → Answers w to f (if none then gives n else fails RangeCheck) outcome
flipped w to f n true outcome answer = answer
flipped w to f n false outcome answer = answer

pub checked_set : (w : Work) (o : Operands) (f : ℕ → ℕ) (x all : ℤ) → IsApart w o → IsWordOf (f o.left.0) x → Answers w o.to f (if int_eq (without x all) (pos 0) then gives x else fails RangeCheck) (outcome (check_set_code w o all) f)
unfolding outcome check_set_code
checked_set w o f x all apart p =
    let a = f o.left.0 in
    let others = cast_unsigned w32 (int_bit_not w32 all) in
    let g1 = put f w.first others in
    let u = alu_of And (g1 w.first.0) (g1 o.left.0) in
    let g2 = put g1 w.first u in
    let g3 = put g2 w.second 0 in
    let lf : o.left.0 < w.first.0 = apart.left in
    let fs : w.first.0 < w.second.0 = apart.second in
    let ls : o.left.0 < w.second.0 = omega arith in
    let value : takes Bne (g3 w.first.0) (g3 w.second.0) ≡ takes Bne (alu_of And others a) 0 = simp (put_same, put_lower) refl in
    let same : g3 o.left.0 ≡ a = simp (put_same, put_lower) refl in
    let kept : AreKept w o.to f g3 =
    kept_scratch w o.to w.second f g2 0 (omega arith) (kept_scratch w o.to w.first f g1 u (omega arith) (kept_scratch w o.to w.first f f others (omega arith) (kept_none w o.to f))) in
    let none = int_eq (without x all) (pos 0) in
    let taken = takes Bne (g3 w.first.0) (g3 w.second.0) in
    let rest = outcome (move_code o.to o.left) g3 in
    flipped w o.to f x none (if taken then Away w.range g3 else rest)
    (tested w o.to f g3 taken (not none) RangeCheck (gives x) rest (value ∙ others_test a x all p) kept (λ no. moved w o.to o.left f g3 x kept (subst (λ z. IsWordOf z x) (sym same) p)))
