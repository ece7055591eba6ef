-- The low code of comparisons comes to what is meant.
use Rattle.std.proofs.Common.{◌≡◌, ℕ, ℤ, pos, Bool, not, ap, sym, ◌∙◌, subst, arith}
use Rattle.std.specs.Int.{from_bool}
use Rattle.std.specs.Ordering.{int_eq}
use Rattle.std.specs.Prelude.{int_lt}
use Rattle.op_compute.proofs.Registers.{put_same, kept_none, kept_result, result_set}
use Rattle.op_compute.proofs.WordBits.{equal_is}
use Rattle.op_compute.proofs.Words.{truth_is, less_is, not_is, at_most, small_is}
use Rattle.op_compute.specs.Comparisons.{equal_code, compare_code}
use Rattle.op_compute.specs.Meaning.{gives, Answers, IsWordOf, AreKept}
use Rattle.op_compute.specs.Straight.{put, outcome, alu_of, imm_of, Behind}
use Rattle.op_compute.specs.declared.bank.Operands.{Operands}
use Rattle.op_compute.specs.declared.bank.Work.{Work}
use Rattle.op_meaning.specs.Numbers.{compared}
use Rattle.op_meaning.specs.Sets.{truth}
use Rattle.op_rv.specs.declared.instruction.AluOp.TheVariants.{Slt, Xor}
use Rattle.op_rv.specs.declared.instruction.ImmOp.TheVariants.{Sltiu, Xori}
use Rattle.op_tree.specs.declared.operator.Operator.{Operator}
use Rattle.op_tree.specs.declared.operator.Operator.TheVariants.{Equal, NotEqual, Less, Greater, LessEqual, GreaterEqual, In_, Is, Add, Subtract, Or, Xor as Differ, Multiply, Slash, Div, Mod_, And, Shl, Shr, As_}
use Rattle.op_low.specs.declared.ids.VirtualRegister.{VirtualRegister}

module _ (w : Work) (to : VirtualRegister) (f : ℕ → ℕ) where
  -- a test, and one that is turned round in the result's register
  pub truth_set : (g : ℕ → ℕ) (v : ℕ) (t : Bool) → AreKept w to f g → v ≡ from_bool t → Answers w to f (gives (truth t)) (Behind (put g to v))
  truth_set g v t kept is = result_set w to f g v (truth t) kept (subst (λ u. IsWordOf u (truth t)) (sym is) (truth_is t))

  turned : (g : ℕ → ℕ) (v : ℕ) (t : Bool) → AreKept w to f g → v ≡ from_bool t → Answers w to f (gives (truth (not t))) (Behind (put (put g to v) to (imm_of Xori (put g to v to.0) (pos 1))))
  turned g v t kept is =
      truth_set (put g to v) (imm_of Xori (put g to v to.0) (pos 1)) (not t) (kept_result w to f g v kept)
      (ap (λ u. imm_of Xori u (pos 1)) (put_same g to v ∙ is) ∙ not_is t)

module _ (w : Work) (o : Operands) (f : ℕ → ℕ) (x y : ℤ) (p : IsWordOf (f o.left.0) x) (q : IsWordOf (f o.right.0) y) where
  equal_value : imm_of Sltiu (put f o.to (alu_of Xor (f o.left.0) (f o.right.0)) o.to.0) (pos 1) ≡ from_bool (int_eq x y)
  equal_value = ap (λ u. imm_of Sltiu u (pos 1)) (put_same f o.to (alu_of Xor (f o.left.0) (f o.right.0))) ∙ equal_is (f o.left.0) (f o.right.0) x y p q

  after_xor : AreKept w o.to f (put f o.to (alu_of Xor (f o.left.0) (f o.right.0)))
  after_xor = kept_result w o.to f f (alu_of Xor (f o.left.0) (f o.right.0)) (kept_none w o.to f)

  nothing : Answers w o.to f (gives (pos 0)) (Behind (put f o.to 0))
  nothing = result_set w o.to f f 0 (pos 0) (kept_none w o.to f) (small_is 0 (omega arith))

  pub comparison : (operator : Operator) → Answers w o.to f (gives (truth (compared operator x y))) (outcome (compare_code o operator) f)
  unfolding outcome compare_code equal_code
  comparison Equal = truth_set w o.to f (put f o.to (alu_of Xor (f o.left.0) (f o.right.0))) _ (int_eq x y) after_xor equal_value
  comparison NotEqual = turned w o.to f (put f o.to (alu_of Xor (f o.left.0) (f o.right.0))) _ (int_eq x y) after_xor equal_value
  comparison Less = truth_set w o.to f f (alu_of Slt (f o.left.0) (f o.right.0)) (int_lt x y) (kept_none w o.to f) (less_is (f o.left.0) (f o.right.0) x y p q)
  comparison Greater = truth_set w o.to f f (alu_of Slt (f o.right.0) (f o.left.0)) (int_lt y x) (kept_none w o.to f) (less_is (f o.right.0) (f o.left.0) y x q p)
  comparison LessEqual =
      subst (λ t. Answers w o.to f (gives (truth t)) (outcome (compare_code o LessEqual) f)) (at_most x y)
      (turned w o.to f f (alu_of Slt (f o.right.0) (f o.left.0)) (int_lt y x) (kept_none w o.to f) (less_is (f o.right.0) (f o.left.0) y x q p))
  comparison GreaterEqual =
      subst (λ t. Answers w o.to f (gives (truth t)) (outcome (compare_code o GreaterEqual) f)) (at_most y x)
      (turned w o.to f f (alu_of Slt (f o.left.0) (f o.right.0)) (int_lt x y) (kept_none w o.to f) (less_is (f o.left.0) (f o.right.0) x y p q))
  comparison In_ = nothing
  comparison Is = nothing
  comparison Add = nothing
  comparison Subtract = nothing
  comparison Or = nothing
  comparison Differ = nothing
  comparison Multiply = nothing
  comparison Slash = nothing
  comparison Div = nothing
  comparison Mod_ = nothing
  comparison And = nothing
  comparison Shl = nothing
  comparison Shr = nothing
  comparison As_ = nothing
