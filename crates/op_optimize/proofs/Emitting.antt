-- An instruction that stays, over the registers of the better code, does what it did.
use Rattle.std.proofs.Common.{◌≡◌, ℕ, suc, ◌+◌, ◌%◌, ◌^◌, Bool, true, false, not, if◌then◌else◌, Option, Some, None, List, [], ◌∷◌, length, map, nat_eq, refl, ap, ap₂, sym, ◌∙◌, subst, arith, mul_comm}
use Rattle.std.proofs.lemmas.Bool.{eqb-true, eq-eqb, or_left, or_right}
use Rattle.std.proofs.lemmas.Option.{same_Some}
use Rattle.std.specs.Int.{from_bool}
use Rattle.std.specs.List.{list_any}
use Rattle.op_optimize.specs.Reading.{same}
use Rattle.op_rv.specs.Operation.{alu_value, branch_taken}
use Rattle.op_rv.specs.declared.instruction.AluOp.{AluOp}
use Rattle.op_rv.specs.declared.instruction.AluOp.TheVariants.{Add, Sub, Sll, Slt, Sltu, Xor, Srl, Sra, Or, And, Mul, Mulh, Mulhsu, Mulhu, Div, Divu, Rem, Remu}
use Rattle.op_rv.specs.declared.instruction.BranchOp.{BranchOp}
use Rattle.op_rv.specs.declared.instruction.BranchOp.TheVariants.{Beq, Bne, Blt, Bge, Bltu, Bgeu}
use Rattle.op_rv.specs.declared.symbol.BlockId.{BlockId}
use Rattle.op_low.specs.Machine.{act}
use Rattle.op_low.specs.State.{Placement, State, keep, value}
use Rattle.op_low.specs.declared.code.Low.{Low}
use Rattle.op_low.specs.declared.ids.VirtualRegister.{VirtualRegister}
use Rattle.op_low.specs.declared.instruction.Instruction.{Instruction}
use Rattle.op_low.specs.declared.instruction.Instruction.TheVariants.{Branch}
use Rattle.op_optimize.specs.Facts.{source, source_by, value_in}
use Rattle.op_optimize.specs.Rewriting.{alu_both, and_one, branch, branch_both, branch_by, branch_on, first_of, fold_both, folded_into, is_zero, moved, operation, sources, tested, with_left, with_value}
use Rattle.op_optimize.specs.Values.{folded, is_commutative}
use Rattle.op_optimize.specs.declared.fact.Fact.{Fact}
use Rattle.op_optimize.specs.declared.fact.Value.{Value}
use Rattle.op_optimize.specs.declared.fact.Value.TheVariants.{Copy, Number, Difference, Truth}
use Rattle.op_optimize.specs.declared.value.NumberForm.{NumberForm}
use Rattle.op_optimize.specs.declared.value.NumberForm.TheVariants.{Imm, ByShift}
use Rattle.op_optimize.proofs.Facts.{meaning}
use Rattle.op_optimize.proofs.Meanings.{folded_means, form_value, opposite_holds}

-- the register that has a value has it
pub source_means : (s : ℕ → ℕ) (nothing : VirtualRegister) → s nothing.0 ≡ 0 → (v : Value) (a : VirtualRegister) → source_by nothing v ≡ Some a → s a.0 ≡ meaning s v
source_means s nothing none (Copy of) a is = ap (λ r. s r.0) (sym (same_Some _ _ is))
source_means s nothing none (Number n) a is = by (nat_eq n 0) refl is
  where
    by : (t : Bool) → nat_eq n 0 ≡ t → (if t then Some nothing else None) ≡ Some a → s a.0 ≡ n
    by true e is = ap (λ r. s r.0) (sym (same_Some _ _ is)) ∙ none ∙ sym (eqb-true n 0 e)
    by false e is = absurd cc
source_means s nothing none (Difference left right) a is = absurd cc
source_means s nothing none (Truth op left right) a is = absurd cc

-- ---- instructions that put a value in a register

module _ (better : Low) (p : Placement) (n : State) (to : VirtualRegister) where
  -- it puts that there
  abbrev pub Does : Instruction → ℕ → Type 0
  Does j x = act better p j n ≡ keep to x n

  folded_does : (f : NumberForm) (a : VirtualRegister) → Does (folded_into f to a) (form_value f (value n a))
  unfolding act
  folded_does (Imm op imm) a = refl
  folded_does (ByShift op amount) a = refl

  with_value_does : (op : AluOp) (left : Option VirtualRegister) (v : Value) (j : Instruction) (x y : ℕ) → with_value op to left v ≡ Some j → ((a : VirtualRegister) → left ≡ Some a → value n a ≡ x) → meaning n.top.registers v ≡ y → Does j (alu_value op x y)
  unfolding with_value
  with_value_does op left (Number k) j x y is has means = by (folded op k) left refl refl is
    where
      by : (f : Option NumberForm) (o : Option VirtualRegister) → folded op k ≡ f → left ≡ o → fold_both f to o ≡ Some j → Does j (alu_value op x y)
      by None o e d is = absurd cc
      by (Some f) None e d is = absurd cc
      by (Some f) (Some a) e d is =
          subst (λ i. Does i (alu_value op x y)) (same_Some _ _ is)
          (folded_does f a ∙ ap (λ z. keep to z n) (folded_means op k (value n a) f e ∙ ap₂ (alu_value op) (has a d) means))
  with_value_does op left (Copy of) j x y is has means = absurd cc
  with_value_does op left (Difference a b) j x y is has means = absurd cc
  with_value_does op left (Truth o a b) j x y is has means = absurd cc

  commutes : (op : AluOp) (x y : ℕ) → is_commutative op ≡ true → alu_value op y x ≡ alu_value op x y
  unfolding is_commutative
  commutes Add x y is = let e : y + x ≡ x + y = omega arith in ap (λ k. k % 2 ^ 32) e
  commutes Mul x y is = ap (λ k. k % 2 ^ 32) (mul_comm y x)
  commutes Sub x y is = absurd cc
  commutes Sll x y is = absurd cc
  commutes Slt x y is = absurd cc
  commutes Sltu x y is = absurd cc
  commutes Xor x y is = absurd cc
  commutes Srl x y is = absurd cc
  commutes Sra x y is = absurd cc
  commutes Or x y is = absurd cc
  commutes And x y is = absurd cc
  commutes Mulh x y is = absurd cc
  commutes Mulhsu x y is = absurd cc
  commutes Mulhu x y is = absurd cc
  commutes Div x y is = absurd cc
  commutes Divu x y is = absurd cc
  commutes Rem x y is = absurd cc
  commutes Remu x y is = absurd cc

  -- an operation on registers that have values
  pub operation_does : (facts : List Fact) (nothing : VirtualRegister) → n.top.registers nothing.0 ≡ 0 → (op : AluOp) (left right : VirtualRegister) (j : Instruction) (x y : ℕ) → operation facts nothing op to left right ≡ Some j → meaning n.top.registers (value_in facts left) ≡ x → meaning n.top.registers (value_in facts right) ≡ y → Does j (alu_value op x y)
  unfolding operation source act
  operation_does facts nothing none op left right j x y is left_means right_means =
      by (with_value op to (source facts nothing left) (value_in facts right)) (with_left facts nothing op to left right) refl refl is
    where
      has_left : (a : VirtualRegister) → source facts nothing left ≡ Some a → value n a ≡ x
      has_left a e = source_means n.top.registers nothing none (value_in facts left) a e ∙ left_means

      has_right : (a : VirtualRegister) → source facts nothing right ≡ Some a → value n a ≡ y
      has_right a e = source_means n.top.registers nothing none (value_in facts right) a e ∙ right_means

      swapped : (t : Bool) → is_commutative op ≡ t → (if t then with_value op to (source facts nothing right) (value_in facts left) else None) ≡ Some j → Does j (alu_value op x y)
      swapped true e is = with_value_does op (source facts nothing right) (value_in facts left) j y x is has_right left_means ∙ ap (λ z. keep to z n) (commutes op x y e)
      swapped false e is = absurd cc

      plain : (a b : Option VirtualRegister) → source facts nothing left ≡ a → source facts nothing right ≡ b → alu_both op to a b ≡ Some j → Does j (alu_value op x y)
      plain None b e d is = absurd cc
      plain (Some a) None e d is = absurd cc
      plain (Some a) (Some b) e d is = subst (λ i. Does i (alu_value op x y)) (same_Some _ _ is) (ap (λ z. keep to z n) (ap₂ (alu_value op) (has_left a e) (has_right b d)))

      by : (o q : Option Instruction) → with_value op to (source facts nothing left) (value_in facts right) ≡ o → with_left facts nothing op to left right ≡ q → first_of o (first_of q (alu_both op to (source facts nothing left) (source facts nothing right))) ≡ Some j → Does j (alu_value op x y)
      by (Some i) q e d is = with_value_does op (source facts nothing left) (value_in facts right) j x y (e ∙ is) has_left right_means
      by None (Some i) e d is = swapped (is_commutative op) refl (d ∙ is)
      by None None e d is = plain (source facts nothing left) (source facts nothing right) refl refl is

  -- a register becomes a value
  pub moved_does : (v : Value) (j : Instruction) (x : ℕ) → moved to v ≡ Some j → meaning n.top.registers v ≡ x → Does j x
  unfolding moved act
  moved_does (Copy of) j x is means = subst (λ i. Does i x) (same_Some _ _ is) (ap (λ z. keep to z n) means)
  moved_does (Number k) j x is means = subst (λ i. Does i x) (same_Some _ _ is) (ap (λ z. keep to z n) means)
  moved_does (Difference left right) j x is means = subst (λ i. Does i x) (same_Some _ _ is) (ap (λ z. keep to z n) means)
  moved_does (Truth Blt left right) j x is means = subst (λ i. Does i x) (same_Some _ _ is) (ap (λ z. keep to z n) means)
  moved_does (Truth Bltu left right) j x is means = subst (λ i. Does i x) (same_Some _ _ is) (ap (λ z. keep to z n) means)
  moved_does (Truth Beq left right) j x is means = absurd cc
  moved_does (Truth Bne left right) j x is means = absurd cc
  moved_does (Truth Bge left right) j x is means = absurd cc
  moved_does (Truth Bgeu left right) j x is means = absurd cc

-- ---- branches

-- the better branch is taken where the other one is
pub record Branches (s : ℕ → ℕ) (op : BranchOp) (x y : ℕ) (block : BlockId) (j : Instruction) : Type 0 where
  pub op_of : BranchOp
  pub left_of : VirtualRegister
  pub right_of : VirtualRegister
  pub is : j ≡ Branch op_of left_of right_of block
  pub taken : branch_taken op_of (s left_of.0) (s right_of.0) ≡ branch_taken op x y

module _ (s : ℕ → ℕ) (facts : List Fact) (nothing : VirtualRegister) (none : s nothing.0 ≡ 0) where
  truth_tested : (op truth new : BranchOp) (a b : ℕ) → tested op truth ≡ Some new → branch_taken new a b ≡ branch_taken op (from_bool (branch_taken truth a b)) 0
  truth_tested Bne truth new a b is = ap (λ o. branch_taken o a b) (sym (same_Some _ _ is)) ∙ by (branch_taken truth a b)
    where
      by : (t : Bool) → t ≡ not (nat_eq (from_bool t) 0)
      by true = refl
      by false = refl
  truth_tested Beq truth new a b is = ap (λ o. branch_taken o a b) (sym (same_Some _ _ is)) ∙ opposite_holds truth a b ∙ by (branch_taken truth a b)
    where
      by : (t : Bool) → not t ≡ nat_eq (from_bool t) 0
      by true = refl
      by false = refl
  truth_tested Blt truth new a b is = absurd cc
  truth_tested Bge truth new a b is = absurd cc
  truth_tested Bltu truth new a b is = absurd cc
  truth_tested Bgeu truth new a b is = absurd cc

  zero_means : (v : Value) → is_zero v ≡ true → meaning s v ≡ 0
  zero_means (Number n) is = eqb-true n 0 is
  zero_means (Copy of) is = absurd cc
  zero_means (Difference a b) is = absurd cc
  zero_means (Truth op a b) is = absurd cc

  pub branch_does : (op : BranchOp) (left right : VirtualRegister) (block : BlockId) (j : Instruction) (x y : ℕ) → branch facts nothing op left right block ≡ Some j → meaning s (value_in facts left) ≡ x → meaning s (value_in facts right) ≡ y → Branches s op x y block j
  unfolding branch source
  branch_does op left right block j x y is left_means right_means = by (value_in facts left) refl is left_means
    where
      plain : (v : Value) → value_in facts left ≡ v → meaning s v ≡ x → (a b : Option VirtualRegister) → source_by nothing (value_in facts left) ≡ a → source_by nothing (value_in facts right) ≡ b → branch_both op a b block ≡ Some j → Branches s op x y block j
      plain v is_v means None b e d is = absurd cc
      plain v is_v means (Some a) None e d is = absurd cc
      plain v is_v means (Some a) (Some b) e d is =
          record {
            op_of = op;
            left_of = a;
            right_of = b;
            is = sym (same_Some _ _ is);
            taken = ap₂ (branch_taken op) (source_means s nothing none (value_in facts left) a e ∙ left_means) (source_means s nothing none (value_in facts right) b d ∙ right_means);
          }

      on_truth : (truth : BranchOp) (a b : VirtualRegister) → from_bool (branch_taken truth (s a.0) (s b.0)) ≡ x → (t : Bool) → is_zero (value_in facts right) ≡ t → (if t then branch_on (tested op truth) a b block else None) ≡ Some j → Branches s op x y block j
      on_truth truth a b means false e is = absurd cc
      on_truth truth a b means true e is = found (tested op truth) refl is
        where
          found : (o : Option BranchOp) → tested op truth ≡ o → branch_on o a b block ≡ Some j → Branches s op x y block j
          found None d is = absurd cc
          found (Some new) d is =
              let no : 0 ≡ y = sym (zero_means (value_in facts right) e) ∙ right_means in
              record {
                op_of = new;
                left_of = a;
                right_of = b;
                is = sym (same_Some _ _ is);
                taken = truth_tested op truth new (s a.0) (s b.0) d ∙ ap₂ (branch_taken op) means no;
              }

      by : (v : Value) → value_in facts left ≡ v → branch_by facts nothing op v left right block ≡ Some j → meaning s v ≡ x → Branches s op x y block j
      by (Truth truth a b) e is means = on_truth truth a b means (is_zero (value_in facts right)) refl is
      by (Copy of) e is means = plain (Copy of) e means (source_by nothing (value_in facts left)) (source_by nothing (value_in facts right)) refl refl is
      by (Number n) e is means = plain (Number n) e means (source_by nothing (value_in facts left)) (source_by nothing (value_in facts right)) refl refl is
      by (Difference a b) e is means = plain (Difference a b) e means (source_by nothing (value_in facts left)) (source_by nothing (value_in facts right)) refl refl is

-- ---- arguments

abbrev pub value_at : (ℕ → ℕ) → VirtualRegister → ℕ
value_at s r = s r.0

module _ (old s : ℕ → ℕ) (facts : List Fact) (nothing : VirtualRegister) (none : s nothing.0 ≡ 0) where
  -- the same values, and as many
  pub sources_pass : (rs new : List VirtualRegister) → ((r : VirtualRegister) → list_any (λ a. same a r) rs ≡ true → old r.0 ≡ meaning s (value_in facts r)) → sources facts nothing rs ≡ Some new → (length new ≡ length rs) × (map (value_at s) new ≡ map (value_at old) rs)
  unfolding sources source
  sources_pass [] new means is = subst (λ (l : List VirtualRegister). (length l ≡ 0) × (map (value_at s) l ≡ [])) (same_Some _ _ is) (refl, refl)
  sources_pass (r ∷ rs) new means is = by (source_by nothing (value_in facts r)) (sources facts nothing rs) refl refl is (λ l e. sources_pass rs l (λ x there. means x (or_right (same r x) _ there)) e)
    where
      by : (o : Option VirtualRegister) (q : Option (List VirtualRegister)) → source_by nothing (value_in facts r) ≡ o → sources facts nothing rs ≡ q → and_one o q ≡ Some new → ((l : List VirtualRegister) → sources facts nothing rs ≡ Some l → (length l ≡ length rs) × (map (value_at s) l ≡ map (value_at old) rs)) → (length new ≡ suc (length rs)) × (map (value_at s) new ≡ old r.0 ∷ map (value_at old) rs)
      by None q e d is rest = absurd cc
      by (Some a) None e d is rest = absurd cc
      by (Some a) (Some l) e d is rest =
          let others = rest l d in
          let first : s a.0 ≡ old r.0 = source_means s nothing none (value_in facts r) a e ∙ sym (means r (or_left (same r r) _ (eq-eqb r.0 r.0 refl))) in
          subst (λ (k : List VirtualRegister). (length k ≡ suc (length rs)) × (map (value_at s) k ≡ old r.0 ∷ map (value_at old) rs)) (same_Some _ _ is)
          (ap suc others.0, ap₂ (λ v vs. v ∷ vs) first others.1)
