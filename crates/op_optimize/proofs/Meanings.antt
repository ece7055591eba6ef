-- The values of facts are what instructions write, and operations with a number do what they do with a register that has it.
use Rattle.std.proofs.Common.{◌≡◌, ◌≢◌, ℕ, ℤ, pos, zero, suc, ◌+◌, ◌-◌, ◌*◌, ◌%◌, ◌^◌, ◌-ℤ◌, ◌<◌, ◌≤◌, Bool, true, false, ◌&&◌, ◌||◌, not, if◌then◌else◌, inl, inr, Option, Some, None, List, [], ◌∷◌, nat_eq, nat_le, nat_lt, refl, ap, sym, ◌∙◌, arith}
use Rattle.std.proofs.lemmas.Bool.{and_parts, eqb-true, eq-eqb, ltb-true, leb-true, cases_eq}
use Rattle.std.proofs.lemmas.Bool.Decides.{nat_tests}
use Rattle.std.proofs.lemmas.Int.{ints}
use Rattle.std.proofs.lemmas.Option.{same_Some}
use Rattle.std.specs.Int.{from_bool}
use Rattle.std.specs.Int.Bits.{bit_xor, xor_self}
use Rattle.std.specs.List.{list_any}
use Rattle.std.specs.Ordering.{int_eq}
use Rattle.op_rv.proofs.Numbers.{xor_apart}
use Rattle.op_rv.specs.Operation.{alu_value, branch_taken, imm_value, shift_value, word_from}
use Rattle.op_rv.specs.declared.instruction.AluOp.{AluOp}
use Rattle.op_rv.specs.declared.instruction.AluOp.TheVariants.{Add, Sub, Sll, Slt, Sltu, Xor, Srl, Sra, Or, And, Mul, Mulh, Mulhsu, Mulhu, Div, Divu, Rem, Remu}
use Rattle.op_rv.specs.declared.instruction.BranchOp.{BranchOp}
use Rattle.op_rv.specs.declared.instruction.BranchOp.TheVariants.{Beq, Bne, Blt, Bge, Bltu, Bgeu}
use Rattle.op_rv.specs.declared.instruction.ImmOp.{ImmOp}
use Rattle.op_rv.specs.declared.instruction.ImmOp.TheVariants.{Addi, Slti, Sltiu, Xori, Ori, Andi}
use Rattle.op_rv.specs.declared.symbol.Symbol.{Symbol}
use Rattle.op_rv.specs.declared.symbol.Symbol.TheVariants.{Literal, Table, Descriptor, Global, Routine}
use Rattle.op_low.specs.declared.ids.VirtualRegister.{VirtualRegister}
use Rattle.op_optimize.specs.Contents.{is_content, same_content, same_symbol}
use Rattle.op_optimize.specs.Reading.{same}
use Rattle.op_optimize.specs.Values.{alu_by, folded, near, opposite, power_below, power_by, power_of, value_with_one}
use Rattle.op_optimize.specs.declared.fact.Content.{Content}
use Rattle.op_optimize.specs.declared.fact.Content.TheVariants.{Number as NumberIn, Place}
use Rattle.op_optimize.specs.declared.fact.Known.{Known}
use Rattle.op_optimize.specs.declared.fact.Value.{Value}
use Rattle.op_optimize.specs.declared.fact.Value.TheVariants.{Copy, Number, Difference, Truth}
use Rattle.op_optimize.specs.declared.value.NumberForm.{NumberForm}
use Rattle.op_optimize.specs.declared.value.NumberForm.TheVariants.{Imm, ByShift}
use Rattle.op_optimize.proofs.Facts.{Knows, content_value, meaning}

abbrev or_else : {T : Type 0} → T → Option T → T
or_else a None = a
or_else a (Some b) = b

-- ---- comparisons

not_twice : (b : Bool) → not (not b) ≡ b
not_twice true = refl
not_twice false = refl

pub opposite_holds : (op : BranchOp) (a b : ℕ) → branch_taken (opposite op) a b ≡ not (branch_taken op a b)
unfolding opposite
opposite_holds Beq a b = refl
opposite_holds Bne a b = sym (not_twice (nat_eq a b))
opposite_holds Blt a b = refl
opposite_holds Bge a b = sym (not_twice _)
opposite_holds Bltu a b = refl
opposite_holds Bgeu a b = sym (not_twice (nat_lt a b))

below_one : (a : ℕ) → nat_lt a 1 ≡ nat_eq a 0
below_one zero = refl
below_one (suc a) = grind (arith, nat_tests)

changed : (b : Bool) → nat_lt (from_bool b) 1 ≡ not b
changed true = refl
changed false = refl

other_bit : (b : Bool) → bit_xor (from_bool b) 1 ≡ from_bool (not b)
other_bit true = refl
other_bit false = refl

no_difference : (a b : ℕ) → nat_lt (bit_xor a b) 1 ≡ nat_eq a b
no_difference a b =
    elim (cases_eq a b) [
      | inl same ↦
          let none : bit_xor a b ≡ 0 = ap (λ c. bit_xor a c) (sym same) ∙ xor_self a in
          ap (λ n. nat_lt n 1) none ∙ sym (eq-eqb a b same)
      | inr apart ↦ xor_apart a b apart ∙ sym (differs (nat_eq a b) refl apart)
    ]
  where
    differs : (t : Bool) → nat_eq a b ≡ t → a ≢ b → nat_eq a b ≡ false
    differs true e other = absurd (other (eqb-true a b e))
    differs false e other = e

one_is : (imm : ℤ) → int_eq imm (pos 1) ≡ true → imm ≡ pos 1
one_is imm is = grind (arith, ints, is)

-- an operation with 1 has the value that it is told to have
pub one_means : (s : ℕ → ℕ) (nothing : VirtualRegister) → s nothing.0 ≡ 0 → (op : ImmOp) (v w : Value) (imm : ℤ) → int_eq imm (pos 1) ≡ true → value_with_one nothing op v ≡ Some w → imm_value op (meaning s v) (word_from imm) ≡ meaning s w
unfolding value_with_one
one_means s nothing none op v w imm one is = ap (λ z. imm_value op (meaning s v) (word_from z)) (one_is imm one) ∙ by op v is
  where
    by : (op : ImmOp) (v : Value) → value_with_one nothing op v ≡ Some w → imm_value op (meaning s v) (word_from (pos 1)) ≡ meaning s w
    by Sltiu (Copy of) is = ap from_bool (below_one (s of.0) ∙ ap (nat_eq (s of.0)) (sym none)) ∙ ap (meaning s) (same_Some _ _ is)
    by Sltiu (Number n) is = absurd cc
    by Sltiu (Difference left right) is = ap from_bool (no_difference (s left.0) (s right.0)) ∙ ap (meaning s) (same_Some _ _ is)
    by Sltiu (Truth op left right) is = ap from_bool (changed (branch_taken op (s left.0) (s right.0)) ∙ sym (opposite_holds op (s left.0) (s right.0))) ∙ ap (meaning s) (same_Some _ _ is)
    by Xori (Truth op left right) is = other_bit (branch_taken op (s left.0) (s right.0)) ∙ ap from_bool (sym (opposite_holds op (s left.0) (s right.0))) ∙ ap (meaning s) (same_Some _ _ is)
    by Xori (Copy of) is = absurd cc
    by Xori (Number n) is = absurd cc
    by Xori (Difference left right) is = absurd cc
    by Addi v is = absurd cc
    by Slti v is = absurd cc
    by Ori v is = absurd cc
    by Andi v is = absurd cc

-- so has an operation on two registers
pub alu_means : (s : ℕ → ℕ) (op : AluOp) (left right : VirtualRegister) (w : Value) → alu_by op left right ≡ Some w → alu_value op (s left.0) (s right.0) ≡ meaning s w
alu_means s Slt left right w is = ap (meaning s) (same_Some _ _ is)
alu_means s Sltu left right w is = ap (meaning s) (same_Some _ _ is)
alu_means s Xor left right w is = ap (meaning s) (same_Some _ _ is)
alu_means s Add left right w is = absurd cc
alu_means s Sub left right w is = absurd cc
alu_means s Sll left right w is = absurd cc
alu_means s Srl left right w is = absurd cc
alu_means s Sra left right w is = absurd cc
alu_means s Or left right w is = absurd cc
alu_means s And left right w is = absurd cc
alu_means s Mul left right w is = absurd cc
alu_means s Mulh left right w is = absurd cc
alu_means s Mulhsu left right w is = absurd cc
alu_means s Mulhu left right w is = absurd cc
alu_means s Div left right w is = absurd cc
alu_means s Divu left right w is = absurd cc
alu_means s Rem left right w is = absurd cc
alu_means s Remu left right w is = absurd cc

-- ---- contents

same_symbols : (a b : Symbol) → same_symbol a b ≡ true → a ≡ b
unfolding same_symbol
same_symbols (Literal a) (Literal b) is = ap (λ n. Literal (record { 0 = n })) (eqb-true a.0 b.0 is)
same_symbols (Global a) (Global b) is = ap (λ n. Global (record { 0 = n })) (eqb-true a.0 b.0 is)
same_symbols (Literal a) (Table b) is = absurd cc
same_symbols (Literal a) (Descriptor b) is = absurd cc
same_symbols (Literal a) (Global b) is = absurd cc
same_symbols (Literal a) (Routine b) is = absurd cc
same_symbols (Global a) (Literal b) is = absurd cc
same_symbols (Global a) (Table b) is = absurd cc
same_symbols (Global a) (Descriptor b) is = absurd cc
same_symbols (Global a) (Routine b) is = absurd cc
same_symbols (Table a) b is = absurd cc
same_symbols (Descriptor a) b is = absurd cc
same_symbols (Routine a) b is = absurd cc

module _ (address : Symbol → ℕ) where
  same_contents : (a b : Content) → same_content a b ≡ true → content_value address a ≡ content_value address b
  unfolding same_content
  same_contents (NumberIn a) (NumberIn b) is = eqb-true a b is
  same_contents (NumberIn a) (Place b) is = absurd cc
  same_contents (Place a) (NumberIn b) is = absurd cc
  same_contents (Place a) (Place b) is = ap address (same_symbols a b is)

  -- what is known to be there is there
  pub is_there : (s : ℕ → ℕ) (known : List Known) (to : VirtualRegister) (c : Content) → Knows address s known → list_any (is_content to c) known ≡ true → s to.0 ≡ content_value address c
  is_there s [] to c knows is = absurd cc
  is_there s (k ∷ ks) to c knows is = by (is_content to c k) refl (is_there s ks to c knows.1)
    where
      by : (t : Bool) → is_content to c k ≡ t → (list_any (is_content to c) ks ≡ true → s to.0 ≡ content_value address c) → s to.0 ≡ content_value address c
      by true e rest =
          let parts = and_parts _ _ e in
          ap s (sym (eqb-true k.register.0 to.0 parts.0)) ∙ knows.0 ∙ same_contents k.content c parts.1
      by false e rest = rest (sym (ap (λ t. t || list_any (is_content to c) ks) e) ∙ is)

-- ---- operations with a number

abbrev pub form_value : NumberForm → ℕ → ℕ
form_value (Imm op imm) x = imm_value op x (word_from imm)
form_value (ByShift op amount) x = shift_value op x amount

small_word : (n : ℕ) → n < 2048 → word_from (pos n) ≡ n
small_word n less = grind (arith, ints, less)

high_word : (n : ℕ) → 2 ^ 32 - 2048 ≤ n → n < 2 ^ 32 → word_from (pos n -ℤ pos (2 ^ 32)) ≡ n
high_word n more less = grind (arith, ints, more, less)

near_means : (op : ImmOp) (n x : ℕ) (f : NumberForm) → near op n ≡ Some f → form_value f x ≡ imm_value op x n
near_means op n x f is = by (nat_lt n 2048) (nat_le (2 ^ 32 - 2048) n && nat_lt n (2 ^ 32)) refl refl is
  where
    by : (t u : Bool) → nat_lt n 2048 ≡ t → (nat_le (2 ^ 32 - 2048) n && nat_lt n (2 ^ 32)) ≡ u → (if t then Some (Imm op (pos n)) else (if u then Some (Imm op (pos n -ℤ pos (2 ^ 32))) else None)) ≡ Some f → form_value f x ≡ imm_value op x n
    by true u e d is = ap (λ g. form_value g x) (sym (same_Some _ _ is)) ∙ ap (imm_value op x) (small_word n (ltb-true n 2048 e))
    by false true e d is =
        let parts = and_parts _ _ d in
        ap (λ g. form_value g x) (sym (same_Some _ _ is)) ∙ ap (imm_value op x) (high_word n (leb-true (2 ^ 32 - 2048) n parts.0) (ltb-true n (2 ^ 32) parts.1))
    by false false e d is = absurd cc

difference_is : (x n : ℕ) → (x + (2 ^ 32 - n) % 2 ^ 32) % 2 ^ 32 ≡ (x + (2 ^ 32 - n)) % 2 ^ 32
difference_is x n = omega arith

power_is : (k n a : ℕ) → power_below k n ≡ suc a → 2 ^ suc a ≡ n
unfolding power_below
power_is zero n a is = absurd cc
power_is (suc k) n a is = by (nat_eq n (2 ^ k)) refl (power_is k n a) is
  where
    by : (t : Bool) → nat_eq n (2 ^ k) ≡ t → (power_below k n ≡ suc a → 2 ^ suc a ≡ n) → (if t then k else power_below k n) ≡ suc a → 2 ^ suc a ≡ n
    by true e lower is = ap (λ m. 2 ^ m) (sym is) ∙ sym (eqb-true n (2 ^ k) e)
    by false e lower is = lower is

power_means : (n x : ℕ) (f : NumberForm) → power_by (power_of n) ≡ Some f → form_value f x ≡ x * n % 2 ^ 32
unfolding power_of
power_means n x f is = by (power_below 32 n) refl is
  where
    by : (k : ℕ) → power_below 32 n ≡ k → power_by k ≡ Some f → form_value f x ≡ x * n % 2 ^ 32
    by zero e is = absurd cc
    by (suc a) e is = ap (λ g. form_value g x) (sym (same_Some _ _ is)) ∙ ap (λ c. x * c % 2 ^ 32) (power_is 32 n a e)

-- in its form with a number an operation does what it does with a register that has the number
pub folded_means : (op : AluOp) (n x : ℕ) (f : NumberForm) → folded op n ≡ Some f → form_value f x ≡ alu_value op x n
unfolding folded
folded_means Add n x f is = near_means Addi n x f is
folded_means Sub n x f is = near_means Addi ((2 ^ 32 - n) % 2 ^ 32) x f is ∙ difference_is x n
folded_means And n x f is = near_means Andi n x f is
folded_means Or n x f is = near_means Ori n x f is
folded_means Xor n x f is = near_means Xori n x f is
folded_means Slt n x f is = near_means Slti n x f is
folded_means Sltu n x f is = near_means Sltiu n x f is
folded_means Sll n x f is = ap (λ g. form_value g x) (sym (same_Some _ _ is))
folded_means Srl n x f is = ap (λ g. form_value g x) (sym (same_Some _ _ is))
folded_means Sra n x f is = ap (λ g. form_value g x) (sym (same_Some _ _ is))
folded_means Mul n x f is = power_means n x f is
folded_means Mulh n x f is = absurd cc
folded_means Mulhsu n x f is = absurd cc
folded_means Mulhu n x f is = absurd cc
folded_means Div n x f is = absurd cc
folded_means Divu n x f is = absurd cc
folded_means Rem n x f is = absurd cc
folded_means Remu n x f is = absurd cc
