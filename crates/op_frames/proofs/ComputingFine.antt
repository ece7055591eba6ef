-- The low code of computations has its operands in range.
use Rattle.std.proofs.Common.{◌≡◌, ◌<◌, ◌≤◌, ℕ, ℤ, pos, negsuc, ◌+◌, ◌-◌, ◌^◌, ◌%◌, ◌-ℤ◌, Bool, true, false, ◌&&◌, List, [], ◌∷◌, ◌++◌, nat_eq, nat_lt, refl, sym, ap, ◌∙◌, subst, arith, if◌then◌else◌, unsigned_abs, FitsSigned, flat_map}
use Rattle.std.proofs.lemmas.Bool.Decides.{nat_tests}
use Rattle.std.proofs.lemmas.List.Concat.{flat_map-cons}
use Rattle.std.proofs.lemmas.Int.{ints, of_z-to_z}
use Rattle.std.specs.Int.{w32, cast_signed, cast_unsigned, int_bit_not, int_wrapping_neg}
use Rattle.std.specs.Ordering.{int_eq}
use Rattle.std.specs.Prelude.{int_lt}
use Rattle.op_compute.proofs.Words.{number_is}
use Rattle.op_compute.specs.Arithmetic.{sum_code, difference_code, product_code, divisor_test, quotient_code, remainder_code, arithmetic_code, least_test, negate_code, absolute_code}
use Rattle.op_compute.specs.Branches.{block_of, true_code, false_code, label_code, labels_code, arm_code, arms_code, switch_code, way_code, dispatch_code}
use Rattle.op_compute.specs.Comparisons.{equal_code, compare_code}
use Rattle.op_compute.specs.Computing.{constant_code}
use Rattle.op_compute.specs.Conversions.{low_bits_code, upper_code, check_code, neighbour_test, neighbour_code}
use Rattle.op_compute.specs.Moves.{move_code}
use Rattle.op_compute.specs.Ranges.{is_immediate, sum_with, distance_code, distance_register, has_every_number, within_code, range_code, lower_end, higher_end}
use Rattle.op_compute.specs.SetCode.{without_code, inclusion_code, combine_code, single_code, bits_from_code, all_if_negative_code, span_code, contains_code, check_set_code}
use Rattle.op_compute.specs.declared.bank.Operands.{Operands}
use Rattle.op_compute.specs.declared.bank.Work.{Work}
use Rattle.op_core.specs.declared.statement.Label.{Label}
use Rattle.op_core.specs.declared.types.IntegerKind.{IntegerKind}
use Rattle.op_core.specs.declared.types.IntegerKind.TheVariants.{Signed8, Unsigned8, Signed16, Unsigned16, Signed32}
use Rattle.op_frames.proofs.Fine.{Bounds, Below, Leads, IsFine, AreFine}
use Rattle.op_frames.proofs.MadeLemmas.{every_append}
use Rattle.op_frames.specs.Made.{Every}
use Rattle.op_low.specs.declared.ids.VirtualRegister.{VirtualRegister}
use Rattle.op_low.specs.declared.instruction.Instruction.{Instruction}
use Rattle.op_low.specs.declared.instruction.Instruction.TheVariants.{Const, Move, Alu, AluImm, Shift, Branch, Jump}
use Rattle.op_mir.specs.declared.ids.BlockId.{BlockId as ManagedBlock}
use Rattle.op_mir.specs.declared.instruction.Arm.{Arm}
use Rattle.op_rv.specs.Encoding.{is_imm}
use Rattle.op_rv.specs.declared.instruction.AluOp.TheVariants.{Add as Plus}
use Rattle.op_rv.specs.declared.instruction.BranchOp.TheVariants.{Beq, Bgeu, Bltu}
use Rattle.op_rv.specs.declared.instruction.ImmOp.TheVariants.{Addi}
use Rattle.op_rv.specs.declared.symbol.BlockId.{BlockId}
use Rattle.op_tree.specs.declared.operator.Operator.TheVariants.{Equal, NotEqual, Less, Greater, LessEqual, GreaterEqual, In_, Is, Add, Subtract, Or, Xor, Multiply, Slash, Div, Mod_, And, Shl, Shr, As_}
use Rattle.op_tree.specs.declared.operator.Operator.{Operator}

-- code in front of other code
pub joined : (m : Bounds) (a b : List Instruction) → AreFine m a → AreFine m b → AreFine m (a ++ b)
joined m a b = every_append (IsFine m) a b

-- what computations work with, and what they work on
pub record IsWork (m : Bounds) (w : Work) : Type 0 where
  pub first : Below m w.first
  pub second : Below m w.second
  pub third : Below m w.third
  pub division : Leads m w.division
  pub range : Leads m w.range
  pub overflow : Leads m w.overflow

pub record AreOperands (m : Bounds) (o : Operands) : Type 0 where
  pub to : Below m o.to
  pub left : Below m o.left
  pub right : Below m o.right

-- ---- words

pub word_of : (n : ℤ) → FitsSigned w32 n → cast_unsigned w32 n < 2 ^ 32
word_of n fits = (number_is n fits).bound

modulo_below : (n : ℕ) → n % 2 ^ 32 < 2 ^ 32
modulo_below n = omega arith

opposite_fits : (n : ℤ) → cast_unsigned w32 (int_wrapping_neg w32 n) < 2 ^ 32
opposite_fits n =
    let c = (2 ^ 32 - cast_unsigned w32 n) % 2 ^ 32 in
    let less : c < 2 ^ 32 = modulo_below (2 ^ 32 - cast_unsigned w32 n) in
    let e : cast_unsigned w32 (cast_signed w32 c) ≡ c = of_z-to_z w32 c less in
    subst (λ x. x < 2 ^ 32) (sym e) less

immediate : (n : ℤ) → is_immediate n ≡ true → is_imm n ≡ true
unfolding is_immediate
immediate n e = grind (arith, ints, nat_tests)

gap_fits : (low high : ℤ) → int_lt (higher_end high) (lower_end low) ≡ false → unsigned_abs (higher_end high -ℤ lower_end low) < 2 ^ 32
gap_fits low high e = grind (arith, ints)

-- both ends of a label have 32 bits
abbrev pub HasWord : Label → Type 0
HasWord label = FitsSigned w32 label.first × FitsSigned w32 label.last

-- an arm leads to a block that is there
abbrev pub IsArm : Bounds → Arm → Type 0
IsArm m arm = (arm.block.0 < m.blocks) × Every HasWord arm.labels

label_gap : (a b : ℤ) → FitsSigned w32 a → FitsSigned w32 b → int_lt b a ≡ false → unsigned_abs (b -ℤ a) < 2 ^ 32
label_gap a b p q e = let x = p.sfits in let y = q.sfits in grind (arith, ints)

-- ---- moves and sums

module _ (m : Bounds) where
  move_by : (same : Bool) (to from : VirtualRegister) → Below m to → Below m from → AreFine m (if same then [] else Move to from ∷ [])
  move_by true to from a b = tt
  move_by false to from a b = ((a, b), tt)

  pub move_fine : (to from : VirtualRegister) → Below m to → Below m from → AreFine m (move_code to from)
  unfolding move_code
  move_fine to from a b = move_by (nat_eq to.0 from.0) to from a b

  sum_by_size : (small : Bool) (via to from : VirtualRegister) (n : ℤ) → (small ≡ true → is_imm n ≡ true) → cast_unsigned w32 n < 2 ^ 32 → Below m via → Below m to → Below m from → AreFine m (if small then AluImm Addi to from n ∷ [] else Const via (cast_unsigned w32 n) ∷ Alu Plus to from via ∷ [])
  sum_by_size true via to from n i fits v t f = ((t, f, i refl), tt)
  sum_by_size false via to from n i fits v t f = ((v, fits), ((t, f, v), tt))

  pub sum_with_fine : (via to from : VirtualRegister) (n : ℤ) → cast_unsigned w32 n < 2 ^ 32 → Below m via → Below m to → Below m from → AreFine m (sum_with via to from n)
  unfolding sum_with
  sum_with_fine via to from n fits v t f = sum_by_size (is_immediate n) via to from n (immediate n) fits v t f

  distance_by : (zero : Bool) (via from : VirtualRegister) (low : ℤ) → Below m via → Below m from → AreFine m (if zero then [] else sum_with via via from (int_wrapping_neg w32 low))
  distance_by true via from low v f = tt
  distance_by false via from low v f = sum_with_fine via via from (int_wrapping_neg w32 low) (opposite_fits low) v v f

  pub distance_fine : (via from : VirtualRegister) (low : ℤ) → Below m via → Below m from → AreFine m (distance_code via from low)
  unfolding distance_code
  distance_fine via from low v f = distance_by (int_eq low (pos 0)) via from low v f

  register_by : (zero : Bool) (via from : VirtualRegister) → Below m via → Below m from → Below m (if zero then from else via)
  register_by true via from v f = f
  register_by false via from v f = v

  pub register_fine : (via from : VirtualRegister) (low : ℤ) → Below m via → Below m from → Below m (distance_register via from low)
  unfolding distance_register
  register_fine via from low v f = register_by (int_eq low (pos 0)) via from v f

  pub constant_fine : (to : VirtualRegister) (n : ℤ) → FitsSigned w32 n → Below m to → AreFine m (constant_code to n)
  unfolding constant_code
  constant_fine to n fits t = ((t, word_of n fits), tt)

  pub low_bits_fine : (to : VirtualRegister) (kind : IntegerKind) (from : VirtualRegister) → Below m to → Below m from → AreFine m (low_bits_code to kind from)
  unfolding low_bits_code
  low_bits_fine to Signed8 from t f = ((t, f, refl), ((t, t, refl), tt))
  low_bits_fine to Unsigned8 from t f = ((t, f, refl), tt)
  low_bits_fine to Signed16 from t f = ((t, f, refl), ((t, t, refl), tt))
  low_bits_fine to Unsigned16 from t f = ((t, f, refl), ((t, t, refl), tt))
  low_bits_fine to Signed32 from t f = ((t, f), tt)

  -- ---- computations

  module _ (w : Work) (iw : IsWork m w) where
    module _ (o : Operands) (io : AreOperands m o) where
      sum_fine : (checked : Bool) → AreFine m (sum_code w o checked)
      unfolding sum_code
      sum_fine false = ((io.to, io.left, io.right), tt)
      sum_fine true = ((iw.first, io.left, io.right), ((iw.second, iw.first, io.left), ((iw.third, io.right, refl), ((iw.second, iw.third, iw.overflow), move_fine o.to w.first io.to iw.first))))

      difference_fine : (checked : Bool) → AreFine m (difference_code w o checked)
      unfolding difference_code
      difference_fine false = ((io.to, io.left, io.right), tt)
      difference_fine true = ((iw.first, io.left, io.right), ((iw.second, io.left, iw.first), ((iw.third, io.right, refl), ((iw.second, iw.third, iw.overflow), move_fine o.to w.first io.to iw.first))))

      product_fine : (checked : Bool) → AreFine m (product_code w o checked)
      unfolding product_code
      product_fine false = ((io.to, io.left, io.right), tt)
      product_fine true = ((iw.first, io.left, io.right), ((iw.second, io.left, io.right), ((iw.third, iw.first, refl), ((iw.second, iw.third, iw.overflow), move_fine o.to w.first io.to iw.first))))

      divisor_fine : AreFine m (divisor_test w o)
      unfolding divisor_test
      divisor_fine = ((iw.first, omega arith), ((io.right, iw.first, iw.division), tt))

      quotient_fine : (checked : Bool) → AreFine m (quotient_code w o checked)
      unfolding quotient_code divisor_test
      quotient_fine false = ((iw.first, omega arith), ((io.right, iw.first, iw.division), ((io.to, io.left, io.right), tt)))
      quotient_fine true = ((iw.first, omega arith), ((io.right, iw.first, iw.division), ((iw.second, io.left, io.right), ((iw.third, io.left, io.right), ((iw.third, iw.third, iw.second), ((iw.third, iw.first, iw.overflow), move_fine o.to w.second io.to iw.second))))))

      remainder_fine : AreFine m (remainder_code w o)
      unfolding remainder_code
      remainder_fine = joined m _ _ divisor_fine ((io.to, io.left, io.right), tt)

      pub arithmetic_fine : (operator : Operator) (checked : Bool) → AreFine m (arithmetic_code w o operator checked)
      unfolding arithmetic_code
      arithmetic_fine Add checked = sum_fine checked
      arithmetic_fine Subtract checked = difference_fine checked
      arithmetic_fine Multiply checked = product_fine checked
      arithmetic_fine Div checked = quotient_fine checked
      arithmetic_fine Mod_ checked = remainder_fine
      arithmetic_fine And checked = ((io.to, io.left, io.right), tt)
      arithmetic_fine Or checked = ((io.to, io.left, io.right), tt)
      arithmetic_fine Xor checked = ((io.to, io.left, io.right), tt)
      arithmetic_fine Shl checked = ((io.to, io.left, io.right), tt)
      arithmetic_fine Shr checked = ((io.to, io.left, io.right), tt)
      arithmetic_fine _ checked = ((io.to, omega arith), tt)

      least_fine : (checked : Bool) → AreFine m (least_test w o checked)
      unfolding least_test
      least_fine false = tt
      least_fine true = ((iw.first, omega arith), ((io.left, iw.first, iw.overflow), tt))

      pub negate_fine : (checked : Bool) → AreFine m (negate_code w o checked)
      unfolding negate_code
      negate_fine checked = joined m _ _ (least_fine checked) ((iw.first, omega arith), ((io.to, iw.first, io.left), tt))

      pub absolute_fine : (checked : Bool) → AreFine m (absolute_code w o checked)
      unfolding absolute_code
      absolute_fine checked = joined m _ _ (least_fine checked) ((iw.first, io.left, refl), ((iw.second, io.left, iw.first), ((io.to, iw.second, iw.first), tt)))

      equal_fine : AreFine m (equal_code o.to o.left o.right)
      unfolding equal_code
      equal_fine = ((io.to, io.left, io.right), ((io.to, io.to, refl), tt))

      pub compare_fine : (operator : Operator) → AreFine m (compare_code o operator)
      unfolding compare_code
      compare_fine Equal = equal_fine
      compare_fine NotEqual = joined m _ _ equal_fine ((io.to, io.to, refl), tt)
      compare_fine Less = ((io.to, io.left, io.right), tt)
      compare_fine Greater = ((io.to, io.right, io.left), tt)
      compare_fine LessEqual = ((io.to, io.right, io.left), ((io.to, io.to, refl), tt))
      compare_fine GreaterEqual = ((io.to, io.left, io.right), ((io.to, io.to, refl), tt))
      compare_fine _ = ((io.to, omega arith), tt)

      pub upper_fine : AreFine m (upper_code w o)
      unfolding upper_code
      upper_fine = ((iw.first, io.left, refl), ((iw.first, iw.first, refl), ((iw.first, iw.first, refl), ((io.to, io.left, iw.first), tt))))

    -- ---- ranges

    within_by : (all : Bool) (from : VirtualRegister) (low high : ℤ) → Below m from → unsigned_abs (high -ℤ low) < 2 ^ 32 → AreFine m (if all then [] else distance_code w.first from low ++ Const w.second (unsigned_abs (high -ℤ low)) ∷ Branch Bltu w.second (distance_register w.first from low) w.range ∷ [])
    within_by true from low high f less = tt
    within_by false from low high f less = joined m _ _ (distance_fine w.first from low iw.first f) ((iw.second, less), ((iw.second, register_fine w.first from low iw.first f, iw.range), tt))

    within_fine : (from : VirtualRegister) (low high : ℤ) → Below m from → unsigned_abs (high -ℤ low) < 2 ^ 32 → AreFine m (within_code w from low high)
    unfolding within_code
    within_fine from low high f less = within_by (has_every_number low high) from low high f less

    range_by : (none : Bool) (from : VirtualRegister) (low high : ℤ) → int_lt (higher_end high) (lower_end low) ≡ none → Below m from → AreFine m (if none then Jump w.range ∷ [] else within_code w from (lower_end low) (higher_end high))
    range_by true from low high e f = (iw.range, tt)
    range_by false from low high e f = within_fine from (lower_end low) (higher_end high) f (gap_fits low high e)

    pub range_fine : (from : VirtualRegister) (low high : ℤ) → Below m from → AreFine m (range_code w from low high)
    unfolding range_code
    range_fine from low high f = range_by (int_lt (higher_end high) (lower_end low)) from low high refl f

    module _ (o : Operands) (io : AreOperands m o) where
      check_by : (all : Bool) (low high : ℤ) → AreFine m (if all then Move o.to o.left ∷ [] else range_code w o.left low high ++ move_code o.to o.left)
      check_by true low high = ((io.to, io.left), tt)
      check_by false low high = joined m _ _ (range_fine o.left low high io.left) (move_fine o.to o.left io.to io.left)

      pub check_fine : (low high : ℤ) → AreFine m (check_code w o low high)
      unfolding check_code
      check_fine low high = check_by (has_every_number low high) low high

      pub neighbour_fine : (distance low high : ℤ) → FitsSigned w32 distance → AreFine m (neighbour_code w o distance low high)
      unfolding neighbour_code neighbour_test
      neighbour_fine distance low high fits = joined m _ _ (range_fine o.left (low -ℤ distance) (high -ℤ distance) io.left) (sum_with_fine w.first o.to o.left distance (word_of distance fits) iw.first io.to io.left)

      -- ---- sets

      without_fine : (to a b : VirtualRegister) → Below m to → Below m a → Below m b → AreFine m (without_code w to a b)
      unfolding without_code
      without_fine to a b t p q = ((iw.first, q, refl), ((t, p, iw.first), tt))

      inclusion_fine : (to a b : VirtualRegister) → Below m to → Below m a → Below m b → AreFine m (inclusion_code w to a b)
      unfolding inclusion_code
      inclusion_fine to a b t p q = joined m _ _ (without_fine to a b t p q) ((t, t, refl), tt)

      pub combine_fine : (operator : Operator) → AreFine m (combine_code w o operator)
      unfolding combine_code
      combine_fine Add = ((io.to, io.left, io.right), tt)
      combine_fine Subtract = without_fine o.to o.left o.right io.to io.left io.right
      combine_fine Multiply = ((io.to, io.left, io.right), tt)
      combine_fine LessEqual = inclusion_fine o.to o.left o.right io.to io.left io.right
      combine_fine GreaterEqual = inclusion_fine o.to o.right o.left io.to io.right io.left
      combine_fine Equal = compare_fine o io Equal
      combine_fine NotEqual = compare_fine o io NotEqual
      combine_fine _ = ((io.to, omega arith), tt)

      pub single_fine : AreFine m (single_code o.to w.first o.left)
      unfolding single_code
      single_fine = ((iw.first, io.left, refl), ((io.to, iw.first, io.left), tt))

      pub span_fine : AreFine m (span_code w o)
      unfolding span_code bits_from_code all_if_negative_code
      span_fine = (
        (iw.first, io.left, refl),
        (
          (iw.first, iw.first, refl),
          (
            (iw.first, iw.first, io.left),
            (
              (iw.second, io.left, refl),
              (
                (iw.first, iw.first, iw.second),
                (
                  (iw.second, io.right, refl),
                  (
                    (iw.second, iw.second, refl),
                    (
                      (iw.second, iw.second, io.right),
                      (
                        (iw.second, iw.second, refl),
                        (
                          (iw.third, io.right, refl),
                          (
                            (iw.second, iw.second, iw.third),
                            ((iw.second, iw.second, refl), ((io.to, iw.first, iw.second), tt)),
                          ),
                        ),
                      ),
                    ),
                  ),
                ),
              ),
            ),
          ),
        ),
      )

      pub contains_fine : AreFine m (contains_code w o)
      unfolding contains_code
      contains_fine = ((iw.first, io.left, refl), ((iw.second, io.right, io.left), ((io.to, iw.first, iw.second), tt)))

      pub check_set_fine : (all : ℤ) → FitsSigned w32 (int_bit_not w32 all) → AreFine m (check_set_code w o all)
      unfolding check_set_code
      check_set_fine all fits = ((iw.first, word_of (int_bit_not w32 all) fits), ((iw.first, iw.first, io.left), ((iw.second, omega arith), ((iw.first, iw.second, iw.range), move_fine o.to o.left io.to io.left))))

    -- ---- branches

    module _ (from : VirtualRegister) (f : Below m from) where
      pub true_fine : (block : ManagedBlock) → block.0 < m.blocks → AreFine m (true_code w from block)
      unfolding true_code
      true_fine block b = ((iw.first, omega arith), ((f, iw.first, b), tt))

      pub false_fine : (block : ManagedBlock) → block.0 < m.blocks → AreFine m (false_code w from block)
      unfolding false_code
      false_fine block b = ((iw.first, omega arith), ((f, iw.first, b), tt))

      label_apart : (one : Bool) (block : BlockId) (label : Label) → Leads m block → HasWord label → unsigned_abs (label.last -ℤ label.first) < 2 ^ 32 → AreFine m (if one then Const w.first (cast_unsigned w32 label.first) ∷ Branch Beq from w.first block ∷ [] else distance_code w.first from label.first ++ Const w.second (unsigned_abs (label.last -ℤ label.first)) ∷ Branch Bgeu w.second (distance_register w.first from label.first) block ∷ [])
      label_apart true block label b h less = ((iw.first, word_of label.first h.0), ((f, iw.first, b), tt))
      label_apart false block label b h less = joined m _ _ (distance_fine w.first from label.first iw.first f) ((iw.second, less), ((iw.second, register_fine w.first from label.first iw.first f, b), tt))

      label_by : (none : Bool) (block : BlockId) (label : Label) → int_lt label.last label.first ≡ none → Leads m block → HasWord label → AreFine m (if none then [] else (if int_eq label.first label.last then Const w.first (cast_unsigned w32 label.first) ∷ Branch Beq from w.first block ∷ [] else distance_code w.first from label.first ++ Const w.second (unsigned_abs (label.last -ℤ label.first)) ∷ Branch Bgeu w.second (distance_register w.first from label.first) block ∷ []))
      label_by true block label e b h = tt
      label_by false block label e b h = label_apart (int_eq label.first label.last) block label b h (label_gap label.first label.last h.0 h.1 e)

      label_fine : (block : BlockId) (label : Label) → Leads m block → HasWord label → AreFine m (label_code w from block label)
      unfolding label_code
      label_fine block label b h = label_by (int_lt label.last label.first) block label refl b h

      labels_fine : (block : BlockId) (labels : List Label) → Leads m block → Every HasWord labels → AreFine m (flat_map (label_code w from block) labels)
      labels_fine block [] b h = tt
      labels_fine block (l ∷ ls) b h = subst (AreFine m) (sym (flat_map-cons (label_code w from block) l ls)) (joined m _ _ (label_fine block l b h.0) (labels_fine block ls b h.1))

      arm_fine : (arm : Arm) → IsArm m arm → AreFine m (arm_code w from arm)
      unfolding arm_code labels_code
      arm_fine arm h = labels_fine (block_of arm.block) arm.labels h.0 h.1

      arms_by : (arms : List Arm) → Every (IsArm m) arms → AreFine m (flat_map (arm_code w from) arms)
      arms_by [] h = tt
      arms_by (a ∷ others) h = subst (AreFine m) (sym (flat_map-cons (arm_code w from) a others)) (joined m _ _ (arm_fine a h.0) (arms_by others h.1))

      pub switch_fine : (arms : List Arm) → Every (IsArm m) arms → AreFine m (switch_code w from arms)
      unfolding switch_code arms_code
      switch_fine arms h = joined m _ _ (arms_by arms h) ((iw.first, omega arith), tt)

      pub dispatch_fine : (block : ManagedBlock) → block.0 + 3 < m.blocks → AreFine m (dispatch_code w from block)
      unfolding dispatch_code way_code
      dispatch_fine block b = ((iw.first, omega arith), ((f, iw.first, omega arith), ((iw.first, omega arith), ((f, iw.first, omega arith), ((iw.first, omega arith), ((f, iw.first, b), tt))))))
