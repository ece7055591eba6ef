-- How long the code of an instruction is.
use Rattle.std.proofs.Common.{◌≡◌, ◌≤◌, ℕ, ℤ, ◌+◌, ◌*◌, Bool, true, false, List, [], ◌∷◌, ◌++◌, length, length-append, sym, subst, arith, if◌then◌else◌, le_trans}
use Rattle.std.specs.Prelude.{◌-ℤ◌, int_lt, map, nat_eq, nat_le, pos, unsigned_abs}
use Rattle.std.specs.Int.{w32, cast_unsigned, int_bit_not, int_wrapping_neg}
use Rattle.std.specs.Ordering.{int_eq}
use Rattle.std.specs.List.{flat_map}
use Rattle.std.proofs.lemmas.List.Concat.{flat_map-cons}
use Rattle.op_compute.specs.Arithmetic.{absolute_code, arithmetic_code, difference_code, divisor_test, least_test, negate_code, product_code, quotient_code, remainder_code, sum_code}
use Rattle.op_compute.specs.Bank.{register_of, work_of}
use Rattle.op_compute.specs.Branches.{block_of, arm_code, arms_code, label_code, labels_code, switch_code}
use Rattle.op_compute.specs.Comparisons.{compare_code, equal_code}
use Rattle.op_compute.specs.Computing.{code_of, computation_code, registers_of}
use Rattle.op_compute.specs.Conversions.{check_code, low_bits_code, neighbour_code, neighbour_test, upper_code}
use Rattle.op_compute.specs.Moves.{move_code}
use Rattle.op_compute.specs.Ranges.{distance_code, distance_register, has_every_number, higher_end, is_immediate, lower_end, range_code, sum_with, within_code}
use Rattle.op_compute.specs.SetCode.{all_if_negative_code, bits_from_code, check_set_code, combine_code, contains_code, inclusion_code, single_code, span_code, without_code}
use Rattle.op_compute.specs.declared.bank.Bank.{Bank}
use Rattle.op_compute.specs.declared.bank.Operands.{Operands}
use Rattle.op_compute.specs.declared.bank.Work.{Work}
use Rattle.op_constants.specs.Offsets.{element_size}
use Rattle.op_core.specs.declared.program.Core.{Core}
use Rattle.op_core.specs.declared.statement.Label.{Label}
use Rattle.op_core.specs.declared.types.IntegerKind.{IntegerKind}
use Rattle.op_core.specs.declared.types.IntegerKind.TheVariants.{Signed8, Unsigned8, Signed16, Unsigned16, Signed32}
use Rattle.op_places.specs.Places.{after, behind_code, element_code, index_code, power_of, reach_code, scale_code, step_spot, steps_code}
use Rattle.op_places.specs.declared.frame.Frame.{Frame}
use Rattle.op_places.specs.declared.spot.Spot.{Spot}
use Rattle.op_low.specs.declared.ids.VirtualRegister.{VirtualRegister}
use Rattle.op_low.specs.declared.instruction.Instruction.{Instruction}
use Rattle.op_low.specs.declared.instruction.Instruction.TheVariants.{Alu, AluImm, Branch, Const, Shift}
use Rattle.op_meaning.specs.Costs.{indices}
use Rattle.op_mir.specs.View.{view_path}
use Rattle.op_mir.specs.declared.action.Computation.{Computation}
use Rattle.op_mir.specs.declared.action.Computation.TheVariants.{Arithmetic, Compare, Negate, Complement, Invert, Absolute, Odd, Upper, LowBits, Check, Neighbour, Single, Span, Combine, Contains, CheckSet}
use Rattle.op_mir.specs.declared.instruction.Arm.{Arm}
use Rattle.op_mir.specs.declared.path.Root.{Root}
use Rattle.op_mir.specs.declared.path.Step.{Step}
use Rattle.op_mir.specs.declared.path.Step.TheVariants.{Field, Element}
use Rattle.op_rv.specs.declared.instruction.AluOp.TheVariants.{Add as AddWord, And as AndWord, Div as DivideWord, Mul as MulWord, Mulh, Slt, Sub as SubWord}
use Rattle.op_rv.specs.declared.instruction.BranchOp.TheVariants.{Blt, Bne}
use Rattle.op_rv.specs.declared.instruction.ImmOp.TheVariants.{Slti}
use Rattle.op_rv.specs.declared.instruction.ShiftOp.TheVariants.{Srai}
use Rattle.op_rv.specs.declared.symbol.BlockId.{BlockId}
use Rattle.op_tree.specs.declared.operator.Operator.{Operator}
use Rattle.op_tree.specs.declared.operator.Operator.TheVariants.{Add, Equal, Greater, GreaterEqual, Less, LessEqual, Multiply, NotEqual, Subtract, Div}
use Rattle.op_agreement.specs.Typed.{labels_in}

-- one of two
either_short : (b : Bool) (xs ys : List Instruction) (n : ℕ) → length xs ≤ n → length ys ≤ n → length (if b then xs else ys) ≤ n
either_short true xs ys n one other = one
either_short false xs ys n one other = other

-- one behind the other
joined_short : (xs ys : List Instruction) (m n k : ℕ) → length xs ≤ m → length ys ≤ n → m + n ≤ k → length (xs ++ ys) ≤ k
joined_short xs ys m n k one other less = let sum = length-append xs ys in omega arith

-- ---- computations

sum_short : (via to from : VirtualRegister) (n : ℤ) → length (sum_with via to from n) ≤ 2
unfolding sum_with
sum_short via to from n = either_short (is_immediate n) _ _ 2 (omega arith) (omega arith)

distance_short : (via from : VirtualRegister) (low : ℤ) → length (distance_code via from low) ≤ 2
unfolding distance_code
distance_short via from low = either_short (int_eq low (pos 0)) [] (sum_with via via from (int_wrapping_neg w32 low)) 2 (omega arith) (sum_short via via from (int_wrapping_neg w32 low))

within_short : (w : Work) (from : VirtualRegister) (low high : ℤ) → length (within_code w from low high) ≤ 4
unfolding within_code
within_short w from low high = either_short (has_every_number low high) [] _ 4 (omega arith) (joined_short (distance_code w.first from low) _ 2 2 4 (distance_short w.first from low) (omega arith) (omega arith))

range_short : (w : Work) (from : VirtualRegister) (low high : ℤ) → length (range_code w from low high) ≤ 4
unfolding range_code
range_short w from low high = either_short (int_lt (higher_end high) (lower_end low)) _ (within_code w from (lower_end low) (higher_end high)) 4 (omega arith) (within_short w from (lower_end low) (higher_end high))

move_short : (to from : VirtualRegister) → length (move_code to from) ≤ 1
unfolding move_code
move_short to from = either_short (nat_eq to.0 from.0) [] _ 1 (omega arith) (omega arith)

least_short : (w : Work) (o : Operands) (checked : Bool) → length (least_test w o checked) ≤ 2
unfolding least_test
least_short w o false = omega arith
least_short w o true = omega arith

pub low_bits_short : (to : VirtualRegister) (kind : IntegerKind) (from : VirtualRegister) → length (low_bits_code to kind from) ≤ 2
unfolding low_bits_code
low_bits_short to Signed8 from = omega arith
low_bits_short to Unsigned8 from = omega arith
low_bits_short to Signed16 from = omega arith
low_bits_short to Unsigned16 from = omega arith
low_bits_short to Signed32 from = omega arith

module _ (w : Work) (o : Operands) where
  -- code with a move behind it
  moved_short : (a b c d : Instruction) (to from : VirtualRegister) → length ((a ∷ b ∷ c ∷ d ∷ []) ++ move_code to from) ≤ 9
  moved_short a b c d to from = joined_short (a ∷ b ∷ c ∷ d ∷ []) (move_code to from) 4 1 9 (omega arith) (move_short to from) (omega arith)

  sum_code_short : (checked : Bool) → length (sum_code w o checked) ≤ 9
  unfolding sum_code
  sum_code_short false = omega arith
  sum_code_short true = moved_short (Alu AddWord w.first o.left o.right) (Alu Slt w.second w.first o.left) (AluImm Slti w.third o.right (pos 0)) (Branch Bne w.second w.third w.overflow) o.to w.first

  difference_short : (checked : Bool) → length (difference_code w o checked) ≤ 9
  unfolding difference_code
  difference_short false = omega arith
  difference_short true = moved_short (Alu SubWord w.first o.left o.right) (Alu Slt w.second o.left w.first) (AluImm Slti w.third o.right (pos 0)) (Branch Bne w.second w.third w.overflow) o.to w.first

  product_short : (checked : Bool) → length (product_code w o checked) ≤ 9
  unfolding product_code
  product_short false = omega arith
  product_short true = moved_short (Alu MulWord w.first o.left o.right) (Alu Mulh w.second o.left o.right) (Shift Srai w.third w.first 31) (Branch Bne w.second w.third w.overflow) o.to w.first

  quotient_short : (checked : Bool) → length (quotient_code w o checked) ≤ 11
  unfolding quotient_code divisor_test
  quotient_short false = omega arith
  quotient_short true = let rest = moved_short (Alu DivideWord w.second o.left o.right) (Alu AndWord w.third o.left o.right) (Alu AndWord w.third w.third w.second) (Branch Blt w.third w.first w.overflow) o.to w.second in omega arith

  arithmetic_short : (operator : Operator) (checked : Bool) → length (arithmetic_code w o operator checked) ≤ 16
  unfolding arithmetic_code remainder_code divisor_test
  arithmetic_short Add checked = let less = sum_code_short checked in omega arith
  arithmetic_short Subtract checked = let less = difference_short checked in omega arith
  arithmetic_short Multiply checked = let less = product_short checked in omega arith
  arithmetic_short Div checked = let less = quotient_short checked in omega arith
  arithmetic_short _ checked = omega arith

  negate_short : (checked : Bool) → length (negate_code w o checked) ≤ 16
  unfolding negate_code
  negate_short checked = joined_short (least_test w o checked) _ 2 8 16 (least_short w o checked) (omega arith) (omega arith)

  absolute_short : (checked : Bool) → length (absolute_code w o checked) ≤ 16
  unfolding absolute_code
  absolute_short checked = joined_short (least_test w o checked) _ 2 8 16 (least_short w o checked) (omega arith) (omega arith)

  compare_short : (operator : Operator) → length (compare_code o operator) ≤ 4
  unfolding compare_code equal_code
  compare_short Equal = omega arith
  compare_short NotEqual = omega arith
  compare_short Less = omega arith
  compare_short Greater = omega arith
  compare_short LessEqual = omega arith
  compare_short GreaterEqual = omega arith
  compare_short _ = omega arith

  combine_short : (operator : Operator) → length (combine_code w o operator) ≤ 16
  unfolding combine_code without_code inclusion_code
  combine_short Equal = let less = compare_short Equal in omega arith
  combine_short NotEqual = let less = compare_short NotEqual in omega arith
  combine_short _ = omega arith

  check_short : (low high : ℤ) → length (check_code w o low high) ≤ 16
  unfolding check_code
  check_short low high = either_short (has_every_number low high) _ _ 16 (omega arith) (joined_short (range_code w o.left low high) (move_code o.to o.left) 4 1 16 (range_short w o.left low high) (move_short o.to o.left) (omega arith))

  neighbour_short : (distance low high : ℤ) → length (neighbour_code w o distance low high) ≤ 16
  unfolding neighbour_code neighbour_test
  neighbour_short distance low high = joined_short (range_code w o.left (low -ℤ distance) (high -ℤ distance)) (sum_with w.first o.to o.left distance) 4 2 16 (range_short w o.left (low -ℤ distance) (high -ℤ distance)) (sum_short w.first o.to o.left distance) (omega arith)

  code_short : (c : Computation) → length (code_of w o c) ≤ 16
  unfolding code_of upper_code single_code span_code bits_from_code all_if_negative_code contains_code check_set_code
  code_short (Arithmetic operator checked to a b) = arithmetic_short operator checked
  code_short (Compare operator to a b) = let less = compare_short operator in omega arith
  code_short (Negate checked to a) = negate_short checked
  code_short (Complement to a) = omega arith
  code_short (Invert to a) = omega arith
  code_short (Absolute checked to a) = absolute_short checked
  code_short (Odd to a) = omega arith
  code_short (Upper to a) = omega arith
  code_short (LowBits kind to a) = let less = low_bits_short o.to kind o.left in omega arith
  code_short (Check low high to a) = check_short low high
  code_short (Neighbour distance low high to a) = neighbour_short distance low high
  code_short (Single to a) = omega arith
  code_short (Span to a b) = omega arith
  code_short (Combine operator to a b) = combine_short operator
  code_short (Contains to a b) = omega arith
  code_short (CheckSet all to a) = le_trans (moved_short (Const w.first (cast_unsigned w32 (int_bit_not w32 all))) (Alu AndWord w.first w.first o.left) (Const w.second 0) (Branch Bne w.first w.second w.range) o.to o.left) (omega arith)

pub computation_short : (bank : Bank) (c : Computation) → length (computation_code bank c) ≤ 16
unfolding computation_code
computation_short bank c = code_short (work_of bank) (registers_of bank c) c

-- ---- branches by labels

module _ (w : Work) (from : VirtualRegister) where
  label_short : (block : BlockId) (label : Label) → length (label_code w from block label) ≤ 4
  unfolding label_code
  label_short block label =
      either_short (int_lt label.last label.first) [] _ 4 (omega arith)
      (either_short (int_eq label.first label.last) _ _ 4 (omega arith)
      (joined_short (distance_code w.first from label.first) _ 2 2 4 (distance_short w.first from label.first) (omega arith) (omega arith)))

  labels_short : (block : BlockId) (labels : List Label) → length (labels_code w from block labels) ≤ 4 * length labels
  unfolding labels_code
  labels_short block [] = omega arith
  labels_short block (x ∷ xs) =
      subst (λ code. length code ≤ 4 * length (x ∷ xs)) (sym (flat_map-cons (label_code w from block) x xs))
      (joined_short (label_code w from block x) (flat_map (label_code w from block) xs) 4 (4 * length xs) (4 * length (x ∷ xs)) (label_short block x) (labels_short block xs) (omega arith))

  arms_short : (arms : List Arm) → length (arms_code w from arms) ≤ 4 * labels_in arms
  unfolding arms_code arm_code
  arms_short [] = omega arith
  arms_short (a ∷ arms) =
      subst (λ code. length code ≤ 4 * labels_in (a ∷ arms)) (sym (flat_map-cons (arm_code w from) a arms))
      (joined_short (labels_code w from (block_of a.block) a.labels) (flat_map (arm_code w from) arms) (4 * length a.labels) (4 * labels_in arms) (4 * labels_in (a ∷ arms)) (labels_short (block_of a.block) a.labels) (arms_short arms) (omega arith))

  pub switch_short : (arms : List Arm) → length (switch_code w from arms) ≤ 1 + 4 * labels_in arms
  unfolding switch_code
  switch_short arms = joined_short (arms_code w from arms) (Const w.first 0 ∷ []) (4 * labels_in arms) 1 (1 + 4 * labels_in arms) (arms_short arms) (omega arith) (omega arith)

-- ---- places

scale_short : (to from via : VirtualRegister) (size : ℕ) → length (scale_code to from via size) ≤ 2
unfolding scale_code
scale_short to from via size = either_short (nat_eq size 1) [] _ 2 (omega arith) (either_short (nat_eq (power_of size) 0) _ _ 2 (omega arith) (omega arith))

index_short : (frame : Frame) (to via index : VirtualRegister) (low high : ℤ) → length (index_code frame to via index low high) ≤ 4
unfolding index_code
index_short frame to via index low high = joined_short (distance_code to index low) _ 2 2 4 (distance_short to index low) (omega arith) (omega arith)

behind_short : (to base distance via : VirtualRegister) (size : ℕ) → length (behind_code to base distance via size) ≤ 3
unfolding behind_code
behind_short to base distance via size = joined_short (scale_code to distance via size) _ 2 1 3 (scale_short to distance via size) (omega arith) (omega arith)

element_short : (frame : Frame) (low high : ℤ) (index : VirtualRegister) (size : ℕ) (spot : Spot) → length (element_code frame low high index size spot) ≤ 8
unfolding element_code
element_short frame low high index size spot =
    joined_short (index_code frame spot.free (after spot.free) index low high) (behind_code spot.free spot.base (distance_register spot.free index low) (after spot.free) size) 4 3 8
    (index_short frame spot.free (after spot.free) index low high) (behind_short spot.free spot.base (distance_register spot.free index low) (after spot.free) size) (omega arith)

module _ (core : Core) (frame : Frame) (root : Root) where
  -- the indices of the steps, in bytes
  abbrev bytes_of : List Step → ℕ
  bytes_of ss = indices (view_path (record { root = root; steps = ss }))

  steps_short : (ss : List Step) (spot : Spot) → length (steps_code core frame ss spot) ≤ 2 * bytes_of ss
  steps_short [] spot = omega arith
  steps_short (Field of n ∷ ss) spot = let rest = steps_short ss (step_spot core (Field of n) spot) in omega arith
  steps_short (Element of low high t ∷ ss) spot =
      joined_short (element_code frame low high (register_of frame.bank t) (element_size core of) spot) (steps_code core frame ss (step_spot core (Element of low high t) spot)) 8 (2 * bytes_of ss) (2 * bytes_of (Element of low high t ∷ ss))
      (element_short frame low high (register_of frame.bank t) (element_size core of) spot) (steps_short ss (step_spot core (Element of low high t) spot)) (omega arith)

  reach_short : (limit : ℕ) (spot : Spot) → length (reach_code limit spot) ≤ 2
  reach_short limit spot = either_short (nat_le spot.offset limit) [] (sum_with spot.free spot.free spot.base (pos spot.offset)) 2 (omega arith) (sum_short spot.free spot.free spot.base (pos spot.offset))

  -- behind the root
  pub tail_short : (limit : ℕ) (ss : List Step) (spot other : Spot) → length (steps_code core frame ss spot ++ reach_code limit other) ≤ 2 + 2 * bytes_of ss
  tail_short limit ss spot other = joined_short (steps_code core frame ss spot) (reach_code limit other) (2 * bytes_of ss) 2 (2 + 2 * bytes_of ss) (steps_short ss spot) (reach_short limit other) (omega arith)
