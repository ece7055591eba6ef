-- What the low code of computations and branches comes to.
use Rattle.std.proofs.Common.{◌≡◌, ◌≤◌, ℕ, ℤ, pos, ◌+◌, ◌*◌, ◌-ℤ◌, Bool, true, false, List, [], ◌∷◌, ◌++◌, length, map, nat_eq, ap, arith, if◌then◌else◌, unsigned_abs, flat_map}
use Rattle.std.proofs.lemmas.List.Concat.{flat_map-cons}
use Rattle.std.specs.Int.{w32, cast_unsigned, int_wrapping_neg}
use Rattle.std.specs.Ordering.{int_eq}
use Rattle.std.specs.Prelude.{int_lt}
use Rattle.op_compute.specs.Arithmetic.{sum_code, difference_code, product_code, divisor_test, quotient_code, remainder_code, arithmetic_code, least_test, negate_code, absolute_code}
use Rattle.op_compute.specs.Bank.{work_of}
use Rattle.op_compute.specs.Branches.{block_of, true_code, false_code, label_code, labels_code, arm_code, arms_code, switch_code, way_code, dispatch_code}
use Rattle.op_compute.specs.Comparisons.{equal_code, compare_code}
use Rattle.op_compute.specs.Computing.{constant_code, registers_of, code_of, computation_code}
use Rattle.op_compute.specs.Conversions.{low_bits_code, upper_code, check_code, neighbour_test, neighbour_code}
use Rattle.op_compute.specs.Moves.{move_code}
use Rattle.op_compute.specs.Ranges.{is_immediate, sum_with, distance_code, distance_register, has_every_number, within_code, range_code, lower_end, higher_end}
use Rattle.op_compute.specs.SetCode.{without_code, inclusion_code, combine_code, single_code, bits_from_code, all_if_negative_code, span_code, contains_code, check_set_code}
use Rattle.op_compute.specs.declared.bank.Bank.{Bank}
use Rattle.op_compute.specs.declared.bank.Operands.{Operands}
use Rattle.op_compute.specs.declared.bank.Work.{Work}
use Rattle.op_core.specs.declared.statement.Label.{Label}
use Rattle.op_core.specs.declared.types.IntegerKind.{IntegerKind}
use Rattle.op_core.specs.declared.types.IntegerKind.TheVariants.{Signed8, Unsigned8, Signed16, Unsigned16, Signed32}
use Rattle.op_low.specs.declared.ids.VirtualRegister.{VirtualRegister}
use Rattle.op_low.specs.declared.instruction.Instruction.{Instruction}
use Rattle.op_low.specs.declared.instruction.Instruction.TheVariants.{Const, Move, Alu, AluImm, Branch, Call, CallAt, Jump, Return, Raise, Read}
use Rattle.op_mir.specs.View.{view_arm, view_computation}
use Rattle.op_mir.specs.declared.action.Computation.{Computation}
use Rattle.op_mir.specs.declared.action.Computation.TheVariants.{Arithmetic, Compare, Negate, Complement, Invert, Absolute, Odd, Upper, LowBits, Check, Neighbour, Single, Span, Combine, Contains, CheckSet}
use Rattle.op_mir.specs.declared.ids.BlockId.{BlockId as ManagedBlock}
use Rattle.op_mir.specs.declared.instruction.Arm.{Arm}
use Rattle.op_rv.specs.declared.instruction.AluOp.TheVariants.{Add as Plus}
use Rattle.op_rv.specs.declared.instruction.BranchOp.TheVariants.{Beq, Bgeu, Bltu}
use Rattle.op_rv.specs.declared.instruction.ImmOp.TheVariants.{Addi}
use Rattle.op_rv.specs.declared.symbol.BlockId.{BlockId}
use Rattle.op_sizes.specs.Sizes.{action_size, arms_size}
use Rattle.op_sizes.specs.Weights.{low_weight, code_weight}
use Rattle.op_tree.specs.declared.operator.Operator.TheVariants.{Equal, NotEqual, Less, Greater, LessEqual, GreaterEqual, Add, Subtract, Or, Xor, Multiply, Div, Mod_, And, Shl, Shr}
use Rattle.op_tree.specs.declared.operator.Operator.{Operator}

-- ---- lists and choices

pub join : (a b : List Instruction) → code_weight (a ++ b) ≡ code_weight a + code_weight b
join [] b = omega arith
join (i ∷ a) b = let e = join a b in omega (arith, e)

-- an instruction counts for one at least
counts_some : (i : Instruction) → 1 ≤ low_weight i
counts_some (Call id operands) = omega arith
counts_some (CallAt address operands) = omega arith
counts_some (Return value) = omega arith
counts_some Raise = omega arith
counts_some (Read to buffer size) = omega arith
counts_some _ = omega arith

pub lengths_covered : (code : List Instruction) → length code ≤ code_weight code
lengths_covered [] = omega arith
lengths_covered (i ∷ is) = let e = counts_some i in let rest = lengths_covered is in omega (arith, e, rest)

pub either : (b : Bool) (x y : List Instruction) (n : ℕ) → code_weight x ≤ n → code_weight y ≤ n → code_weight (if b then x else y) ≤ n
either true x y n p q = p
either false x y n p q = q

-- ---- moves and sums

pub move_small : (to from : VirtualRegister) → code_weight (move_code to from) ≤ 1
unfolding move_code
move_small to from = either (nat_eq to.0 from.0) [] (Move to from ∷ []) 1 (omega arith) (omega arith)

pub sum_small : (via to from : VirtualRegister) (n : ℤ) → code_weight (sum_with via to from n) ≤ 2
unfolding sum_with
sum_small via to from n = either (is_immediate n) (AluImm Addi to from n ∷ []) (Const via (cast_unsigned w32 n) ∷ Alu Plus to from via ∷ []) 2 (omega arith) (omega arith)

pub distance_small : (via from : VirtualRegister) (low : ℤ) → code_weight (distance_code via from low) ≤ 2
unfolding distance_code
distance_small via from low = either (int_eq low (pos 0)) [] (sum_with via via from (int_wrapping_neg w32 low)) 2 (omega arith) (sum_small via via from (int_wrapping_neg w32 low))

pub constant_small : (to : VirtualRegister) (n : ℤ) → code_weight (constant_code to n) ≤ 1
unfolding constant_code
constant_small to n = omega arith

pub low_bits_small : (to : VirtualRegister) (kind : IntegerKind) (from : VirtualRegister) → code_weight (low_bits_code to kind from) ≤ 2
unfolding low_bits_code
low_bits_small to Signed8 from = omega arith
low_bits_small to Unsigned8 from = omega arith
low_bits_small to Signed16 from = omega arith
low_bits_small to Unsigned16 from = omega arith
low_bits_small to Signed32 from = omega arith

-- ---- computations

module _ (w : Work) where
  within_small : (from : VirtualRegister) (low high : ℤ) → code_weight (within_code w from low high) ≤ 4
  unfolding within_code
  within_small from low high =
      let tested = Const w.second (unsigned_abs (high -ℤ low)) ∷ Branch Bltu w.second (distance_register w.first from low) w.range ∷ [] in
      let d = distance_small w.first from low in
      let all = join (distance_code w.first from low) tested in
      either (has_every_number low high) [] (distance_code w.first from low ++ tested) 4 (omega arith) (omega (arith, d, all))

  range_small : (from : VirtualRegister) (low high : ℤ) → code_weight (range_code w from low high) ≤ 4
  unfolding range_code
  range_small from low high = either (int_lt (higher_end high) (lower_end low)) (Jump w.range ∷ []) (within_code w from (lower_end low) (higher_end high)) 4 (omega arith) (within_small from (lower_end low) (higher_end high))

  module _ (o : Operands) where
    sum_code_small : (checked : Bool) → code_weight (sum_code w o checked) ≤ 7
    unfolding sum_code
    sum_code_small false = omega arith
    sum_code_small true = let m = move_small o.to w.first in omega (arith, m)

    difference_small : (checked : Bool) → code_weight (difference_code w o checked) ≤ 7
    unfolding difference_code
    difference_small false = omega arith
    difference_small true = let m = move_small o.to w.first in omega (arith, m)

    product_small : (checked : Bool) → code_weight (product_code w o checked) ≤ 7
    unfolding product_code
    product_small false = omega arith
    product_small true = let m = move_small o.to w.first in omega (arith, m)

    quotient_small : (checked : Bool) → code_weight (quotient_code w o checked) ≤ 7
    unfolding quotient_code divisor_test
    quotient_small false = omega arith
    quotient_small true = let m = move_small o.to w.second in omega (arith, m)

    remainder_small : code_weight (remainder_code w o) ≤ 7
    unfolding remainder_code divisor_test
    remainder_small = omega arith

    arithmetic_small : (operator : Operator) (checked : Bool) → code_weight (arithmetic_code w o operator checked) ≤ 7
    unfolding arithmetic_code
    arithmetic_small Add checked = sum_code_small checked
    arithmetic_small Subtract checked = difference_small checked
    arithmetic_small Multiply checked = product_small checked
    arithmetic_small Div checked = quotient_small checked
    arithmetic_small Mod_ checked = remainder_small
    arithmetic_small And checked = omega arith
    arithmetic_small Or checked = omega arith
    arithmetic_small Xor checked = omega arith
    arithmetic_small Shl checked = omega arith
    arithmetic_small Shr checked = omega arith
    arithmetic_small _ checked = omega arith

    negate_small : (checked : Bool) → code_weight (negate_code w o checked) ≤ 6
    unfolding negate_code least_test
    negate_small true = omega arith
    negate_small false = omega arith

    absolute_small : (checked : Bool) → code_weight (absolute_code w o checked) ≤ 6
    unfolding absolute_code least_test
    absolute_small true = omega arith
    absolute_small false = omega arith

    compare_small : (operator : Operator) → code_weight (compare_code o operator) ≤ 3
    unfolding compare_code equal_code
    compare_small Equal = omega arith
    compare_small NotEqual = omega arith
    compare_small Less = omega arith
    compare_small Greater = omega arith
    compare_small LessEqual = omega arith
    compare_small GreaterEqual = omega arith
    compare_small _ = omega arith

    upper_small : code_weight (upper_code w o) ≤ 6
    unfolding upper_code
    upper_small = omega arith

    check_small : (low high : ℤ) → code_weight (check_code w o low high) ≤ 5
    unfolding check_code
    check_small low high =
        let r = range_small o.left low high in
        let m = move_small o.to o.left in
        let all = join (range_code w o.left low high) (move_code o.to o.left) in
        either (has_every_number low high) (Move o.to o.left ∷ []) (range_code w o.left low high ++ move_code o.to o.left) 5 (omega arith) (omega (arith, r, m, all))

    neighbour_small : (distance low high : ℤ) → code_weight (neighbour_code w o distance low high) ≤ 6
    unfolding neighbour_code neighbour_test
    neighbour_small distance low high =
        let r = range_small o.left (low -ℤ distance) (high -ℤ distance) in
        let s = sum_small w.first o.to o.left distance in
        let all = join (range_code w o.left (low -ℤ distance) (high -ℤ distance)) (sum_with w.first o.to o.left distance) in
        omega (arith, r, s, all)

    -- ---- sets

    without_small : (to a b : VirtualRegister) → code_weight (without_code w to a b) ≤ 2
    unfolding without_code
    without_small to a b = omega arith

    inclusion_small : (to a b : VirtualRegister) → code_weight (inclusion_code w to a b) ≤ 3
    unfolding inclusion_code without_code
    inclusion_small to a b = omega arith

    combine_small : (operator : Operator) → code_weight (combine_code w o operator) ≤ 3
    unfolding combine_code
    combine_small Add = omega arith
    combine_small Subtract = let e = without_small o.to o.left o.right in omega (arith, e)
    combine_small Multiply = omega arith
    combine_small LessEqual = inclusion_small o.to o.left o.right
    combine_small GreaterEqual = inclusion_small o.to o.right o.left
    combine_small Equal = compare_small Equal
    combine_small NotEqual = compare_small NotEqual
    combine_small _ = omega arith

    single_small : code_weight (single_code o.to w.first o.left) ≤ 2
    unfolding single_code
    single_small = omega arith

    span_small : code_weight (span_code w o) ≤ 13
    unfolding span_code bits_from_code all_if_negative_code
    span_small = omega arith

    contains_small : code_weight (contains_code w o) ≤ 3
    unfolding contains_code
    contains_small = omega arith

    check_set_small : (all : ℤ) → code_weight (check_set_code w o all) ≤ 5
    unfolding check_set_code
    check_set_small all = let m = move_small o.to o.left in omega (arith, m)

    code_small : (c : Computation) → code_weight (code_of w o c) ≤ action_size (view_computation c)
    unfolding code_of
    code_small (Arithmetic operator checked to a b) = arithmetic_small operator checked
    code_small (Compare operator to a b) = compare_small operator
    code_small (Negate checked to a) = negate_small checked
    code_small (Complement to a) = omega arith
    code_small (Invert to a) = omega arith
    code_small (Absolute checked to a) = absolute_small checked
    code_small (Odd to a) = omega arith
    code_small (Upper to a) = upper_small
    code_small (LowBits kind to a) = low_bits_small o.to kind o.left
    code_small (Check low high to a) = check_small low high
    code_small (Neighbour distance low high to a) = neighbour_small distance low high
    code_small (Single to a) = single_small
    code_small (Span to a b) = span_small
    code_small (Combine operator to a b) = combine_small operator
    code_small (Contains to a b) = contains_small
    code_small (CheckSet all to a) = check_set_small all

  -- ---- branches

  module _ (from : VirtualRegister) where
    pub true_small : (block : ManagedBlock) → code_weight (true_code w from block) ≤ 2
    unfolding true_code
    true_small block = omega arith

    pub false_small : (block : ManagedBlock) → code_weight (false_code w from block) ≤ 2
    unfolding false_code
    false_small block = omega arith

    label_small : (block : BlockId) (label : Label) → code_weight (label_code w from block label) ≤ 4
    unfolding label_code
    label_small block label =
        let one = Const w.first (cast_unsigned w32 label.first) ∷ Branch Beq from w.first block ∷ [] in
        let tested = Const w.second (unsigned_abs (label.last -ℤ label.first)) ∷ Branch Bgeu w.second (distance_register w.first from label.first) block ∷ [] in
        let d = distance_small w.first from label.first in
        let all = join (distance_code w.first from label.first) tested in
        let more = either (int_eq label.first label.last) one (distance_code w.first from label.first ++ tested) 4 (omega arith) (omega (arith, d, all)) in
        either (int_lt label.last label.first) [] (if int_eq label.first label.last then one else distance_code w.first from label.first ++ tested) 4 (omega arith) more

    labels_small : (block : BlockId) (labels : List Label) → code_weight (flat_map (label_code w from block) labels) ≤ 4 * length labels
    labels_small block [] = omega arith
    labels_small block (l ∷ ls) =
        let first = label_small block l in
        let rest = labels_small block ls in
        let all = join (label_code w from block l) (flat_map (label_code w from block) ls) in
        let e = ap code_weight (flat_map-cons (label_code w from block) l ls) in
        omega (arith, first, rest, all, e)

    arm_small : (arm : Arm) → code_weight (arm_code w from arm) ≤ 4 * length arm.labels
    unfolding arm_code labels_code
    arm_small arm = labels_small (block_of arm.block) arm.labels

    arms_by : (arms : List Arm) → code_weight (flat_map (arm_code w from) arms) ≤ arms_size (map view_arm arms)
    arms_by [] = omega arith
    arms_by (a ∷ others) =
        let first = arm_small a in
        let rest = arms_by others in
        let all = join (arm_code w from a) (flat_map (arm_code w from) others) in
        let e = ap code_weight (flat_map-cons (arm_code w from) a others) in
        omega (arith, first, rest, all, e)

    pub switch_small : (arms : List Arm) → code_weight (switch_code w from arms) ≤ 1 + arms_size (map view_arm arms)
    unfolding switch_code arms_code
    switch_small arms =
        let a = arms_by arms in
        let all = join (flat_map (arm_code w from) arms) (Const w.first 0 ∷ []) in
        omega (arith, a, all)

    pub dispatch_small : (block : ManagedBlock) → code_weight (dispatch_code w from block) ≤ 6
    unfolding dispatch_code way_code
    dispatch_small block = omega arith

pub computation_small : (bank : Bank) (c : Computation) → code_weight (computation_code bank c) ≤ action_size (view_computation c)
unfolding computation_code
computation_small bank c = code_small (work_of bank) (registers_of bank c) c
