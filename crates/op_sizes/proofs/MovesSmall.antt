-- What the low code of one instruction of managed code comes to.
use Rattle.std.proofs.Common.{◌≡◌, ◌≤◌, ℕ, zero, suc, ℤ, pos, ◌+◌, ◌*◌, ◌-ℤ◌, Bool, true, false, List, [], ◌∷◌, ◌++◌, length, map, Option, Some, None, nat_eq, nat_le, nat_lt, refl, arith, if◌then◌else◌}
use Rattle.std.proofs.lemmas.Bool.Decides.{nat_tests}
use Rattle.op_compute.specs.Bank.{error_block_of, register_of, scratch_of, work_of}
use Rattle.op_compute.specs.Ranges.{distance_code, distance_register, sum_with}
use Rattle.op_compute.specs.declared.bank.RuntimeError.TheVariants.{RangeCheck}
use Rattle.op_constants.specs.FirstBytes.{are_zeros, first_bytes, first_number}
use Rattle.op_constants.specs.Literals.{first_of_row}
use Rattle.op_constants.specs.Offsets.{element_size, size_in}
use Rattle.op_constants.specs.Shapes.{is_composite}
use Rattle.op_constants.specs.Texts.{number_of}
use Rattle.op_core.specs.declared.ids.TypeId.{TypeId}
use Rattle.op_core.specs.declared.program.Core.{Core}
use Rattle.op_core.specs.declared.types.IntegerKind.{IntegerKind}
use Rattle.op_core.specs.declared.types.IntegerKind.TheVariants.{Signed8, Unsigned8, Signed16, Unsigned16, Signed32}
use Rattle.op_expand.specs.Calls.{call_code, charge_of, charging_code, given_code, given_spot, givens_code, givens_in, left, number_code, parts_code, receiver_code, receiver_of, receiver_spot, result_address, return_code, runtime, value_code, has_closing, closing_call}
use Rattle.op_places.specs.Homes.{parameter, rounded}
use Rattle.op_expand.specs.Actions.{action_code, begun_by, begun_code, composite_begun, zeros_begun, number_begun, parts_begun, row_of}
use Rattle.op_places.specs.Moves.{by_words, bytes_code, copy_code, copy_number, held, is_short, limit_of, load_code, load_op, near, store_code, store_op, taken_code, unit_code, units_code, units_in}
use Rattle.op_places.specs.Places.{after, at_register, behind_code, element_code, home_code, home_of, home_spot, index_code, place_code, place_of, power_of, reach_code, scale_code, scaled, step_code, step_spot, steps_code, steps_spot}
use Rattle.op_primitives.specs.Primitives.{call_by, destination_register, operands_code, operands_passed, routine_of}
use Rattle.op_expand.specs.Routines.{instruction_code}
use Rattle.op_places.specs.declared.frame.Frame.{Frame}
use Rattle.op_places.specs.declared.frame.Returning.{Returning}
use Rattle.op_places.specs.declared.frame.Returning.TheVariants.{Ending, Nothing, Result}
use Rattle.op_places.specs.declared.homes.Home.{Home}
use Rattle.op_places.specs.declared.homes.Home.TheVariants.{Held, Stored, Shared}
use Rattle.op_places.specs.declared.spot.Spot.{Spot}
use Rattle.op_low.specs.declared.ids.VirtualRegister.{VirtualRegister}
use Rattle.op_low.specs.declared.instruction.Instruction.TheVariants.{Alu, Branch, Const, Local as LocalAddress, Load as LoadWord, Return as LowReturn, Shift, Store as StoreWord, Exit, Move}
use Rattle.op_meaning.specs.Shapes.{shape_of, type_of_row}
use Rattle.op_meaning.specs.Statements.{kind_of}
use Rattle.op_meaning.specs.declared.primitive.Primitive.{Primitive}
use Rattle.op_mir.specs.View.{view_action, view_given, view_instruction, view_operand, view_path, view_receiver, view_step}
use Rattle.op_mir.specs.declared.action.Action.{Action}
use Rattle.op_mir.specs.declared.action.Action.TheVariants.{Constant, Load, Store, Copy, Look, BeginWith, Pick, Compute, Do}
use Rattle.op_mir.specs.declared.action.Destination.{Destination}
use Rattle.op_mir.specs.declared.action.Operand.{Operand}
use Rattle.op_mir.specs.declared.action.Operand.TheVariants.{Number, Text, Literal}
use Rattle.op_mir.specs.declared.code.Mir.{Mir}
use Rattle.op_mir.specs.declared.ids.LocalId.{LocalId}
use Rattle.op_mir.specs.declared.instruction.Call.{Call}
use Rattle.op_mir.specs.declared.instruction.Given.{Given}
use Rattle.op_mir.specs.declared.instruction.Given.TheVariants.{ByValue, ByPlace, ByCopy}
use Rattle.op_mir.specs.declared.instruction.Instruction.{Instruction}
use Rattle.op_mir.specs.declared.instruction.Instruction.TheVariants.{Act, Call as CallOf, Jump, When, Unless, Switch, Dispatch, MakeDue, OpenTemporaries, EndTemporary, Stop, Return}
use Rattle.op_mir.specs.declared.instruction.Receiver.{Receiver}
use Rattle.op_mir.specs.declared.instruction.Receiver.TheVariants.{Nowhere, Temporary as ToTemporary, Place}
use Rattle.op_mir.specs.declared.path.Path.{Path}
use Rattle.op_mir.specs.declared.path.Root.{Root}
use Rattle.op_mir.specs.declared.path.Root.TheVariants.{Local}
use Rattle.op_mir.specs.declared.path.Step.{Step}
use Rattle.op_mir.specs.declared.path.Step.TheVariants.{Field, Element}
use Rattle.op_rt_text.specs.Names.{call, clear_number, register, take_number}
use Rattle.op_rv.specs.Operation.{word_from}
use Rattle.op_rv.specs.declared.instruction.AluOp.TheVariants.{Add, Mul}
use Rattle.op_rv.specs.declared.instruction.BranchOp.TheVariants.{Bltu}
use Rattle.op_rv.specs.declared.instruction.ShiftOp.TheVariants.{Slli}
use Rattle.op_rv.specs.declared.instruction.StoreOp.TheVariants.{Sw}
use Rattle.op_sizes.proofs.ComputingSmall.{join, either, sum_small, distance_small, constant_small, low_bits_small, computation_small, true_small, false_small, switch_small, dispatch_small}
use Rattle.op_sizes.specs.Sizes.{path_size, action_size, operands_size, given_size, givens_size, receiver_size, instruction_size}
use Rattle.op_sizes.specs.Weights.{code_weight}

-- ---- places

scale_small : (to from via : VirtualRegister) (size : ℕ) → code_weight (scale_code to from via size) ≤ 2
unfolding scale_code
scale_small to from via size =
    let multiplied = Const via size ∷ Alu Mul to from via ∷ [] in
    let shifted = Shift Slli to from (power_of size) ∷ [] in
    either (nat_eq size 1) [] (if nat_eq (power_of size) 0 then multiplied else shifted) 2 (omega arith) (either (nat_eq (power_of size) 0) multiplied shifted 2 (omega arith) (omega arith))

behind_small : (to base distance via : VirtualRegister) (size : ℕ) → code_weight (behind_code to base distance via size) ≤ 3
unfolding behind_code
behind_small to base distance via size =
    let s = scale_small to distance via size in
    let all = join (scale_code to distance via size) (Alu Add to base (scaled to distance size) ∷ []) in
    omega (arith, s, all)

index_small : (frame : Frame) (to via index : VirtualRegister) (low high : ℤ) → code_weight (index_code frame to via index low high) ≤ 4
unfolding index_code
index_small frame to via index low high =
    let d = distance_small to index low in
    let all = join (distance_code to index low) (Const via (word_from (high -ℤ low)) ∷ Branch Bltu via (distance_register to index low) (error_block_of frame.bank RangeCheck) ∷ []) in
    omega (arith, d, all)

element_small : (frame : Frame) (low high : ℤ) (index : VirtualRegister) (size : ℕ) (spot : Spot) → code_weight (element_code frame low high index size spot) ≤ 7
unfolding element_code
element_small frame low high index size spot =
    let i = index_small frame spot.free (after spot.free) index low high in
    let b = behind_small spot.free spot.base (distance_register spot.free index low) (after spot.free) size in
    let all = join (index_code frame spot.free (after spot.free) index low high) (behind_code spot.free spot.base (distance_register spot.free index low) (after spot.free) size) in
    omega (arith, i, b, all)

module _ (core : Core) (frame : Frame) where
  steps_small : (steps : List Step) (spot : Spot) → code_weight (steps_code core frame steps spot) ≤ 7 * length (map view_step steps)
  steps_small [] spot = omega arith
  steps_small (Field of n ∷ steps) spot = let rest = steps_small steps (step_spot core (Field of n) spot) in omega (arith, rest)
  steps_small (Element of low high t ∷ steps) spot =
      let first = element_small frame low high (register_of frame.bank t) (element_size core of) spot in
      let rest = steps_small steps (step_spot core (Element of low high t) spot) in
      let all = join (step_code core frame (Element of low high t) spot) (steps_code core frame steps (step_spot core (Element of low high t) spot)) in
      omega (arith, first, rest, all)

  reach_small : (limit : ℕ) (spot : Spot) → code_weight (reach_code limit spot) ≤ 2
  reach_small limit spot = either (nat_le spot.offset limit) [] (sum_with spot.free spot.free spot.base (pos spot.offset)) 2 (omega arith) (sum_small spot.free spot.free spot.base (pos spot.offset))

  home_small : (free : VirtualRegister) (home : Home) → code_weight (home_code frame free home) ≤ 1
  home_small free (Held r) = omega arith
  home_small free (Stored offset) = either (nat_lt offset frame.locals) (LocalAddress free offset ∷ []) (Const free 0 ∷ []) 1 (omega arith) (omega arith)
  home_small free (Shared id) = omega arith

  pub place_small : (limit : ℕ) (root : Root) (steps : List Step) (free : VirtualRegister) → code_weight (place_code core frame limit root steps free) ≤ 3 + 7 * length (map view_step steps)
  place_small limit root steps free =
      let home = home_of core frame root in
      let begin = home_spot free home in
      let h = home_small free home in
      let s = steps_small steps begin in
      let r = reach_small limit (steps_spot core steps begin) in
      let one = join (home_code frame free home ++ steps_code core frame steps begin) (reach_code limit (steps_spot core steps begin)) in
      let two = join (home_code frame free home) (steps_code core frame steps begin) in
      omega (arith, h, s, r, one, two)

  -- ---- loads and stores

  pub load_small : (kind : IntegerKind) (to : VirtualRegister) (root : Root) (steps : List Step) (free : VirtualRegister) → code_weight (load_code core frame kind to root steps free) ≤ 4 + 7 * length (map view_step steps)
  load_small kind to root steps free = by (held core frame root steps) refl
    where
      by : (o : Option VirtualRegister) → held core frame root steps ≡ o → code_weight (load_code core frame kind to root steps free) ≤ 4 + 7 * length (map view_step steps)
      by (Some r) e = rw e (omega arith)
      by None e = rw e (
          let spot = place_of core frame near root steps free in
          let p = place_small near root steps free in
          let all = join (place_code core frame near root steps free) (LoadWord (load_op kind) to spot.base (pos spot.offset) ∷ []) in
          omega (arith, p, all)
          )

  pub store_small : (kind : IntegerKind) (from : VirtualRegister) (root : Root) (steps : List Step) (free : VirtualRegister) → code_weight (store_code core frame kind from root steps free) ≤ 4 + 7 * length (map view_step steps)
  store_small kind from root steps free = by (held core frame root steps) refl
    where
      by : (o : Option VirtualRegister) → held core frame root steps ≡ o → code_weight (store_code core frame kind from root steps free) ≤ 4 + 7 * length (map view_step steps)
      by (Some r) e = rw e (let b = low_bits_small r kind from in omega (arith, b))
      by None e = rw e (
          let spot = place_of core frame near root steps free in
          let p = place_small near root steps free in
          let all = join (place_code core frame near root steps free) (StoreWord (store_op kind) from spot.base (pos spot.offset) ∷ []) in
          omega (arith, p, all)
          )

  -- ---- copies

  units_small : (words : Bool) (n : ℕ) (from to : Spot) → code_weight (units_code words n from to) ≤ 2 * n
  units_small words zero from to = omega arith
  units_small words (suc n) from to =
      let rest = units_small words n from to in
      let all = join (units_code words n from to) (unit_code words n from to) in
      omega (arith, rest, all)

  short_small : (words : Bool) (size : ℕ) (from to : Spot) (short : Bool) → is_short words size ≡ short → code_weight (if short then units_code words (units_in words size) from to else Const to.free size ∷ call (copy_number words) (to.base ∷ from.base ∷ to.free ∷ []) to.free ∷ []) ≤ 16
  short_small words size from to false e = omega arith
  short_small words size from to true e =
      let u = units_small words (units_in words size) from to in
      let few : units_in words size ≤ 8 = grind (arith, nat_tests) in
      omega (arith, u, few)

  bytes_small : (words : Bool) (size : ℕ) (from to : Spot) → code_weight (bytes_code words size from to) ≤ 16
  bytes_small words size from to =
      let more = if is_short words size then units_code words (units_in words size) from to else Const to.free size ∷ call (copy_number words) (to.base ∷ from.base ∷ to.free ∷ []) to.free ∷ [] in
      either (nat_eq size 0) (Const to.free 0 ∷ []) more 16 (omega arith) (short_small words size from to (is_short words size) refl)

  copy_small : (of : TypeId) (to from : Path) → code_weight (copy_code core frame of to from) ≤ 16 + (path_size (view_path from) + path_size (view_path to))
  copy_small of to from =
      let words = by_words core of in
      let limit = limit_of words (size_in core of) in
      let begin = scratch_of frame.bank 0 in
      let source = place_of core frame limit from.root from.steps begin in
      let target = place_of core frame limit to.root to.steps source.free in
      let first = place_code core frame limit from.root from.steps begin in
      let second = place_code core frame limit to.root to.steps source.free in
      let a = place_small limit from.root from.steps begin in
      let b = place_small limit to.root to.steps source.free in
      let c = bytes_small words (size_in core of) source target in
      let one = join (first ++ second) (bytes_code words (size_in core of) source target) in
      let two = join first second in
      omega (arith, a, b, c, one, two)

  -- ---- values that are taken, and first values

  pub taken_small : (from : VirtualRegister) (size : ℕ) (v : LocalId) → code_weight (taken_code core frame from size v) ≤ 8
  unfolding taken_code
  taken_small from size v =
      let place = place_of core frame 0 (Local v) [] (scratch_of frame.bank 0) in
      let front = place_code core frame 0 (Local v) [] (scratch_of frame.bank 0) in
      let rest = StoreWord Sw from place.base (pos 0) ∷ Const from size ∷ call take_number (place.base ∷ from ∷ []) from ∷ [] in
      let p = place_small 0 (Local v) [] (scratch_of frame.bank 0) in
      let all = join front rest in
      either (nat_eq size 0) [] (front ++ rest) 8 (omega arith) (omega (arith, p, all))

  number_begun_small : (kind : IntegerKind) (n : ℤ) (v : LocalId) → code_weight (number_begun core frame kind n v) ≤ 9
  unfolding number_begun
  number_begun_small kind n v = let s = store_small kind (scratch_of frame.bank 0) (Local v) [] (scratch_of frame.bank 1) in omega (arith, s)

  zeros_small : (size : ℕ) (v : LocalId) → code_weight (zeros_begun core frame size v) ≤ 9
  unfolding zeros_begun
  zeros_small size v =
      let place = place_of core frame 0 (Local v) [] (scratch_of frame.bank 0) in
      let front = place_code core frame 0 (Local v) [] (scratch_of frame.bank 0) in
      let rest = Const frame.spare (rounded size) ∷ call clear_number (place.base ∷ frame.spare ∷ []) frame.spare ∷ [] in
      let p = place_small 0 (Local v) [] (scratch_of frame.bank 0) in
      let all = join front rest in
      either (nat_eq size 0) (Const frame.spare 0 ∷ []) (front ++ rest) 9 (omega arith) (omega (arith, p, all))

  composite_small : (texts : List (List ℕ)) (size : ℕ) (bytes : List ℕ) (v : LocalId) → code_weight (composite_begun core frame texts size bytes v) ≤ 9
  composite_small texts size bytes v =
      let t = taken_small frame.spare size v in
      either (are_zeros bytes) (zeros_begun core frame size v) (parts_begun core frame size (number_of texts bytes) v) 9 (zeros_small size v) (omega (arith, t))

  begun_small : (texts : List (List ℕ)) (v : LocalId) → code_weight (begun_code core frame texts v) ≤ 9
  unfolding begun_by
  begun_small texts v =
      let row = row_of core frame v in
      let of = type_of_row row in
      let bytes = first_bytes core of (first_of_row row) in
      either (is_composite (shape_of core of)) (composite_begun core frame texts (size_in core of) bytes v) (number_begun core frame (kind_of core of) (first_number (first_of_row row)) v) 9 (composite_small texts (size_in core of) bytes v) (number_begun_small (kind_of core of) (first_number (first_of_row row)) v)

  -- ---- actions

  operands_small : (texts : List (List ℕ)) (used : ℕ) (os : List Operand) → code_weight (operands_code frame texts used os) + length (operands_passed frame used os) ≤ operands_size (map view_operand os)
  operands_small texts used [] = omega arith
  operands_small texts used (Number t ∷ os) = let rest = operands_small texts (used + 0) os in omega (arith, rest)
  operands_small texts used (Text path ∷ os) = let rest = operands_small texts (used + 0) os in omega (arith, rest)
  operands_small texts used (Literal text ∷ os) = let rest = operands_small texts (used + 2) os in omega (arith, rest)

  call_by_small : (texts : List (List ℕ)) (routine : Option ℕ) (os : List Operand) (to : Destination) → code_weight (call_by frame texts routine os to) ≤ 1 + operands_size (map view_operand os)
  call_by_small texts None os to = omega arith
  call_by_small texts (Some routine) os to =
      let all = join (operands_code frame texts 0 os) (call routine (operands_passed frame 0 os) (destination_register frame to) ∷ []) in
      let few = operands_small texts 0 os in
      omega (arith, all, few)

  action_small : (r : ℕ) (texts : List (List ℕ)) (a : Action) → code_weight (action_code core frame texts a) ≤ action_size (view_action core r a)
  action_small r texts (Constant to n) = constant_small (register_of frame.bank to) n
  action_small r texts (Load to kind from) = let e = load_small kind (register_of frame.bank to) from.root from.steps (scratch_of frame.bank 0) in omega (arith, e)
  action_small r texts (Store to kind from) = let e = store_small kind (register_of frame.bank from) to.root to.steps (scratch_of frame.bank 0) in omega (arith, e)
  action_small r texts (Copy of to from) = copy_small of to from
  action_small r texts (Look at) =
      let p = place_small near at.root at.steps (scratch_of frame.bank 0) in
      let all = join (place_code core frame near at.root at.steps (scratch_of frame.bank 0)) (Const (scratch_of frame.bank 0) 0 ∷ []) in
      omega (arith, p, all)
  action_small r texts (BeginWith v) = begun_small texts v
  action_small r texts (Pick to text index) = omega arith
  action_small r texts (Compute c) = computation_small frame.bank c
  action_small r texts (Do p os to) = call_by_small texts (routine_of p) os to

  -- ---- calls

  value_small : (kind : IntegerKind) (from free : VirtualRegister) → code_weight (value_code kind from free) ≤ 2
  value_small Signed32 from free = omega arith
  value_small Signed8 from free = low_bits_small free Signed8 from
  value_small Unsigned8 from free = low_bits_small free Unsigned8 from
  value_small Signed16 from free = low_bits_small free Signed16 from
  value_small Unsigned16 from free = low_bits_small free Unsigned16 from

  given_small : (g : Given) (free : VirtualRegister) → 1 + code_weight (given_code core frame g free) ≤ given_size (view_given g)
  given_small (ByValue kind t) free = let e = value_small kind (register_of frame.bank t) free in omega (arith, e)
  given_small (ByPlace path) free = let e = place_small 0 path.root path.steps free in omega (arith, e)
  given_small (ByCopy of path) free = let e = place_small 0 path.root path.steps free in omega (arith, e)

  -- the code of arguments, and the arguments themselves
  givens_small : (gs : List Given) (free : VirtualRegister) → code_weight (givens_code core frame gs free) + length (givens_in core frame gs free) ≤ givens_size (map view_given gs)
  givens_small [] free = omega arith
  givens_small (g ∷ gs) free =
      let first = given_small g free in
      let rest = givens_small gs (given_spot core frame g free).free in
      let all = join (given_code core frame g free) (givens_code core frame gs (given_spot core frame g free).free) in
      omega (arith, first, rest, all)

  receiver_small : (to : Receiver) (free : VirtualRegister) → code_weight (receiver_code core frame to free) ≤ receiver_size (view_receiver to)
  receiver_small Nowhere free = omega arith
  receiver_small (ToTemporary t) free = omega arith
  receiver_small (Place of to) free = place_small 0 to.root to.steps free

  call_small : (mir : Mir) (r : ℕ) (operands : Call) → code_weight (call_code core mir frame r operands) ≤ 6 + (receiver_size (view_receiver operands.receiver) + givens_size (map view_given operands.given))
  call_small mir r operands =
      let given = scratch_of frame.bank 0 in
      let result = receiver_spot core frame operands.receiver (scratch_of frame.bank 1) in
      let receives = receiver_code core frame operands.receiver (scratch_of frame.bank 1) in
      let gives = givens_code core frame operands.given result.free in
      let charges = charging_code frame given (charge_of mir r) in
      let calls = call (runtime + r) (given ∷ result.base ∷ givens_in core frame operands.given result.free) (receiver_of frame operands.receiver given) ∷ [] in
      let a = receiver_small operands.receiver (scratch_of frame.bank 1) in
      let b = givens_small operands.given result.free in
      let one = join (receives ++ gives ++ charges) calls in
      let two = join (receives ++ gives) charges in
      let three = join receives gives in
      omega (arith, a, b, one, two, three)

  -- ---- returns

  number_small : (kind : IntegerKind) (v : LocalId) → code_weight (number_code core frame kind v) ≤ 22
  number_small kind v = by (held core frame (Local v) []) refl
    where
      by : (o : Option VirtualRegister) → held core frame (Local v) [] ≡ o → code_weight (number_code core frame kind v) ≤ 22
      by (Some r) e = rw e (omega arith)
      by None e = rw e (
          let l = load_small kind left (Local v) [] left in
          let all = join (load_code core frame kind left (Local v) [] left) (LowReturn left ∷ []) in
          omega (arith, l, all)
          )

  parts_small : (of : TypeId) (v : LocalId) → code_weight (parts_code core frame of v) ≤ 22
  unfolding parts_code
  parts_small of v =
      let words = by_words core of in
      let limit = limit_of words (size_in core of) in
      let front = place_code core frame limit (Local v) [] left in
      let bytes = bytes_code words (size_in core of) (place_of core frame limit (Local v) [] left) (at_register result_address (register (parameter 0))) in
      let p = place_small limit (Local v) [] left in
      let b = bytes_small words (size_in core of) (place_of core frame limit (Local v) [] left) (at_register result_address (register (parameter 0))) in
      let one = join (front ++ bytes) (LowReturn left ∷ []) in
      let two = join front bytes in
      omega (arith, p, b, one, two)

  return_small : (returning : Returning) → code_weight (return_code core frame returning) ≤ 22
  return_small Ending = either (has_closing core) (Const (scratch_of frame.bank 0) 0 ∷ closing_call core (scratch_of frame.bank 0) ∷ Exit left ∷ []) (Const left 0 ∷ Exit left ∷ []) 22 (omega arith) (omega arith)
  return_small Nothing = omega arith
  return_small (Result of v) = either (is_composite (shape_of core of)) (parts_code core frame of v) (number_code core frame (kind_of core of) v) 22 (parts_small of v) (number_small (kind_of core of) v)

  -- ---- instructions

  pub instruction_small : (mir : Mir) (r : ℕ) (texts : List (List ℕ)) (i : Instruction) → code_weight (instruction_code core mir frame texts i) ≤ instruction_size (view_instruction core r i)
  instruction_small mir r texts (Act action landing) = action_small r texts action
  instruction_small mir r texts (CallOf f operands) = call_small mir f.0 operands
  instruction_small mir r texts (Jump block) = omega arith
  instruction_small mir r texts (When t block) = true_small (work_of frame.bank) (register_of frame.bank t) block
  instruction_small mir r texts (Unless t block) = false_small (work_of frame.bank) (register_of frame.bank t) block
  instruction_small mir r texts (Switch t arms) = switch_small (work_of frame.bank) (register_of frame.bank t) arms
  instruction_small mir r texts (Dispatch t block) = dispatch_small (work_of frame.bank) (register_of frame.bank t) block
  instruction_small mir r texts (MakeDue f) = omega arith
  instruction_small mir r texts (OpenTemporaries ts) = omega arith
  instruction_small mir r texts (EndTemporary t) = omega arith
  instruction_small mir r texts (Stop t) = either (has_closing core) (closing_call core (register_of frame.bank t) ∷ []) (Move left (register_of frame.bank t) ∷ Exit left ∷ []) 3 (omega arith) (omega arith)
  instruction_small mir r texts Return = return_small frame.returning
