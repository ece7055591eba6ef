-- The low code of actions has its operands in range.
use Rattle.std.proofs.Common.{◌≡◌, ◌<◌, ◌≤◌, ℕ, zero, suc, ℤ, pos, negsuc, ◌+◌, ◌*◌, ◌-◌, ◌/◌, ◌^◌, ◌-ℤ◌, max, Bool, true, false, List, [], ◌∷◌, ◌++◌, length, map, nat_eq, slice_get, Option, Some, None, refl, sym, ap, ◌∙◌, subst, arith, if◌then◌else◌, FitsSigned}
use Rattle.std.proofs.lemmas.Bool.{leb-true, lt-ltb}
use Rattle.std.specs.Int.{w32, cast_unsigned}
use Rattle.std.proofs.lemmas.List.{length-map}
use Rattle.std.proofs.lemmas.Grind.{div_ceil_times}
use Rattle.op_compute.specs.Bank.{error_block_of, register_of, scratch_of, work_of, operands_of}
use Rattle.op_compute.specs.Computing.{constant_code, registers_of, code_of, computation_code}
use Rattle.op_compute.specs.Conversions.{low_bits_code}
use Rattle.op_constants.specs.FirstBytes.{first_number}
use Rattle.op_constants.specs.Literals.{first_of_row, operands_literals}
use Rattle.op_constants.specs.Texts.{number_of}
use Rattle.op_constants.specs.Offsets.{size_in}
use Rattle.op_constants.specs.Shapes.{is_composite}
use Rattle.op_core.specs.declared.ids.TypeId.{TypeId}
use Rattle.op_core.specs.declared.program.Core.{Core}
use Rattle.op_core.specs.declared.routine.Variable.{Variable}
use Rattle.op_core.specs.declared.types.IntegerKind.{IntegerKind}
use Rattle.op_places.specs.Homes.{home_at, rounded}
use Rattle.op_expand.specs.Actions.{number_begun, parts_begun, begun_by, begun_code, row_of, pick_code, action_code, zeros_begun}
use Rattle.op_places.specs.Moves.{load_op, store_op, near, held_by, held, load_code, store_code, by_words, unit_of, units_in, is_short, limit_of, unit_load, unit_store, unit_code, units_code, copy_number, bytes_code, copy_code, taken_code}
use Rattle.op_places.specs.Places.{home_of, place_code, place_of}
use Rattle.op_primitives.proofs.PrimitiveRows.{served}
use Rattle.op_primitives.specs.Primitives.{call_by, destination_register, operands_code, operands_passed, primitive_code, words_in}
use Rattle.op_places.specs.declared.frame.Frame.{Frame}
use Rattle.op_places.specs.declared.homes.Home.{Home}
use Rattle.op_places.specs.declared.homes.Home.TheVariants.{Held, Stored, Shared}
use Rattle.op_places.specs.declared.spot.Spot.{Spot}
use Rattle.op_frames.proofs.ComputingFine.{IsWork, AreOperands, joined, word_of, constant_fine, low_bits_fine, arithmetic_fine, negate_fine, absolute_fine, compare_fine, upper_fine, check_fine, neighbour_fine, combine_fine, single_fine, span_fine, contains_fine, check_set_fine}
use Rattle.op_frames.proofs.Fine.{Bounds, Below, Leads, IsFine, AreFine}
use Rattle.op_frames.proofs.PlacesFine.{IsHome, IsFrame, Temporaries, IsSpot, most_each, temporary_below, root_home, place_fine, place_spot, place_near}
use Rattle.op_frames.specs.Made.{Every}
use Rattle.op_frames.specs.Named.{IsNamedRoot, IsNamedStep, IsNamedPath, IsNamedAction, IsNamedOperand, fields_offset}
use Rattle.op_frames.specs.Scratch.{path_room, action_room, operands_room}
use Rattle.op_low.specs.Valid.{has_symbol, takes}
use Rattle.op_low.specs.declared.code.Routine.{Routine as LowRoutine}
use Rattle.op_low.specs.declared.ids.VirtualRegister.{VirtualRegister}
use Rattle.op_low.specs.declared.instruction.Instruction.{Instruction}
use Rattle.op_low.specs.declared.instruction.Instruction.TheVariants.{Const, Address, Alu, AluImm, Branch, Load as LoadWord, Move, Store as StoreWord}
use Rattle.op_lower.specs.Temporaries.{in_step, in_path, in_computation, in_action, in_destination, in_operand, most_of, up_to}
use Rattle.op_meaning.specs.Primitives.{EachOperand, IsApplied, signature, sort_of}
use Rattle.op_meaning.specs.Shapes.{shape_of, type_of_row}
use Rattle.op_meaning.specs.Statements.{kind_of}
use Rattle.op_meaning.specs.declared.primitive.Primitive.{Primitive}
use Rattle.op_mir.specs.View.{view_root, view_step, view_path, view_action, view_computation, view_destination, view_operand}
use Rattle.op_mir.specs.declared.action.Action.{Action}
use Rattle.op_mir.specs.declared.action.Action.TheVariants.{Constant, Load, Store, Copy, Look, BeginWith, Pick, Compute}
use Rattle.op_mir.specs.declared.action.Computation.{Computation}
use Rattle.op_mir.specs.declared.action.Computation.TheVariants.{Arithmetic, Compare, Negate, Complement, Invert, Absolute, Odd, Upper, LowBits, Check, Neighbour, Single, Span, Combine, Contains, CheckSet}
use Rattle.op_mir.specs.declared.action.Destination.{Destination}
use Rattle.op_mir.specs.declared.action.Destination.TheVariants.{Unused, InTemporary, InNew, IntoPlace, OverPlace}
use Rattle.op_mir.specs.declared.action.Operand.{Operand}
use Rattle.op_mir.specs.declared.action.Operand.TheVariants.{Number, Text, Literal}
use Rattle.op_mir.specs.declared.ids.LocalId.{LocalId}
use Rattle.op_mir.specs.declared.ids.TemporaryId.{TemporaryId}
use Rattle.op_mir.specs.declared.path.Path.{Path}
use Rattle.op_mir.specs.declared.path.Root.{Root}
use Rattle.op_mir.specs.declared.path.Root.TheVariants.{Global, Local, Through, Temporary}
use Rattle.op_mir.specs.declared.path.Step.{Step}
use Rattle.op_rt_text.specs.Names.{call, clear_number, literal, copy_words_number, copy_bytes_number, take_number}
use Rattle.op_rt_text.specs.Runtime.{runtime_routines}
use Rattle.op_rv.specs.Encoding.{is_imm}
use Rattle.op_rv.specs.Operation.{word_from}
use Rattle.op_rv.specs.declared.instruction.StoreOp.TheVariants.{Sw}

-- the run-time routines stand in front of all others
pub record HasRuntime (m : Bounds) : Type 0 where
  pub others : List LowRoutine
  pub are : m.low.routines ≡ runtime_routines ++ others

-- a variable that a register has
abbrev pub IsHeld : Bounds → Option VirtualRegister → Type 0
IsHeld m None = Unit {0}
IsHeld m (Some r) = Below m r

pub held_fine : (m : Bounds) (root : Root) (steps : List Step) (home : Home) → IsHome m home → IsHeld m (held_by root steps home)
held_fine m (Local v) [] (Held r) h = h
held_fine m (Local v) [] (Stored offset) h = tt
held_fine m (Local v) [] (Shared id) h = tt
held_fine m (Local v) (s ∷ steps) home h = tt
held_fine m (Global v) steps home h = tt
held_fine m (Through v) steps home h = tt
held_fine m (Temporary of k) steps home h = tt

near_imm : (n : ℕ) → n < 2 ^ 11 → is_imm (pos n) ≡ true
near_imm n p = lt-ltb n (2 ^ 11) p

-- a variable without steps
abbrev pub local_path : LocalId → Path
local_path v = record { root = Local v; steps = [] }

-- the room of a path of managed code
abbrev pub room_of : Path → ℕ
room_of p = path_room (view_path p)

module _ (m : Bounds) (core : Core) (frame : Frame) (n : ℕ) (is : IsFrame m core frame) (temporaries : Temporaries frame n) (runtime : HasRuntime m) where
  -- ---- calls of run-time routines

  runtime_takes : (k a : ℕ) → ((others : List LowRoutine) → takes (slice_get (runtime_routines ++ others) k) a ≡ true) → takes (slice_get m.low.routines k) a ≡ true
  runtime_takes k a e = subst (λ rs. takes (slice_get rs k) a ≡ true) (sym runtime.are) (e runtime.others)

  copy_takes : (words : Bool) → takes (slice_get m.low.routines (copy_number words)) 3 ≡ true
  copy_takes true = runtime_takes copy_words_number 3 (λ others. refl)
  copy_takes false = runtime_takes copy_bytes_number 3 (λ others. refl)

  -- ---- places

  module _ (limit : ℕ) (p : Path) (free : VirtualRegister) (named : IsNamedPath core (view_path p)) (t : in_path p ≤ n) (room : free.0 + room_of p ≤ m.registers) where
    pub steps_room : free.0 + (1 + 2 * length p.steps) ≤ m.registers
    steps_room = subst (λ k. free.0 + (1 + 2 * k) ≤ m.registers) (length-map p.steps view_step) room

    pub path_fine : AreFine m (place_code core frame limit p.root p.steps free)
    path_fine = place_fine m core frame n is temporaries limit p.root p.steps free named.0 named.1 named.2 (most_each in_step p.steps n t) steps_room

    pub path_spot : IsSpot m core frame n is temporaries (free.0 + room_of p) (place_of core frame limit p.root p.steps free)
    path_spot = subst (λ k. IsSpot m core frame n is temporaries (free.0 + (1 + 2 * k)) (place_of core frame limit p.root p.steps free)) (sym (length-map p.steps view_step)) (place_spot m core frame n is temporaries limit p.root p.steps free named.0 named.1 named.2 (most_each in_step p.steps n t) steps_room)

  -- ---- loads and stores

  module _ (kind : IntegerKind) (p : Path) (free : VirtualRegister) (named : IsNamedPath core (view_path p)) (t : in_path p ≤ n) (room : free.0 + room_of p ≤ m.registers) where
    offset_imm : is_imm (pos (place_of core frame near p.root p.steps free).offset) ≡ true
    offset_imm = near_imm _ (omega (arith, place_near m core frame n is temporaries near p.root p.steps free))

    pub load_fine : (to : VirtualRegister) → Below m to → AreFine m (load_code core frame kind to p.root p.steps free)
    load_fine to b = by (held core frame p.root p.steps) refl (held_fine m p.root p.steps (home_of core frame p.root) (root_home m core frame n is temporaries p.root named.0))
      where
        by : (o : Option VirtualRegister) → held core frame p.root p.steps ≡ o → IsHeld m o → AreFine m (load_code core frame kind to p.root p.steps free)
        by (Some r) e h = rw e ((b, h), tt)
        by None e h = rw e (joined m _ _ (path_fine near p free named t room) ((b, (path_spot near p free named t room).base, offset_imm), tt))

    pub store_fine : (from : VirtualRegister) → Below m from → AreFine m (store_code core frame kind from p.root p.steps free)
    store_fine from b = by (held core frame p.root p.steps) refl (held_fine m p.root p.steps (home_of core frame p.root) (root_home m core frame n is temporaries p.root named.0))
      where
        by : (o : Option VirtualRegister) → held core frame p.root p.steps ≡ o → IsHeld m o → AreFine m (store_code core frame kind from p.root p.steps free)
        by (Some r) e h = rw e (low_bits_fine m r kind from h b)
        by None e h = rw e (joined m _ _ (path_fine near p free named t room) ((b, (path_spot near p free named t room).base, offset_imm), tt))

  -- ---- copies

  unit_small : (words : Bool) (k : ℕ) → k < 8 → k * unit_of words < 32
  unit_small true k p = omega arith
  unit_small false k p = omega arith

  units_fine : (words : Bool) (count : ℕ) (from to : Spot) → count ≤ 8 → from.offset ≤ near → to.offset ≤ near → Below m from.base → Below m to.base → Below m to.free → AreFine m (units_code words count from to)
  units_fine words zero from to few f t a b c = tt
  units_fine words (suc k) from to few f t a b c =
      let small = unit_small words k (omega (arith, few)) in
      joined m _ _ (units_fine words k from to (omega (arith, few)) f t a b c)
      ((c, a, near_imm _ (omega (arith, small, f))), ((c, b, near_imm _ (omega (arith, small, t))), tt))

  bytes_by : (short words : Bool) (size : ℕ) (from to : Spot) → is_short words size ≡ short → size ≤ 1048576 → from.offset ≤ (if short then near else 0) → to.offset ≤ (if short then near else 0) → Below m from.base → Below m to.base → Below m to.free → AreFine m (if short then units_code words (units_in words size) from to else Const to.free size ∷ call (copy_number words) (to.base ∷ from.base ∷ to.free ∷ []) to.free ∷ [])
  bytes_by true words size from to e small f t a b c = units_fine words (units_in words size) from to (leb-true _ 8 e) f t a b c
  bytes_by false words size from to e small f t a b c = ((c, omega (arith, small)), (((b, (a, (c, tt))), c, copy_takes words, refl), tt))

  pub bytes_fine : (words : Bool) (size : ℕ) (from to : Spot) → size ≤ 1048576 → from.offset ≤ limit_of words size → to.offset ≤ limit_of words size → Below m from.base → Below m to.base → Below m to.free → AreFine m (bytes_code words size from to)
  bytes_fine words size from to small f t a b c = bytes_so (nat_eq size 0)
    where
      bytes_so : (empty : Bool) → AreFine m (if empty then Const to.free 0 ∷ [] else if is_short words size then units_code words (units_in words size) from to else Const to.free size ∷ call (copy_number words) (to.base ∷ from.base ∷ to.free ∷ []) to.free ∷ [])
      bytes_so true = ((c, omega arith), tt)
      bytes_so false = bytes_by (is_short words size) words size from to refl small f t a b c

  pub copy_fine : (of : TypeId) (to from : Path) → IsNamedPath core (view_path to) → IsNamedPath core (view_path from) → in_path to ≤ n → in_path from ≤ n → frame.bank.scratch + (room_of from + room_of to + 1) ≤ m.registers → AreFine m (copy_code core frame of to from)
  copy_fine of to from nt nf kt tf room =
      let words = by_words core of in
      let limit = limit_of words (size_in core of) in
      let begin = scratch_of frame.bank 0 in
      let source = place_of core frame limit from.root from.steps begin in
      let first : begin.0 + room_of from ≤ m.registers = omega (arith, room) in
      let s = path_spot limit from begin nf tf first in
      let second : source.free.0 + room_of to ≤ m.registers = omega (arith, room, s.free_is) in
      let t = path_spot limit to source.free nt kt second in
      let target = place_of core frame limit to.root to.steps source.free in
      let free : target.free.0 < m.registers = omega (arith, room, s.free_is, t.free_is) in
      joined m _ _ (joined m _ _ (path_fine limit from begin nf tf first) (path_fine limit to source.free nt kt second))
      (bytes_fine words (size_in core of) source target (is.sizes of) (place_near m core frame n is temporaries limit from.root from.steps begin) (place_near m core frame n is temporaries limit to.root to.steps source.free) s.base t.base free)

  -- ---- values that are taken

  taken_by : (empty : Bool) (from : VirtualRegister) (size : ℕ) (v : LocalId) → size ≤ 1048576 → Below m from → frame.bank.scratch + 1 ≤ m.registers → AreFine m (if empty then [] else place_code core frame 0 (Local v) [] (scratch_of frame.bank 0) ++ StoreWord Sw from (place_of core frame 0 (Local v) [] (scratch_of frame.bank 0)).base (pos 0) ∷ Const from size ∷ call take_number ((place_of core frame 0 (Local v) [] (scratch_of frame.bank 0)).base ∷ from ∷ []) from ∷ [])
  taken_by true from size v small f room = tt
  taken_by false from size v small f room =
      let p = local_path v in
      let room' : frame.bank.scratch + 0 + 1 ≤ m.registers = omega (arith, room) in
      let spot = path_spot 0 p (scratch_of frame.bank 0) (tt, tt, omega arith) (omega arith) room' in
      joined m _ _ (path_fine 0 p (scratch_of frame.bank 0) (tt, tt, omega arith) (omega arith) room')
      ((f, spot.base, refl), ((f, omega (arith, small)), (((spot.base, (f, tt)), f, runtime_takes take_number 2 (λ others. refl), refl), tt)))

  pub taken_fine : (from : VirtualRegister) (size : ℕ) (v : LocalId) → size ≤ 1048576 → Below m from → frame.bank.scratch + 1 ≤ m.registers → AreFine m (taken_code core frame from size v)
  unfolding taken_code
  taken_fine from size v small f room = taken_by (nat_eq size 0) from size v small f room

  -- ---- first values: a number takes one scratch register, and another one for a variable in memory

  pub number_begun_fine : (kind : IntegerKind) (k : ℤ) (v : LocalId) → FitsSigned w32 k → frame.bank.scratch + 2 ≤ m.registers → AreFine m (number_begun core frame kind k v)
  unfolding number_begun
  number_begun_fine kind k v fits room =
      let p = local_path v in
      let b : Below m (scratch_of frame.bank 0) = omega (arith, room) in
      let room' : frame.bank.scratch + 1 + 1 ≤ m.registers = omega (arith, room) in
      ((b, word_of k fits), store_fine kind p (scratch_of frame.bank 1) (tt, tt, omega arith) (omega arith) room' (scratch_of frame.bank 0) b)

  -- a variable that a register has
  pub number_held_fine : (kind : IntegerKind) (k : ℤ) (v : LocalId) (r : VirtualRegister) → held core frame (Local v) [] ≡ Some r → FitsSigned w32 k → frame.bank.scratch + 1 ≤ m.registers → AreFine m (number_begun core frame kind k v)
  unfolding number_begun
  number_held_fine kind k v r e fits room =
      let b : Below m (scratch_of frame.bank 0) = omega (arith, room) in
      let h : Below m r = subst (IsHeld m) e (held_fine m (Local v) [] (home_of core frame (Local v)) (is.homes v)) in
      let stored : AreFine m (store_code core frame kind (scratch_of frame.bank 0) (Local v) [] (scratch_of frame.bank 1)) = rw e (low_bits_fine m r kind (scratch_of frame.bank 0) h b) in
      ((b, word_of k fits), stored)

  pub parts_begun_fine : (size id : ℕ) (v : LocalId) → size ≤ 1048576 → id < m.low.counts.literals → Below m frame.spare → frame.bank.scratch + 1 ≤ m.registers → AreFine m (parts_begun core frame size id v)
  unfolding has_symbol
  parts_begun_fine size id v small there s room = ((s, lt-ltb id m.low.counts.literals there), taken_fine frame.spare size v small s room)

  zeros_by : (empty : Bool) (size : ℕ) (v : LocalId) → size ≤ 1048576 → Below m frame.spare → frame.bank.scratch + 1 ≤ m.registers → AreFine m (if empty then Const frame.spare 0 ∷ [] else place_code core frame 0 (Local v) [] (scratch_of frame.bank 0) ++ Const frame.spare (rounded size) ∷ call clear_number ((place_of core frame 0 (Local v) [] (scratch_of frame.bank 0)).base ∷ frame.spare ∷ []) frame.spare ∷ [])
  zeros_by true size v small s room = ((s, omega arith), tt)
  zeros_by false size v small s room =
      let p = local_path v in
      let room' : frame.bank.scratch + 0 + 1 ≤ m.registers = omega (arith, room) in
      let spot = path_spot 0 p (scratch_of frame.bank 0) (tt, tt, omega arith) (omega arith) room' in
      let (least, most) = div_ceil_times size 4 (omega arith) in
      joined m _ _ (path_fine 0 p (scratch_of frame.bank 0) (tt, tt, omega arith) (omega arith) room')
      ((s, omega (arith, small, most)), (((spot.base, (s, tt)), s, runtime_takes clear_number 2 (λ others. refl), refl), tt))

  pub zeros_begun_fine : (size : ℕ) (v : LocalId) → size ≤ 1048576 → Below m frame.spare → frame.bank.scratch + 1 ≤ m.registers → AreFine m (zeros_begun core frame size v)
  unfolding zeros_begun
  zeros_begun_fine size v small s room = zeros_by (nat_eq size 0) size v small s room

  -- ---- literals

  pub pick_fine : (id : ℕ) (to : VirtualRegister) (size : ℕ) (index : VirtualRegister) → id < m.low.counts.literals → size < 2 ^ 32 → Below m to → Below m index → frame.bank.scratch + 3 ≤ m.registers → AreFine m (pick_code frame id to size index)
  unfolding has_symbol
  pick_fine id to size index there small t i room =
      let a : Below m (scratch_of frame.bank 0) = omega (arith, room) in
      let b : Below m (scratch_of frame.bank 1) = omega (arith, room) in
      ((a, i, refl), ((b, small), ((a, b, omega (arith, is.errors)), ((b, lt-ltb id m.low.counts.literals there), ((a, b, a), ((t, a, refl), tt))))))

  pub register_below : (t : TemporaryId) → up_to t ≤ n → Below m (register_of frame.bank t)
  register_below t p = temporary_below m core frame n is temporaries t.0 (omega (arith, p))

  -- ---- primitives

  words_passed : (used : ℕ) (os : List Operand) → EachOperand IsNamedOperand (map view_operand os) → length (operands_passed frame used os) ≡ words_in (map sort_of (map view_operand os))
  words_passed used [] named = refl
  words_passed used (Number t ∷ os) named = ap suc (words_passed (used + 0) os named.1)
  words_passed used (Text path ∷ os) named = absurd named.0
  words_passed used (Literal text ∷ os) named = ap (λ k. suc (suc k)) (words_passed (used + 2) os named.1)

  operands_fine : (texts : List (List ℕ)) (used : ℕ) (os : List Operand) → EachOperand IsNamedOperand (map view_operand os) → frame.bank.scratch + used + operands_room (map view_operand os) ≤ m.registers → Every (λ text. number_of texts text < m.low.counts.literals) (operands_literals os) → AreFine m (operands_code frame texts used os)
  unfolding has_symbol
  operands_fine texts used [] named room there = tt
  operands_fine texts used (Number t ∷ os) named room there = operands_fine texts (used + 0) os named.1 (omega (arith, room)) there
  operands_fine texts used (Text path ∷ os) named room there = absurd named.0
  operands_fine texts used (Literal text ∷ os) named room there =
      ((omega (arith, room), lt-ltb (number_of texts text) m.low.counts.literals there.0), ((omega (arith, room), named.0), operands_fine texts (used + 2) os named.1 (omega (arith, room)) there.1))

  passed_below : (used : ℕ) (os : List Operand) → Every (λ o. in_operand o ≤ n) os → frame.bank.scratch + used + operands_room (map view_operand os) ≤ m.registers → Every (Below m) (operands_passed frame used os)
  unfolding in_operand
  passed_below used [] low room = tt
  passed_below used (Number t ∷ os) low room = (register_below t low.0, passed_below (used + 0) os low.1 (omega (arith, room)))
  passed_below used (Text path ∷ os) low room = passed_below (used + 0) os low.1 (omega (arith, room))
  passed_below used (Literal text ∷ os) low room = (omega (arith, room), (omega (arith, room), passed_below (used + 2) os low.1 (omega (arith, room))))

  destination_below : (to : Destination) → in_destination to ≤ n → frame.bank.scratch + 1 ≤ m.registers → Below m (destination_register frame to)
  unfolding in_destination
  destination_below Unused low room = omega (arith, room)
  destination_below (InTemporary t) low room = register_below t low
  destination_below (InNew of k) low room = omega (arith, room)
  destination_below (IntoPlace of to old) low room = omega (arith, room)
  destination_below (OverPlace to) low room = omega (arith, room)

  pub primitive_fine : (texts : List (List ℕ)) (p : Primitive) (os : List Operand) (to : Destination) → IsApplied IsNamedOperand p (map view_operand os) (view_destination to) → max (most_of in_operand os) (in_destination to) ≤ n → frame.bank.scratch + (1 + operands_room (map view_operand os)) ≤ m.registers → Every (λ text. number_of texts text < m.low.counts.literals) (operands_literals os) → AreFine m (primitive_code frame texts p os to)
  primitive_fine texts p os to named t room there =
      let low = most_each in_operand os n (omega (arith, t)) in
      let number = words_passed 0 os named.each ∙ ap words_in named.sorts in
      let serving = served p named.nothing in
      let less : frame.bank.scratch + 0 + operands_room (map view_operand os) ≤ m.registers = omega (arith, room) in
      subst (λ routine. AreFine m (call_by frame texts routine os to)) (sym serving.is)
      (joined m _ _ (operands_fine texts 0 os named.each less there)
      ((passed_below 0 os low less, destination_below to (omega (arith, t)) (omega (arith, room)), subst (λ k. takes (slice_get m.low.routines serving.routine) k ≡ true) (sym number) (runtime_takes serving.routine (words_in (signature p)) serving.takes_them), refl), tt))

  -- ---- computations

  pub the_work : frame.bank.scratch + 3 ≤ m.registers → IsWork m (work_of frame.bank)
  the_work room = record {
    first = omega (arith, room);
    second = omega (arith, room);
    third = omega (arith, room);
    division = omega (arith, is.errors);
    range = omega (arith, is.errors);
    overflow = omega (arith, is.errors);
  }

  two_operands : (to a : TemporaryId) → max (up_to to) (up_to a) ≤ n → AreOperands m (operands_of frame.bank to a a)
  two_operands to a t = record { to = register_below to (omega (arith, t)); left = register_below a (omega (arith, t)); right = register_below a (omega (arith, t)) }

  three_operands : (to a b : TemporaryId) → max (up_to to) (max (up_to a) (up_to b)) ≤ n → AreOperands m (operands_of frame.bank to a b)
  three_operands to a b t = record { to = register_below to (omega (arith, t)); left = register_below a (omega (arith, t)); right = register_below b (omega (arith, t)) }

  pub computation_fine : (r : ℕ) (c : Computation) → IsNamedAction core (view_computation c) → in_computation c ≤ n → frame.bank.scratch + 3 ≤ m.registers → AreFine m (computation_code frame.bank c)
  unfolding computation_code code_of registers_of in_computation
  computation_fine r (Arithmetic o checked to a b) named t room = arithmetic_fine m (work_of frame.bank) (the_work room) (operands_of frame.bank to a b) (three_operands to a b t) o checked
  computation_fine r (Compare o to a b) named t room = compare_fine m (work_of frame.bank) (the_work room) (operands_of frame.bank to a b) (three_operands to a b t) o
  computation_fine r (Negate checked to a) named t room = negate_fine m (work_of frame.bank) (the_work room) (operands_of frame.bank to a a) (two_operands to a t) checked
  computation_fine r (Complement to a) named t room = let o = two_operands to a t in ((o.to, o.left, refl), tt)
  computation_fine r (Invert to a) named t room = let o = two_operands to a t in ((o.to, o.left, refl), tt)
  computation_fine r (Absolute checked to a) named t room = absolute_fine m (work_of frame.bank) (the_work room) (operands_of frame.bank to a a) (two_operands to a t) checked
  computation_fine r (Odd to a) named t room = let o = two_operands to a t in ((o.to, o.left, refl), tt)
  computation_fine r (Upper to a) named t room = upper_fine m (work_of frame.bank) (the_work room) (operands_of frame.bank to a a) (two_operands to a t)
  computation_fine r (LowBits kind to a) named t room = let o = two_operands to a t in low_bits_fine m _ kind _ o.to o.left
  computation_fine r (Check low high to a) named t room = check_fine m (work_of frame.bank) (the_work room) (operands_of frame.bank to a a) (two_operands to a t) low high
  computation_fine r (Neighbour distance low high to a) named t room = neighbour_fine m (work_of frame.bank) (the_work room) (operands_of frame.bank to a a) (two_operands to a t) distance low high named
  computation_fine r (Single to a) named t room = single_fine m (work_of frame.bank) (the_work room) (operands_of frame.bank to a a) (two_operands to a t)
  computation_fine r (Span to a b) named t room = span_fine m (work_of frame.bank) (the_work room) (operands_of frame.bank to a b) (three_operands to a b t)
  computation_fine r (Combine o to a b) named t room = combine_fine m (work_of frame.bank) (the_work room) (operands_of frame.bank to a b) (three_operands to a b t) o
  computation_fine r (Contains to a b) named t room = contains_fine m (work_of frame.bank) (the_work room) (operands_of frame.bank to a b) (three_operands to a b t)
  computation_fine r (CheckSet all to a) named t room = check_set_fine m (work_of frame.bank) (the_work room) (operands_of frame.bank to a a) (two_operands to a t) all named
