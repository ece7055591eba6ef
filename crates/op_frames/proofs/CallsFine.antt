-- The low code of calls, of returns and of instructions has its operands in range.
use Rattle.std.proofs.Common.{◌≡◌, ◌<◌, ◌≤◌, ℕ, suc, ◌+◌, ◌-◌, ◌^◌, min, max, Bool, true, false, List, [], ◌∷◌, length, map, nat_lt, slice_get, Option, Some, None, refl, sym, ap, subst, arith, if◌then◌else◌}
use Rattle.std.proofs.lemmas.Bool.Decides.{nat_tests}
use Rattle.op_compute.specs.Bank.{scratch_of}
use Rattle.op_constants.specs.Offsets.{size_in}
use Rattle.op_constants.specs.Shapes.{is_composite}
use Rattle.op_core.specs.declared.ids.TypeId.{TypeId}
use Rattle.op_core.specs.declared.program.Core.{Core}
use Rattle.op_core.specs.declared.types.IntegerKind.{IntegerKind}
use Rattle.op_core.specs.declared.types.IntegerKind.TheVariants.{Signed8, Unsigned8, Signed16, Unsigned16, Signed32}
use Rattle.op_expand.specs.Calls.{left, result_address, value_code, value_spot, given_code, given_spot, givens_code, givens_in, receiver_code, receiver_spot, receiver_of, charge_of, charging_code, call_code, number_code, parts_code, return_code, closing_number, ending_code, has_closing, stop_code, closing_call, due_code}
use Rattle.op_places.specs.Homes.{parameter}
use Rattle.op_places.specs.Moves.{by_words, held, limit_of}
use Rattle.op_places.specs.Places.{at_register, home_of, place_of}
use Rattle.op_places.specs.declared.frame.Frame.{Frame}
use Rattle.op_places.specs.declared.frame.Returning.{Returning}
use Rattle.op_places.specs.declared.frame.Returning.TheVariants.{Ending, Nothing, Result}
use Rattle.op_frames.proofs.ComputingFine.{joined, low_bits_fine}
use Rattle.op_frames.proofs.Fine.{Bounds, Below, IsFine, AreFine}
use Rattle.op_frames.proofs.MovesFine.{HasRuntime, IsHeld, held_fine, path_fine, path_spot, local_path, load_fine, bytes_fine, register_below}
use Rattle.op_frames.proofs.PlacesFine.{IsFrame, Temporaries, IsSpot, most_each, place_near}
use Rattle.op_frames.specs.Made.{Every}
use Rattle.op_frames.specs.Named.{IsNamedGiven, IsNamedReceiver}
use Rattle.op_frames.specs.Scratch.{given_room, givens_room, receiver_room}
use Rattle.op_low.specs.Valid.{takes, has_symbol}
use Rattle.op_low.specs.declared.ids.VirtualRegister.{VirtualRegister}
use Rattle.op_low.specs.declared.instruction.Instruction.TheVariants.{Const, Exit, Move}
use Rattle.op_lower.specs.Temporaries.{in_given, in_receiver, most_of}
use Rattle.op_meaning.specs.Shapes.{shape_of}
use Rattle.op_meaning.specs.Statements.{kind_of}
use Rattle.op_mir.specs.View.{view_given, view_receiver}
use Rattle.op_mir.specs.declared.code.Mir.{Mir}
use Rattle.op_mir.specs.declared.code.Routine.{Routine}
use Rattle.op_mir.specs.declared.ids.LocalId.{LocalId}
use Rattle.op_mir.specs.declared.instruction.Call.{Call}
use Rattle.op_mir.specs.declared.instruction.Given.{Given}
use Rattle.op_mir.specs.declared.instruction.Given.TheVariants.{ByValue, ByPlace, ByCopy}
use Rattle.op_mir.specs.declared.instruction.Receiver.{Receiver}
use Rattle.op_mir.specs.declared.instruction.Receiver.TheVariants.{Nowhere, Temporary, Place}
use Rattle.op_mir.specs.declared.path.Root.TheVariants.{Local}
use Rattle.op_rt_text.specs.Names.{register}

-- no stack has more than a word
least_word : (k : ℕ) → min k (2 ^ 32 - 1) < 2 ^ 32
least_word k = omega arith

pub charge_word : (mir : Mir) (r : ℕ) → charge_of mir r < 2 ^ 32
charge_word mir r = by (slice_get mir.routines r) refl
  where
    by : (o : Option Routine) → slice_get mir.routines r ≡ o → charge_of mir r < 2 ^ 32
    by None e = let zero : 0 < 2 ^ 32 = omega arith in rw e zero
    by (Some routine) e = rw e (least_word routine.charge)

-- the closing takes what is left of the stack, and the status
abbrev pub TakesClosing : Bounds → Core → Type 0
TakesClosing m core = has_closing core ≡ true → takes (slice_get m.low.routines (closing_number core)) 2 ≡ true

-- the program itself needs a register for the status of the closing, and a result with parts a third one
abbrev pub CanReturn : Bounds → Core → Frame → Returning → Type 0
CanReturn m core frame Ending = TakesClosing m core × (frame.bank.scratch + 1 ≤ m.registers)
CanReturn m core frame Nothing = Unit {0}
CanReturn m core frame (Result of v) = is_composite (shape_of core of) ≡ true → 3 ≤ m.registers

module _ (m : Bounds) (core : Core) (frame : Frame) (n : ℕ) (is : IsFrame m core frame) (temporaries : Temporaries frame n) (runtime : HasRuntime m) where
  left_there : Below m left
  left_there = let zero : 0 < m.registers = omega (arith, is.two) in zero

  result_there : Below m result_address
  result_there = let one : 1 < m.registers = omega (arith, is.two) in one

  -- ---- arguments

  value_fine : (kind : IntegerKind) (from free : VirtualRegister) → Below m from → Below m free → AreFine m (value_code kind from free)
  value_fine Signed32 from free f b = tt
  value_fine Signed8 from free f b = low_bits_fine m free Signed8 from b f
  value_fine Unsigned8 from free f b = low_bits_fine m free Unsigned8 from b f
  value_fine Signed16 from free f b = low_bits_fine m free Signed16 from b f
  value_fine Unsigned16 from free f b = low_bits_fine m free Unsigned16 from b f

  value_there : (kind : IntegerKind) (from free : VirtualRegister) → Below m from → Below m free → IsSpot m core frame n is temporaries (free.0 + 1) (value_spot kind from free)
  value_there Signed32 from free f b = record { base = f; free_is = omega arith }
  value_there Signed8 from free f b = record { base = b; free_is = omega arith }
  value_there Unsigned8 from free f b = record { base = b; free_is = omega arith }
  value_there Signed16 from free f b = record { base = b; free_is = omega arith }
  value_there Unsigned16 from free f b = record { base = b; free_is = omega arith }

  given_fine : (g : Given) (free : VirtualRegister) → IsNamedGiven core (view_given g) → in_given g ≤ n → free.0 + given_room (view_given g) ≤ m.registers → AreFine m (given_code core frame g free)
  given_fine (ByValue kind t) free named p room = value_fine kind _ free (register_below m core frame n is temporaries runtime t p) (omega (arith, room))
  given_fine (ByPlace path) free named p room = path_fine m core frame n is temporaries runtime 0 path free named p room
  given_fine (ByCopy of path) free named p room = path_fine m core frame n is temporaries runtime 0 path free named p room

  given_there : (g : Given) (free : VirtualRegister) → IsNamedGiven core (view_given g) → in_given g ≤ n → free.0 + given_room (view_given g) ≤ m.registers → IsSpot m core frame n is temporaries (free.0 + given_room (view_given g)) (given_spot core frame g free)
  given_there (ByValue kind t) free named p room = value_there kind _ free (register_below m core frame n is temporaries runtime t p) (omega (arith, room))
  given_there (ByPlace path) free named p room = path_spot m core frame n is temporaries runtime 0 path free named p room
  given_there (ByCopy of path) free named p room = path_spot m core frame n is temporaries runtime 0 path free named p room

  givens_fine : (gs : List Given) (free : VirtualRegister) → Every (IsNamedGiven core) (map view_given gs) → Every (λ g. in_given g ≤ n) gs → free.0 + givens_room (map view_given gs) ≤ m.registers → AreFine m (givens_code core frame gs free)
  givens_fine [] free named p room = tt
  givens_fine (g ∷ gs) free named p room =
      let room' : free.0 + (given_room (view_given g) + givens_room (map view_given gs)) ≤ m.registers = room in
      let mine : free.0 + given_room (view_given g) ≤ m.registers = omega (arith, room') in
      let s = given_there g free named.0 p.0 mine in
      joined m _ _ (given_fine g free named.0 p.0 mine) (givens_fine gs (given_spot core frame g free).free named.1 p.1 (omega (arith, room', s.free_is)))

  givens_there : (gs : List Given) (free : VirtualRegister) → Every (IsNamedGiven core) (map view_given gs) → Every (λ g. in_given g ≤ n) gs → free.0 + givens_room (map view_given gs) ≤ m.registers → Every (Below m) (givens_in core frame gs free)
  givens_there [] free named p room = tt
  givens_there (g ∷ gs) free named p room =
      let room' : free.0 + (given_room (view_given g) + givens_room (map view_given gs)) ≤ m.registers = room in
      let mine : free.0 + given_room (view_given g) ≤ m.registers = omega (arith, room') in
      let s = given_there g free named.0 p.0 mine in
      (s.base, givens_there gs (given_spot core frame g free).free named.1 p.1 (omega (arith, room', s.free_is)))

  givens_count : (gs : List Given) (free : VirtualRegister) → length (givens_in core frame gs free) ≡ length gs
  givens_count [] free = refl
  givens_count (g ∷ gs) free = ap suc (givens_count gs (given_spot core frame g free).free)

  -- ---- results

  receiver_fine : (to : Receiver) (free : VirtualRegister) → IsNamedReceiver core (view_receiver to) → in_receiver to ≤ n → free.0 + receiver_room (view_receiver to) ≤ m.registers → AreFine m (receiver_code core frame to free)
  receiver_fine Nowhere free named p room = tt
  receiver_fine (Temporary t) free named p room = tt
  receiver_fine (Place of path) free named p room = path_fine m core frame n is temporaries runtime 0 path free named p room

  receiver_there : (to : Receiver) (free : VirtualRegister) → IsNamedReceiver core (view_receiver to) → in_receiver to ≤ n → free.0 + receiver_room (view_receiver to) ≤ m.registers → IsSpot m core frame n is temporaries (free.0 + receiver_room (view_receiver to)) (receiver_spot core frame to free)
  receiver_there Nowhere free named p room = record { base = left_there; free_is = omega arith }
  receiver_there (Temporary t) free named p room = record { base = left_there; free_is = omega arith }
  receiver_there (Place of path) free named p room = path_spot m core frame n is temporaries runtime 0 path free named p room

  received_in : (to : Receiver) (free : VirtualRegister) → in_receiver to ≤ n → Below m free → Below m (receiver_of frame to free)
  received_in Nowhere free p f = f
  received_in (Temporary t) free p f = register_below m core frame n is temporaries runtime t p
  received_in (Place of path) free p f = f

  -- ---- calls

  pub call_fine : (mir : Mir) (r : ℕ) (operands : Call) → Every (IsNamedGiven core) (map view_given operands.given) → IsNamedReceiver core (view_receiver operands.receiver) → max (most_of in_given operands.given) (in_receiver operands.receiver) ≤ n → frame.bank.scratch + (1 + receiver_room (view_receiver operands.receiver) + givens_room (map view_given operands.given)) ≤ m.registers → takes (slice_get m.low.routines (9 + r)) (suc (suc (length operands.given))) ≡ true → AreFine m (call_code core mir frame r operands)
  call_fine mir r operands named to_named t room there =
      let given = scratch_of frame.bank 0 in
      let g : Below m given = omega (arith, room) in
      let to : in_receiver operands.receiver ≤ n = omega (arith, t) in
      let few : most_of in_given operands.given ≤ n = omega (arith, t) in
      let each = most_each in_given operands.given n few in
      let first : (scratch_of frame.bank 1).0 + receiver_room (view_receiver operands.receiver) ≤ m.registers = omega (arith, room) in
      let result = receiver_spot core frame operands.receiver (scratch_of frame.bank 1) in
      let s = receiver_there operands.receiver (scratch_of frame.bank 1) to_named to first in
      let rest : result.free.0 + givens_room (map view_given operands.given) ≤ m.registers = omega (arith, room, s.free_is) in
      let count : takes (slice_get m.low.routines (9 + r)) (suc (suc (length (givens_in core frame operands.given result.free)))) ≡ true = subst (λ k. takes (slice_get m.low.routines (9 + r)) (suc (suc k)) ≡ true) (sym (givens_count operands.given result.free)) there in
      let zero_left : 0 < m.registers = omega (arith, is.two) in
      let charged : AreFine m (charging_code frame given (charge_of mir r)) = ((g, charge_word mir r), ((zero_left, g, omega (arith, is.errors)), ((g, zero_left, g), tt))) in
      joined m _ _ (joined m _ _ (joined m _ _ (receiver_fine operands.receiver (scratch_of frame.bank 1) to_named to first) (givens_fine operands.given result.free named each rest)) charged)
      (((g, (s.base, givens_there operands.given result.free named each rest)), received_in operands.receiver given to g, count, refl), tt)

  -- ---- returns

  number_fine : (kind : IntegerKind) (v : LocalId) → AreFine m (number_code core frame kind v)
  number_fine kind v = by (held core frame (Local v) []) refl (held_fine m (Local v) [] (home_of core frame (Local v)) (is.homes v))
    where
      by : (o : Option VirtualRegister) → held core frame (Local v) [] ≡ o → IsHeld m o → AreFine m (number_code core frame kind v)
      by (Some r) e h = rw e (h, tt)
      by None e h =
          let one : 1 ≤ m.registers = omega (arith, is.two) in
          rw e (joined m _ _ (load_fine m core frame n is temporaries runtime kind (local_path v) left (tt, tt, omega arith) (omega arith) one left left_there) (left_there, tt))

  parts_fine : (of : TypeId) (v : LocalId) → 3 ≤ m.registers → AreFine m (parts_code core frame of v)
  unfolding parts_code
  parts_fine of v three =
      let limit = limit_of (by_words core of) (size_in core of) in
      let p = local_path v in
      let room : 1 ≤ m.registers = omega (arith, is.two) in
      let s = path_spot m core frame n is temporaries runtime limit p left (tt, tt, omega arith) (omega arith) room in
      let third : 2 < m.registers = omega (arith, three) in
      joined m _ _ (joined m _ _ (path_fine m core frame n is temporaries runtime limit p left (tt, tt, omega arith) (omega arith) room) (bytes_fine m core frame n is temporaries runtime (by_words core of) (size_in core of) (place_of core frame limit (Local v) [] left) (at_register result_address (register (parameter 0))) (is.sizes of) (place_near m core frame n is temporaries limit (Local v) [] left) (omega arith) s.base result_there third))
      (left_there, tt)

  result_by : (whole : Bool) (of : TypeId) (v : LocalId) → (whole ≡ true → 3 ≤ m.registers) → AreFine m (if whole then parts_code core frame of v else number_code core frame (kind_of core of) v)
  result_by true of v three = parts_fine of v (three refl)
  result_by false of v three = number_fine (kind_of core of) v

  -- ---- where a program ends

  closing_fine : (status : VirtualRegister) → Below m status → takes (slice_get m.low.routines (closing_number core)) 2 ≡ true → IsFine m (closing_call core status)
  closing_fine status below two = ((left_there, (below, tt)), left_there, two, refl)

  pub stop_fine : (status : VirtualRegister) → Below m status → TakesClosing m core → AreFine m (stop_code core status)
  stop_fine status below closing = by (has_closing core) refl
    where
      by : (b : Bool) → has_closing core ≡ b → AreFine m (if b then closing_call core status ∷ [] else Move left status ∷ Exit left ∷ [])
      by true e = (closing_fine status below (closing e), tt)
      by false e = ((left_there, below), (left_there, tt))

  ending_fine : TakesClosing m core → frame.bank.scratch + 1 ≤ m.registers → AreFine m (ending_code core frame)
  ending_fine closing one = by (has_closing core) refl
    where
      there : Below m (scratch_of frame.bank 0)
      there = omega (arith, one)

      by : (b : Bool) → has_closing core ≡ b → AreFine m (if b then Const (scratch_of frame.bank 0) 0 ∷ closing_call core (scratch_of frame.bank 0) ∷ Exit left ∷ [] else Const left 0 ∷ Exit left ∷ [])
      by true e = ((there, omega arith), (closing_fine (scratch_of frame.bank 0) there (closing e), (left_there, tt)))
      by false e = ((left_there, omega arith), (left_there, tt))

  -- one finalization part more is due
  pub due_fine : frame.bank.scratch + 2 ≤ m.registers → AreFine m (due_code core frame)
  unfolding has_symbol
  due_fine two =
      let there : nat_lt (length core.variables) (length m.low.globals) ≡ true = grind (arith, nat_tests, is.globals) in
      ((omega (arith, two), there), ((omega (arith, two), omega (arith, two), refl), ((omega (arith, two), omega (arith, two), refl), ((omega (arith, two), omega (arith, two), refl), tt))))

  pub return_fine : (returning : Returning) → CanReturn m core frame returning → AreFine m (return_code core frame returning)
  return_fine Ending h = ending_fine h.0 h.1
  return_fine Nothing h = (left_there, tt)
  return_fine (Result of v) h = result_by (is_composite (shape_of core of)) of v h
