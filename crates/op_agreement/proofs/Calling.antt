-- A call, up to where the routine begins: the address of a result and the arguments are handed over, the stack is charged, and the low
-- machine enters the routine; or an error ends the program.
use Rattle.std.proofs.Common.{◌≡◌, ◌≢◌, ◌≤◌, ◌<◌, ◌⊎◌, inl, inr, ℕ, suc, ◌+◌, ◌-◌, List, [], ◌∷◌, ◌++◌, length, Option, Some, None, refl, sym, ap, ap₂, ◌∙◌, subst, arith, append_assoc, ◌*◌}
use Rattle.std.specs.Prelude.{map, Bool, true, false, ◌&&◌, nat_eq, nat_le, nat_lt, slice_get, if◌then◌else◌}
use Rattle.std.proofs.lemmas.Bool.Decides.{nat_tests}
use Rattle.op_compute.specs.Bank.{error_block_of, scratch_of}
use Rattle.op_compute.specs.Straight.{at, put}
use Rattle.op_compute.specs.declared.bank.RuntimeError.TheVariants.{StackOverflow}
use Rattle.op_core.proofs.Rows.{there_is}
use Rattle.op_core.specs.declared.ids.RoutineId.{RoutineId}
use Rattle.op_expand.specs.Calls.{call_code, charge_of, charging_code, givens_code, givens_in, receiver_code, receiver_of, receiver_spot, runtime, given_spot}
use Rattle.op_meaning.specs.Frames.{Handed}
use Rattle.op_meaning.specs.Values.{Reached as Met, reached as met, failing}
use Rattle.op_places.specs.Frames.{parameters_of}
use Rattle.op_places.specs.declared.frame.Frame.{Frame}
use Rattle.op_places.specs.declared.spot.Spot.{Spot}
use Rattle.op_low.specs.Machine.{act, call as call_below, can_enter}
use Rattle.op_low.specs.State.{Ending, Running, State, bad, block_of, routine_of, space, value_in}
use Rattle.op_low.specs.declared.ids.VirtualRegister.{VirtualRegister}
use Rattle.op_low.specs.declared.instruction.Instruction.{Instruction as LowInstruction}
use Rattle.op_meaning.specs.Calls.{all_handed}
use Rattle.op_meaning.specs.Expressions.{result_of}
use Rattle.op_mir.specs.Machine.{MirState, execute, mir_step, mir_cost, code_rules}
use Rattle.op_mir.specs.Valid.{all_given_fit}
use Rattle.op_mir.specs.View.{view_given, view_receiver}
use Rattle.op_mir.specs.declared.code.Routine.{Routine}
use Rattle.op_mir.specs.declared.instruction.Call.{Call as Operands}
use Rattle.op_mir.specs.declared.instruction.Given.{Given}
use Rattle.op_mir.specs.declared.instruction.Instruction.TheVariants.{Call}
use Rattle.op_mir.specs.declared.instruction.Instruction.{Instruction}
use Rattle.op_rt_text.specs.Names.{call as low_call}
use Rattle.op_agreement.proofs.Branching.{begins_here, step_here}
use Rattle.op_agreement.proofs.Charging.{HasRoomFor, begun_above, begun_over, begun_under, charge_above, charge_below, charge_over, charged_left, charged_other, charged_registers, has_charge, over_charged, parameters_are, room_for, call_is, goes_in_with}
use Rattle.op_agreement.proofs.Computing.{rest_above, rest_below}
use Rattle.op_agreement.proofs.Elements.{KeptBelow}
use Rattle.op_agreement.proofs.ErrorsEnd.{error_ends}
use Rattle.op_agreement.proofs.Giving.{AllGivenTo, AreGiven, all_given, given_length, all_most}
use Rattle.op_agreement.proofs.Going.{Goes, GoesTo, goes_from, goes_one, goes_straight, goes_then, goes_to, goes_within}
use Rattle.op_agreement.proofs.Loading.{index_fails}
use Rattle.op_agreement.proofs.Paths.{Failed}
use Rattle.op_agreement.proofs.Pricing.{charged, heavy, least}
use Rattle.op_agreement.proofs.Results.{ResultGiven, result_given}
use Rattle.op_agreement.proofs.Standing.{Next, here}
use Rattle.op_agreement.specs.Chart.{Floor}
use Rattle.op_agreement.specs.Coding.{code_for}
use Rattle.op_agreement.specs.Fitting.{IsFitting}
use Rattle.op_agreement.specs.Handing.{Begins, begun_below, begins_most, bytes_given}
use Rattle.op_agreement.specs.Settings.{Setting, managed}
use Rattle.op_agreement.specs.Stands.{ResultGoes, Stands}
use Rattle.op_agreement.specs.Steps.{Comes, most_for_one}
use Rattle.op_agreement.specs.Typed.{parameter_rows}

-- the parts of the code of a call, one behind the other
regroup : (a b c : List LowInstruction) (d : LowInstruction) (rest : List LowInstruction) → (a ++ b ++ c ++ d ∷ []) ++ rest ≡ a ++ (b ++ (c ++ (d ∷ rest)))
regroup a b c d rest = simp append_assoc refl

module _ (g : Setting) (fit : IsFitting g) (m : MirState) (l : State) (floors : ℕ → Floor) (callee : RoutineId) (call : Operands) (js : List Instruction) (next : Next g m l floors (Call callee call) js) where
  abbrev frame_here : Frame
  frame_here = (here m floors).frame

  abbrev rest : List LowInstruction
  rest = rest_below g m l floors (Call callee call) js next

  -- the registers of the bytes that are left, of the result's address, and of the arguments
  abbrev bytes_left : VirtualRegister
  bytes_left = scratch_of (here m floors).frame.bank 0

  abbrev spot : Spot
  spot = receiver_spot g.core (here m floors).frame call.receiver (scratch_of (here m floors).frame.bank 1)

  abbrev bases : List VirtualRegister
  bases = givens_in g.core (here m floors).frame call.given spot.free

  abbrev receives_in : VirtualRegister
  receives_in = receiver_of (here m floors).frame call.receiver bytes_left

  abbrev entering : LowInstruction
  entering = low_call (runtime + callee.0) (bytes_left ∷ spot.base ∷ bases) receives_in

  abbrev charging : List LowInstruction
  charging = charging_code (here m floors).frame bytes_left (charge_of g.mir callee.0)

  abbrev all_given_code : List LowInstruction
  all_given_code = givens_code g.core (here m floors).frame call.given spot.free

  abbrev result_front : List LowInstruction
  result_front = receiver_code g.core (here m floors).frame call.receiver (scratch_of (here m floors).frame.bank 1)

  abbrev before : State
  before = at l l.top.registers (result_front ++ (all_given_code ++ (charging ++ (entering ∷ rest))))

  -- the machine stands before the code of the call
  stands_before : l ≡ before
  unfolding code_for
  stands_before =
      begins_here g fit m l floors (Call callee call) js next (call_code g.core g.mir (here m floors).frame callee.0 call) refl
      ∙ ap (at l l.top.registers) (regroup result_front all_given_code charging entering rest)

  abbrev behind_call : MirState
  behind_call = record m { work = rest_above g m l floors (Call callee call) js next }

  -- the step above, by what is handed over
  stepped : (o : Met (List Handed)) → all_handed m.world (map view_given call.given) ≡ o → mir_step (managed g) m ≡ goes_in_with (managed g) callee.0 (view_receiver call.receiver) o behind_call
  unfolding execute
  stepped o e =
      step_here g fit m l floors (Call callee call) js next
      ∙ call_is (managed g) fit.program.outs callee.0 (view_receiver call.receiver) (all_handed m.world (map view_given call.given)) behind_call
      ∙ ap (λ o. goes_in_with (managed g) callee.0 (view_receiver call.receiver) o behind_call) e

  -- where the stack has room, the routine begins above
  pub step_begins : (given : List Handed) → all_handed m.world (map view_given call.given) ≡ met given → nat_lt g.stack (m.charged + (managed g).charge callee.0) ≡ false → mir_step (managed g) m ≡ begun_above (managed g) callee.0 (view_receiver call.receiver) given behind_call
  step_begins given e under = stepped (met given) e ∙ begun_under (managed g) callee.0 (view_receiver call.receiver) given behind_call under

  -- the low machine enters the routine
  abbrev entered_with : (ℕ → ℕ) → Ending → State
  entered_with h ending = record (begun_below g callee.0 h rest receives_in (map (value_in h) (bytes_left ∷ spot.base ∷ bases)) l) { ending = ending }

  -- and comes to where it begins
  enters : (h : ℕ → ℕ) → can_enter g.low g.placement (runtime + callee.0) (length (bytes_left ∷ spot.base ∷ bases)) (at l h rest) ≡ true → act g.low g.placement entering (at l h rest) ≡ begun_below g callee.0 h rest receives_in (map (value_in h) (bytes_left ∷ spot.base ∷ bases)) l
  unfolding act call_below
  enters h may = ap (λ b. if b then entered_with h Running else bad (at l h rest)) may ∙ ap (entered_with h) (sym next.stays.running)

  -- it may: the routine is there, has so many parameters, and finds room
  may_enter : (x : Routine) (there : slice_get g.mir.routines callee.0 ≡ Some x) (h : ℕ → ℕ) → HasRoomFor g fit callee.0 x next.fine.0 there (l.top.registers 0) l.room → length (parameter_rows g.core callee.0) ≡ parameters_of g.core callee.0 → can_enter g.low g.placement (runtime + callee.0) (length (bytes_left ∷ spot.base ∷ bases)) (at l h rest) ≡ true
  may_enter x there h room rows =
      let exists = room.fits.expanded.exists in
      let parameters = parameters_are g fit callee.0 x next.fine.0 there room.fits rows in
      let given = given_length g fit m l floors (Call callee call) js next call.given (parameter_rows g.core callee.0) spot.free next.fine.3.gives in
      let space_left = room.space in
      let first : nat_lt (runtime + callee.0) (length g.low.routines) ≡ true = grind (arith, nat_tests) in
      let count : length (bytes_left ∷ spot.base ∷ bases) ≡ (routine_of g.low (runtime + callee.0)).parameters = ap (λ n. suc (suc n)) given ∙ two_more (length (parameter_rows g.core callee.0)) ∙ sym parameters in
      let second : nat_eq (length (bytes_left ∷ spot.base ∷ bases)) (routine_of g.low (runtime + callee.0)).parameters ≡ true = same_is (length (bytes_left ∷ spot.base ∷ bases)) (routine_of g.low (runtime + callee.0)).parameters count in
      let third : nat_le (space g.low g.placement (runtime + callee.0)) l.room ≡ true = grind (arith, nat_tests) in
      all_three (nat_lt (runtime + callee.0) (length g.low.routines)) (nat_eq (length (bytes_left ∷ spot.base ∷ bases)) (routine_of g.low (runtime + callee.0)).parameters) (nat_le (space g.low g.placement (runtime + callee.0)) l.room) first second third
    where
      two_more : (n : ℕ) → suc (suc n) ≡ 2 + n
      two_more n = omega arith

      same_is : (a b : ℕ) → a ≡ b → nat_eq a b ≡ true
      same_is a b e = grind (arith, nat_tests)

      all_three : (a b c : Bool) → a ≡ true → b ≡ true → c ≡ true → (a && b && c) ≡ true
      all_three a b c p q r = rw (p, q, r) refl

  -- what the code in front of the charge costs at most
  abbrev front_most : ℕ
  front_most = 3 + all_most g fit m l floors (Call callee call) js next call.given

  -- as many registers as arguments
  givens_count : (xs : List Given) (free : VirtualRegister) → length (givens_in g.core (here m floors).frame xs free) ≡ length xs
  givens_count [] free = refl
  givens_count (x ∷ xs) free = ap suc (givens_count xs (given_spot g.core (here m floors).frame x free).free)

  -- no call passes more than 64, and the program itself none
  pub few_given : length call.given ≤ 64
  few_given =
      let low = next.fine.0 in
      let many = fit.program.number in
      let few = fit.program.few callee.0 (omega arith) in
      let rows = fit.program.parameters callee.0 (omega arith) in
      let given = given_length g fit m l floors (Call callee call) js next call.given (parameter_rows g.core callee.0) spot.free next.fine.3.gives in
      let count = givens_count call.given spot.free in
      omega arith

  -- so the activation under way has been charged where something is given
  pub given_paid : (length call.given ≡ 0) ⊎ (256 ≤ charged g fit m l floors (Call callee call) js next)
  given_paid = by call.given refl
    where
      by : (xs : List Given) → call.given ≡ xs → (length call.given ≡ 0) ⊎ (256 ≤ charged g fit m l floors (Call callee call) js next)
      by [] none = inl (ap length none)
      by (x ∷ xs) some = inr (heavy g fit m l floors (Call callee call) js next (λ light. let clash = sym (ap length some) ∙ ap length light.0 in absurd (omega arith))).least

  front_costs : (n : ℕ) → n ≤ 16 → front_most + n ≤ most_for_one * mir_cost (managed g) m
  front_costs n less = by given_paid
    where
      by : (length call.given ≡ 0) ⊎ (256 ≤ charged g fit m l floors (Call callee call) js next) → front_most + n ≤ most_for_one * mir_cost (managed g) m
      by (inl none) = let cost = least g fit m l floors (Call callee call) js next in omega arith
      by (inr some) = let cost = least g fit m l floors (Call callee call) js next in let few = few_given in omega arith

  -- ---- behind the arguments: error 202, or the routine begins

  module _ (given : List Handed) (handed : all_handed m.world (map view_given call.given) ≡ met given) (result : ResultGiven g fit m l floors next.stays before spot (all_given_code ++ (charging ++ (entering ∷ rest))) call.receiver) (args : AreGiven g fit m l floors (Call callee call) js next (all_most g fit m l floors (Call callee call) js next call.given) (at l result.h (all_given_code ++ (charging ++ (entering ∷ rest)))) result.h spot.free bases (charging ++ (entering ∷ rest)) (parameter_rows g.core callee.0) given) where
    abbrev at_charging : State
    at_charging = at l args.h (charging ++ (entering ∷ rest))

    -- the code in front of the charge is done
    front_goes : Goes g 0 front_most l at_charging
    front_goes =
        goes_from g 0 l before at_charging stands_before
        (goes_then g 0 0 0 before (at l result.h (all_given_code ++ (charging ++ (entering ∷ rest)))) at_charging (omega arith) result.goes args.goes)

    -- and has changed scratch registers alone
    front_kept : KeptBelow (here m floors).frame.bank.scratch l.top.registers args.h
    front_kept r low = let more = result.fits.more in args.kept r (omega arith) ∙ result.kept r low

    -- the first two registers are no scratch registers
    some_front : 2 ≤ bytes_left.0
    some_front =
        let fits = next.stays.activation.floor.fits in
        let behind = fits.behind in
        let scratch = fits.scratch in
        omega arith

    -- the bytes that are left are there
    bytes_there : args.h 0 ≡ l.top.registers 0
    bytes_there = let some = some_front in front_kept 0 (omega arith)

    -- error 202 ends the program
    stack_over : nat_lt g.stack (m.charged + (managed g).charge callee.0) ≡ true → Comes g m l
    stack_over over =
        let (x, there) = there_is g.mir.routines callee.0 next.fine.0 in
        let a = next.stays.activation in
        let some = some_front in
        let behind : 0 < bytes_left.0 = omega arith in
        let n = charge_of g.mir callee.0 in
        let test : nat_lt (args.h 0) n ≡ true =
        ap₂ nat_lt bytes_there (charge_below g fit callee.0 x next.fine.0 there)
        ∙ charge_over (l.top.registers 0) m.charged g.stack x.charge a.left fit.program.stack (ap (λ c. nat_lt g.stack (m.charged + c)) (sym (charge_above g fit callee.0 x next.fine.0 there)) ∙ over) in
        let h = put args.h bytes_left n in
        let error_state = at l h (block_of g.low l.top.routine (error_block_of (here m floors).frame.bank StackOverflow).0) in
        let away : Goes g 1 3 at_charging error_state = subst (GoesTo g 1 3 l at_charging (entering ∷ rest)) (over_charged frame_here bytes_left n args.h behind test) (goes_straight g l charging (entering ∷ rest) args.h) in
        let (k, ends, stands) = error_ends g fit floors m l next.stays StackOverflow h (rest_above g m l floors (Call callee call) js next) in
        record {
          to = k;
          goes = goes_within g 1 (most_for_one * mir_cost (managed g) m) l k (goes_then g 0 1 1 l at_charging k (omega arith) front_goes (goes_then g 1 5 1 at_charging error_state k (omega arith) away ends)) (front_costs 8 (omega arith));
          stands = subst (λ y. Stands g y k) (sym (stepped (met given) handed ∙ begun_over (managed g) callee.0 (view_receiver call.receiver) given behind_call over)) stands;
        }

    -- the routine begins
    begins : length (parameter_rows g.core callee.0) ≡ parameters_of g.core callee.0 → nat_lt g.stack (m.charged + (managed g).charge callee.0) ≡ false → Begins g m l floors callee.0 call rest
    begins rows under =
        let (x, there) = there_is g.mir.routines callee.0 next.fine.0 in
        let a = next.stays.activation in
        let some = some_front in
        let behind : 0 < bytes_left.0 = omega arith in
        let n = charge_of g.mir callee.0 in
        let room = room_for g fit callee.0 x next.fine.0 there (l.top.registers 0) m.charged l.room a.left a.enough under in
        let h = charged_registers frame_here bytes_left n args.h behind in
        let test : nat_lt (args.h 0) n ≡ false = ap (λ b. nat_lt b n) bytes_there ∙ room.test in
        let entering_state = at l h (entering ∷ rest) in
        let on : Goes g 1 3 at_charging entering_state = subst (GoesTo g 1 3 l at_charging (entering ∷ rest)) (has_charge frame_here bytes_left n args.h behind test) (goes_straight g l charging (entering ∷ rest) args.h) in
        let other : (r : ℕ) → r ≢ bytes_left.0 → h r ≡ args.h r = charged_other frame_here bytes_left n args.h behind in
        let zeroth : h 0 ≡ args.h 0 = other 0 (λ e. omega arith) in
        let charge_is : n ≡ (managed g).charge callee.0 = room.whole ∙ sym (charge_above g fit callee.0 x next.fine.0 there) in
        let enough = room.charge in
        let whole = room.whole in
        let sum = a.left in
        let few = fit.program.stack in
        let first = bytes_there in
        let left_is : h bytes_left.0 ≡ h 0 - (managed g).charge callee.0 =
        charged_left frame_here bytes_left n args.h behind (omega arith) (omega arith) ∙ ap₂ (λ u v. u - v) (sym zeroth) charge_is in
        let base_is : h spot.base.0 ≡ result.h spot.base.0 = other spot.base.0 (not_left result.fits.apart) ∙ args.kept spot.base.0 result.fits.base in
        let more = result.fits.more in
        let words = map (value_in h) bases in
        let entered_state = begun_below g callee.0 h rest receives_in (map (value_in h) (bytes_left ∷ spot.base ∷ bases)) l in
        let begun_state = begun_below g callee.0 h rest receives_in ((h 0 - (managed g).charge callee.0) ∷ h spot.base.0 ∷ words) l in
        let words_are : entered_state ≡ begun_state = ap (λ w. begun_below g callee.0 h rest receives_in (w ∷ h spot.base.0 ∷ words) l) left_is in
        let may = may_enter x there h room rows in
        record {
          given = given;
          handed = handed;
          charged = under;
          registers = h;
          kept = λ r low. other r (λ e. omega arith) ∙ front_kept r low;
          result = h spot.base.0;
          words = words;
          are = args.are h (λ r far. other r (outside r far more));
          to = receives_in;
          gets = refl;
          goes = goes_within g 1 (begins_most g callee.0 call) l begun_state (goes_then g 0 1 1 l at_charging begun_state (omega arith) front_goes
              (goes_then g 1 1 1 at_charging entering_state begun_state (omega arith) on
              (goes_to g 1 entering_state entered_state begun_state words_are
              (goes_to g 1 entering_state (act g.low g.placement entering (at l h rest)) entered_state (enters h may) (goes_one g l h entering rest refl))))) (let many = givens_count call.given spot.free in omega arith);
          receives = subst (ResultGoes g floors (length m.callers) call.receiver (view_receiver call.receiver) _) (sym base_is) (result.receives _);
        }
      where
        not_left : (spot.base.0 < (here m floors).frame.bank.scratch) ⊎ ((scratch_of (here m floors).frame.bank 1).0 ≤ spot.base.0) → spot.base.0 ≢ bytes_left.0
        not_left (inl low) e = omega arith
        not_left (inr high) e = omega arith

        outside : (r : ℕ) → (r < (here m floors).frame.bank.scratch) ⊎ (spot.free.0 ≤ r) → (scratch_of (here m floors).frame.bank 1).0 ≤ spot.free.0 → r ≢ bytes_left.0
        outside r (inl low) more e = omega arith
        outside r (inr high) more e = omega arith

    -- one of the two comes
    charged_by : length (parameter_rows g.core callee.0) ≡ parameters_of g.core callee.0 → (b : Bool) → nat_lt g.stack (m.charged + (managed g).charge callee.0) ≡ b → Comes g m l ⊎ Begins g m l floors callee.0 call rest
    charged_by rows true over = inl (stack_over over)
    charged_by rows false under = inr (begins rows under)

  -- An error ends the program, or the routine is about to begin. The routine has a row for each of its parameters.
  pub call_begins : length (parameter_rows g.core callee.0) ≡ parameters_of g.core callee.0 → Comes g m l ⊎ Begins g m l floors callee.0 call (rest_below g m l floors (Call callee call) js next)
  unfolding all_given_fit
  call_begins rows =
      let (low, fits, fits_receiver, typed) = next.fine in
      let (homes, home) = next.homes in
      let result = result_given g fit m l floors next.stays call.receiver (result_of (slice_get g.core.routines callee.0)) (all_given_code ++ (charging ++ (entering ∷ rest))) fits_receiver typed.receives home in
      let more = result.fits.more in
      by result (all_handed m.world (map view_given call.given)) refl
      (all_given g fit m l floors (Call callee call) js next call.given (parameter_rows g.core callee.0) spot.free result.h (charging ++ (entering ∷ rest)) fits typed.gives homes (omega arith) result.kept)
    where
      by : (result : ResultGiven g fit m l floors next.stays before spot (all_given_code ++ (charging ++ (entering ∷ rest))) call.receiver) (o : Met (List Handed)) → all_handed m.world (map view_given call.given) ≡ o → AllGivenTo g fit m l floors (Call callee call) js next (all_most g fit m l floors (Call callee call) js next call.given) (at l result.h (all_given_code ++ (charging ++ (entering ∷ rest)))) result.h spot.free bases (charging ++ (entering ∷ rest)) (parameter_rows g.core callee.0) o → Comes g m l ⊎ Begins g m l floors callee.0 call rest
      by result (met given) e args = charged_by given e result args rows (nat_lt g.stack (m.charged + (managed g).charge callee.0)) refl
      by result (failing error) e fails =
          let failed_from : Failed g fit m l floors next.stays 0 front_most before error = record { is = fails.is; h = fails.h; goes = goes_then g 0 0 0 before (at l result.h (all_given_code ++ (charging ++ (entering ∷ rest)))) _ (omega arith) result.goes fails.goes } in
          inl (index_fails g fit m l floors js (Call callee call) next 0 front_most before error stands_before failed_from (front_costs 5 (omega arith)) (stepped (failing error) e))
