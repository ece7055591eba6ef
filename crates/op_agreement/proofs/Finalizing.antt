-- The closing does a finalization part, or ends the program where none is due.
use Rattle.std.proofs.Common.{◌≡◌, ◌≤◌, ◌<◌, inr, ℕ, zero, suc, ◌+◌, ◌-◌, ◌*◌, List, [], ◌∷◌, ◌++◌, length, Some, None, refl, sym, ap, ap₂, ◌∙◌, subst, arith, slice_get}
use Rattle.std.specs.Prelude.{◌^◌, ◌%◌, ◌&&◌, Bool, true, false, nat_eq, nat_le, nat_lt, pos, if◌then◌else◌}
use Rattle.std.specs.List.{sum_by}
use Rattle.std.proofs.lemmas.Bool.Decides.{nat_tests}
use Rattle.op_compute.specs.Bank.{error_block_of}
use Rattle.op_compute.specs.Straight.{at, outcome, put}
use Rattle.op_compute.specs.declared.bank.RuntimeError.TheVariants.{StackOverflow}
use Rattle.op_core.proofs.Rows.{there_is}
use Rattle.op_core.specs.declared.ids.RoutineId.{RoutineId}
use Rattle.op_core.specs.declared.program.Core.{Core}
use Rattle.op_expand.specs.Calls.{charge_of, charging_code, closing_number, finalizations, has_closing, left, result_address, runtime}
use Rattle.op_expand.specs.Closing.{closing_routine, due, due_for, number, part_blocks, part_code}
use Rattle.op_places.specs.Frames.{frame_of, parameters_of}
use Rattle.op_places.specs.Homes.{parameter}
use Rattle.op_expand.specs.Routines.{error_block, error_code, most_charge}
use Rattle.op_places.specs.declared.frame.Frame.{Frame}
use Rattle.op_places.specs.declared.frame.Returning.TheVariants.{Nothing}
use Rattle.op_low.specs.Machine.{act, call as call_below, can_enter, exit}
use Rattle.op_low.specs.State.{Caller, State, Ended, bad, block_of, code_or, routine_of, space}
use Rattle.op_low.specs.declared.code.Block.{Block as LowBlock}
use Rattle.op_low.specs.declared.code.Routine.{Routine as LowRoutine}
use Rattle.op_low.specs.declared.instruction.Instruction.TheVariants.{Alu, Branch, Const, Exit, Jump, Store}
use Rattle.op_low.specs.declared.instruction.Instruction.{Instruction as LowInstruction}
use Rattle.op_meaning.specs.Calls.{begun as begun_part, caller_of}
use Rattle.op_meaning.specs.Ending.{closed}
use Rattle.op_meaning.specs.Frames.{Pending, closing, finalize}
use Rattle.op_meaning.specs.Items.{nowhere}
use Rattle.op_meaning.specs.Values.{Holder, Place, Value, local}
use Rattle.op_meaning.specs.World.{World, Running as GoingOn}
use Rattle.op_mir.specs.Machine.{MirCaller, MirState, block_at, charge_between, code_rules, mir_acted, mir_cost, mir_cost_by, mir_effort, mir_step, mir_step_by, mir_stepped, tables}
use Rattle.op_mir.specs.View.{routine_at}
use Rattle.op_mir.specs.declared.code.Mir.{Mir}
use Rattle.op_mir.specs.declared.code.Routine.{Routine}
use Rattle.op_rt_text.specs.Names.{block_id, call, register}
use Rattle.op_rv.specs.declared.instruction.AluOp.TheVariants.{Sub}
use Rattle.op_rv.specs.declared.instruction.BranchOp.TheVariants.{Bltu}
use Rattle.op_rv.specs.declared.instruction.StoreOp.TheVariants.{Sw}
use Rattle.op_agreement.proofs.Charging.{HasRoomFor, begun_over, begun_under, charge_above, charge_below, charge_over, charged_left, charged_other, charged_registers, found_there, has_charge, over_charged, room_for}
use Rattle.op_agreement.proofs.Closing.{few_cost}
use Rattle.op_agreement.proofs.Copying.{having}
use Rattle.op_agreement.proofs.DueWord.{counted, due_addressed, due_stores, stays_counted}
use Rattle.op_agreement.proofs.Entering.{Enters, charge_in, entered_is, locals_of, space_of, world_begun}
use Rattle.op_agreement.proofs.ErrorsEnd.{error_line, error_runs, error_stands, limit_above}
use Rattle.op_agreement.proofs.Finding.{closing_begun}
use Rattle.op_agreement.proofs.Going.{Goes, GoesTo, goes_from, goes_one, goes_straight, goes_then, goes_to, goes_within}
use Rattle.op_agreement.proofs.Opening.{floor_there, floors_below, with_floor}
use Rattle.op_agreement.proofs.Prologue.{begun_stands}
use Rattle.op_agreement.proofs.Receiving.{Receives, receive_most}
use Rattle.op_agreement.proofs.Updating.{Unchanged, activation_moved, callers_moved}
use Rattle.op_agreement.specs.Chart.{Floor}
use Rattle.op_agreement.specs.Fitting.{IsFitting, PartFits, closing_space}
use Rattle.op_agreement.specs.Handing.{AreHanded, begun_below}
use Rattle.op_agreement.specs.Settings.{Setting, due_address, managed}
use Rattle.op_agreement.specs.Stands.{ActivationStands, ArePending, CallersStand, ClosingGoesOn, ClosingWaits, IsFloor, Stands, Stays, closing_code, due_parts, part_or}
use Rattle.op_agreement.specs.Steps.{Comes, most_for_one}
use Rattle.op_agreement.specs.Typed.{parameter_rows}

-- ---- parts that are due

pub due_count : (parts : List RoutineId) (n : ℕ) → length (due_parts parts n) ≡ n
due_count parts zero = refl
due_count parts (suc n) = ap suc (due_count parts n)

pub due_pending : (parts : List RoutineId) (n : ℕ) → n ≤ length parts → ArePending parts (due_parts parts n)
due_pending parts n few = let count = due_count parts n in record { few = omega arith; are = ap (due_parts parts) (sym count) }

-- ---- the blocks of the closing

module _ (core : Core) (mir : Mir) (stack count : ℕ) (others : List LowBlock) where
  part_at : (fs : List RoutineId) (before k : ℕ) (f : RoutineId) → slice_get fs k ≡ Some f → slice_get (part_blocks core mir stack count before fs ++ others) k ≡ Some (record { code = part_code core mir stack count (before + k) f })
  part_at [] before k f there = absurd cc
  part_at (x ∷ fs) before zero f there =
      let same : x ≡ f = cc in
      let none : before ≡ before + 0 = omega arith in
      ap₂ (λ (y : RoutineId) n. Some (record { code = part_code core mir stack count n y })) same none
  part_at (x ∷ fs) before (suc k) f there =
      let next : before + 1 + k ≡ before + suc k = omega arith in
      part_at fs (before + 1) k f there ∙ ap (λ n. Some (record { code = part_code core mir stack count n f })) next

  behind_parts : (fs : List RoutineId) (before : ℕ) → slice_get (part_blocks core mir stack count before fs ++ others) (length fs) ≡ slice_get others 0
  behind_parts [] before = refl
  behind_parts (x ∷ fs) before = behind_parts fs (before + 1)

module _ (g : Setting) (fit : IsFitting g) (closes : has_closing g.core ≡ true) where
  abbrev parts : List RoutineId
  parts = finalizations g.core

  routine_is : routine_of g.low (closing_number g.core) ≡ closing_routine g.core g.mir g.stack
  routine_is = (fit.closing closes).routine

  part_block : (n : ℕ) (f : RoutineId) → slice_get parts n ≡ Some f → closing_code g (suc n) ≡ part_code g.core g.mir g.stack (length parts) n f
  part_block n f there =
      let zeroth : 0 + n ≡ n = omega arith in
      ap (λ (r : LowRoutine). code_or (slice_get r.blocks (suc n))) routine_is
      ∙ ap code_or (part_at g.core g.mir g.stack (length parts) (error_block 202 5 ∷ []) parts 0 n f there)
      ∙ ap (λ j. part_code g.core g.mir g.stack (length parts) j f) zeroth

  stack_block : block_of g.low (closing_number g.core) (length parts + 1) ≡ error_code 202 5
  stack_block =
      let next : length parts + 1 ≡ suc (length parts) = omega arith in
      ap (block_of g.low (closing_number g.core)) next
      ∙ ap (λ (r : LowRoutine). code_or (slice_get r.blocks (suc (length parts)))) routine_is
      ∙ ap code_or (behind_parts g.core g.mir g.stack (length parts) (error_block 202 5 ∷ []) parts 0)

-- ---- the step above

pub closing_step : (g : Setting) (m : MirState) (status : ℕ) (pending : List Pending) → m.world.ending ≡ GoingOn → m.frames ≡ closing status ∷ [] → m.world.raised ≡ None → m.pending ≡ pending → mir_step (managed g) m ≡ closed (code_rules (managed g)) status pending m
unfolding mir_step mir_step_by mir_stepped mir_acted
closing_step g m status pending ending frames raised is =
    ap (λ x. mir_step_by (managed g) x m) ending ∙ ap (λ x. mir_stepped (managed g) x m) raised ∙ ap (λ x. mir_acted (managed g) x m) frames ∙ ap (λ x. closed (code_rules (managed g)) status x m) is

module _ (g : Setting) (fit : IsFitting g) (m : MirState) (l : State) (status : ℕ) (ending : m.world.ending ≡ GoingOn) (frames : m.frames ≡ closing status ∷ []) (s : ClosingGoesOn g status m l) where
  abbrev base : State
  base = closing_begun g s.lower s.ended s.registers []

  abbrev all_parts : List RoutineId
  all_parts = finalizations g.core

  bottom_here : g.bottom ≤ s.lower.limit
  bottom_here = limit_above g s.floors m.world.memory m.world.bound m.callers s.lower.callers m.routine (s.lower.top.registers result_address.0) s.lower.limit s.lower.room m.charged s.stays.callers

  -- ---- none is due

  ends_comes : length m.pending ≡ 0 → Comes g m l
  unfolding act
  ends_comes none =
      let nothing : m.pending ≡ [] = s.stays.pending.are ∙ ap (due_parts all_parts) none in
      let k = exit (s.registers 1) (at base s.registers []) in
      record {
        to = k;
        goes = goes_from g 1 l (at base s.registers (Exit (register 1) ∷ [])) k (s.is ∙ ap (λ n. at base s.registers (closing_code g n)) none)
            (goes_within g 1 (most_for_one * mir_cost (managed g) m) (at base s.registers (Exit (register 1) ∷ [])) k (goes_one g base s.registers (Exit (register 1)) [] refl) (few_cost g 1 m ending (omega arith)));
        stands = subst (λ x. Stands g x k) (sym (closing_step g m status [] ending frames s.stays.plain.raised nothing)) (record { ending = ap (λ x. Ended x) s.told; output = s.stays.output; errors = s.stays.errors; input = s.stays.input });
      }

  -- ---- one is

  module _ (n : ℕ) (count : length m.pending ≡ suc n) (f : RoutineId) (there : slice_get all_parts n ≡ Some f) (part : PartFits g f.0) where
    abbrev others : List Pending
    others = due_parts all_parts n

    pending_is : m.pending ≡ finalize f ∷ others
    pending_is = s.stays.pending.are ∙ ap (due_parts all_parts) count ∙ ap (λ o. finalize (part_or o) ∷ due_parts all_parts n) there

    less : n < length all_parts
    less = let few = s.stays.pending.few in omega arith

    are_due : ArePending all_parts others
    are_due = due_pending all_parts n (let low = less in omega arith)

    abbrev taken : MirState
    taken = record m { pending = due_parts all_parts n }

    step_is : mir_step (managed g) m ≡ begun_part (code_rules (managed g)) f.0 nowhere [] taken
    step_is = closing_step g m status (finalize f ∷ others) ending frames s.stays.plain.raised pending_is

    -- ---- the part is due no more

    abbrev fewer : ℕ → ℕ
    fewer = counted g fit s.some s.floors m s.lower s.stays others are_due

    abbrev lower : State
    lower = having s.lower s.lower.top.registers s.lower.top.now fewer

    stays : Stays g s.floors taken lower
    stays = stays_counted g fit s.some s.floors m s.lower s.stays others are_due m.work s.lower.top.registers s.lower.top.now (λ r low. refl) s.stays.activation.kept.temporaries

    abbrev charge : ℕ
    charge = charge_of g.mir f.0

    abbrev charging : List LowInstruction
    charging = Const number charge ∷ Branch Bltu left number (block_id (length all_parts + 1)) ∷ Alu Sub number left number ∷ []

    abbrev entering : List LowInstruction
    entering = call (runtime + f.0) (number ∷ left ∷ []) number ∷ Jump (block_id 0) ∷ []

    -- registers where the stack is charged
    abbrev reached : ℕ → ℕ
    reached r = if nat_eq r 3 then due_for g.stack n else (if nat_eq r 2 then due_address g else s.registers r)

    abbrev at_charging : State
    at_charging = having base reached (charging ++ entering) fewer

    counts : Goes g 3 3 l at_charging
    unfolding act
    counts =
        let f1 = λ (r : ℕ). if nat_eq r 2 then due_address g else s.registers r in
        let storing = Store Sw number due (pos 0) ∷ (charging ++ entering) in
        let few = (fit.closing s.some).few in
        let low = less in
        let most = fit.program.stack in
        let exact : due_for g.stack n ≡ g.stack + n = omega arith in
        let same : reached 3 ≡ g.stack + length others = exact ∙ ap (λ j. g.stack + j) (sym (due_count all_parts n)) in
        let one = due_addressed g fit base bottom_here s.registers due (Const number (due_for g.stack n) ∷ storing) in
        let two = goes_one g base f1 (Const number (due_for g.stack n)) storing refl in
        let three = due_stores g fit base bottom_here reached number due (charging ++ entering) (g.stack + length others) refl same in
        goes_from g 3 l (at base s.registers (part_code g.core g.mir g.stack (length all_parts) n f)) at_charging
        (s.is ∙ ap (λ j. at base s.registers (closing_code g j)) count ∙ ap (at base s.registers) (part_block g fit s.some n f there))
        (goes_then g 1 2 3 (at base s.registers (part_code g.core g.mir g.stack (length all_parts) n f)) (at base f1 (Const number (due_for g.stack n) ∷ storing)) at_charging (omega arith) one
        (goes_then g 1 1 2 (at base f1 (Const number (due_for g.stack n) ∷ storing)) (at base reached storing) at_charging (omega arith) two three))

    -- a frame whose block of error 202 is that of the closing
    abbrev framed : Frame
    framed = record {
      first = 0;
      homes = [];
      roots = [];
      temporaries = 0;
      locals = 0;
      bank = record { temporaries = 0; scratch = 0; errors = length all_parts - 1 };
      spare = register 0;
      returning = Nothing;
    }

    block_is : (error_block_of framed.bank StackOverflow).0 ≡ length all_parts + 1
    block_is = let low = less in omega arith

    charging_is : charging_code framed number charge ≡ charging
    charging_is = ap (λ b. Const number charge ∷ Branch Bltu left number (block_id b) ∷ Alu Sub number left number ∷ []) block_is

    abbrev state_there : State
    state_there = having base s.registers [] fewer

    charges : GoesTo g 1 3 state_there at_charging entering (outcome (charging_code framed number charge) reached)
    charges = subst (λ c. GoesTo g 1 3 state_there (at state_there reached (c ++ entering)) entering (outcome (charging_code framed number charge) reached)) charging_is (goes_straight g state_there (charging_code framed number charge) entering reached)

    number_behind : 0 < number.0
    number_behind = omega arith

    -- ---- the stack has no room for it

    stack_over : (x : Routine) → slice_get g.mir.routines f.0 ≡ Some x → nat_lt g.stack (m.charged + (managed g).charge f.0) ≡ true → Comes g m l
    stack_over x found over =
        let a = s.stays.activation in
        let left_is : reached 0 ≡ s.lower.top.registers 0 = s.left in
        let test : nat_lt (reached 0) charge ≡ true =
        ap₂ nat_lt left_is (charge_below g fit f.0 x part.exists found)
        ∙ charge_over (s.lower.top.registers 0) m.charged g.stack x.charge a.left fit.program.stack (ap (λ c. nat_lt g.stack (m.charged + c)) (sym (charge_above g fit f.0 x part.exists found)) ∙ over) in
        let h = put reached number charge in
        let error_state = at state_there h (error_code 202 5) in
        let same : at state_there h (block_of g.low (closing_number g.core) (error_block_of framed.bank StackOverflow).0) ≡ error_state = ap (λ b. at state_there h (block_of g.low (closing_number g.core) b)) block_is ∙ ap (at state_there h) (stack_block g fit s.some) in
        let away : Goes g 1 3 at_charging (at state_there h (block_of g.low (closing_number g.core) (error_block_of framed.bank StackOverflow).0)) = subst (GoesTo g 1 3 state_there at_charging entering) (over_charged framed number charge reached number_behind test) charges in
        let runs = error_runs g fit state_there bottom_here stays.fixed StackOverflow h in
        record {
          to = runs.to;
          goes = goes_within g 1 (most_for_one * mir_cost (managed g) m) l runs.to
              (goes_then g 3 1 1 l at_charging runs.to (omega arith) counts (goes_then g 1 5 1 at_charging error_state runs.to (omega arith) (goes_to g 1 at_charging (at state_there h (block_of g.low (closing_number g.core) (error_block_of framed.bank StackOverflow).0)) error_state same away) runs.goes))
              (few_cost g 11 m ending (omega arith));
          stands = subst (λ y. Stands g y runs.to) (sym (step_is ∙ begun_over (managed g) f.0 nowhere [] taken over))
              (error_stands g fit taken 202 runs.to runs.ending (runs.output ∙ s.stays.output) (runs.errors ∙ ap (λ x. x ++ error_line 202) s.stays.errors) (runs.input ∙ s.stays.input));
        }

    -- ---- the part is entered

    module _ (x : Routine) (found : slice_get g.mir.routines f.0 ≡ Some x) (under : nat_lt g.stack (m.charged + (managed g).charge f.0) ≡ false) where
      activation : ActivationStands g s.floors (length m.callers) m.world.memory m.world.bound m.world.temps m.routine lower.top lower.limit lower.room m.charged
      activation = stays.activation

      room : HasRoomFor g fit f.0 x part.exists found (lower.top.registers 0) lower.room
      room = room_for g fit f.0 x part.exists found (lower.top.registers 0) m.charged lower.room activation.left activation.enough under

      charge_small : x.charge ≤ most_charge
      charge_small =
          let charged = room.charge in
          let left = activation.left in
          let most = fit.program.stack in
          omega arith

      -- the part and the closing take no more than the part is charged
      both_fit : space_of g f.0 + closing_space g ≤ x.charge
      both_fit = part.space x found charge_small

      -- registers where the part is called
      abbrev calling : ℕ → ℕ
      calling = charged_registers framed number charge reached number_behind

      left_there : reached 0 ≡ lower.top.registers 0
      left_there = s.left

      charged : Goes g 1 3 at_charging (at state_there calling entering)
      charged = subst (GoesTo g 1 3 state_there at_charging entering) (has_charge framed number charge reached number_behind (ap (λ n. nat_lt n charge) left_there ∙ room.test)) charges

      first_is : calling 3 ≡ lower.top.registers 0 - x.charge
      first_is =
          let left = activation.left in
          let most = fit.program.stack in
          let whole = room.whole in
          let enough = room.charge in
          charged_left framed number charge reached number_behind (omega arith) (omega arith) ∙ ap₂ (λ a b. a - b) left_there whole

      second_is : calling 0 ≡ lower.top.registers 0
      second_is = charged_other framed number charge reached number_behind 0 (λ same. omega arith) ∙ left_there

      -- the closing waits
      abbrev closing_caller : Caller
      closing_caller = record { activation = record { routine = closing_number g.core; registers = calling; now = Jump (block_id 0) ∷ [] }; to = number; landing = None }

      abbrev low_callers : List Caller
      low_callers = closing_caller ∷ s.ended ∷ s.lower.callers

      abbrev above_caller : MirCaller
      above_caller = caller_of taken nowhere

      abbrev floor_new : Floor
      floor_new = record { number = f.0; routine = x; frame = frame_of g.core f.0 x; base = lower.limit }

      found_routine : routine_at g.mir f.0 ≡ Some x
      found_routine = found_there g fit f.0 x part.exists found

      floor_stands : IsFloor g floor_new
      floor_stands =
          let fits = fit.routines f.0 x found_routine charge_small in
          record { found = found_routine; charge = charge_small; framed = refl; fits = fits.frame; expanded = fits.expanded }

      abbrev floors_new : ℕ → Floor
      floors_new = with_floor s.floors (suc (length m.callers)) floor_new

      there_new : floors_new (suc (length m.callers)) ≡ floor_new
      there_new = floor_there s.floors (suc (length m.callers)) floor_new

      no_rows : parameter_rows g.core f.0 ≡ []
      no_rows =
          let number = fit.program.number in
          let low = part.exists in
          let count = fit.program.parameters f.0 (omega arith) in
          let none = part.parameters in
          empty (parameter_rows g.core f.0) (omega arith)
        where
          empty : {A : Type 0} (xs : List A) → length xs ≡ 0 → xs ≡ []
          empty [] e = refl
          empty (y ∷ ys) e = absurd (omega arith)

      charge_is : (managed g).charge f.0 ≡ x.charge
      charge_is = ap charge_in found_routine

      closing_waits : ClosingWaits g above_caller closing_caller lower.top status f.0
      closing_waits =
          let many = fit.program.number in
          let low = part.exists in
          let zeroth : calling 1 ≡ reached 1 = charged_other framed number charge reached number_behind 1 (λ same. omega arith) in
          record {
            some = s.some;
            low = omega arith;
            frames = frames;
            receiver = refl;
            result = part.result;
            waiting = s.stays.plain.waiting;
            made = s.stays.plain.made;
            same = refl;
            now = refl;
            left = second_is;
            told = ap (λ v. v % 2 ^ 8) zeroth ∙ s.told;
            to = omega arith;
          }

      callers_wait : (values : Holder → Value) (bound : ℕ → ℕ → Place)
          → ((d v : ℕ) → d ≤ length m.callers → values (local d v) ≡ m.world.memory (local d v))
          → ((d v : ℕ) → d ≤ length m.callers → bound d v ≡ m.world.bound d v)
          → CallersStand g floors_new values bound (above_caller ∷ m.callers) low_callers f.0 (calling 0) (lower.limit + locals_of g f.0) ((lower.room - closing_space g) - space_of g f.0) (m.charged + (managed g).charge f.0)
      callers_wait values bound variables places =
          let same = floors_below s.floors (length m.callers) floor_new in
          let taken_space = both_fit in
          let enough = activation.enough in
          let charged = room.charge in
          let unchanged : Unchanged g s.floors floors_new m.world.memory values m.world.bound bound (length m.callers) = record {
            floors = same;
            variables = λ e v r less is home. variables e v (omega arith);
            places = λ e v less is. places e v (omega arith);
          } in
          inr (
            lower.limit,
            m.charged,
            lower.room,
            status,
            lower.top,
            s.ended,
            s.lower.callers,
            refl,
            refl,
            ap (λ n. lower.limit + n) (floor_stands.expanded.locals ∙ sym (ap (λ (f : Floor). f.frame.locals) there_new)),
            omega arith,
            closing_waits,
            activation_moved g s.floors floors_new m.world.memory values m.world.bound bound (length m.callers) same (λ v r is home. variables (length m.callers) v (omega arith)) (λ v is. places (length m.callers) v (omega arith)) m.world.temps m.routine lower.top lower.limit lower.room m.charged activation,
            callers_moved g s.floors floors_new m.world.memory values m.world.bound bound m.callers s.lower.callers m.routine (lower.top.registers result_address.0) lower.limit lower.room m.charged unchanged stays.callers,
          )

      enters : Enters g taken lower s.floors floors_new f.0 [] above_caller low_callers (lower.room - closing_space g) (calling 3) (calling 0) []
      enters =
          let first = first_is in
          let charged = room.charge in
          let charge = charge_is in
          let enough = activation.enough in
          let top = activation.top in
          let taken_space = both_fit in
          record {
            stays = stays;
            exists = part.exists;
            are = subst (λ ps. AreHanded g s.floors (length m.callers) m.world [] ps []) (sym no_rows) tt;
            left = omega arith;
            same = floors_below s.floors (length m.callers) floor_new;
            number = ap (λ (f : Floor). f.number) there_new;
            base = ap (λ (f : Floor). f.base) there_new;
            floor = subst (IsFloor g) (sym there_new) floor_stands;
            enough = omega arith;
            top = omega arith;
            waits = callers_wait;
          }

      -- the low machine calls it
      abbrev begun : State
      begun = begun_below g f.0 calling (Jump (block_id 0) ∷ []) number (calling 3 ∷ calling 0 ∷ []) state_there

      may_enter : can_enter g.low g.placement (runtime + f.0) 2 (at state_there calling (Jump (block_id 0) ∷ [])) ≡ true
      may_enter =
          let fits = room.fits in
          let exists = fits.expanded.exists in
          let many = fit.program.number in
          let low = part.exists in
          let enough = activation.enough in
          let charged = room.charge in
          let taken_space = both_fit in
          let own : nat_eq f.0 (length g.core.routines) ≡ false = grind (arith, nat_tests) in
          let none = part.parameters in
          let parameters : (routine_of g.low (runtime + f.0)).parameters ≡ 2 = fits.expanded.parameters ∙ ap (λ b. if b then 0 else parameter (parameters_of g.core f.0)) own ∙ ap parameter none in
          let first : nat_lt (runtime + f.0) (length g.low.routines) ≡ true = grind (arith, nat_tests) in
          let second : nat_eq 2 (routine_of g.low (runtime + f.0)).parameters ≡ true = ap (nat_eq 2) parameters in
          let third : nat_le (space g.low g.placement (runtime + f.0)) (s.lower.room - closing_space g) ≡ true = grind (arith, nat_tests) in
          all_three (nat_lt (runtime + f.0) (length g.low.routines)) (nat_eq 2 (routine_of g.low (runtime + f.0)).parameters) (nat_le (space g.low g.placement (runtime + f.0)) (s.lower.room - closing_space g)) first second third
        where
          all_three : (a b c : Bool) → a ≡ true → b ≡ true → c ≡ true → (a && b && c) ≡ true
          all_three a b c p q r = rw (p, q, r) refl

      called : Goes g 1 (3 + space_of g f.0) (at state_there calling entering) begun
      unfolding act call_below
      called =
          goes_to g 1 (at state_there calling entering) (act g.low g.placement (call (runtime + f.0) (number ∷ left ∷ []) number) (at state_there calling (Jump (block_id 0) ∷ []))) begun
          (ap (λ b. if b then begun else bad (at state_there calling (Jump (block_id 0) ∷ []))) may_enter)
          (goes_within g 1 (3 + space_of g f.0) (at state_there calling entering) (act g.low g.placement (call (runtime + f.0) (number ∷ left ∷ []) number) (at state_there calling (Jump (block_id 0) ∷ []))) (goes_one g state_there calling (call (runtime + f.0) (number ∷ left ∷ []) number) (Jump (block_id 0) ∷ []) refl) (omega arith))

      -- managed code begins it
      abbrev begun_above : MirState
      begun_above = record {
        world = world_begun g.core f.0 (suc (length m.callers)) [] m.world;
        routine = f.0;
        work = block_at ((managed g).blocks f.0) 0;
        frames = [];
        callers = above_caller ∷ m.callers;
        pending = due_parts all_parts n;
        charged = m.charged + (managed g).charge f.0;
        counts = tt;
      }

      abbrev begun_in : World → MirState
      begun_in w = record begun_above { world = w }

      begun_step : mir_step (managed g) m ≡ begun_above
      begun_step =
          step_is ∙ begun_under (managed g) f.0 nowhere [] taken under
          ∙ ap begun_in (entered_is g.core (tables (managed g)) refl f.0 [] m.world ∙ ap (λ d. world_begun g.core f.0 (suc d) [] m.world) s.stays.depth)

      -- and pays for it
      paid : 12 + space_of g f.0 ≤ most_for_one * mir_cost (managed g) m
      paid =
          let deeper : nat_lt (length m.callers) (length (above_caller ∷ m.callers)) ≡ true = grind (arith, nat_tests) in
          let entered : charge_between (managed g).charge (length m.callers) f.0 (length (above_caller ∷ m.callers)) ≡ (managed g).charge f.0 = ap (λ b. if b then (managed g).charge f.0 else 0) deeper in
          let cost : mir_cost (managed g) m ≡ mir_effort (managed g) m begun_above = ap (λ e. mir_cost_by (managed g) m e) ending ∙ ap (mir_effort (managed g) m) begun_step in
          let charge = charge_is in
          let taken_space = both_fit in
          omega arith

      enters_comes : Comes g m l
      enters_comes =
          let receives : Receives g (Stands g begun_above) (sum_by (receive_most g.core) (parameter_rows g.core (floors_new (suc (length m.callers))).number)) begun = begun_stands g fit taken lower s.floors floors_new f.0 [] above_caller low_callers (lower.room - closing_space g) (calling 3) (calling 0) [] enters ending in
          let none : sum_by (receive_most g.core) (parameter_rows g.core (floors_new (suc (length m.callers))).number) ≡ 0 = ap (λ (f : Floor). sum_by (receive_most g.core) (parameter_rows g.core f.number)) there_new ∙ ap (sum_by (receive_most g.core)) no_rows in
          record {
            to = receives.to;
            goes = goes_within g 1 (most_for_one * mir_cost (managed g) m) l receives.to
                (goes_then g 3 1 1 l at_charging receives.to (omega arith) counts
                (goes_then g 1 1 1 at_charging (at state_there calling entering) receives.to (omega arith) charged
                (goes_then g 1 0 1 (at state_there calling entering) begun receives.to (omega arith) called receives.goes)))
                (let costs = paid in omega arith);
            stands = subst (λ y. Stands g y receives.to) (sym begun_step) receives.holds;
          }

    part_comes : Comes g m l
    part_comes = let (x, found) = there_is g.mir.routines f.0 part.exists in by x found (nat_lt g.stack (m.charged + (managed g).charge f.0)) refl
      where
        by : (x : Routine) → slice_get g.mir.routines f.0 ≡ Some x → (b : Bool) → nat_lt g.stack (m.charged + (managed g).charge f.0) ≡ b → Comes g m l
        by x found true over = stack_over x found over
        by x found false under = enters_comes x found under

  pub closing_goes_on : Comes g m l
  closing_goes_on = by (length m.pending) refl
    where
      by : (k : ℕ) → length m.pending ≡ k → Comes g m l
      by zero none = ends_comes none
      by (suc n) count =
          let few = s.stays.pending.few in
          let (f, there) = there_is all_parts n (omega arith) in
          part_comes n count f there ((fit.closing s.some).parts n f there)
