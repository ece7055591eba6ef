-- The end of the program: the main part returns, then the program ends, and it stays so.
use Rattle.std.proofs.Common.{◌≡◌, ◌≤◌, ◌<◌, ◌⊎◌, inl, inr, ℕ, ℤ, suc, ◌+◌, ◌-◌, ◌*◌, List, [], ◌∷◌, ◌++◌, drop, length, length-drop, Option, Some, None, refl, sym, ap, ◌∙◌, subst, arith}
use Rattle.std.specs.Prelude.{◌^◌, ◌%◌, ◌||◌, pos, negsuc, Bool, true, false, nat_eq, nat_lt, slice_index, unsigned_abs, if◌then◌else◌}
use Rattle.std.specs.List.{list_any}
use Rattle.std.specs.Option.{option_to_list}
use Rattle.std.specs.Int.{w32, int_rem_euclid}
use Rattle.std.proofs.lemmas.Bool.{cases_lt}
use Rattle.std.proofs.lemmas.Bool.Decides.{nat_tests}
use Rattle.std.proofs.lemmas.Int.{to_z_pos}
use Rattle.op_agreement.proofs.Branching.{begins_here, has_of, step_here}
use Rattle.op_agreement.proofs.Computing.{all_variables_kept, rest_above, rest_below, temporaries_kept}
use Rattle.op_agreement.proofs.ErrorsEnd.{limit_above}
use Rattle.op_agreement.proofs.Finding.{Found, closing_begun, closing_enters, ends_at, finds, finds_all}
use Rattle.op_agreement.proofs.Following.{Comes}
use Rattle.op_agreement.proofs.Going.{Goes, goes_from, goes_one, goes_then, goes_within, is_read, standing}
use Rattle.op_agreement.proofs.Pricing.{afford}
use Rattle.op_agreement.proofs.Standing.{Next, here, stays_closing}
use Rattle.op_agreement.specs.Chart.{Floor}
use Rattle.op_agreement.specs.Coding.{code_for}
use Rattle.op_agreement.specs.Fitting.{IsFitting, closing_space}
use Rattle.op_agreement.specs.Settings.{Setting, managed}
use Rattle.op_agreement.specs.Stands.{ArePending, AreStillDue, CallersStand, Closes, ClosingGoesOn, HaveEnded, NoneCloses, Stands, StandsBy, Stays, closing_code, dues_in, lowest_rest}
use Rattle.op_agreement.specs.Steps.{cost_going, counted, most_for_one}
use Rattle.op_compute.specs.Bank.{register_of, scratch_of, work_of}
use Rattle.op_compute.specs.Meaning.{IsWordOf}
use Rattle.op_compute.specs.Straight.{at}
use Rattle.op_compute.specs.Turning.{AreAllKept}
use Rattle.op_core.specs.declared.ids.RoutineId.{RoutineId}
use Rattle.op_core.specs.declared.program.Core.{Core}
use Rattle.op_core.specs.declared.program.Unit.{Unit as UnitRow}
use Rattle.op_expand.specs.Calls.{closing_call, finalizations, finalizations_of, has_closing, is_there, left, result_address, return_code}
use Rattle.op_expand.specs.Closing.{finding_code}
use Rattle.op_places.specs.Frames.{returning_of}
use Rattle.op_places.specs.declared.frame.Returning.TheVariants.{Ending as TheEnd}
use Rattle.op_low.specs.Machine.{act, exit, low_machine, shows, step, step_by_ending}
use Rattle.op_low.specs.State.{Caller, State, Ended}
use Rattle.op_low.specs.declared.ids.VirtualRegister.{VirtualRegister}
use Rattle.op_low.specs.declared.instruction.Instruction.{Instruction as LowInstruction}
use Rattle.op_low.specs.declared.instruction.Instruction.TheVariants.{Const, Exit, Move}
use Rattle.op_meaning.specs.Ending.{closed}
use Rattle.op_meaning.specs.Frames.{Pending, closing}
use Rattle.op_meaning.specs.Machine.{low_eight, returned}
use Rattle.op_meaning.specs.Unwinding.{closes}
use Rattle.op_meaning.specs.World.{number_at, Running as GoingOn, Ended as HasEnded}
use Rattle.op_mir.specs.Code.{Instr}
use Rattle.op_mir.specs.Machine.{MirCaller, MirState, execute, mir_cost, mir_cost_by, mir_effort, mir_acted, mir_step, mir_step_by, mir_stepped, code_rules, tables}
use Rattle.op_mir.specs.declared.ids.TemporaryId.{TemporaryId}
use Rattle.op_mir.specs.declared.instruction.Instruction.{Instruction}
use Rattle.op_mir.specs.declared.instruction.Instruction.TheVariants.{Return, Stop}
use Rattle.op_rv.specs.Operation.{signed}
use Rattle.op_simulation.specs.System.{run, spent, trace}

module _ (g : Setting) where
  -- ---- what has ended stays

  pub stays_above : (m : MirState) (status : ℕ) → m.world.ending ≡ HasEnded status → mir_step (managed g) m ≡ m
  unfolding mir_step mir_step_by
  stays_above m status e = ap (λ x. mir_step_by (managed g) x m) e

  stays_below : (l : State) (status : ℕ) → l.ending ≡ Ended status → run (low_machine g.low g.placement) 1 l ≡ l
  unfolding run step step_by_ending
  stays_below l status e = ap (λ x. step_by_ending g.low g.placement x l) e

  stays_free : (m : MirState) (l : State) (status : ℕ) → l.ending ≡ Ended status → spent (counted g) 1 l ≤ most_for_one * mir_cost (managed g) m
  unfolding spent
  stays_free m l status e = let none : cost_going g l l.ending ≡ 0 = ap (cost_going g l) e in omega arith

  shows_nothing : (l : State) (status : ℕ) → l.ending ≡ Ended status → list_any is_read (trace (low_machine g.low g.placement) 1 l) ≡ false
  unfolding trace shows
  shows_nothing l status e = ap (λ x. list_any is_read (shows g.placement x l ++ [])) e

  pub ended_comes : (m : MirState) (l : State) (status : ℕ) → m.world.ending ≡ HasEnded status → HaveEnded status m l → Comes g m l
  ended_comes m l status e s = record {
    to = l;
    goes = record { steps = 1; enough = omega arith; within = stays_free m l status s.ending; ends = stays_below l status s.ending; unread = shows_nothing l status s.ending };
    stands = subst (λ x. Stands g x l) (sym (stays_above m status e)) (subst (λ x. StandsBy g x m.frames m l) (sym e) s);
  }

  -- ---- the program ends with the status that was told

  -- a step costs one at least
  pub few_cost : (n : ℕ) (m : MirState) → m.world.ending ≡ GoingOn → n ≤ 32 → n ≤ most_for_one * mir_cost (managed g) m
  few_cost n m ending few = let cost : mir_cost (managed g) m ≡ mir_effort (managed g) m (mir_step (managed g) m) = ap (λ e. mir_cost_by (managed g) m e) ending in omega arith

  pub running_costs : (m : MirState) → m.world.ending ≡ GoingOn → 1 ≤ most_for_one * mir_cost (managed g) m
  running_costs m ending = few_cost 1 m ending (omega arith)

  closes_above : (m : MirState) (status : ℕ) → m.world.ending ≡ GoingOn → m.frames ≡ closing status ∷ [] → m.world.raised ≡ None → m.pending ≡ [] → mir_step (managed g) m ≡ record m { world = record m.world { ending = HasEnded status } }
  unfolding mir_step mir_step_by mir_stepped mir_acted
  closes_above m status ending frames raised pending =
      ap (λ x. mir_step_by (managed g) x m) ending ∙ ap (λ x. mir_stepped (managed g) x m) raised ∙ ap (λ x. mir_acted (managed g) x m) frames ∙ ap (λ x. closed (code_rules (managed g)) status x m) pending

  pub closing_comes : (m : MirState) (l : State) (status : ℕ) → m.world.ending ≡ GoingOn → m.frames ≡ closing status ∷ [] → Closes g status m l → Comes g m l
  unfolding act
  closing_comes m l status ending frames s =
      let k = exit (l.top.registers 0) (at l l.top.registers s.rest) in
      record {
        to = k;
        goes = goes_within g 1 (most_for_one * mir_cost (managed g) m) l k
            (goes_from g 1 l (at l l.top.registers (Exit left ∷ s.rest)) k (standing g l (Exit left ∷ s.rest) s.running s.now) (goes_one g l l.top.registers (Exit left) s.rest refl)) (running_costs m ending);
        stands = subst (λ x. Stands g x k) (sym (closes_above m status ending frames s.raised s.pending)) (record { ending = ap (λ x. Ended x) s.told; output = s.output; errors = s.errors; input = s.input });
      }

  -- ---- the main part returns

  pub main_returning : (core : Core) (r : ℕ) → r ≡ length core.routines → returning_of core r ≡ TheEnd
  main_returning core r is = let t : nat_eq r (length core.routines) ≡ true = grind (arith, nat_tests) in rw t

-- ---- a program without finalization parts has none that is due

none_due : (us : List UnitRow) → list_any (λ (u : UnitRow). is_there u.finalization) us ≡ false → finalizations_of us ≡ []
none_due [] e = refl
none_due (u ∷ us) e = by (none_due us) u.finalization e
  where
    by : (list_any (λ (u : UnitRow). is_there u.finalization) us ≡ false → finalizations_of us ≡ []) → (o : Option RoutineId) → (is_there o || list_any (λ (u : UnitRow). is_there u.finalization) us) ≡ false → option_to_list o ++ finalizations_of us ≡ []
    by others None e = others e
    by others (Some f) e = absurd cc

pub none_pending : (core : Core) (pending : List Pending) → has_closing core ≡ false → ArePending (finalizations core) pending → pending ≡ []
none_pending core [] e are = refl
none_pending core (x ∷ xs) e are =
    let few = are.few in
    let none : length (finalizations core) ≡ 0 = ap length (none_due core.units e) in
    absurd (omega arith)

-- ---- the closing begins

-- in these states the closing has found what is to be done
pub record Begun (g : Setting) (m : MirState) (l : State) (most : ℕ) (from : State) (status : ℕ) : Type 0 where
  pub to : State
  pub goes : Goes g 1 most from to
  pub goes_on : ClosingGoesOn g status m to

module _ (g : Setting) (fit : IsFitting g) (closes : has_closing g.core ≡ true) (m : MirState) (l : State) (floors : ℕ → Floor) (s : Stays g floors m l) where
  closing_room : closing_space g ≤ l.room
  closing_room =
      let enough = s.activation.enough in
      let space = (fit.closing closes).space in
      omega arith

  bottom_here : g.bottom ≤ l.limit
  bottom_here = limit_above g floors m.world.memory m.world.bound m.callers l.callers m.routine (l.top.registers result_address.0) l.limit l.room m.charged s.callers

  -- from the call on, with scratch registers of the activation that ends the program
  begun_by : (f : ℕ → ℕ) (status : VirtualRegister) (code : ℕ) (rest : List LowInstruction) (after : List Instr) (most : ℕ)
      → f status.0 % 2 ^ 8 ≡ code → ((r : ℕ) → r < (here m floors).frame.bank.scratch → f r ≡ l.top.registers r)
      → Found g (closing_begun g l (ends_at l f rest) (slice_index (f 0 ∷ f status.0 ∷ [])) []) (slice_index (f 0 ∷ f status.0 ∷ [])) (length m.pending) most (closing_begun g l (ends_at l f rest) (slice_index (f 0 ∷ f status.0 ∷ [])) (finding_code g.core g.stack (length (finalizations g.core))))
      → Begun g (record m { work = after; frames = closing code ∷ [] }) l (23 + most) (at l f (closing_call g.core status ∷ rest)) code
  begun_by f status code rest after most told kept found =
      let fits = s.activation.floor.fits in
      let space = (fit.closing closes).space in
      let all : AreAllKept (work_of (here m floors).frame.bank) l.top.registers f = λ r low. kept r (omega arith) in
      let enters = closing_enters g fit closes l closing_room f status rest in
      let begun = closing_begun g l (ends_at l f rest) (slice_index (f 0 ∷ f status.0 ∷ [])) (finding_code g.core g.stack (length (finalizations g.core))) in
      let k = closing_begun g l (ends_at l f rest) found.registers (closing_code g (length m.pending)) in
      record {
        to = k;
        goes = goes_within g 1 (23 + most) (at l f (closing_call g.core status ∷ rest)) k (goes_then g 1 0 1 (at l f (closing_call g.core status ∷ rest)) begun k (omega arith) enters found.goes) (omega arith);
        goes_on = record {
          some = closes;
          floors = floors;
          lower = at l f rest;
          stays = stays_closing g floors m l (closing code ∷ []) after f rest
              (all_variables_kept g (here m floors) fits l.top.registers f all)
              (temporaries_kept g (here m floors) fits m.world.temps l.top.registers f all s.activation.kept.temporaries) s;
          ended = ends_at l f rest;
          registers = found.registers;
          left = found.left;
          told = ap (λ x. x % 2 ^ 8) found.status ∙ told;
          is = refl;
        };
      }

  -- wherever in the order of the units the program is
  pub begins_anywhere : (f : ℕ → ℕ) (status : VirtualRegister) (code : ℕ) (rest : List LowInstruction) (after : List Instr) → f status.0 % 2 ^ 8 ≡ code → ((r : ℕ) → r < (here m floors).frame.bank.scratch → f r ≡ l.top.registers r) → Begun g (record m { work = after; frames = closing code ∷ [] }) l (23 + (4 + 2 * length (finalizations g.core))) (at l f (closing_call g.core status ∷ rest)) code
  begins_anywhere f status code rest after told kept =
      let h = slice_index (f 0 ∷ f status.0 ∷ []) in
      begun_by f status code rest after (4 + 2 * length (finalizations g.core)) told kept
      (finds g fit closes (closing_begun g l (ends_at l f rest) h []) refl bottom_here (length m.pending) h s.pending.few s.due)

  -- where all units have begun
  pub begins_last : (f : ℕ → ℕ) (status : VirtualRegister) (code : ℕ) (rest : List LowInstruction) (after : List Instr) → length m.pending ≡ length (finalizations g.core) → f status.0 % 2 ^ 8 ≡ code → ((r : ℕ) → r < (here m floors).frame.bank.scratch → f r ≡ l.top.registers r) → Begun g (record m { work = after; frames = closing code ∷ [] }) l 27 (at l f (closing_call g.core status ∷ rest)) code
  begins_last f status code rest after all told kept =
      let h = slice_index (f 0 ∷ f status.0 ∷ []) in
      begun_by f status code rest after 4 told kept
      (finds_all g fit closes (closing_begun g l (ends_at l f rest) h []) refl bottom_here (length m.pending) h all s.due)

module _ (g : Setting) (fit : IsFitting g) (m : MirState) (l : State) (floors : ℕ → Floor) (is : List Instruction) (next : Next g m l floors Return is) where
  main_callers : (cs : List MirCaller) (ls : List Caller) (number address limit room charged : ℕ) → cs ≡ [] → CallersStand g floors m.world.memory m.world.bound cs ls number address limit room charged → number ≡ length g.core.routines
  main_callers [] [] number address limit room charged e s = s.0
  main_callers [] (l ∷ ls) number address limit room charged e s = absurd s
  main_callers (c ∷ cs) ls number address limit room charged e s = absurd cc

  abbrev main_behind : MirState
  main_behind = record m { work = rest_above g m l floors Return is next }

  -- all finalization parts are due by then
  all_due : m.callers ≡ [] → AreStillDue g m → length m.pending ≡ length (finalizations g.core)
  all_due none due =
      let open_ : NoneCloses m.frames m.callers = subst (NoneCloses m.frames) (sym none) next.frames in
      let over : dues_in (lowest_rest m.work m.callers) ≡ [] = ap (λ cs. dues_in (lowest_rest m.work cs)) none ∙ ap dues_in next.above in
      let nothing : drop (length m.pending) (finalizations g.core) ≡ [] = sym (due open_) ∙ over in
      let left_over = length-drop (length m.pending) (finalizations g.core) in
      let length_is : length (drop (length m.pending) (finalizations g.core)) ≡ 0 = ap length nothing in
      let few = next.stays.pending.few in
      omega (arith, left_over, length_is, few)

  abbrev ending_by : Bool → List LowInstruction
  ending_by b = if b then Const (scratch_of (here m floors).frame.bank 0) 0 ∷ closing_call g.core (scratch_of (here m floors).frame.bank 0) ∷ Exit left ∷ [] else Const left 0 ∷ Exit left ∷ []

  main_code : (b : Bool) → has_closing g.core ≡ b → m.callers ≡ [] → code_for g.core g.mir (here m floors).frame Return ≡ ending_by b
  unfolding code_for
  main_code b closes none =
      let s = next.stays in
      let a = s.activation in
      let main = main_callers m.callers l.callers m.routine (l.top.registers result_address.0) l.limit l.room m.charged none s.callers in
      let returns : (here m floors).frame.returning ≡ TheEnd = a.floor.fits.returning ∙ main_returning g g.core (here m floors).number (a.number ∙ main) in
      ap (return_code g.core (here m floors).frame) returns ∙ ap ending_by closes

  main_step : m.callers ≡ [] → mir_step (managed g) m ≡ record main_behind { frames = closing 0 ∷ [] }
  unfolding execute
  main_step none = step_here g fit m l floors Return is next ∙ ap (λ cs. returned (tables (managed g)) cs main_behind) none ∙ ap (λ fs. closes 0 fs main_behind) next.frames

  -- without finalization parts the program is about to end
  main_ends : has_closing g.core ≡ false → m.callers ≡ [] → Comes g m l
  unfolding act
  main_ends closes none =
      let s = next.stays in
      let rest = rest_below g m l floors Return is next in
      let k = at l (λ (r : ℕ). if nat_eq r 0 then 0 else l.top.registers r) (Exit left ∷ rest) in
      record {
        to = k;
        goes = goes_from g 1 l (at l l.top.registers (Const left 0 ∷ Exit left ∷ rest)) k (begins_here g fit m l floors Return is next (Const left 0 ∷ Exit left ∷ []) (main_code false closes none)) (goes_within g 1 (most_for_one * mir_cost (managed g) m) (at l l.top.registers (Const left 0 ∷ Exit left ∷ rest)) k (goes_one g l l.top.registers (Const left 0) (Exit left ∷ rest) refl) (running_costs g m next.ending));
        stands = subst (λ x. Stands g x k) (sym (main_step none)) (subst (λ e. StandsBy g e (closing 0 ∷ []) (record main_behind { frames = closing 0 ∷ [] }) k) (sym next.ending) (inl (record {
          running = refl;
          raised = s.plain.raised;
          pending = none_pending g.core m.pending closes s.pending;
          rest = rest;
          now = refl;
          told = refl;
          output = s.output;
          errors = s.errors;
          input = s.input;
        })));
      }

  -- with some the closing begins
  main_closes : has_closing g.core ≡ true → m.callers ≡ [] → AreStillDue g m → Comes g m l
  unfolding act
  main_closes closes none due =
      let rest = rest_below g m l floors Return is next in
      let status = scratch_of (here m floors).frame.bank 0 in
      let f = λ (r : ℕ). if nat_eq r status.0 then 0 else l.top.registers r in
      let code = closing_call g.core status ∷ Exit left ∷ rest in
      let kept : (r : ℕ) → r < (here m floors).frame.bank.scratch → f r ≡ l.top.registers r = λ r low. let t : nat_eq r status.0 ≡ false = grind (arith, nat_tests) in ap (λ b. if b then 0 else l.top.registers r) t in
      let zero : f status.0 % 2 ^ 8 ≡ 0 = let t : nat_eq status.0 status.0 ≡ true = grind (arith, nat_tests) in ap (λ b. (if b then 0 else l.top.registers status.0) % 2 ^ 8) t in
      let begun = begins_last g fit closes m l floors next.stays f status 0 (Exit left ∷ rest) (rest_above g m l floors Return is next) (all_due none due) zero kept in
      record {
        to = begun.to;
        goes = goes_from g 1 l (at l l.top.registers (Const status 0 ∷ code)) begun.to (begins_here g fit m l floors Return is next (ending_by true) (main_code true closes none))
            (goes_within g 1 (most_for_one * mir_cost (managed g) m) (at l l.top.registers (Const status 0 ∷ code)) begun.to
            (goes_then g 1 1 1 (at l l.top.registers (Const status 0 ∷ code)) (at l f code) begun.to (omega arith) (goes_one g l l.top.registers (Const status 0) code refl) begun.goes) (few_cost g 28 m next.ending (omega arith)));
        stands = subst (λ x. Stands g x begun.to) (sym (main_step none)) (subst (λ e. StandsBy g e (closing 0 ∷ []) (record main_behind { frames = closing 0 ∷ [] }) begun.to) (sym next.ending) (inr begun.goes_on));
      }

  pub main_comes : m.callers ≡ [] → AreStillDue g m → Comes g m l
  main_comes none due = by (has_closing g.core) refl
    where
      by : (b : Bool) → has_closing g.core ≡ b → Comes g m l
      by false closes = main_ends closes none
      by true closes = main_closes closes none due

-- ---- the program is told to end

-- the low eight bits of a number are those of its word
low_eight_is : (word : ℕ) (n : ℤ) → IsWordOf word n → word % 2 ^ 8 ≡ low_eight n
low_eight_is word n is = by (cases_lt word 2147483648) ∙ ap (λ z. unsigned_abs (int_rem_euclid z (pos 256))) is.number
  where
    by : (word < 2147483648) ⊎ (2147483648 ≤ word) → word % 2 ^ 8 ≡ unsigned_abs (int_rem_euclid (signed word) (pos 256))
    by (inl low) = sym (ap (λ z. unsigned_abs (int_rem_euclid z (pos 256))) (to_z_pos w32 word low))
    by (inr high) =
        let t : nat_lt word 2147483648 ≡ false = grind (arith, nat_tests) in
        let bound = is.bound in
        let negative : signed word ≡ negsuc (4294967296 - suc word) = ap (λ b. if b then pos word else negsuc (4294967296 - suc word)) t in
        let rest : 256 - 1 - (4294967296 - suc word) % 256 ≡ word % 256 = omega arith in
        sym (ap (λ z. unsigned_abs (int_rem_euclid z (pos 256))) negative ∙ rest)

module _ (g : Setting) (fit : IsFitting g) (m : MirState) (l : State) (floors : ℕ → Floor) (is : List Instruction) (t : TemporaryId) (next : Next g m l floors (Stop t) is) where
  abbrev stop_behind : MirState
  stop_behind = record m { work = rest_above g m l floors (Stop t) is next }

  abbrev status_register : VirtualRegister
  status_register = register_of (here m floors).frame.bank t

  abbrev status_told : ℕ
  status_told = low_eight (number_at m.world t.0)

  abbrev stop_by : Bool → List LowInstruction
  stop_by b = if b then closing_call g.core (register_of (here m floors).frame.bank t) ∷ [] else Move left (register_of (here m floors).frame.bank t) ∷ Exit left ∷ []

  stop_code_is : (b : Bool) → has_closing g.core ≡ b → code_for g.core g.mir (here m floors).frame (Stop t) ≡ stop_by b
  unfolding code_for
  stop_code_is b closes = ap stop_by closes

  stop_step : mir_step (managed g) m ≡ record stop_behind { frames = closing status_told ∷ [] }
  unfolding execute
  stop_step = step_here g fit m l floors (Stop t) is next ∙ ap (λ fs. closes status_told fs stop_behind) next.frames

  status_there : l.top.registers status_register.0 % 2 ^ 8 ≡ status_told
  status_there = low_eight_is (l.top.registers status_register.0) (number_at m.world t.0) (next.stays.activation.kept.temporaries t.0 (has_of (here m floors).routine t next.fine))

  stop_ends : has_closing g.core ≡ false → Comes g m l
  unfolding act
  stop_ends closes =
      let s = next.stays in
      let rest = rest_below g m l floors (Stop t) is next in
      let h = λ (x : ℕ). if nat_eq x 0 then l.top.registers status_register.0 else l.top.registers x in
      let k = at l h (Exit left ∷ rest) in
      record {
        to = k;
        goes = goes_from g 1 l (at l l.top.registers (Move left status_register ∷ Exit left ∷ rest)) k (begins_here g fit m l floors (Stop t) is next (Move left status_register ∷ Exit left ∷ []) (stop_code_is false closes)) (goes_within g 1 (most_for_one * mir_cost (managed g) m) (at l l.top.registers (Move left status_register ∷ Exit left ∷ rest)) k (goes_one g l l.top.registers (Move left status_register) (Exit left ∷ rest) refl) (running_costs g m next.ending));
        stands = subst (λ x. Stands g x k) (sym stop_step) (subst (λ e. StandsBy g e (closing status_told ∷ []) (record stop_behind { frames = closing status_told ∷ [] }) k) (sym next.ending) (inl (record {
          running = refl;
          raised = s.plain.raised;
          pending = none_pending g.core m.pending closes s.pending;
          rest = rest;
          now = refl;
          told = status_there;
          output = s.output;
          errors = s.errors;
          input = s.input;
        })));
      }

  stop_closes : has_closing g.core ≡ true → Comes g m l
  stop_closes closes =
      let rest = rest_below g m l floors (Stop t) is next in
      let begun = begins_anywhere g fit closes m l floors next.stays l.top.registers status_register status_told rest (rest_above g m l floors (Stop t) is next) status_there (λ r low. refl) in
      let few = (fit.closing closes).few in
      record {
        to = begun.to;
        goes = goes_from g 1 l (at l l.top.registers (closing_call g.core status_register ∷ rest)) begun.to (begins_here g fit m l floors (Stop t) is next (stop_by true) (stop_code_is true closes))
            (goes_within g 1 (most_for_one * mir_cost (managed g) m) (at l l.top.registers (closing_call g.core status_register ∷ rest)) begun.to begun.goes (afford g fit m l floors (Stop t) is next (λ light. light) (23 + (4 + 2 * length (finalizations g.core))) (omega arith)));
        stands = subst (λ x. Stands g x begun.to) (sym stop_step) (subst (λ e. StandsBy g e (closing status_told ∷ []) (record stop_behind { frames = closing status_told ∷ [] }) begun.to) (sym next.ending) (inr begun.goes_on));
      }

  pub stop_comes : Comes g m l
  stop_comes = by (has_closing g.core) refl
    where
      by : (b : Bool) → has_closing g.core ≡ b → Comes g m l
      by false closes = stop_ends closes
      by true closes = stop_closes closes
