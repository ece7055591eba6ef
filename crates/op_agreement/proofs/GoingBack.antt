-- A finalization part returns, and the closing goes on with the next one.
use Rattle.std.proofs.Common.{◌≡◌, ◌≤◌, ◌<◌, inr, ℕ, suc, ◌+◌, ◌-◌, ◌*◌, List, [], ◌∷◌, length, None, refl, sym, ap, ap₂, ◌∙◌, subst, arith}
use Rattle.std.specs.Prelude.{◌^◌, ◌%◌, false, nat_eq, slice_get, if◌then◌else◌}
use Rattle.std.proofs.lemmas.Bool.Decides.{nat_tests}
use Rattle.op_compute.specs.Straight.{at}
use Rattle.op_expand.specs.Calls.{finalizations, left, result_address, return_code, runtime}
use Rattle.op_expand.specs.Closing.{finding_code}
use Rattle.op_places.specs.Frames.{returning_of}
use Rattle.op_places.specs.declared.frame.Returning.TheVariants.{Nothing}
use Rattle.op_low.specs.Machine.{act, return_to}
use Rattle.op_low.specs.State.{Activation, Caller, State, Running, code_or, routine_of, space}
use Rattle.op_low.specs.declared.code.Routine.{Routine as LowRoutine}
use Rattle.op_low.specs.declared.instruction.Instruction.TheVariants.{Jump, Return as LowReturn}
use Rattle.op_low.specs.declared.instruction.Instruction.{Instruction as LowInstruction}
use Rattle.op_meaning.specs.Calls.{received, result_in}
use Rattle.op_meaning.specs.Expressions.{result_of}
use Rattle.op_meaning.specs.Items.{Receiver}
use Rattle.op_meaning.specs.Machine.{returned}
use Rattle.op_meaning.specs.World.{Running as GoingOn}
use Rattle.op_mir.specs.Machine.{MirCaller, MirState, execute, mir_cost, mir_step, tables}
use Rattle.op_mir.specs.declared.instruction.Instruction.TheVariants.{Return}
use Rattle.op_mir.specs.declared.instruction.Instruction.{Instruction}
use Rattle.op_rt_text.specs.Names.{block_id}
use Rattle.op_agreement.proofs.Branching.{begins_here, step_here}
use Rattle.op_agreement.proofs.Computing.{rest_above, rest_below}
use Rattle.op_agreement.proofs.ErrorsEnd.{limit_above}
use Rattle.op_agreement.proofs.Finding.{closing_begun, finds}
use Rattle.op_agreement.proofs.Going.{Goes, goes_from, goes_one, goes_then, goes_to, goes_within}
use Rattle.op_agreement.proofs.Pricing.{charge_of_floor, least}
use Rattle.op_agreement.proofs.Standing.{Next, here}
use Rattle.op_agreement.specs.Chart.{Floor, Live}
use Rattle.op_agreement.specs.Coding.{code_for}
use Rattle.op_agreement.specs.Fitting.{IsFitting, closing_space}
use Rattle.op_agreement.specs.Settings.{Setting, managed}
use Rattle.op_agreement.specs.Stands.{ActivationStands, CallersStand, ClosingGoesOn, ClosingWaits, Stands, StandsBy, Stays, closing_code}
use Rattle.op_agreement.specs.Steps.{Comes, most_for_one}
use Rattle.op_meaning.specs.Values.{Holder, global, local, temporary, object}
use Rattle.op_core.specs.declared.program.Core.{Core}

-- what is live where fewer activations are below is so where more are
pub live_deeper : (core : Core) (floors : ℕ → Floor) (d e : ℕ) (h : Holder) → d ≤ e → Live core floors d h → Live core floors e h
live_deeper core floors d e (global v) less live = live
live_deeper core floors d e (local f v) less (low, stored) = (omega arith, stored)
live_deeper core floors d e (temporary f of n) less (low, stored) = (omega arith, stored)
live_deeper core floors d e (object name) less live = absurd live

pub procedure_returning : (core : Core) (r : ℕ) → r < length core.routines → result_of (slice_get core.routines r) ≡ None → returning_of core r ≡ Nothing
procedure_returning core r low none = let t : nat_eq r (length core.routines) ≡ false = grind (arith, nat_tests) in rw (t, none) refl

module _ (g : Setting) (fit : IsFitting g) (m : MirState) (l : State) (floors : ℕ → Floor) (is : List Instruction) (next : Next g m l floors Return is) (c : MirCaller) (cs : List MirCaller) (lc ended : Caller) (others : List Caller) (above : m.callers ≡ c ∷ cs) (lows : l.callers ≡ lc ∷ ended ∷ others) (below under spare status : ℕ) (a : Activation)
    (charge : m.charged ≡ under + (managed g).charge m.routine) (at_ : l.limit ≡ below + (floors (suc (length cs))).frame.locals) (more : spare ≡ l.room + space g.low g.placement (runtime + m.routine) + closing_space g) (waits : ClosingWaits g c lc a status m.routine)
    (activation : ActivationStands g floors (length cs) m.world.memory m.world.bound c.temps c.routine a below spare under) (callers : CallersStand g floors m.world.memory m.world.bound cs others c.routine (a.registers result_address.0) below spare under) where
  abbrev lower : State
  lower = record l { top = a; callers = others; limit = below; room = spare; ending = Running }

  abbrev back : MirState
  back = record {
    world = record m.world { temps = c.temps; waiting = c.waiting; made = c.made; depth = m.world.depth - 1 };
    routine = c.routine;
    work = c.work;
    frames = c.frames;
    callers = cs;
    pending = m.pending;
    charged = under;
    counts = tt;
  }

  levels : length m.callers ≡ suc (length cs)
  levels = ap length above

  back_stays : Stays g floors back lower
  back_stays =
      let s = next.stays in
      let deep : m.world.depth ≡ suc (length cs) = s.depth ∙ levels in
      let many = levels in
      record {
        running = refl;
        plain = record { raised = s.plain.raised; made = waits.made; waiting = waits.waiting };
        pending = s.pending;
        due = s.due;
        depth = omega arith;
        activation = activation;
        callers = callers;
        lie = λ h live. s.lie h (live_deeper g.core floors (length cs) (length m.callers) h (omega arith) live);
        fixed = s.fixed;
        heap = s.heap;
        bytes = λ x low. s.bytes x (omega arith);
        output = s.output;
        errors = s.errors;
        input = s.input;
      }

  -- ---- the step above

  back_step : mir_step (managed g) m ≡ back
  unfolding execute
  back_step =
      let behind : MirState = record m { work = rest_above g m l floors Return is next } in
      let w = record m.world { temps = c.temps; waiting = c.waiting; made = c.made; depth = m.world.depth - 1 } in
      let value = result_in (tables (managed g)) m.routine m.world in
      let charged : m.charged - (managed g).charge m.routine ≡ under = omega arith in
      step_here g fit m l floors Return is next ∙ ap (λ xs. returned (tables (managed g)) xs behind) above
      ∙ ap₂ (λ (r : Receiver) (n : ℕ). let x : MirState = record { world = received (tables (managed g)) r value w; routine = c.routine; work = c.work; frames = c.frames; callers = cs; pending = m.pending; charged = n; counts = tt } in x) waits.receiver charged

  -- ---- the steps below

  abbrev rest : List LowInstruction
  rest = rest_below g m l floors Return is next

  returns : code_for g.core g.mir (here m floors).frame Return ≡ LowReturn left ∷ []
  unfolding code_for
  returns =
      let fits = next.stays.activation.floor.fits in
      ap (return_code g.core (here m floors).frame) (fits.returning ∙ ap (returning_of g.core) next.stays.activation.number ∙ procedure_returning g.core m.routine waits.low waits.result)

  -- the registers of the closing
  abbrev again : ℕ → ℕ
  again r = if nat_eq r lc.to.0 then l.top.registers 0 else lc.activation.registers r

  again_kept : (r : ℕ) → r < 2 → again r ≡ lc.activation.registers r
  again_kept r low = let to = waits.to in let t : nat_eq r lc.to.0 ≡ false = grind (arith, nat_tests) in ap (λ b. if b then l.top.registers 0 else lc.activation.registers r) t

  abbrev closing_in : ℕ → List LowInstruction → (limit room : ℕ) → State
  closing_in number now limit room = record l { top = record { routine = number; registers = again; now = now }; callers = ended ∷ others; limit = limit; room = room; ending = Running }

  gone : Goes g 1 1 l (closing_begun g lower ended again (Jump (block_id 0) ∷ []))
  unfolding act
  gone =
      let s = next.stays in
      let number = s.activation.number in
      let here_is : here m floors ≡ floors (suc (length cs)) = ap floors levels in
      let locals : (routine_of g.low l.top.routine).locals ≡ (floors (suc (length cs))).frame.locals = ap (λ r. (routine_of g.low r).locals) s.activation.same ∙ s.activation.floor.expanded.locals ∙ ap (λ (f : Floor). f.frame.locals) here_is in
      let taken : space g.low g.placement l.top.routine ≡ space g.low g.placement (runtime + m.routine) = ap (space g.low g.placement) (s.activation.same ∙ ap (λ r. runtime + r) number) in
      let limit : l.limit - (routine_of g.low l.top.routine).locals ≡ below = omega arith in
      let room : l.room + space g.low g.placement l.top.routine ≡ spare - closing_space g = omega arith in
      goes_from g 1 l (at l l.top.registers (LowReturn left ∷ rest)) (closing_begun g lower ended again (Jump (block_id 0) ∷ [])) (begins_here g fit m l floors Return is next (LowReturn left ∷ []) returns)
      (goes_to g 1 (at l l.top.registers (LowReturn left ∷ rest)) (act g.low g.placement (LowReturn left) (at l l.top.registers rest)) (closing_begun g lower ended again (Jump (block_id 0) ∷ []))
      (ap (λ xs. return_to g.low g.placement (l.top.registers 0) xs (at l l.top.registers rest)) lows
      ∙ ap₂ (λ x y. closing_in lc.activation.routine lc.activation.now x y) limit room
      ∙ ap₂ (λ number now. closing_in number now below (spare - closing_space g)) waits.same waits.now)
      (goes_one g l l.top.registers (LowReturn left) rest refl))

  jumps : Goes g 1 1 (closing_begun g lower ended again (Jump (block_id 0) ∷ [])) (closing_begun g lower ended again (finding_code g.core g.stack (length (finalizations g.core))))
  unfolding act
  jumps =
      let base = closing_begun g lower ended again [] in
      goes_to g 1 (at base again (Jump (block_id 0) ∷ [])) (act g.low g.placement (Jump (block_id 0)) (at base again [])) (at base again (finding_code g.core g.stack (length (finalizations g.core))))
      (ap (λ (r : LowRoutine). at base again (code_or (slice_get r.blocks 0))) (fit.closing waits.some).routine)
      (goes_one g base again (Jump (block_id 0)) [] refl)

  -- the activation of the part has paid for it
  paid : 6 + 2 * length (finalizations g.core) ≤ most_for_one * mir_cost (managed g) m
  paid =
      let s = next.stays in
      let number = s.activation.number in
      let many = fit.program.number in
      let low = waits.low in
      let few : (here m floors).number < length g.mir.routines = omega arith in
      let charged = (fit.routines (here m floors).number (here m floors).routine s.activation.floor.found s.activation.floor.charge).charged few in
      let floor_charge = charge_of_floor g fit m l floors Return is next c cs above in
      let cost = least g fit m l floors Return is next in
      let units = (fit.closing waits.some).few in
      omega arith

  pub closing_again : Comes g m l
  closing_again =
      let s = next.stays in
      let base = closing_begun g lower ended again [] in
      let bottom = limit_above g floors m.world.memory m.world.bound cs others c.routine (a.registers result_address.0) below spare under callers in
      let found = finds g fit waits.some base refl bottom (length m.pending) again s.pending.few s.due in
      let k = at base found.registers (closing_code g (length m.pending)) in
      let goes_on : ClosingGoesOn g status back k = record {
        some = waits.some;
        floors = floors;
        lower = lower;
        stays = back_stays;
        ended = ended;
        registers = found.registers;
        left = found.left ∙ again_kept 0 (omega arith) ∙ waits.left;
        told = ap (λ x. x % 2 ^ 8) (found.status ∙ again_kept 1 (omega arith)) ∙ waits.told;
        is = refl;
      } in
      record {
        to = k;
        goes = goes_within g 1 (most_for_one * mir_cost (managed g) m) l k
            (goes_then g 1 1 1 l (closing_begun g lower ended again (Jump (block_id 0) ∷ [])) k (omega arith) gone
            (goes_then g 1 0 1 (closing_begun g lower ended again (Jump (block_id 0) ∷ [])) (closing_begun g lower ended again (finding_code g.core g.stack (length (finalizations g.core)))) k (omega arith) jumps found.goes))
            (let costs = paid in omega arith);
        stands = subst (λ x. Stands g x k) (sym back_step) (subst (λ e. StandsBy g e c.frames back k) (sym next.ending) (subst (λ fs. StandsBy g GoingOn fs back k) (sym waits.frames) (inr goes_on)));
      }
