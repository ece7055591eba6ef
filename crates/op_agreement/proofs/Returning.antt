-- A procedure returns, and its caller goes on.
use Rattle.std.proofs.Common.{◌≡◌, ◌≤◌, ◌<◌, inl, inr, ℕ, suc, ◌+◌, ◌-◌, List, [], ◌∷◌, length, Option, None, refl, sym, ap, ap₂, ◌∙◌, subst, arith, ◌*◌}
use Rattle.std.specs.Prelude.{false, nat_eq, slice_get, if◌then◌else◌, ℤ}
use Rattle.std.proofs.lemmas.Bool.Decides.{nat_tests}
use Rattle.op_compute.specs.Bank.{scratch_of}
use Rattle.op_compute.specs.Meaning.{IsWordOf}
use Rattle.op_compute.specs.Straight.{at}
use Rattle.op_core.specs.declared.ids.TypeId.{TypeId}
use Rattle.op_core.specs.declared.program.Core.{Core}
use Rattle.op_expand.specs.Calls.{left, receiver_of, result_address, return_code, runtime}
use Rattle.op_places.specs.Frames.{returning_of}
use Rattle.op_places.specs.declared.frame.Frame.{Frame}
use Rattle.op_places.specs.declared.frame.Returning.TheVariants.{Nothing}
use Rattle.op_low.specs.Machine.{act, return_to}
use Rattle.op_low.specs.declared.instruction.Instruction.TheVariants.{Return as LowReturn}
use Rattle.op_low.specs.declared.instruction.Instruction.{Instruction as LowInstruction}
use Rattle.op_meaning.specs.Expressions.{result_of}
use Rattle.op_low.specs.State.{Caller, State, Running, routine_of, space, with_value}
use Rattle.op_low.specs.declared.ids.VirtualRegister.{VirtualRegister}
use Rattle.op_meaning.specs.Calls.{received, result_in}
use Rattle.op_meaning.specs.Items.{Receiver, nowhere, to_temp, to_place}
use Rattle.op_meaning.specs.Machine.{returned}
use Rattle.op_meaning.specs.Values.{Value, number_in}
use Rattle.op_meaning.specs.World.{Running as GoingOn}
use Rattle.op_mir.specs.Machine.{MirCaller, MirState, execute, mir_step, tables, mir_cost}
use Rattle.op_mir.specs.View.{view_receiver}
use Rattle.op_mir.specs.declared.instruction.Instruction.TheVariants.{Return}
use Rattle.op_mir.specs.declared.instruction.Instruction.{Instruction}
use Rattle.op_mir.specs.declared.instruction.Receiver.TheVariants.{Nowhere, Temporary, Place}
use Rattle.op_mir.specs.declared.instruction.Receiver.{Receiver as DeclaredReceiver}
use Rattle.op_agreement.proofs.Branching.{begins_here, step_here}
use Rattle.op_agreement.proofs.Closing.{main_comes, running_costs}
use Rattle.op_agreement.proofs.Computing.{rest_above, rest_below}
use Rattle.op_agreement.proofs.Going.{goes_from, goes_one, goes_to, goes_within}
use Rattle.op_agreement.proofs.GoingBack.{closing_again, procedure_returning}
pub use Rattle.op_agreement.proofs.GoingBack.{live_deeper}
use Rattle.op_agreement.proofs.Standing.{Next, SameVariables, Temporaries, here, kept_registers, stands_on}
use Rattle.op_agreement.specs.Chart.{Floor}
use Rattle.op_agreement.specs.Fitting.{IsFitting}
use Rattle.op_agreement.specs.Settings.{Setting, managed}
use Rattle.op_agreement.specs.Coding.{code_for}
use Rattle.op_agreement.specs.Stands.{ActivationStands, AreStillDue, CallersStand, Position, Stands, Stays}
use Rattle.op_agreement.specs.Steps.{Comes, most_for_one}
use Rattle.op_agreement.specs.Typed.{IsTypedReceiver}

module _ (g : Setting) (fit : IsFitting g) (m : MirState) (l : State) (floors : ℕ → Floor) (s : Stays g floors m l) (c : MirCaller) (cs : List MirCaller) (lc : Caller) (lcs : List Caller) (above : m.callers ≡ c ∷ cs) (below spare under : ℕ) (frames : c.frames ≡ []) (waiting : (t : ℕ) → c.waiting t ≡ None) (made : c.made ≡ []) (position : Position g (floors (length cs)) c.work lc.activation.now) (activation : ActivationStands g floors (length cs) m.world.memory m.world.bound c.temps c.routine lc.activation below spare under) (callers : CallersStand g floors m.world.memory m.world.bound cs lcs c.routine (lc.activation.registers result_address.0) below spare under) (room : below ≤ l.limit) where
  -- the state of managed code with these temporaries, and the one of low code with this value in a register
  abbrev back_above : (ℕ → ℤ) → MirState
  back_above temps = record {
    world = record m.world { temps = temps; waiting = c.waiting; made = c.made; depth = m.world.depth - 1 };
    routine = c.routine;
    work = c.work;
    frames = c.frames;
    callers = cs;
    pending = m.pending;
    charged = under;
    counts = tt;
  }

  abbrev back_below : VirtualRegister → ℕ → State
  back_below to v = record l { top = with_value to v lc.activation; callers = lcs; limit = below; room = spare; ending = Running }

  pub back_stands : (temps : ℕ → ℤ) (to : VirtualRegister) (v : ℕ) → SameVariables (floors (length cs)) lc.activation.registers (with_value to v lc.activation).registers → Temporaries (floors (length cs)) temps (with_value to v lc.activation).registers → m.world.ending ≡ GoingOn → Stands g (back_above temps) (back_below to v)
  back_stands temps to v same are ending =
      let a = activation in
      let fits = a.floor.fits in
      let behind = fits.behind in
      let registers = (with_value to v lc.activation).registers in
      let zeroth : registers 0 ≡ lc.activation.registers 0 = same 0 (omega arith) in
      let first : registers 1 ≡ lc.activation.registers 1 = same 1 (omega arith) in
      let deep : m.world.depth ≡ suc (length cs) = s.depth ∙ ap length above in
      let depth : m.world.depth - 1 ≡ length cs = omega arith in
      let levels : length m.callers ≡ suc (length cs) = ap length above in
      stands_on g (back_above temps) (back_below to v) ending frames (record {
        floors = floors;
        stays = record {
          running = refl;
          plain = record { raised = s.plain.raised; made = made; waiting = waiting };
          pending = s.pending;
          depth = depth;
          activation = record {
            floor = a.floor;
            number = a.number;
            same = a.same;
            kept = kept_registers g floors (length cs) m.world.memory m.world.bound c.temps temps lc.activation.registers registers fits same are a.kept;
            left = ap (λ x. x + under) zeroth ∙ a.left;
            base = a.base;
            enough = subst (λ x. x + 1024 ≤ spare) (sym zeroth) a.enough;
            top = a.top;
          };
          callers = subst (λ x. CallersStand g floors m.world.memory m.world.bound cs lcs c.routine x below spare under) (sym first) callers;
          lie = λ h live. s.lie h (live_deeper g.core floors (length cs) (length m.callers) h (omega arith) live);
          fixed = s.fixed;
          heap = s.heap;
          due = s.due;
          bytes = λ x low. s.bytes x (omega arith);
          output = s.output;
          errors = s.errors;
          input = s.input;
        };
        position = position;
      })

-- ---- a procedure returns

nowhere_only : (core : Core) (r : Receiver) (of : Option TypeId) → of ≡ None → IsTypedReceiver core r of → r ≡ nowhere
nowhere_only core nowhere of none typed = refl
nowhere_only core (to_temp t) of none typed = absurd (subst (IsTypedReceiver core (to_temp t)) none typed)
nowhere_only core (to_place to path) of none typed = absurd (subst (IsTypedReceiver core (to_place to path)) none typed)

to_scratch : (frame : Frame) (d : DeclaredReceiver) (free : VirtualRegister) → view_receiver d ≡ nowhere → receiver_of frame d free ≡ free
to_scratch frame Nowhere free e = refl
to_scratch frame (Temporary t) free e = absurd cc
to_scratch frame (Place of to) free e = absurd cc

module _ (g : Setting) (fit : IsFitting g) (m : MirState) (l : State) (floors : ℕ → Floor) (is : List Instruction) (next : Next g m l floors Return is) (due : AreStillDue g m) (none : result_of (slice_get g.core.routines (here m floors).number) ≡ None) where
  abbrev rest : List LowInstruction
  rest = rest_below g m l floors Return is next

  abbrev behind_return : MirState
  behind_return = record m { work = rest_above g m l floors Return is next }

  procedure_by : (cs : List MirCaller) (ls : List Caller) → m.callers ≡ cs → l.callers ≡ ls → CallersStand g floors m.world.memory m.world.bound cs ls m.routine (l.top.registers result_address.0) l.limit l.room m.charged → Comes g m l
  unfolding code_for execute act
  procedure_by [] ls above lows s = main_comes g fit m l floors is next above due
  procedure_by (c ∷ cs) [] above lows s = absurd s
  procedure_by (c ∷ cs) (lc ∷ lcs) above lows (inr (below, under, spare, status, a, ended, others, are, charge, at_, more, waits, activation, callers)) =
      closing_again g fit m l floors is next c cs lc ended others above (lows ∙ ap (λ xs. lc ∷ xs) are) below under spare status a charge at_ more waits activation callers
  procedure_by (c ∷ cs) (lc ∷ lcs) above lows (inl (below, under, spare, declared, low, charge, at_, more, frames, receiver, to, typed, result, waiting, made, position, activation, callers)) =
      let s = next.stays in
      let a = s.activation in
      let number : (here m floors).number ≡ m.routine = a.number in
      let no_result : result_of (slice_get g.core.routines m.routine) ≡ None = subst (λ r. result_of (slice_get g.core.routines r) ≡ None) number none in
      let returns : (here m floors).frame.returning ≡ Nothing = a.floor.fits.returning ∙ ap (returning_of g.core) number ∙ procedure_returning g.core m.routine low no_result in
      let code : code_for g.core g.mir (here m floors).frame Return ≡ LowReturn left ∷ [] = ap (return_code g.core (here m floors).frame) returns in
      let goes_nowhere = nowhere_only g.core c.receiver (result_of (slice_get g.core.routines m.routine)) no_result typed in
      let to_is : lc.to.0 ≡ (floors (length cs)).frame.bank.scratch + 0 = ap (λ (r : VirtualRegister). r.0) (to ∙ to_scratch (floors (length cs)).frame declared (scratch_of (floors (length cs)).frame.bank 0) (sym receiver ∙ goes_nowhere)) in
      let scratch = activation.floor.fits.scratch in
      let v = l.top.registers 0 in
      let registers = (with_value lc.to v lc.activation).registers in
      let kept : (r : ℕ) → r < (floors (length cs)).frame.bank.scratch → registers r ≡ lc.activation.registers r = λ r less. let t : nat_eq r lc.to.0 ≡ false = grind (arith, nat_tests) in ap (λ b. if b then v else lc.activation.registers r) t in
      let levels : length m.callers ≡ suc (length cs) = ap length above in
      let here_is : here m floors ≡ floors (suc (length cs)) = ap floors levels in
      let locals : (routine_of g.low l.top.routine).locals ≡ (floors (suc (length cs))).frame.locals = ap (λ r. (routine_of g.low r).locals) a.same ∙ a.floor.expanded.locals ∙ ap (λ (f : Floor). f.frame.locals) here_is in
      let limit : l.limit - (routine_of g.low l.top.routine).locals ≡ below = omega arith in
      let room : l.room + space g.low g.placement l.top.routine ≡ spare = ap (λ r. l.room + space g.low g.placement r) (a.same ∙ ap (λ r. runtime + r) number) ∙ sym more in
      let charged : m.charged - (managed g).charge m.routine ≡ under = omega arith in
      let k = back_below g fit m l floors s c cs lc lcs above below spare under frames waiting made position activation callers (omega arith) lc.to v in
      let back = back_above g fit m l floors s c cs lc lcs above below spare under frames waiting made position activation callers (omega arith) c.temps in
      let w = record m.world { temps = c.temps; waiting = c.waiting; made = c.made; depth = m.world.depth - 1 } in
      let value = result_in (tables (managed g)) m.routine m.world in
      let step : mir_step (managed g) m ≡ back =
      step_here g fit m l floors Return is next ∙ ap (λ xs. returned (tables (managed g)) xs behind_return) above
      ∙ ap₂ (λ (r : Receiver) (n : ℕ). let x : MirState = record { world = received (tables (managed g)) r value w; routine = c.routine; work = c.work; frames = c.frames; callers = cs; pending = m.pending; charged = n; counts = tt } in x) goes_nowhere charged in
      let does : act g.low g.placement (LowReturn left) (at l l.top.registers rest) ≡ k =
      ap (λ xs. return_to g.low g.placement v xs (at l l.top.registers rest)) lows
      ∙ ap₂ (λ (x y : ℕ). let z : State = record l { top = with_value lc.to v lc.activation; callers = lcs; limit = x; room = y; ending = Running } in z) limit room in
      record {
        to = k;
        goes = goes_from g 1 l (at l l.top.registers (LowReturn left ∷ rest)) k (begins_here g fit m l floors Return is next (LowReturn left ∷ []) code)
            (goes_within g 1 (most_for_one * mir_cost (managed g) m) (at l l.top.registers (LowReturn left ∷ rest)) k
            (goes_to g 1 (at l l.top.registers (LowReturn left ∷ rest)) (act g.low g.placement (LowReturn left) (at l l.top.registers rest)) k does (goes_one g l l.top.registers (LowReturn left) rest refl)) (running_costs g m next.ending));
        stands = subst (λ x. Stands g x k) (sym step)
            (back_stands g fit m l floors s c cs lc lcs above below spare under frames waiting made position activation callers (omega arith) c.temps lc.to v
            (λ r less. kept r (omega arith))
            (λ t less. subst (λ x. IsWordOf x (c.temps t)) (sym (kept ((floors (length cs)).frame.bank.temporaries + t) (omega arith))) (activation.kept.temporaries t less))
            next.ending);
      }

  pub procedure_comes : Comes g m l
  procedure_comes = procedure_by m.callers l.callers refl refl next.stays.callers
