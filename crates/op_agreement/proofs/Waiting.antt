-- The caller of a routine that begins waits: what is said of it, and of the callers below it, with the new activation above them.
use Rattle.std.proofs.Common.{◌≡◌, ◌≤◌, ◌<◌, inl, ℕ, suc, ◌+◌, ◌-◌, List, [], ◌∷◌, length, None, refl, sym, ap, ◌∙◌, subst, arith}
use Rattle.op_compute.specs.Bank.{scratch_of}
use Rattle.op_compute.specs.Meaning.{IsWordOf}
use Rattle.op_core.proofs.Rows.{there_is}
use Rattle.op_core.specs.declared.ids.RoutineId.{RoutineId}
use Rattle.op_expand.specs.Calls.{receiver_of, result_address, runtime}
use Rattle.op_low.specs.State.{Activation, Caller, State, routine_of, space}
use Rattle.op_low.specs.declared.instruction.Instruction.{Instruction as LowInstruction}
use Rattle.op_meaning.specs.Calls.{caller_of}
use Rattle.op_meaning.specs.Items.{Receiver, nowhere, to_temp, to_place}
use Rattle.op_meaning.specs.Values.{Value, Holder, local, temporary, Place, number_in}
use Rattle.op_mir.specs.Machine.{MirState}
use Rattle.op_mir.specs.View.{view_receiver}
use Rattle.op_mir.specs.declared.instruction.Call.{Call as Operands}
use Rattle.op_mir.specs.declared.instruction.Instruction.TheVariants.{Call}
use Rattle.op_mir.specs.declared.instruction.Instruction.{Instruction}
use Rattle.op_mir.specs.declared.instruction.Receiver.{Receiver as DeclaredReceiver}
use Rattle.op_agreement.proofs.Cases.{behind_act}
use Rattle.op_agreement.proofs.Charging.{room_for}
use Rattle.op_agreement.proofs.Computing.{rest_above, rest_below, rest_stands}
use Rattle.op_agreement.proofs.Standing.{Next, SameVariables, Temporaries, here, kept_registers}
use Rattle.op_agreement.proofs.Updating.{SameFloors, Unchanged, activation_moved, at_moved, callers_moved}
use Rattle.op_agreement.specs.Chart.{Floor}
use Rattle.op_agreement.specs.Fitting.{IsFitting}
use Rattle.op_agreement.specs.Handing.{Begins}
use Rattle.op_agreement.specs.Settings.{Setting, managed}
use Rattle.op_agreement.specs.Stands.{ActivationStands, CallersStand, Position, ResultGoes}

-- ---- what a routine that begins leaves as it was

-- variables, and what variable parameters stand for, of all activations up to a depth
pub record SameUpTo (depth : ℕ) (values new_values : Holder → Value) (bound new_bound : ℕ → ℕ → Place) : Type 0 where
  pub variables : (d v : ℕ) → d ≤ depth → new_values (local d v) ≡ values (local d v)
  pub places : (d v : ℕ) → d ≤ depth → new_bound d v ≡ bound d v

-- ---- the caller waits

-- the result goes where it did
result_waits : (g : Setting) (old new : ℕ → Floor) (d : ℕ) → SameFloors old new d → (declared : DeclaredReceiver) (receiver : Receiver) (c : Caller) (address : ℕ) → ResultGoes g old d declared receiver c address → ResultGoes g new d declared receiver c address
result_waits g old new d same declared nowhere c address goes = tt
result_waits g old new d same declared (to_temp t) c address goes = subst (λ (f : Floor). t < f.routine.temporaries) (sym (same d (omega arith))) goes
result_waits g old new d same declared (to_place of path) c address (n, is, at_, small) = (n, is, at_moved g old new d same (record { holder = temporary d of n; path = [] }) of address at_, small)

module _ (g : Setting) (fit : IsFitting g) (m : MirState) (l : State) (floors : ℕ → Floor) (callee : RoutineId) (call : Operands) (js : List Instruction) (next : Next g m l floors (Call callee call) js) (b : Begins g m l floors callee.0 call (rest_below g m l floors (Call callee call) js next)) where
  abbrev rest : List LowInstruction
  rest = rest_below g m l floors (Call callee call) js next

  -- the activation of the caller, as it waits
  abbrev pub waiting : Activation
  waiting = record l.top { registers = b.registers; now = rest_below g m l floors (Call callee call) js next }

  -- the caller goes on behind the call
  pub waiting_position : Position g (here m floors) (rest_above g m l floors (Call callee call) js next) (rest_below g m l floors (Call callee call) js next)
  waiting_position = rest_stands g m l floors (Call callee call) js next (behind_act next.on)

  -- its activation stands as it did, with other scratch registers
  pub waiting_stands : ActivationStands g floors (length m.callers) m.world.memory m.world.bound m.world.temps m.routine waiting l.limit l.room m.charged
  waiting_stands =
      let a = next.stays.activation in
      let fits = a.floor.fits in
      let behind = fits.behind in
      let scratch = fits.scratch in
      let zeroth : b.registers 0 ≡ l.top.registers 0 = b.kept 0 (omega arith) in
      let same : SameVariables (here m floors) l.top.registers b.registers = λ r low. b.kept r (omega arith) in
      let are : Temporaries (here m floors) m.world.temps b.registers = λ t low. subst (λ x. IsWordOf x (m.world.temps t)) (sym (b.kept ((here m floors).frame.bank.temporaries + t) (omega arith))) (a.kept.temporaries t low) in
      record {
        floor = a.floor;
        number = a.number;
        same = a.same;
        kept = kept_registers g floors (length m.callers) m.world.memory m.world.bound m.world.temps m.world.temps l.top.registers b.registers fits same are a.kept;
        left = ap (λ x. x + m.charged) zeroth ∙ a.left;
        base = a.base;
        enough = subst (λ x. x + 1024 ≤ l.room) (sym zeroth) a.enough;
        top = a.top;
      }

  -- With floors that are the same up to the present depth, and values that are, the caller and those below it stand as callers of the routine
  -- that begins, whose locals are those of its low code.
  pub caller_waits : (new : ℕ → Floor) (values : Holder → Value) (bound : ℕ → ℕ → Place) → SameFloors floors new (length m.callers) → SameUpTo (length m.callers) m.world.memory values m.world.bound bound → (new (suc (length m.callers))).frame.locals ≡ (routine_of g.low (runtime + callee.0)).locals → CallersStand g new values bound (caller_of (record m { work = rest_above g m l floors (Call callee call) js next }) (view_receiver call.receiver) ∷ m.callers) (record { activation = waiting; to = b.to; landing = None } ∷ l.callers) callee.0 b.result (l.limit + (routine_of g.low (runtime + callee.0)).locals) (l.room - space g.low g.placement (runtime + callee.0)) (m.charged + (managed g).charge callee.0)
  caller_waits new values bound same kept locals =
      let d = length m.callers in
      let a = next.stays.activation in
      let s = next.stays in
      let (x, there) = there_is g.mir.routines callee.0 next.fine.0 in
      let room = room_for g fit callee.0 x next.fine.0 there (l.top.registers 0) m.charged l.room a.left a.enough b.charged in
      let space_there = room.space in
      let low : callee.0 < length g.mir.routines = next.fine.0 in
      let number = fit.program.number in
      let fits = a.floor.fits in
      let behind = fits.behind in
      let scratch = fits.scratch in
      let first : b.registers 1 ≡ l.top.registers 1 = b.kept 1 (omega arith) in
      let unchanged : Unchanged g floors new m.world.memory values m.world.bound bound d = record {
        floors = same;
        variables = λ e v r less is home. kept.variables e v (omega arith);
        places = λ e v less is. kept.places e v (omega arith);
      } in
      let floor_same : floors d ≡ new d = sym (same d (omega arith)) in
      let goes : ResultGoes g new d call.receiver (view_receiver call.receiver) (record { activation = waiting; to = b.to; landing = None }) b.result =
      result_waits g floors new d same call.receiver (view_receiver call.receiver) (record { activation = waiting; to = b.to; landing = None }) b.result b.receives in
      inl (
        l.limit,
        m.charged,
        l.room,
        call.receiver,
        omega arith,
        refl,
        ap (λ n. l.limit + n) (sym locals),
        omega arith,
        next.frames,
        refl,
        subst (λ (f : Floor). b.to ≡ receiver_of f.frame call.receiver (scratch_of f.frame.bank 0)) floor_same b.gets,
        next.fine.3.receives,
        goes,
        s.plain.waiting,
        s.plain.made,
        subst (λ f. Position g f (rest_above g m l floors (Call callee call) js next) rest) floor_same waiting_position,
        activation_moved g floors new m.world.memory values m.world.bound bound d same (λ v r is home. kept.variables d v (omega arith)) (λ v is. kept.places d v (omega arith)) m.world.temps m.routine waiting l.limit l.room m.charged waiting_stands,
        subst (λ address. CallersStand g new values bound m.callers l.callers m.routine address l.limit l.room m.charged) (sym first)
            (callers_moved g floors new m.world.memory values m.world.bound bound m.callers l.callers m.routine (l.top.registers result_address.0) l.limit l.room m.charged unchanged s.callers),
      )
