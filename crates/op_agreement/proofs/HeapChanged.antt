-- A step of the heap: memory changes only where the heap's own bytes are, and then has another heap. All else that stands is said again of that one.
use Rattle.std.proofs.Common.{◌≡◌, ◌≤◌, ◌<◌, ◌⊎◌, inl, inr, ℕ, ℤ, ◌+◌, ◌^◌, true, false, List, [], ◌∷◌, length, refl, sym, ap, ◌∙◌, subst, arith}
use Rattle.op_compute.specs.Straight.{at}
use Rattle.op_constants.proofs.Lying.{kept}
use Rattle.op_constants.proofs.TypesArranged.{type_is_arranged}
use Rattle.op_constants.specs.Lies.{Lies, arrangement_of}
use Rattle.op_constants.specs.Offsets.{size_in}
use Rattle.op_core.specs.declared.ids.TypeId.{TypeId}
use Rattle.op_expand.specs.Calls.{result_address}
use Rattle.op_heap.specs.Heap.{Heap}
use Rattle.op_low.specs.State.{Activation, Caller, State}
use Rattle.op_low.specs.declared.instruction.Instruction.{Instruction as LowInstruction}
use Rattle.op_meaning.specs.Items.{Receiver, nowhere, to_place, to_temp}
use Rattle.op_meaning.specs.Values.{Holder, Place, Value, global, local, object, temporary}
use Rattle.op_mir.specs.Code.{Instr}
use Rattle.op_mir.specs.Machine.{MirCaller, MirState}
use Rattle.op_mir.specs.declared.instruction.Receiver.{Receiver as DeclaredReceiver}
use Rattle.op_agreement.proofs.Charting.{live_stands, owned_apart}
use Rattle.op_agreement.proofs.Counting.{count_kept}
use Rattle.op_agreement.proofs.Standing.{SameVariables, Temporaries, here, kept_registers}
use Rattle.op_agreement.proofs.Updating.{floors_here, limit_here}
use Rattle.op_agreement.specs.Chart.{AllLie, Floor, IsAt, Live, address_of, type_held}
use Rattle.op_agreement.specs.Fitting.{HasHeap, IsFitting, IsOwned}
use Rattle.op_agreement.specs.Settings.{Setting, due_address}
use Rattle.op_agreement.specs.Stands.{ActivationStands, CallersStand, ClosingWaits, IsFixed, IsFloor, Position, ResultGoes, Stays}

-- ---- what says nothing of the heap

module _ (g : Setting) (h : Heap) (kinds : ℕ → ℕ) where
  abbrev pub with_heap : Setting
  with_heap = record g { heap = h; kinds = kinds }

  at_on : (floors : ℕ → Floor) (d : ℕ) (q : Place) (of : TypeId) (a : ℕ) → IsAt g floors d q of a → IsAt with_heap floors d q of a
  at_on floors d q of a is = record { live = is.live; distance = is.distance; leads = is.leads; at = subst (λ b. (size_in g.core of ≡ 0) ⊎ (a ≡ b + is.distance)) (same_address q.holder) is.at }
    where
      same_address : (holder : Holder) → address_of g floors holder ≡ address_of with_heap floors holder
      same_address (global v) = refl
      same_address (local e v) = refl
      same_address (temporary e of n) = refl
      same_address (object name) = refl

  floor_on : (f : Floor) → IsFloor g f → IsFloor with_heap f
  floor_on f is = record {
    found = is.found;
    charge = is.charge;
    framed = is.framed;
    fits = is.fits;
    expanded = record {
      exists = is.expanded.exists;
      parameters = is.expanded.parameters;
      locals = is.expanded.locals;
      blocks = λ k block found. let b = is.expanded.blocks k block found in record { literals = b.literals; code = b.code };
      errors = is.expanded.errors;
    };
  }

  position_on : (f : Floor) (rest : List Instr) (now : List LowInstruction) → Position g f rest now → Position with_heap f rest now
  position_on f rest now p = record { is = p.is; above = p.above; below = p.below; literals = p.literals; fine = p.fine; homes = p.homes }

  module _ (floors : ℕ → Floor) (values : Holder → Value) (bound : ℕ → ℕ → Place) where
    activation_on : (d : ℕ) (temps : ℕ → ℤ) (routine : ℕ) (a : Activation) (limit room charged : ℕ) → ActivationStands g floors d values bound temps routine a limit room charged → ActivationStands with_heap floors d values bound temps routine a limit room charged
    activation_on d temps routine a limit room charged is = record {
      floor = floor_on (floors d) is.floor;
      number = is.number;
      same = is.same;
      kept = record { variables = is.kept.variables; references = λ v known. at_on floors d (bound d v) _ _ (is.kept.references v known); words = is.kept.words; temporaries = is.kept.temporaries };
      left = is.left;
      base = is.base;
      enough = is.enough;
      top = is.top;
    }

    result_on : (d : ℕ) (declared : DeclaredReceiver) (to : Receiver) (c : Caller) (address : ℕ) → ResultGoes g floors d declared to c address → ResultGoes with_heap floors d declared to c address
    result_on d declared nowhere c address is = is
    result_on d declared (to_temp t) c address is = is
    result_on d declared (to_place of path) c address (n, path_is, at_, low) = (n, path_is, at_on floors d (record { holder = temporary d of n; path = [] }) of address at_, low)

    callers_on : (cs : List MirCaller) (ls : List Caller) (number address limit room charged : ℕ) → CallersStand g floors values bound cs ls number address limit room charged → CallersStand with_heap floors values bound cs ls number address limit room charged
    callers_on [] [] number address limit room charged s = s
    callers_on [] (l ∷ ls) number address limit room charged s = absurd s
    callers_on (c ∷ cs) [] number address limit room charged s = absurd s
    callers_on (c ∷ cs) (l ∷ ls) number address limit room charged (inl (below, under, spare, declared, low, charge, at_, more, frames, receiver, to, typed, result, waiting, made, position, activation, callers)) =
        inl (
          below,
          under,
          spare,
          declared,
          low,
          charge,
          at_,
          more,
          frames,
          receiver,
          to,
          typed,
          result_on (length cs) declared c.receiver l address result,
          waiting,
          made,
          position_on (floors (length cs)) c.work l.activation.now position,
          activation_on (length cs) c.temps c.routine l.activation below spare under activation,
          callers_on cs ls c.routine (l.activation.registers result_address.0) below spare under callers,
        )
    callers_on (c ∷ cs) (l ∷ ls) number address limit room charged (inr (below, under, spare, status, a, ended, others, are, charge, at_, more, w, activation, callers)) =
        inr (
          below,
          under,
          spare,
          status,
          a,
          ended,
          others,
          are,
          charge,
          at_,
          more,
          record { some = w.some; low = w.low; frames = w.frames; receiver = w.receiver; result = w.result; waiting = w.waiting; made = w.made; same = w.same; now = w.now; left = w.left; told = w.told; to = w.to },
          activation_on (length cs) c.temps c.routine a below spare under activation,
          callers_on cs others c.routine (a.registers result_address.0) below spare under callers,
        )

-- ---- the one law

module _ (g : Setting) (fit : IsFitting g) (floors : ℕ → Floor) (m : MirState) (l : State) (s : Stays g floors m l) (memory : ℕ → ℕ)
    (changed : (x : ℕ) → x < l.limit → (IsOwned g x → ⊥) → memory x ≡ l.memory x) (writable : (x : ℕ) → IsOwned g x → g.placement.rights.writable x ≡ true) (h : Heap) (kinds : ℕ → ℕ) where
  above_bottom : g.bottom ≤ l.limit
  above_bottom = let bottom = (floors_here g fit floors m l s).lowest (length m.callers) (omega arith) in let last = (floors_here g fit floors m l s).last in omega arith

  -- values lie apart from the heap's bytes
  lie_owned : AllLie (with_heap g h kinds) floors (length m.callers) m.world.memory memory
  lie_owned holder live = by holder live
    where
      same : (holder : Holder) → Live g.core floors (length m.callers) holder → Lies (arrangement_of g.core (type_held g.core floors holder)) (m.world.memory holder) memory (address_of g floors holder)
      same holder live =
          let stands = live_stands g fit floors (length m.callers) l.limit (floors_here g fit floors m l s) (limit_here g fit floors m l s) holder live in
          let whole = type_is_arranged g.core fit.program.extents (type_held g.core floors holder) stands.small in
          let size = whole.size in
          let below = stands.below in
          kept (arrangement_of g.core (type_held g.core floors holder)) (m.world.memory holder) l.memory memory (address_of g floors holder) whole.arranged
          (λ x from to. changed x (omega arith) (λ owned. far x from (omega arith) (owned_apart g fit floors (length m.callers) l.limit (floors_here g fit floors m l s) (limit_here g fit floors m l s) x owned holder live)))
          (s.lie holder live)
        where
          far : (x : ℕ) → address_of g floors holder ≤ x → x < address_of g floors holder + size_in g.core (type_held g.core floors holder) → (x < address_of g floors holder) ⊎ (address_of g floors holder + size_in g.core (type_held g.core floors holder) ≤ x) → ⊥
          far x from to (inl before) = omega arith
          far x from to (inr behind) = omega arith

      by : (holder : Holder) → Live g.core floors (length m.callers) holder → Lies (arrangement_of g.core (type_held g.core floors holder)) (m.world.memory holder) memory (address_of (with_heap g h kinds) floors holder)
      by (global v) live = same (global v) live
      by (local d v) live = same (local d v) live
      by (temporary d of n) live = same (temporary d of n) live
      by (object name) live = absurd live

  fixed_owned : IsFixed (with_heap g h kinds) memory
  fixed_owned x low fixed =
      let above = above_bottom in
      changed x (omega arith) (λ owned. let clash : true ≡ false = sym (writable x owned) ∙ fixed in absurd cc) ∙ s.fixed x low fixed

  -- all stands still beside the new heap
  pub stays_heaped : HasHeap (with_heap g h kinds) memory → ((x : ℕ) → x < l.limit → memory x < 2 ^ 8) → (rest : List Instr) (f : ℕ → ℕ) (now : List LowInstruction) → SameVariables (here m floors) l.top.registers f → Temporaries (here m floors) m.world.temps f → Stays (with_heap g h kinds) floors (record m { work = rest }) (record (at l f now) { memory = memory })
  stays_heaped lies bytes rest f now same are =
      let a = s.activation in
      let behind = a.floor.fits.behind in
      let zeroth : f 0 ≡ l.top.registers 0 = same 0 (omega arith) in
      let first : f 1 ≡ l.top.registers 1 = same 1 (omega arith) in
      record {
        running = refl;
        plain = s.plain;
        pending = s.pending;
        due =
            (let below = fit.placed.due.below in
            let above = above_bottom in
            count_kept g fit (length m.pending) l.memory memory (λ x from to. changed x (omega arith) (λ owned. apart x from to owned.due)) s.due);
        depth = s.depth;
        activation = activation_on g h kinds floors m.world.memory m.world.bound (length m.callers) m.world.temps m.routine (at l f now).top l.limit l.room m.charged (record {
          floor = a.floor;
          number = a.number;
          same = a.same;
          kept = kept_registers g floors (length m.callers) m.world.memory m.world.bound m.world.temps m.world.temps l.top.registers f a.floor.fits same are a.kept;
          left = ap (λ x. x + m.charged) zeroth ∙ a.left;
          base = a.base;
          enough = subst (λ x. x + 1024 ≤ l.room) (sym zeroth) a.enough;
          top = a.top;
        });
        callers = callers_on g h kinds floors m.world.memory m.world.bound m.callers l.callers m.routine (f 1) l.limit l.room m.charged
            (subst (λ x. CallersStand g floors m.world.memory m.world.bound m.callers l.callers m.routine x l.limit l.room m.charged) (sym first) s.callers);
        lie = lie_owned;
        fixed = fixed_owned;
        heap = lies;
        bytes = bytes;
        output = s.output;
        errors = s.errors;
        input = s.input;
      }
    where
      apart : (x : ℕ) → due_address g ≤ x → x < due_address g + 4 → (x < due_address g) ⊎ (due_address g + 4 ≤ x) → ⊥
      apart x from to (inl before) = omega arith
      apart x from to (inr behind) = omega arith
