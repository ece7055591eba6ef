-- A routine begins: low code comes to where its parameters are received, and states stand for one another again.
use Rattle.std.proofs.Common.{◌≡◌, ◌≤◌, ◌<◌, inl, inr, ℕ, suc, ◌+◌, List, [], ◌∷◌, ◌++◌, length, Option, Some, None, refl, sym, ap, ◌∙◌, subst, arith, append_assoc}
use Rattle.std.specs.Prelude.{Bool, true, false, ◌&&◌, nat_eq, nat_le, slice_get, if◌then◌else◌}
use Rattle.std.proofs.Math.Path.{fun_ext}
use Rattle.std.specs.Option.{option_map}
use Rattle.std.proofs.lemmas.Bool.Decides.{nat_tests}
use Rattle.std.proofs.lemmas.Option.{slice_get-map}
use Rattle.std.proofs.lemmas.List.Sums.{sum_by-cons}
use Rattle.std.specs.List.{sum_by}
use Rattle.op_agreement.proofs.Charting.{same_is}
use Rattle.op_agreement.proofs.Entered.{memory_below, stays_begun}
use Rattle.op_agreement.proofs.Entering.{Enters, below_begun, fits_here, is_stored, parameter_is, registers_begun, rows_are, value_held, value_unset, values_at, world_after}
use Rattle.op_agreement.proofs.Going.{goes_none, goes_then, goes_within}
use Rattle.op_agreement.proofs.Parameters.{IsParameter, as_many}
use Rattle.op_agreement.proofs.Placing.{Received, value_other}
use Rattle.op_agreement.proofs.Receiving.{Receives, stored_received, received_by, receive_most}
use Rattle.op_agreement.proofs.Standing.{stands_on}
use Rattle.op_agreement.specs.Chart.{Floor}
use Rattle.op_agreement.specs.Fitting.{IsFitting}
use Rattle.op_agreement.specs.Settings.{HaveHomes, Setting, managed}
use Rattle.op_agreement.specs.Stands.{Position, Stands, Stays}
use Rattle.op_agreement.specs.Typed.{IsVariable, parameter_rows}
use Rattle.op_base.proofs.Lists.{slice_get-take_is}
use Rattle.op_constants.specs.Literals.{literals_of}
use Rattle.op_core.proofs.Rows.{row_of, there_is}
use Rattle.op_core.specs.Rows.{rows}
use Rattle.op_core.specs.declared.ids.TypeId.{TypeId}
use Rattle.op_core.specs.declared.program.Core.{Core}
use Rattle.op_core.specs.declared.routine.Variable.{Variable}
use Rattle.op_expand.specs.Calls.{runtime}
use Rattle.op_meaning.specs.Frames.{Handed}
use Rattle.op_places.specs.Frames.{parameters_of, returning_of}
use Rattle.op_places.specs.Homes.{home_at, parameter}
use Rattle.op_expand.specs.Routines.{all_received, beginning, begun_with_stack, code_of, received}
use Rattle.op_places.specs.declared.frame.Frame.{Frame}
use Rattle.op_places.specs.declared.frame.Returning.{Returning}
use Rattle.op_places.specs.declared.frame.Returning.TheVariants.{Ending, Nothing, Result}
use Rattle.op_places.specs.declared.homes.Home.{Home}
use Rattle.op_places.specs.declared.homes.Home.TheVariants.{Held, Stored as StoredHome, Shared}
use Rattle.op_low.specs.State.{Caller, State, block_of}
use Rattle.op_low.specs.declared.instruction.Instruction.{Instruction as LowInstruction}
use Rattle.op_meaning.specs.Expressions.{result_of}
use Rattle.op_meaning.specs.Shapes.{refers, result_of_routine, type_of_local, variables_of, zero_of}
use Rattle.op_meaning.specs.Values.{Value, Holder, global, local, temporary, object, same_holder}
use Rattle.op_meaning.specs.World.{World, Running as GoingOn}
use Rattle.op_mir.specs.Machine.{MirCaller, MirState, block_at, block_or}
use Rattle.op_mir.specs.View.{view_block, view_routine}
use Rattle.op_rt_text.specs.Names.{register}

-- ---- what stands in front of the first block of a routine

-- by how the routine returns
abbrev begun_by : Core → Frame → ℕ → Returning → List LowInstruction
begun_by core frame r Ending = begun_with_stack core
begun_by core frame r Nothing = all_received core frame 0 (parameter_rows core r)
begun_by core frame r (Result of v) = all_received core frame 0 (parameter_rows core r)

abbrev returning_for : Core → ℕ → Option TypeId → Returning
returning_for core r None = Nothing
returning_for core r (Some of) = Result of (record { 0 = result_of_routine core r })

-- a routine that is not the program itself receives its parameters
front_is : (core : Core) (frame : Frame) (r : ℕ) → r < length core.routines → frame.returning ≡ returning_of core r → beginning core frame r ≡ all_received core frame 0 (parameter_rows core r)
front_is core frame r low returning =
    let t : nat_eq r (length core.routines) ≡ false = grind (arith, nat_tests) in
    ap (begun_by core frame r) (returning ∙ ap (λ b. if b then Ending else returning_for core r (result_of (slice_get core.routines r))) t) ∙ by (result_of (slice_get core.routines r))
  where
    by : (o : Option TypeId) → begun_by core frame r (returning_for core r o) ≡ all_received core frame 0 (parameter_rows core r)
    by None = refl
    by (Some of) = refl

module _ (g : Setting) (fit : IsFitting g) (m : MirState) (l : State) (floors new : ℕ → Floor) (r : ℕ) (given : List Handed) (c : MirCaller) (lcs : List Caller) (room : ℕ) (first result : ℕ) (words : List ℕ) (e : Enters g m l floors new r given c lcs room first result words) where
  abbrev deep : ℕ
  deep = suc (length m.callers)

  abbrev floor_here : Floor
  floor_here = new (suc (length m.callers))

  abbrev world : World
  world = world_after g fit m l floors new r given c lcs room first result words e

  abbrev values : ℕ → Holder → Value
  values = values_at g fit m l floors new r given c lcs room first result words e

  abbrev HasReceived : ℕ → List LowInstruction → State → Type 0
  HasReceived = Received g fit m l floors new r given c lcs room first result words e

  abbrev rows_here : List Variable
  rows_here = parameter_rows g.core floor_here.number

  -- ---- one parameter

  -- one that stays in its register
  values_up : (k : ℕ) → is_stored (home_at floor_here.frame.homes (record { 0 = k })) ≡ false → values k ≡ values (k + 1)
  values_up k held = fun_ext (λ h. by h (same_holder h (local deep k)) refl)
    where
      by : (h : Holder) (b : Bool) → same_holder h (local deep k) ≡ b → values k h ≡ values (k + 1) h
      by h true same = subst (λ x. values k x ≡ values (k + 1) x) (sym (same_is h (local deep k) same)) (value_held g fit m l floors new r given c lcs room first result words e k k held ∙ sym (value_held g fit m l floors new r given c lcs room first result words e (k + 1) k held))
      by h false other = sym (value_other g fit m l floors new r given c lcs room first result words e k h other)

  -- the state of managed code with these values
  abbrev above_with : (Holder → Value) → MirState
  above_with v = record {
    world = record world { memory = v };
    routine = r;
    work = block_at ((managed g).blocks r) 0;
    frames = [];
    callers = c ∷ m.callers;
    pending = m.pending;
    charged = m.charged + (managed g).charge r;
    counts = tt;
  }

  kept_received : (k : ℕ) (code rest : List LowInstruction) (lk : State) → code ≡ [] → is_stored (home_at floor_here.frame.homes (record { 0 = k })) ≡ false → HasReceived k (code ++ rest) lk → Receives g (HasReceived (k + 1) rest) 0 lk
  kept_received k code rest lk none held was = record {
    to = lk;
    goes = goes_none g lk;
    holds = record {
      stays = subst (λ v. Stays g new (above_with v) lk) (values_up k held) was.stays;
      arrived = λ x from to. was.arrived x (omega arith) to;
      below = was.below;
      code = was.code ∙ ap (λ x. x ++ rest) none;
    };
  }

  -- by its home
  one_received : (k : ℕ) (p : Variable) (rest : List LowInstruction) (lk : State) → slice_get rows_here k ≡ Some p → HasReceived k (received g.core floor_here.frame k p ++ rest) lk → Receives g (HasReceived (k + 1) rest) (receive_most g.core p) lk
  one_received k p rest lk found was = by (home_at floor_here.frame.homes (record { 0 = k })) refl
    where
      more_time : Receives g (HasReceived (k + 1) rest) 0 lk → Receives g (HasReceived (k + 1) rest) (receive_most g.core p) lk
      more_time done = record { to = done.to; goes = goes_within g 0 (receive_most g.core p) lk done.to done.goes (omega arith); holds = done.holds }

      by : (home : Home) → home_at floor_here.frame.homes (record { 0 = k }) ≡ home → Receives g (HasReceived (k + 1) rest) (receive_most g.core p) lk
      by (Held q) home = more_time (kept_received k (received g.core floor_here.frame k p) rest lk (ap (received_by g.core floor_here.frame k p) home) (ap is_stored home) was)
      by (Shared id) home = more_time (kept_received k (received g.core floor_here.frame k p) rest lk (ap (received_by g.core floor_here.frame k p) home) (ap is_stored home) was)
      by (StoredHome offset) home =
          let (few, there) = slice_get-take_is (parameters_of g.core floor_here.number) (rows g.core.variables (variables_of g.core floor_here.number)) k p found in
          let (low, row) = row_of g.core.variables (variables_of g.core floor_here.number) k p there in
          handed few low row (parameter_is g fit m l floors new r given c lcs room first result words e k p found)
        where
          handed : k < parameters_of g.core floor_here.number → k < (variables_of g.core floor_here.number).count → slice_get g.core.variables ((variables_of g.core floor_here.number).first + k) ≡ Some p → IsParameter g floors (length m.callers) m.world world deep k p (registers_begun g fit m l floors new r given c lcs room first result words e (parameter k)) → Receives g (HasReceived (k + 1) rest) (receive_most g.core p) lk
          handed few low row (inl (value, is)) = stored_received g fit m l floors new r given c lcs room first result words e k p offset (record { few = few; low = low; row = row; value = value; home = home }) lk rest was is
          handed few low row (inr (reference, at_, small)) =
              let variable : IsVariable g.core floor_here.number k true = (low, ap refers row ∙ reference) in
              let clash : StoredHome offset ≡ Held (register (parameter k)) = sym home ∙ e.floor.fits.references (record { 0 = k }) variable in
              absurd cc

  -- ---- all parameters

  -- those from a number on, one after the other
  all_from : (k : ℕ) (ps : List Variable) → ((j : ℕ) (p : Variable) → slice_get ps j ≡ Some p → slice_get rows_here (k + j) ≡ Some p) → (rest : List LowInstruction) (lk : State) → HasReceived k (all_received g.core floor_here.frame k ps ++ rest) lk → Receives g (HasReceived (k + length ps) rest) (sum_by (receive_most g.core) ps) lk
  all_from k [] found rest lk was = let none : k ≡ k + 0 = omega arith in record { to = lk; goes = goes_none g lk; holds = subst (λ i. HasReceived i rest lk) none was }
  all_from k (p ∷ ps) found rest lk was =
      let one_code = received g.core floor_here.frame k p in
      let more_code = all_received g.core floor_here.frame (k + 1) ps in
      let none : k + 0 ≡ k = omega arith in
      let one = one_received k p (more_code ++ rest) lk (ap (slice_get rows_here) (sym none) ∙ found 0 p refl) (subst (λ x. HasReceived k x lk) (append_assoc one_code more_code rest) was) in
      let more = all_from (k + 1) ps (λ j q is. let at_ : k + 1 + j ≡ k + suc j = omega arith in ap (slice_get rows_here) at_ ∙ found (suc j) q is) rest one.to one.holds in
      let many : k + 1 + length ps ≡ k + suc (length ps) = omega arith in
      record {
        to = more.to;
        goes = goes_within g 0 (sum_by (receive_most g.core) (p ∷ ps)) lk more.to (goes_then g 0 0 0 lk one.to more.to (omega arith) one.goes more.goes) (let sum = sum_by-cons (receive_most g.core) p ps in omega arith);
        holds = subst (λ i. HasReceived i rest more.to) many more.holds;
      }

  -- behind all of them nothing is still to be stored
  values_last : (n : ℕ) → length given ≤ n → values n ≡ world.memory
  values_last n enough = fun_ext same
    where
      differs : (d v : ℕ) (x : Bool) → ((nat_eq d deep && nat_le n v) && x) ≡ true → (d ≡ deep) × (n ≤ v)
      differs d v x is = (first_of (nat_eq d deep) refl, second_of (nat_eq d deep) (nat_le n v) refl is)
        where
          first_of : (b : Bool) → nat_eq d deep ≡ b → d ≡ deep
          first_of true t = grind (arith, nat_tests)
          first_of false t = absurd (clash (subst (λ b. ((b && nat_le n v) && x) ≡ true) t is))
            where
              clash : ((false && nat_le n v) && x) ≡ true → ⊥
              clash is = cc

          second_of : (a b : Bool) → nat_le n v ≡ b → ((a && b) && x) ≡ true → n ≤ v
          second_of a true t is = grind (arith, nat_tests)
          second_of true false t is = absurd cc
          second_of false false t is = absurd cc

      same : (h : Holder) → values n h ≡ world.memory h
      same (global v) = refl
      same (temporary d of k) = refl
      same (object name) = refl
      same (local d v) = by ((nat_eq d deep && nat_le n v) && is_stored (home_at floor_here.frame.homes (record { 0 = v }))) refl
        where
          by : (b : Bool) → ((nat_eq d deep && nat_le n v) && is_stored (home_at floor_here.frame.homes (record { 0 = v }))) ≡ b → (if b then zero_of g.core (type_of_local g.core floor_here.number v) else world.memory (local d v)) ≡ world.memory (local d v)
          by false is = refl
          by true is =
              let (level, high) = differs d v (is_stored (home_at floor_here.frame.homes (record { 0 = v }))) is in
              ap (λ i. zero_of g.core (type_of_local g.core i v)) e.number ∙ sym (value_unset g fit m l floors new r given c lcs room first result words e v (omega arith)) ∙ ap (λ i. world.memory (local i v)) (sym level)

  -- ---- the first block

  -- Behind the parameters both go on at the first block of the routine, and states stand for one another.
  pub begun_stands : m.world.ending ≡ GoingOn → Receives g (Stands g (above_with world.memory)) (sum_by (receive_most g.core) rows_here) (below_begun g fit m l floors new r given c lcs room first result words e)
  begun_stands ending =
      let fits = fits_here g fit m l floors new r given c lcs room first result words e in
      let (block, found) = there_is floor_here.routine.blocks 0 fits.some in
      let stands = e.floor.expanded.blocks 0 block found in
      let rest = code_of g.core g.mir floor_here.frame (literals_of g.core g.mir) block.code in
      let exists = e.exists in
      let many = fit.program.number in
      let number = e.number in
      let begun = below_begun g fit m l floors new r given c lcs room first result words e in
      let front = front_is g.core floor_here.frame floor_here.number (omega arith) e.floor.fits.returning in
      let code : begun.top.now ≡ all_received g.core floor_here.frame 0 rows_here ++ rest = ap (λ n. block_of g.low (runtime + n) 0) (sym number) ∙ stands.code ∙ ap (λ x. x ++ rest) front in
      let start : HasReceived 0 (all_received g.core floor_here.frame 0 rows_here ++ rest) begun = record {
        stays = stays_begun g fit m l floors new r given c lcs room first result words e;
        arrived = λ x from to. refl;
        below = λ x low. memory_below g fit m l floors new r given c lcs room first result words e x low;
        code = code;
      } in
      let all = all_from 0 rows_here (λ j p is. let zeroth : 0 + j ≡ j = omega arith in ap (slice_get rows_here) zeroth ∙ is) rest begun start in
      let few : length given ≡ length rows_here = (as_many g floors (length m.callers) m.world given (parameter_rows g.core r) words e.are).0 ∙ ap length (rows_are g fit m l floors new r given c lcs room first result words e) in
      let position : Position g floor_here (block_at ((managed g).blocks floor_here.number) 0) rest = record {
        is = block.code;
        above =
            ap (λ x. block_at (view_routine g.core floor_here.number x) 0) e.floor.found
            ∙ ap block_or (slice_get-map (view_block g.core floor_here.number) floor_here.routine.blocks 0 ∙ ap (option_map (view_block g.core floor_here.number)) found);
        below = refl;
        literals = stands.literals;
        fine = fits.fine 0 block found;
        homes = subst (λ frame. HaveHomes g.core floor_here.number frame block.code) (sym e.floor.framed) (fits.homes 0 block found);
      } in
      record {
        to = all.to;
        goes = all.goes;
        holds = stands_on g (above_with world.memory) all.to ending refl (record {
          floors = new;
          stays = subst (λ v. Stays g new (above_with v) all.to) (values_last (0 + length rows_here) (omega arith)) all.holds.stays;
          position = subst (λ n. Position g floor_here (block_at ((managed g).blocks n) 0) all.to.top.now) number (subst (Position g floor_here (block_at ((managed g).blocks floor_here.number) 0)) (sym all.holds.code) position);
        });
      }
