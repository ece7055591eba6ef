-- A call has handed over its arguments: the routine begins, and states stand for one another again.
use Rattle.std.proofs.Common.{◌≡◌, ◌≤◌, ◌<◌, ℕ, suc, ◌+◌, ◌-◌, List, [], ◌∷◌, length, Some, None, refl, sym, ap, ◌∙◌, subst, arith, ◌*◌, ap₂, ◌⊎◌, inl, inr}
use Rattle.std.specs.Prelude.{map, true, false, nat_eq, slice_get, if◌then◌else◌, nat_lt}
use Rattle.std.proofs.lemmas.Bool.Decides.{nat_tests}
use Rattle.std.proofs.lemmas.List.Sums.{sum_by-cons}
use Rattle.std.specs.List.{sum_by}
use Rattle.op_agreement.proofs.Charging.{call_is, goes_in_with}
use Rattle.op_constants.specs.Offsets.{size_in}
use Rattle.op_constants.specs.Shapes.{is_composite}
use Rattle.op_core.proofs.Rows.{there_is}
use Rattle.op_expand.specs.Calls.{runtime}
use Rattle.op_places.specs.Frames.{frame_of}
use Rattle.op_expand.specs.Routines.{most_charge}
use Rattle.op_low.specs.State.{Caller, State, routine_of, space}
use Rattle.op_meaning.specs.Calls.{caller_of, entered, all_handed}
use Rattle.op_meaning.specs.Values.{Value, Holder, Place, local}
use Rattle.op_meaning.specs.World.{World}
use Rattle.op_mir.specs.Machine.{MirCaller, MirState, block_at, execute, mir_step, tables, charge_between, mir_cost, mir_effort, code_rules}
use Rattle.op_mir.specs.View.{routine_at, view_given, view_receiver}
use Rattle.op_mir.specs.declared.code.Routine.{Routine}
use Rattle.op_core.specs.declared.ids.RoutineId.{RoutineId}
use Rattle.op_core.specs.declared.program.Core.{Core}
use Rattle.op_core.specs.declared.routine.Variable.{Variable}
use Rattle.op_meaning.specs.Costs.{given_bytes}
use Rattle.op_meaning.specs.Frames.{fails}
use Rattle.op_meaning.specs.Shapes.{shape_of}
use Rattle.op_mir.specs.declared.instruction.Call.{Call as Operands}
use Rattle.op_mir.specs.declared.instruction.Given.{Given}
use Rattle.op_mir.specs.declared.instruction.Given.TheVariants.{ByValue, ByPlace, ByCopy}
use Rattle.op_mir.specs.declared.instruction.Instruction.TheVariants.{Call}
use Rattle.op_mir.specs.declared.instruction.Instruction.{Instruction}
use Rattle.op_agreement.proofs.Branching.{step_here}
use Rattle.op_agreement.proofs.Calling.{few_given, given_paid}
use Rattle.op_agreement.proofs.Computing.{rest_above, rest_below}
use Rattle.op_agreement.proofs.Entering.{Enters, entered_is, world_begun, charge_in}
use Rattle.op_agreement.proofs.Going.{goes_then, goes_within}
use Rattle.op_agreement.proofs.Pricing.{bytes_are, charged, cost_is}
use Rattle.op_agreement.proofs.Standing.{Next, here}
use Rattle.op_agreement.proofs.Prologue.{begun_stands}
use Rattle.op_agreement.proofs.Receiving.{Receives, copied_bytes, receive_most}
use Rattle.op_agreement.proofs.Updating.{SameFloors}
use Rattle.op_agreement.specs.Chart.{Floor}
use Rattle.op_agreement.specs.Fitting.{IsFitting}
use Rattle.op_agreement.specs.Handing.{Begins, begun_below, begins_most, bytes_given}
use Rattle.op_agreement.specs.Settings.{Setting, managed}
use Rattle.op_agreement.specs.Stands.{CallersStand, IsFloor, Stands}
use Rattle.op_agreement.specs.Steps.{Comes, most_for_one}
use Rattle.op_agreement.specs.Typed.{AreTypedGiven, IsTypedGiven, parameter_rows}

-- ---- what is received has been given

row_costs : (core : Core) (r : ℕ) (x : Given) (p : Variable) → IsTypedGiven core r (view_given x) p → copied_bytes core p ≤ given_bytes core (view_given x)
row_costs core r (ByValue kind t) p (value, shape) = let none : copied_bytes core p ≡ 0 = ap₂ (λ a b. if a then 0 else if is_composite b then size_in core p.of else 0) value shape in omega arith
row_costs core r (ByPlace path) p (reference, typed) = let none : copied_bytes core p ≡ 0 = ap (λ a. if a then 0 else if is_composite (shape_of core p.of) then size_in core p.of else 0) reference in omega arith
row_costs core r (ByCopy of path) p (value, same, shape, typed) =
    let all : copied_bytes core p ≡ size_in core of = ap₂ (λ a b. if a then 0 else if is_composite b then size_in core p.of else 0) value (ap (shape_of core) same ∙ shape) ∙ ap (size_in core) same in
    omega arith

rows_cost : (core : Core) (r : ℕ) (xs : List Given) (ps : List Variable) → AreTypedGiven core r (map view_given xs) ps → sum_by (receive_most core) ps ≤ 195 * length xs + 6 * sum_by (given_bytes core) (map view_given xs)
rows_cost core r [] [] typed = omega arith
rows_cost core r [] (p ∷ ps) typed = absurd typed
rows_cost core r (x ∷ xs) [] typed = absurd typed
rows_cost core r (x ∷ xs) (p ∷ ps) (typed, others) =
    let received = sum_by-cons (receive_most core) p ps in
    let given = sum_by-cons (given_bytes core) (view_given x) (map view_given xs) in
    let one = row_costs core r x p typed in
    let more = rows_cost core r xs ps others in
    omega arith

-- ---- one floor more

-- the floor of the activation with so many below it is this one
abbrev pub with_floor : (ℕ → Floor) → ℕ → Floor → ℕ → Floor
with_floor floors depth f d = if nat_eq d depth then f else floors d

-- there it is
pub floor_there : (floors : ℕ → Floor) (depth : ℕ) (f : Floor) → with_floor floors depth f depth ≡ f
floor_there floors depth f = let t : nat_eq depth depth ≡ true = grind (arith, nat_tests) in ap (λ b. if b then f else floors depth) t

-- and below floors are the same
pub floors_below : (floors : ℕ → Floor) (depth : ℕ) (f : Floor) → SameFloors floors (with_floor floors (suc depth) f) depth
floors_below floors depth f d low = let t : nat_eq d (suc depth) ≡ false = grind (arith, nat_tests) in ap (λ b. if b then f else floors d) t

module _ (g : Setting) (fit : IsFitting g) (m : MirState) (l : State) (floors : ℕ → Floor) (callee : RoutineId) (call : Operands) (is : List Instruction) (next : Next g m l floors (Call callee call) is) (b : Begins g m l floors callee.0 call (rest_below g m l floors (Call callee call) is next)) where
  -- the caller above, and the one below
  abbrev pub caller_above : MirCaller
  caller_above = caller_of (record m { work = rest_above g m l floors (Call callee call) is next }) (view_receiver call.receiver)

  abbrev pub caller_below : Caller
  caller_below = record { activation = record l.top { registers = b.registers; now = rest_below g m l floors (Call callee call) is next }; to = b.to; landing = None }

  -- With floors that are the same up to the present depth, and values that are, the caller and those below it stand as callers of the routine
  -- that begins.
  abbrev pub CallerWaits : Type 0
  CallerWaits =
      (new : ℕ → Floor) (values : Holder → Value) (bound : ℕ → ℕ → Place)
      → SameFloors floors new (length m.callers)
      → ((d v : ℕ) → d ≤ length m.callers → values (local d v) ≡ m.world.memory (local d v))
      → ((d v : ℕ) → d ≤ length m.callers → bound d v ≡ m.world.bound d v)
      → (new (suc (length m.callers))).frame.locals ≡ (routine_of g.low (runtime + callee.0)).locals
      → CallersStand g new values bound (caller_above ∷ m.callers) (caller_below ∷ l.callers) callee.0 b.result (l.limit + (routine_of g.low (runtime + callee.0)).locals) (l.room - space g.low g.placement (runtime + callee.0)) (m.charged + (managed g).charge callee.0)

  -- ---- what managed code does

  -- the state in which the routine begins
  abbrev pub begun_above : MirState
  begun_above = record {
    world = world_begun g.core callee.0 (suc (length m.callers)) b.given m.world;
    routine = callee.0;
    work = block_at ((managed g).blocks callee.0) 0;
    frames = [];
    callers = caller_above ∷ m.callers;
    pending = m.pending;
    charged = m.charged + (managed g).charge callee.0;
    counts = tt;
  }

  abbrev begun_in : World → MirState
  begun_in w = record begun_above { world = w }

  -- it is the next one
  pub begun_step : mir_step (managed g) m ≡ begun_above
  unfolding execute
  begun_step =
      let behind = record m { work = rest_above g m l floors (Call callee call) is next } in
      step_here g fit m l floors (Call callee call) is next
      ∙ call_is (managed g) fit.program.outs callee.0 (view_receiver call.receiver) (all_handed m.world (map view_given call.given)) behind
      ∙ ap (λ o. goes_in_with (managed g) callee.0 (view_receiver call.receiver) o behind) b.handed
      ∙ ap (λ t. if t then fails (tables (managed g)) 202 behind else begun_in (entered (tables (managed g)) callee.0 b.given m.world)) b.charged
      ∙ ap begun_in (entered_is g.core (tables (managed g)) refl callee.0 b.given m.world ∙ ap (λ d. world_begun g.core callee.0 (suc d) b.given m.world) next.stays.depth)

  -- ---- the floor of the routine

  module _ (x : Routine) (there : slice_get g.mir.routines callee.0 ≡ Some x) where
    -- the routine is there
    found : routine_at g.mir callee.0 ≡ Some x
    found =
        let low : callee.0 < length g.mir.routines = next.fine.0 in
        let t : nat_eq callee.0 (length g.mir.routines) ≡ false = grind (arith, nat_tests) in
        ap (λ b. if b then Some g.mir.program else slice_get g.mir.routines callee.0) t ∙ there

    -- the stack has room for its charge
    within : m.charged + (managed g).charge callee.0 ≤ g.stack
    within = let t = b.charged in grind (arith, nat_tests)

    -- so it is charged no more than any stack has
    charge_small : x.charge ≤ most_charge
    charge_small =
        let room = within in
        let most = fit.program.stack in
        let charge : (managed g).charge callee.0 ≡ x.charge = ap charge_in found in
        omega arith

    abbrev floor_new : Floor
    floor_new = record { number = callee.0; routine = x; frame = frame_of g.core callee.0 x; base = l.limit }

    -- and its floor stands
    floor_stands : IsFloor g floor_new
    floor_stands =
        let fits = fit.routines callee.0 x found charge_small in
        record { found = found; charge = charge_small; framed = refl; fits = fits.frame; expanded = fits.expanded }

    -- the floors with its own
    abbrev floors_new : ℕ → Floor
    floors_new = with_floor floors (suc (length m.callers)) floor_new

    there_new : floors_new (suc (length m.callers)) ≡ floor_new
    there_new = floor_there floors (suc (length m.callers)) floor_new

    -- low code has come to where it begins
    enters : CallerWaits → Enters g m l floors floors_new callee.0 b.given caller_above (caller_below ∷ l.callers) l.room (b.registers 0 - (managed g).charge callee.0) b.result b.words
    enters waits =
        let s = next.stays in
        let a = s.activation in
        let fits = a.floor.fits in
        let behind = fits.behind in
        let scratch = fits.scratch in
        let zeroth : b.registers 0 ≡ l.top.registers 0 = b.kept 0 (omega arith) in
        let left = a.left in
        let enough = a.enough in
        let room = within in
        let charge : (managed g).charge callee.0 ≡ x.charge = ap charge_in found in
        let takes : space g.low g.placement (runtime + callee.0) ≤ x.charge = (fit.routines callee.0 x found charge_small).space next.fine.0 in
        let same = floors_below floors (length m.callers) floor_new in
        record {
          stays = s;
          exists = next.fine.0;
          are = b.are;
          left = omega arith;
          same = same;
          number = ap (λ f. f.number) there_new;
          base = ap (λ f. f.base) there_new;
          floor = subst (IsFloor g) (sym there_new) floor_stands;
          enough = omega arith;
          top = a.top;
          waits = λ values bound variables places. waits floors_new values bound same variables places (ap (λ f. f.frame.locals) there_new ∙ sym floor_stands.expanded.locals);
        }

    -- what the call costs at least
    call_costs : 1 + bytes_given g call + charged g fit m l floors (Call callee call) is next + (managed g).charge callee.0 ≤ mir_cost (managed g) m
    call_costs =
        let deeper : nat_lt (length m.callers) (length (caller_above ∷ m.callers)) ≡ true = grind (arith, nat_tests) in
        let entered : charge_between (managed g).charge (length m.callers) callee.0 (length (caller_above ∷ m.callers)) ≡ (managed g).charge callee.0 = ap (λ b. if b then (managed g).charge callee.0 else 0) deeper in
        let cost : mir_cost (managed g) m ≡ mir_effort (managed g) m begun_above = cost_is g fit m l floors (Call callee call) is next ∙ ap (mir_effort (managed g) m) begun_step in
        let bytes = bytes_are g fit m l floors (Call callee call) is next in
        omega arith

    -- all that it costs low code is paid by that
    begun_costs : begins_most g callee.0 call + sum_by (receive_most g.core) (parameter_rows g.core (floors_new (suc (length m.callers))).number) ≤ most_for_one * mir_cost (managed g) m
    begun_costs = by (given_paid g fit m l floors callee call is next)
      where
        by : (length call.given ≡ 0) ⊎ (256 ≤ charged g fit m l floors (Call callee call) is next) → begins_most g callee.0 call + sum_by (receive_most g.core) (parameter_rows g.core (floors_new (suc (length m.callers))).number) ≤ most_for_one * mir_cost (managed g) m
        by paid =
            let rows : sum_by (receive_most g.core) (parameter_rows g.core (floors_new (suc (length m.callers))).number) ≡ sum_by (receive_most g.core) (parameter_rows g.core callee.0) = ap (λ (f : Floor). sum_by (receive_most g.core) (parameter_rows g.core f.number)) there_new in
            let received = rows_cost g.core (here m floors).number call.given (parameter_rows g.core callee.0) next.fine.3.gives in
            let fits = fit.routines callee.0 x found charge_small in
            let low : callee.0 < length g.mir.routines = next.fine.0 in
            let takes = fits.space low in
            let some = fits.charged low in
            let charge : (managed g).charge callee.0 ≡ x.charge = ap charge_in found in
            let cost = call_costs in
            let few = few_given g fit m l floors callee call is next in
            either paid (begins_most g callee.0 call + sum_by (receive_most g.core) (parameter_rows g.core (floors_new (suc (length m.callers))).number)) (length call.given) (bytes_given g call) (charged g fit m l floors (Call callee call) is next) x.charge (mir_cost (managed g) m) (omega arith) few some (omega arith) refl refl
          where
            either : (length call.given ≡ 0) ⊎ (256 ≤ charged g fit m l floors (Call callee call) is next) → (n many bytes under entered cost : ℕ) → n ≤ 9 + 199 * many + 8 * bytes + entered → many ≤ 64 → 256 ≤ entered → 1 + bytes + under + entered ≤ cost → (many ≡ length call.given) → (under ≡ charged g fit m l floors (Call callee call) is next) → n ≤ most_for_one * cost
            either (inl none) n many bytes under entered cost most few some paid same own = omega arith
            either (inr more) n many bytes under entered cost most few some paid same own = omega arith

    -- and goes on to behind its parameters
    comes_by : CallerWaits → Comes g m l
    comes_by waits =
        let first = b.registers 0 - (managed g).charge callee.0 in
        let begun = begun_below g callee.0 b.registers (rest_below g m l floors (Call callee call) is next) b.to (first ∷ b.result ∷ b.words) l in
        let receives : Receives g (Stands g begun_above) (sum_by (receive_most g.core) (parameter_rows g.core (floors_new (suc (length m.callers))).number)) begun = begun_stands g fit m l floors floors_new callee.0 b.given caller_above (caller_below ∷ l.callers) l.room first b.result b.words (enters waits) next.ending in
        record {
          to = receives.to;
          goes = goes_within g 1 (most_for_one * mir_cost (managed g) m) l receives.to (goes_then g 1 0 1 l begun receives.to (omega arith) b.goes receives.goes) begun_costs;
          stands = subst (λ y. Stands g y receives.to) (sym begun_step) receives.holds;
        }

  -- low code comes to where the routine begins, and behind its parameters states stand for one another again
  pub begins_comes : CallerWaits → Comes g m l
  begins_comes waits = let (x, there) = there_is g.mir.routines callee.0 next.fine.0 in comes_by x there waits
