-- A routine begins: its floor, its zeros, and what is kept below.
use Rattle.std.proofs.Common.{◌≡◌, ◌≤◌, ◌<◌, ℕ, suc, ◌+◌, ◌-◌, List, [], ◌∷◌, length, Option, Some, None, refl, sym, ap, ap₂, ◌∙◌, subst, arith, replicate, length-take}
use Rattle.std.specs.Prelude.{Bool, true, false, ◌&&◌, nat_eq, nat_le, slice_get, slice_index, if◌then◌else◌}
use Rattle.std.proofs.Math.Bool.{and-false}
use Rattle.std.proofs.lemmas.Bool.Decides.{nat_tests}
use Rattle.std.proofs.lemmas.List.{get_or_past}
use Rattle.op_core.specs.Rows.{rows}
use Rattle.op_core.specs.declared.ids.TypeId.{TypeId}
use Rattle.op_core.specs.declared.program.Core.{Core}
use Rattle.op_core.specs.declared.routine.Variable.{Variable}
use Rattle.op_expand.specs.Calls.{runtime}
use Rattle.op_places.specs.Frames.{parameters_of}
use Rattle.op_places.specs.Homes.{home_at, parameter}
use Rattle.op_places.specs.declared.homes.Home.{Home}
use Rattle.op_places.specs.declared.homes.Home.TheVariants.{Held, Stored, Shared}
use Rattle.op_low.specs.Machine.{entered as entered_low}
use Rattle.op_low.specs.State.{Caller, State, routine_of, space}
use Rattle.op_meaning.specs.Calls.{cleared, entered, given_all, no_temps, none_waiting}
use Rattle.op_meaning.specs.Frames.{Program, Handed}
use Rattle.op_meaning.specs.Shapes.{type_of_local, variables_of, zero_of}
use Rattle.op_meaning.specs.Values.{Value, Holder, global, local, temporary, object, Place}
use Rattle.op_meaning.specs.World.{World}
use Rattle.op_mir.specs.Machine.{MirCaller, MirState, block_at}
use Rattle.op_mir.specs.declared.code.Routine.{Routine}
use Rattle.op_rv.specs.State.{with_bytes}
use Rattle.op_agreement.proofs.Keeping.{take_get}
use Rattle.op_agreement.proofs.Parameters.{IsParameter, as_many, bound_other, first_differs, given_other, given_rest, parameter_stands, second_differs}
use Rattle.op_agreement.proofs.Returning.{live_deeper}
use Rattle.op_agreement.proofs.Updating.{SameFloors, at_moved}
use Rattle.op_agreement.specs.Chart.{Floor, IsAt}
use Rattle.op_agreement.specs.Fitting.{IsFitting, RoutineFits}
use Rattle.op_agreement.specs.Handing.{AreHanded}
use Rattle.op_agreement.specs.Settings.{Setting, managed}
use Rattle.op_agreement.specs.Stands.{CallersStand, IsFloor, Stays}
use Rattle.op_agreement.specs.Typed.{parameter_rows}

-- ---- what managed code has when a routine begins

-- all is zero of the activation with so many below it
abbrev pub world_cleared : Core → (r d : ℕ) → World → World
world_cleared core r d w = record w { temps = no_temps; waiting = none_waiting; made = []; depth = d; memory = cleared core r d w.memory }

-- and its parameters are given
abbrev pub world_begun : Core → (r d : ℕ) → List Handed → World → World
world_begun core r d given w = record w {
  temps = no_temps;
  waiting = none_waiting;
  made = [];
  depth = d;
  memory = (given_all d 0 given (world_cleared core r d w)).memory;
  bound = (given_all d 0 given (world_cleared core r d w)).bound;
}

-- that is what a call enters
pub entered_is : (core : Core) (p : Program) → p.core ≡ core → (r : ℕ) (given : List Handed) (w : World) → entered p r given w ≡ world_begun core r (suc w.depth) given w
entered_is core p same r given w = ap (λ c. given_all (suc w.depth) 0 given (world_cleared c r (suc w.depth) w)) same ∙ given_rest (suc w.depth) 0 given (world_cleared core r (suc w.depth) w)

-- whether it is kept in the locals
abbrev pub is_stored : Home → Bool
is_stored (Stored offset) = true
is_stored (Held r) = false
is_stored (Shared id) = false

-- what is stored of the activation with so many below it is still zero, from the variable of a number on
abbrev pub values_back : Core → Floor → (d k : ℕ) → (Holder → Value) → Holder → Value
values_back core f d k values (local e v) =
    if (nat_eq e d && nat_le k v) && is_stored (home_at f.frame.homes (record { 0 = v })) then zero_of core (type_of_local core f.number v) else values (local e v)
values_back core f d k values (global v) = values (global v)
values_back core f d k values (temporary e of n) = values (temporary e of n)
values_back core f d k values (object name) = values (object name)

-- ---- what is known where a routine has begun: its floor, and its caller's below

-- bytes of locals, bytes of the room, and what is charged for an activation of a routine
abbrev pub locals_of : Setting → ℕ → ℕ
locals_of g r = (routine_of g.low (runtime + r)).locals

abbrev pub space_of : Setting → ℕ → ℕ
space_of g r = space g.low g.placement (runtime + r)

abbrev pub charge_in : Option Routine → ℕ
charge_in None = 0
charge_in (Some routine) = routine.charge

-- callers wait in so much room, whatever the activation above them has
abbrev pub Waits : Setting → MirState → State → (new : ℕ → Floor) → (r : ℕ) → MirCaller → List Caller → (room result : ℕ) → Type 0
Waits g m l new r c lcs room result =
    (values : Holder → Value) (bound : ℕ → ℕ → Place)
    → ((d v : ℕ) → d ≤ length m.callers → values (local d v) ≡ m.world.memory (local d v))
    → ((d v : ℕ) → d ≤ length m.callers → bound d v ≡ m.world.bound d v)
    → CallersStand g new values bound (c ∷ m.callers) lcs r result (l.limit + locals_of g r) (room - space_of g r) (m.charged + (managed g).charge r)

-- Low code has come to where a routine begins, with these arguments, on a floor of its own, and with the charge that its caller had. The state below
-- is the one of the caller; between the two there may be more callers, who take a part of its room.
pub record Enters (g : Setting) (m : MirState) (l : State) (floors new : ℕ → Floor) (r : ℕ) (given : List Handed) (c : MirCaller) (lcs : List Caller) (room : ℕ) (first result : ℕ) (words : List ℕ) : Type 0 where
  pub stays : Stays g floors m l
  pub exists : r < length g.mir.routines
  pub are : AreHanded g floors (length m.callers) m.world given (parameter_rows g.core r) words
  pub left : first + (managed g).charge r ≡ l.top.registers 0
  pub same : SameFloors floors new (length m.callers)
  pub number : (new (suc (length m.callers))).number ≡ r
  pub base : (new (suc (length m.callers))).base ≡ l.limit
  pub floor : IsFloor g (new (suc (length m.callers)))
  pub enough : first + 1024 + space_of g r ≤ room
  pub top : l.limit + room ≤ g.top
  pub waits : Waits g m l new r c lcs room result

module _ (g : Setting) (fit : IsFitting g) (m : MirState) (l : State) (floors new : ℕ → Floor) (r : ℕ) (given : List Handed) (c : MirCaller) (lcs : List Caller) (room : ℕ) (first result : ℕ) (words : List ℕ) (e : Enters g m l floors new r given c lcs room first result words) where
  -- how many activations are below it
  abbrev pub deep : ℕ
  deep = suc (length m.callers)

  -- and its floor
  abbrev pub floor_here : Floor
  floor_here = new (suc (length m.callers))

  -- the world when all parameters are given
  abbrev pub world_after : World
  world_after = world_begun g.core r (suc (length m.callers)) given m.world

  -- the values where parameters from number k on are not stored yet
  abbrev pub values_at : ℕ → Holder → Value
  values_at k = values_back g.core (new (suc (length m.callers))) (suc (length m.callers)) k world_after.memory

  -- and the state of managed code
  abbrev pub above_at : ℕ → MirState
  above_at k = record {
    world = record world_after { memory = values_at k };
    routine = r;
    work = block_at ((managed g).blocks r) 0;
    frames = [];
    callers = c ∷ m.callers;
    pending = m.pending;
    charged = m.charged + (managed g).charge r;
    counts = tt;
  }

  -- low code begins with zeros, and with its arguments in its first registers
  abbrev pub memory_begun : ℕ → ℕ
  memory_begun = with_bytes l.memory l.limit (replicate (locals_of g r) 0)

  abbrev pub registers_begun : ℕ → ℕ
  registers_begun = slice_index (first ∷ result ∷ words)

  abbrev pub below_begun : State
  below_begun = record l {
    top = entered_low g.low (runtime + r) (first ∷ result ∷ words);
    callers = lcs;
    limit = l.limit + locals_of g r;
    room = room - space_of g r;
    memory = memory_begun;
  }

  -- ---- values

  -- global variables, and what activations below have, are as they were
  pub value_global : (k v : ℕ) → values_at k (global v) ≡ m.world.memory (global v)
  value_global k v = given_other deep 0 given (world_cleared g.core r deep m.world) (global v) (λ u from to. refl)

  pub value_below : (k d v : ℕ) → d < deep → values_at k (local d v) ≡ m.world.memory (local d v)
  value_below k d v less =
      let t : nat_eq d deep ≡ false = grind (arith, nat_tests) in
      ap (λ b. if (b && nat_le k v) && is_stored (home_at floor_here.frame.homes (record { 0 = v })) then zero_of g.core (type_of_local g.core floor_here.number v) else world_after.memory (local d v)) t
      ∙ given_other deep 0 given (world_cleared g.core r deep m.world) (local d v) (λ u from to. first_differs d deep v u (λ same. omega arith))
      ∙ ap (λ b. if b then zero_of g.core (type_of_local g.core r v) else m.world.memory (local d v)) t

  -- their temporaries too
  pub value_temporary : (k d : ℕ) (of : TypeId) (n : ℕ) → d < deep → values_at k (temporary d of n) ≡ m.world.memory (temporary d of n)
  value_temporary k d of n less =
      let t : nat_eq d deep ≡ false = grind (arith, nat_tests) in
      given_other deep 0 given (world_cleared g.core r deep m.world) (temporary d of n) (λ u from to. refl) ∙ ap (λ b. if b then zero_of g.core of else m.world.memory (temporary d of n)) t

  -- temporaries of the new activation are zero
  pub zero_temporary : (k : ℕ) (of : TypeId) (n : ℕ) → values_at k (temporary deep of n) ≡ zero_of g.core of
  zero_temporary k of n =
      let t : nat_eq deep deep ≡ true = grind (arith, nat_tests) in
      given_other deep 0 given (world_cleared g.core r deep m.world) (temporary deep of n) (λ u from to. refl) ∙ ap (λ b. if b then zero_of g.core of else m.world.memory (temporary deep of n)) t

  -- by whether a variable is still to be stored
  abbrev picked : ℕ → Bool → Value
  picked v b = if b then zero_of g.core (type_of_local g.core floor_here.number v) else world_after.memory (local deep v)

  -- a variable that is still to be stored is zero
  pub zero_stored : (k v : ℕ) → k ≤ v → is_stored (home_at floor_here.frame.homes (record { 0 = v })) ≡ true → values_at k (local deep v) ≡ zero_of g.core (type_of_local g.core floor_here.number v)
  zero_stored k v low stored =
      let a : nat_eq deep deep ≡ true = grind (arith, nat_tests) in
      let b : nat_le k v ≡ true = grind (arith, nat_tests) in
      ap (picked v) (ap₂ (λ x y. x && y) (ap₂ (λ x y. x && y) a b) stored)

  -- one that is kept in a register has its value
  pub value_held : (k v : ℕ) → is_stored (home_at floor_here.frame.homes (record { 0 = v })) ≡ false → values_at k (local deep v) ≡ world_after.memory (local deep v)
  value_held k v held = ap (picked v) (ap (λ y. (nat_eq deep deep && nat_le k v) && y) held ∙ and-false (nat_eq deep deep && nat_le k v))

  -- and so has one that is stored
  pub value_past : (k v : ℕ) → v < k → values_at k (local deep v) ≡ world_after.memory (local deep v)
  value_past k v low =
      let b : nat_le k v ≡ false = grind (arith, nat_tests) in
      ap (picked v) (ap (λ y. (nat_eq deep deep && y) && is_stored (home_at floor_here.frame.homes (record { 0 = v }))) b ∙ ap (λ y. y && is_stored (home_at floor_here.frame.homes (record { 0 = v }))) (and-false (nat_eq deep deep)))

  -- a variable that is no parameter
  pub value_unset : (v : ℕ) → length given ≤ v → world_after.memory (local deep v) ≡ zero_of g.core (type_of_local g.core r v)
  value_unset v high =
      let t : nat_eq deep deep ≡ true = grind (arith, nat_tests) in
      given_other deep 0 given (world_cleared g.core r deep m.world) (local deep v) (λ u from to. second_differs deep deep v u (λ same. omega arith))
      ∙ ap (λ b. if b then zero_of g.core (type_of_local g.core r v) else m.world.memory (local deep v)) t

  -- what variables of activations below stand for is as it was
  pub bound_below : (d v : ℕ) → d < deep → world_after.bound d v ≡ m.world.bound d v
  bound_below d v less = bound_other deep 0 given (world_cleared g.core r deep m.world) d v (λ u from. first_differs d deep v u (λ same. omega arith))

  -- ---- the routine

  -- the routine fits
  pub fits_here : RoutineFits g floor_here.number floor_here.routine
  fits_here = fit.routines floor_here.number floor_here.routine e.floor.found e.floor.charge

  -- its locals are those of its frame
  pub locals_here : locals_of g r ≡ floor_here.frame.locals
  locals_here = ap (locals_of g) (sym e.number) ∙ e.floor.expanded.locals

  -- it is charged what its routine says
  pub charge_here : (managed g).charge r ≡ floor_here.routine.charge
  charge_here = ap (managed g).charge (sym e.number) ∙ ap charge_in e.floor.found

  -- ---- parameters

  -- the rows of its parameters, by the number of its floor
  pub rows_are : parameter_rows g.core r ≡ parameter_rows g.core floor_here.number
  rows_are = ap (parameter_rows g.core) (sym e.number)

  -- the register of a parameter has its word
  pub register_word : (v : ℕ) → registers_begun (parameter v) ≡ slice_index words v
  register_word v = let at_ : 2 + v ≡ suc (suc v) = omega arith in ap registers_begun at_

  -- each is what was handed over, and its word is in its register
  pub parameter_is : (v : ℕ) (p : Variable) → slice_get (parameter_rows g.core floor_here.number) v ≡ Some p → IsParameter g floors (length m.callers) m.world world_after deep v p (registers_begun (parameter v))
  parameter_is v p found =
      let zeroth : 0 + v ≡ v = omega arith in
      let there : slice_get (parameter_rows g.core r) v ≡ Some p = ap (λ ps. slice_get ps v) rows_are ∙ found in
      subst (λ n. IsParameter g floors (length m.callers) m.world world_after deep v p n) (sym (register_word v))
      (subst (λ i. IsParameter g floors (length m.callers) m.world world_after deep i p (slice_index words v)) zeroth
      (parameter_stands g floors (length m.callers) m.world deep 0 given (parameter_rows g.core r) words (world_cleared g.core r deep m.world) e.are v p there))

  -- a variable in front of so many is a parameter
  pub row_there : (v : ℕ) (p : Variable) → v < parameters_of g.core floor_here.number → slice_get (rows g.core.variables (variables_of g.core floor_here.number)) v ≡ Some p → slice_get (parameter_rows g.core floor_here.number) v ≡ Some p
  row_there v p low found = take_get (parameters_of g.core floor_here.number) (rows g.core.variables (variables_of g.core floor_here.number)) v low ∙ found

  -- no more is given than there are parameters
  pub few_given : (length given ≤ parameters_of g.core floor_here.number) × (length words ≤ parameters_of g.core floor_here.number)
  few_given =
      let (a, b) = as_many g floors (length m.callers) m.world given (parameter_rows g.core r) words e.are in
      let short = length-take (parameters_of g.core floor_here.number) (rows g.core.variables (variables_of g.core floor_here.number)) in
      let many : length (parameter_rows g.core r) ≡ length (parameter_rows g.core floor_here.number) = ap length rows_are in
      (omega arith, omega arith)

  -- registers behind those of the parameters are 0
  pub register_free : (q : ℕ) → parameter (parameters_of g.core floor_here.number) ≤ q → registers_begun q ≡ 0
  register_free q high = let few = few_given.1 in get_or_past (first ∷ result ∷ words) q 0 (omega arith)

  -- a place of the caller is at the same address above it
  pub at_deeper : (q : Place) (of : TypeId) (a : ℕ) → IsAt g floors (length m.callers) q of a → IsAt g new deep q of a
  at_deeper q of a is =
      let there = at_moved g floors new (length m.callers) e.same q of a is in
      record { live = live_deeper g.core new (length m.callers) deep q.holder (omega arith) there.live; distance = there.distance; leads = there.leads; at = there.at }
