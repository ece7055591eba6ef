-- A parameter by value is stored in its place.
use Rattle.std.proofs.Common.{◌≡◌, ◌≢◌, ◌≤◌, ◌<◌, ◌⊎◌, inl, inr, ℕ, suc, ◌+◌, List, ◌∷◌, length, Some, refl, sym, ap, ◌∙◌, subst, arith}
use Rattle.std.specs.Prelude.{◌^◌, ◌%◌, Bool, true, false, ◌&&◌, nat_eq, nat_le, slice_get, if◌then◌else◌}
use Rattle.std.proofs.lemmas.Bool.{cases_lt}
use Rattle.std.proofs.lemmas.Bool.Decides.{nat_tests}
use Rattle.op_compute.specs.Meaning.{IsWordOf}
use Rattle.op_compute.specs.Straight.{at}
use Rattle.op_constants.proofs.Lying.{kept}
use Rattle.op_constants.proofs.TypesArranged.{type_is_arranged}
use Rattle.op_constants.specs.Arranged.{IsSmall}
use Rattle.op_constants.specs.Lies.{Lies, arrangement_of, bytes_in}
use Rattle.op_constants.specs.Offsets.{size_in}
use Rattle.op_core.specs.declared.routine.Variable.{Variable}
use Rattle.op_expand.specs.Calls.{result_address}
use Rattle.op_meaning.specs.Frames.{Handed}
use Rattle.op_places.specs.Frames.{parameters_of}
use Rattle.op_places.specs.Homes.{home_at, parameter, rounded}
use Rattle.op_places.specs.declared.homes.Home.TheVariants.{Held, Stored}
use Rattle.op_low.specs.State.{Caller, State}
use Rattle.op_low.specs.declared.instruction.Instruction.{Instruction as LowInstruction}
use Rattle.op_meaning.specs.Shapes.{is_reference, refers, type_of_local, type_of_row, variables_of, zero_of}
use Rattle.op_meaning.specs.Values.{Value, Holder, global, local, temporary, object, number_in, same_holder}
use Rattle.op_meaning.specs.World.{World}
use Rattle.op_mir.specs.Machine.{MirCaller, MirState}
use Rattle.op_mir.specs.declared.path.Root.TheVariants.{Local}
use Rattle.op_agreement.proofs.HeapKept.{heap_below}
use Rattle.op_agreement.proofs.Charting.{live_apart, live_stands, local_stands, same_is}
use Rattle.op_agreement.proofs.Counting.{count_below}
use Rattle.op_agreement.proofs.Entered.{plain_at}
use Rattle.op_agreement.proofs.Entering.{Enters, above_at, is_stored, registers_begun, value_below, value_held, value_past, values_at, world_after}
use Rattle.op_agreement.proofs.Keeping.{InFree, InOwn, held_variable, temporaries_behind}
use Rattle.op_agreement.proofs.Updating.{callers_moved, floors_here, limit_here}
use Rattle.op_agreement.proofs.WholeWords.{rounded_within}
use Rattle.op_agreement.specs.Chart.{Floor, IsAt, Live, address_of, stored_offset, type_held}
use Rattle.op_agreement.specs.Fitting.{IsFitting}
use Rattle.op_agreement.specs.Settings.{Apart, HomeFits, Setting, StoredAt}
use Rattle.op_agreement.specs.Stands.{CallersStand, Stays}
use Rattle.op_agreement.specs.Typed.{IsVariable}

-- ---- what is still zero, before and behind the parameter of a number

-- one more is stored: for other variables nothing is told anew
next_up : (k v : ℕ) → nat_eq v k ≡ false → nat_le (k + 1) v ≡ nat_le k v
next_up k v other = by (cases_lt v k)
  where
    differs : v ≡ k → ⊥
    differs same = let t : nat_eq v k ≡ true = grind (arith, nat_tests) in let clash : true ≡ false = sym t ∙ other in cc

    by : (v < k) ⊎ (k ≤ v) → nat_le (k + 1) v ≡ nat_le k v
    by (inl less) =
        let a : nat_le (k + 1) v ≡ false = grind (arith, nat_tests) in
        let b : nat_le k v ≡ false = grind (arith, nat_tests) in
        a ∙ sym b
    by (inr more) = up (cases_lt k v)
      where
        up : (k < v) ⊎ (v ≤ k) → nat_le (k + 1) v ≡ nat_le k v
        up (inl less) =
            let a : nat_le (k + 1) v ≡ true = grind (arith, nat_tests) in
            let b : nat_le k v ≡ true = grind (arith, nat_tests) in
            a ∙ sym b
        up (inr same) = absurd (differs (omega arith))

-- on the same level, or on another one
level_up : (level : Bool) (k v : ℕ) → (level && nat_eq v k) ≡ false → (level && nat_le (k + 1) v) ≡ (level && nat_le k v)
level_up true k v other = next_up k v other
level_up false k v other = refl

module _ (g : Setting) (fit : IsFitting g) (m : MirState) (l : State) (floors new : ℕ → Floor) (r : ℕ) (given : List Handed) (c : MirCaller) (lcs : List Caller) (room : ℕ) (first result : ℕ) (words : List ℕ) (e : Enters g m l floors new r given c lcs room first result words) where
  abbrev deep : ℕ
  deep = suc (length m.callers)

  abbrev floor_here : Floor
  floor_here = new (suc (length m.callers))

  abbrev world : World
  world = world_after g fit m l floors new r given c lcs room first result words e

  abbrev values : ℕ → Holder → Value
  values = values_at g fit m l floors new r given c lcs room first result words e

  abbrev above : ℕ → MirState
  above = above_at g fit m l floors new r given c lcs room first result words e

  abbrev registers : ℕ → ℕ
  registers = registers_begun g fit m l floors new r given c lcs room first result words e

  -- Parameters in front of number k stand where they are kept; the others have their words still. What lies below the new activation is as it
  -- was.
  pub record Received (k : ℕ) (now : List LowInstruction) (to : State) : Type 0 where
    pub stays : Stays g new (above k) to
    pub arrived : (x : ℕ) → parameter k ≤ x → x < floor_here.frame.bank.scratch → to.top.registers x ≡ registers x
    pub below : (x : ℕ) → x < l.limit → to.memory x ≡ l.memory x
    pub code : to.top.now ≡ now

  -- so they have the values that they had
  pub value_other : (k : ℕ) (h : Holder) → same_holder h (local deep k) ≡ false → values (k + 1) h ≡ values k h
  value_other k (global v) other = refl
  value_other k (temporary d of n) other = refl
  value_other k (object name) other = refl
  value_other k (local d v) other = ap (λ b. if b && is_stored (home_at floor_here.frame.homes (record { 0 = v })) then zero_of g.core (type_of_local g.core floor_here.number v) else world.memory (local d v)) (level_up (nat_eq d deep) k v other)

  -- a parameter by value, which is stored
  pub record IsStoredValue (k : ℕ) (p : Variable) (offset : ℕ) : Type 0 where
    pub few : k < parameters_of g.core floor_here.number
    pub low : k < (variables_of g.core floor_here.number).count
    pub row : slice_get g.core.variables ((variables_of g.core floor_here.number).first + k) ≡ Some p
    pub value : is_reference p.role ≡ false
    pub home : home_at floor_here.frame.homes (record { 0 = k }) ≡ Stored offset

  module _ (k : ℕ) (p : Variable) (offset : ℕ) (i : IsStoredValue k p offset) where
    -- it is a variable by value
    pub variable_here : IsVariable g.core floor_here.number k false
    variable_here = (i.low, ap refers i.row ∙ i.value)

    -- with an address in the locals
    pub stored_here : StoredAt g.core floor_here.number floor_here.frame (Local (record { 0 = k })) offset
    stored_here = (variable_here, i.home)

    -- its type is that of its row
    pub type_here : type_of_local g.core floor_here.number k ≡ p.of
    type_here = ap type_of_row i.row

    -- of small values
    pub small_here : IsSmall g.core p.of
    small_here = subst (IsSmall g.core) type_here (e.floor.fits.types (Local (record { 0 = k })) offset stored_here)

    -- where it stands behind the first of the locals
    offset_is : stored_offset (home_at floor_here.frame.homes (record { 0 = k })) ≡ offset
    offset_is = ap stored_offset i.home

    -- so it is live
    pub live_here : Live g.core new deep (local deep k)
    live_here = (omega arith, subst (StoredAt g.core floor_here.number floor_here.frame (Local (record { 0 = k }))) (sym offset_is) stored_here)

    -- its register stands in front of the temporaries
    pub register_low : parameter k < floor_here.frame.bank.temporaries
    register_low = let behind = temporaries_behind g.core floor_here.number floor_here.routine floor_here.frame e.floor.framed in let few = i.few in omega arith

    -- no other variable is kept in the register in which the parameter came
    register_other : (v q : ℕ) → IsVariable g.core floor_here.number v false → home_at floor_here.frame.homes (record { 0 = v }) ≡ Held (record { 0 = q }) → q ≢ parameter k
    register_other v q variable home same = by (held_variable g.core floor_here.number floor_here.routine floor_here.frame e.floor.framed v q variable home)
      where
        by : InOwn g.core floor_here.number v q ⊎ InFree g.core floor_here.number v q → ⊥
        by (inl own) =
            let is = own.own in
            let one : v ≡ k = omega arith in
            let clash : Held (record { 0 = q }) ≡ Stored offset = sym home ∙ ap (λ x. home_at floor_here.frame.homes (record { 0 = x })) one ∙ i.home in
            absurd cc
        by (inr free) = let behind = free.behind in let few = i.few in omega arith

    -- nor has another parameter come in it
    reference_other : (v : ℕ) → IsVariable g.core floor_here.number v true → parameter v ≢ parameter k
    reference_other v variable same =
        let one : v ≡ k = omega arith in
        let clash : true ≡ false = sym variable.1 ∙ ap (λ x. refers (slice_get g.core.variables ((variables_of g.core floor_here.number).first + x))) one ∙ variable_here.1 in
        absurd cc

    module _ (lk : State) (was : Stays g new (above k) lk) (h memory : ℕ → ℕ) (now : List LowInstruction) (kept_on : (x : ℕ) → x < floor_here.frame.bank.scratch → x ≢ parameter k → h x ≡ lk.top.registers x) (changed : (x : ℕ) → x < lk.limit → (x < floor_here.base + offset) ⊎ (floor_here.base + offset + rounded (size_in g.core p.of) ≤ x) → memory x ≡ lk.memory x) (bytes : (x : ℕ) → x < lk.limit → memory x < 2 ^ 8) (there : Lies (arrangement_of g.core p.of) (world.memory (local deep k)) memory (floor_here.base + offset)) where
      -- what is live lies where it lay, and the parameter in its place
      lie_on : (x : Holder) → Live g.core new deep x → Lies (arrangement_of g.core (type_held g.core new x)) (values (k + 1) x) memory (address_of g new x)
      lie_on x live = by (same_holder x (local deep k)) refl
        where
          by : (b : Bool) → same_holder x (local deep k) ≡ b → Lies (arrangement_of g.core (type_held g.core new x)) (values (k + 1) x) memory (address_of g new x)
          by true same =
              subst (λ y. Lies (arrangement_of g.core (type_held g.core new y)) (values (k + 1) y) memory (address_of g new y)) (sym (same_is x (local deep k) same))
              (subst (λ a. Lies (arrangement_of g.core (type_of_local g.core floor_here.number k)) (values (k + 1) (local deep k)) memory a) (ap (λ n. floor_here.base + n) (sym offset_is))
              (subst (λ t. Lies (arrangement_of g.core t) (values (k + 1) (local deep k)) memory (floor_here.base + offset)) (sym type_here)
              (subst (λ v. Lies (arrangement_of g.core p.of) v memory (floor_here.base + offset)) (sym (value_past g fit m l floors new r given c lcs room first result words e (k + 1) k (omega arith))) there)))
          by false other =
              let floors_stand = floors_here g fit new (above k) lk was in
              let top = limit_here g fit new (above k) lk was in
              let stands = live_stands g fit new deep lk.limit floors_stand top x live in
              let whole = type_is_arranged g.core fit.program.extents (type_held g.core new x) stands.small in
              let size = whole.size in
              let below = stands.below in
              let words = stands.words in
              let own = local_stands g fit new deep lk.limit floors_stand top deep k live_here in
              let apart = live_apart g fit new deep lk.limit floors_stand top x (local deep k) other live live_here in
              subst (λ v. Lies (arrangement_of g.core (type_held g.core new x)) v memory (address_of g new x)) (sym (value_other k x other))
              (kept (arrangement_of g.core (type_held g.core new x)) (values k x) lk.memory memory (address_of g new x) whole.arranged (λ y from to. changed y (omega arith) (far y from to size own.0 own.1 words apart)) (was.lie x live))
            where
              at_is : address_of g new (local deep k) ≡ floor_here.base + offset
              at_is = ap (λ n. floor_here.base + n) offset_is

              far : (y : ℕ) → address_of g new x ≤ y → y < address_of g new x + bytes_in (arrangement_of g.core (type_held g.core new x)) → bytes_in (arrangement_of g.core (type_held g.core new x)) ≡ size_in g.core (type_held g.core new x) → address_of g new (local deep k) % 4 ≡ 0 → g.bottom ≤ address_of g new (local deep k) → (address_of g new x + size_in g.core (type_held g.core new x) ≤ g.bottom) ⊎ (address_of g new x % 4 ≡ 0) → Apart (address_of g new x) (size_in g.core (type_held g.core new x)) (address_of g new (local deep k)) (size_in g.core (type_of_local g.core floor_here.number k)) → (y < floor_here.base + offset) ⊎ (floor_here.base + offset + rounded (size_in g.core p.of) ≤ y)
              far y from to size own above (inl below) apart = let is = at_is in inl (omega arith)
              far y from to size own above (inr aligned) (inl before) = let is = at_is in inl (omega arith)
              far y from to size own above (inr aligned) (inr behind) =
                  let is = at_is in
                  let same : size_in g.core (type_of_local g.core floor_here.number k) ≡ size_in g.core p.of = ap (size_in g.core) type_here in
                  let within = rounded_within (floor_here.base + offset) (address_of g new x) (size_in g.core p.of) (omega arith) aligned (omega arith) in
                  inr (omega arith)

      -- and states stand for one another as before
      stays_on : Stays g new (above (k + 1)) (record (at lk h now) { memory = memory })
      stays_on =
          let a = was.activation in
          let fits = e.floor.fits in
          let behind = fits.behind in
          let scratch = fits.scratch in
          let own = register_low in
          let zeroth : h 0 ≡ lk.top.registers 0 = kept_on 0 (omega arith) (λ same. omega arith) in
          let first_is : h 1 ≡ lk.top.registers 1 = kept_on 1 (omega arith) (λ same. omega arith) in
          let floors_stand = floors_here g fit new (above k) lk was in
          let lowest = floors_stand.lowest deep (omega arith) in
          let last = floors_stand.last in
          let moved = callers_moved g new new (values k) (values (k + 1)) world.bound world.bound (c ∷ m.callers) lk.callers r (lk.top.registers result_address.0) lk.limit lk.room (above k).charged
          (record {
            floors = λ d low. refl;
            variables = λ d v q low variable home. value_below g fit m l floors new r given c lcs room first result words e (k + 1) d v low ∙ sym (value_below g fit m l floors new r given c lcs room first result words e k d v low);
            places = λ d v low variable. refl;
          }) was.callers in
          record {
            running = refl;
            plain = plain_at g fit m l floors new r given c lcs room first result words e (k + 1);
            pending = was.pending;
            depth = refl;
            activation = record {
              floor = a.floor;
              number = a.number;
              same = a.same;
              kept = record {
                variables = λ v q variable home.
                    let low : q < floor_here.frame.bank.temporaries = (subst (HomeFits floor_here.frame) home (fits.homes (record { 0 = v }) variable.0)).1 in
                    let same : values (k + 1) (local deep v) ≡ values k (local deep v) = value_held g fit m l floors new r given c lcs room first result words e (k + 1) v (ap is_stored home) ∙ sym (value_held g fit m l floors new r given c lcs room first result words e k v (ap is_stored home)) in
                    subst (λ x. IsWordOf x (number_in (values (k + 1) (local deep v)))) (sym (kept_on q (omega arith) (register_other v q variable home)))
                    (subst (λ x. IsWordOf (lk.top.registers q) (number_in x)) (sym same) (a.kept.variables v q variable home));
                references = λ v variable. subst (IsAt g new deep (world.bound deep v) (type_of_local g.core floor_here.number v)) (sym (reference_kept v variable)) (a.kept.references v variable);
                words = λ v variable. subst (λ x. x < 2 ^ 32) (sym (reference_kept v variable)) (a.kept.words v variable);
                temporaries = λ t low. subst (λ x. IsWordOf x (world.temps t)) (sym (kept_on (floor_here.frame.bank.temporaries + t) (omega arith) (λ same. omega arith))) (a.kept.temporaries t low);
              };
              left = ap (λ x. x + (above k).charged) zeroth ∙ a.left;
              base = a.base;
              enough = subst (λ x. x + 1024 ≤ lk.room) (sym zeroth) a.enough;
              top = a.top;
            };
            callers = subst (λ x. CallersStand g new (values (k + 1)) world.bound (c ∷ m.callers) lk.callers r x lk.limit lk.room (above k).charged) (sym first_is) moved;
            lie = lie_on;
            fixed = λ x low fixed. changed x (omega arith) (inl (omega arith)) ∙ was.fixed x low fixed;
            heap = heap_below g fit lk.memory memory (λ x low. changed x (omega arith) (inl (omega arith))) was.heap;
            due = count_below g fit (length m.pending) lk.memory memory (λ x low. changed x (omega arith) (inl (omega arith))) was.due;
            bytes = bytes;
            output = was.output;
            errors = was.errors;
            input = was.input;
          }
        where
          reference_kept : (v : ℕ) → IsVariable g.core floor_here.number v true → h (parameter v) ≡ lk.top.registers (parameter v)
          reference_kept v variable =
              let fits = e.floor.fits in
              let scratch = fits.scratch in
              let home = fits.references (record { 0 = v }) variable in
              let low : parameter v < floor_here.frame.bank.temporaries = (subst (HomeFits floor_here.frame) home (fits.homes (record { 0 = v }) variable.0)).1 in
              kept_on (parameter v) (omega arith) (reference_other v variable)

    -- one more parameter is received
    pub received_on : (lk : State) (old now : List LowInstruction) (was : Received k old lk) (h memory : ℕ → ℕ) → ((x : ℕ) → x < floor_here.frame.bank.scratch → x ≢ parameter k → h x ≡ lk.top.registers x) → ((x : ℕ) → x < lk.limit → (x < floor_here.base + offset) ⊎ (floor_here.base + offset + rounded (size_in g.core p.of) ≤ x) → memory x ≡ lk.memory x) → ((x : ℕ) → x < lk.limit → memory x < 2 ^ 8) → Lies (arrangement_of g.core p.of) (world.memory (local deep k)) memory (floor_here.base + offset) → Received (k + 1) now (record (at lk h now) { memory = memory })
    received_on lk old now was h memory kept_on changed bytes there =
        let base = e.base in
        let last = was.stays.activation.base in
        record {
          stays = stays_on lk was.stays h memory now kept_on changed bytes there;
          arrived = λ x from to. kept_on x to (λ same. omega arith) ∙ was.arrived x (omega arith) to;
          below = λ x low. changed x (omega arith) (inl (omega arith)) ∙ was.below x low;
          code = refl;
        }
