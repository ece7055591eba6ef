-- What is kept where a variable of the activation under way begins with a value.
use Rattle.std.proofs.Common.{◌≡◌, ◌≢◌, ◌≤◌, ◌<◌, ◌⊎◌, inl, inr, ℕ, ◌+◌, List, length, refl, sym, ap, ◌∙◌, subst, arith}
use Rattle.std.specs.Prelude.{◌^◌, ◌%◌, Bool, true, false, ◌&&◌, nat_eq, if◌then◌else◌}
use Rattle.std.proofs.lemmas.Bool.Decides.{nat_tests}
use Rattle.op_compute.specs.Meaning.{IsWordOf}
use Rattle.op_compute.specs.Straight.{at}
use Rattle.op_constants.proofs.Lying.{kept}
use Rattle.op_constants.proofs.Stores.{stored}
use Rattle.op_constants.proofs.TypesArranged.{type_is_arranged}
use Rattle.op_constants.specs.Lies.{Lies, arrangement_of}
use Rattle.op_constants.specs.Offsets.{size_in}
use Rattle.op_core.specs.declared.ids.TypeId.{TypeId}
use Rattle.op_expand.specs.Calls.{result_address}
use Rattle.op_places.specs.Homes.{home_at, parameter, rounded}
use Rattle.op_places.specs.declared.homes.Home.TheVariants.{Held, Stored}
use Rattle.op_low.specs.State.{State}
use Rattle.op_low.specs.declared.ids.VirtualRegister.{VirtualRegister}
use Rattle.op_low.specs.declared.instruction.Instruction.{Instruction as LowInstruction}
use Rattle.op_meaning.specs.Shapes.{type_of_local, variables_of}
use Rattle.op_meaning.specs.Values.{Holder, Value, all_of, local, number_in, same_holder}
use Rattle.op_meaning.specs.World.{with_value}
use Rattle.op_mir.specs.Code.{Instr}
use Rattle.op_mir.specs.Machine.{MirState}
use Rattle.op_mir.specs.Plain.{IsPlainWorld}
use Rattle.op_mir.specs.declared.ids.LocalId.{LocalId}
use Rattle.op_mir.specs.declared.path.Root.TheVariants.{Local}
use Rattle.op_agreement.proofs.HeapKept.{heap_below}
use Rattle.op_agreement.proofs.Charting.{live_apart, live_stands, local_stands, same_is}
use Rattle.op_agreement.proofs.Counting.{count_below}
use Rattle.op_agreement.proofs.Sparing.{spare_fits}
use Rattle.op_agreement.proofs.Standing.{here}
use Rattle.op_agreement.proofs.Updating.{callers_moved, floors_here, limit_here}
use Rattle.op_agreement.proofs.WholeWords.{rounded_within}
use Rattle.op_agreement.specs.Chart.{AllLie, Floor, IsAt, Live, address_of, stored_offset, type_held}
use Rattle.op_agreement.specs.Fitting.{IsFitting}
use Rattle.op_agreement.specs.Settings.{Apart, HomeFits, Setting, StoredAt}
use Rattle.op_agreement.specs.Stands.{CallersStand, Stays}
use Rattle.op_agreement.specs.Typed.{IsVariable}

-- a holder of a level below is none of those of this level
level_other : (level d u v : ℕ) → d < level → same_holder (local d u) (local level v) ≡ false
level_other level d u v low = let t : nat_eq d level ≡ false = grind (arith, nat_tests) in ap (λ b. b && nat_eq u v) t

-- ---- a value that has the same number, in a register

module _ (g : Setting) (floors : ℕ → Floor) (m : MirState) (l : State) (s : Stays g floors m l) (values : Holder → Value) where
  abbrev with_values : MirState
  with_values = record m { world = record m.world { memory = values } }

  -- values of the activation under way are others with the same numbers, but for what lies in memory
  stays_values : ((d u : ℕ) → d < length m.callers → values (local d u) ≡ m.world.memory (local d u)) → ((u : ℕ) → number_in (m.world.memory (local (length m.callers) u)) ≡ number_in (values (local (length m.callers) u))) → ((h : Holder) → Live g.core floors (length m.callers) h → m.world.memory h ≡ values h) → IsPlainWorld with_values.world → Stays g floors with_values l
  stays_values below same live plain =
      let a = s.activation in
      record {
        running = s.running;
        plain = plain;
        pending = s.pending;
        depth = s.depth;
        activation = record {
          floor = a.floor;
          number = a.number;
          same = a.same;
          kept = record {
            variables = λ u r known home. subst (IsWordOf (l.top.registers r)) (same u) (a.kept.variables u r known home);
            references = a.kept.references;
            words = a.kept.words;
            temporaries = a.kept.temporaries;
          };
          left = a.left;
          base = a.base;
          enough = a.enough;
          top = a.top;
        };
        callers = callers_moved g floors floors m.world.memory values m.world.bound m.world.bound m.callers l.callers m.routine (l.top.registers result_address.0) l.limit l.room m.charged
            (record { floors = λ d low. refl; variables = λ d u q low known home. below d u low; places = λ d u low known. refl }) s.callers;
        lie = λ h is. subst (λ x. Lies (arrangement_of g.core (type_held g.core floors h)) x l.memory (address_of g floors h)) (live h is) (s.lie h is);
        fixed = s.fixed;
        heap = s.heap;
        due = s.due;
        bytes = s.bytes;
        output = s.output;
        errors = s.errors;
        input = s.input;
      }

module _ (g : Setting) (floors : ℕ → Floor) (m : MirState) (v : LocalId) (q : VirtualRegister) (home : home_at (here m floors).frame.homes v ≡ Held q) (x y : Value) (same : number_in y ≡ number_in x) (rest : List Instr) where
  abbrev begun : Value → MirState
  begun z = record m { world = with_value (all_of (local (length m.callers) v.0)) z m.world; work = rest }

  abbrev holds : Value → Holder → Value
  holds z = (begun z).world.memory

  -- the variable has another value with the same number
  pub stays_number : (k : State) → Stays g floors (begun y) k → IsPlainWorld (begun x).world → Stays g floors (begun x) k
  stays_number k stays plain = stays_values g floors (begun y) k stays (holds x) below number_same live_same plain
    where
      below : (d u : ℕ) → d < length m.callers → holds x (local d u) ≡ holds y (local d u)
      below d u low =
          let t = level_other (length m.callers) d u v.0 low in
          ap (λ b. if b then x else m.world.memory (local d u)) t ∙ sym (ap (λ b. if b then y else m.world.memory (local d u)) t)

      number_same : (u : ℕ) → number_in (holds y (local (length m.callers) u)) ≡ number_in (holds x (local (length m.callers) u))
      number_same u = by (same_holder (local (length m.callers) u) (local (length m.callers) v.0))
        where
          by : (b : Bool) → number_in (if b then y else m.world.memory (local (length m.callers) u)) ≡ number_in (if b then x else m.world.memory (local (length m.callers) u))
          by true = same
          by false = refl

      -- what a register has does not lie in memory
      live_same : (h : Holder) → Live g.core floors (length m.callers) h → holds y h ≡ holds x h
      live_same h live = by (same_holder h (local (length m.callers) v.0)) refl
        where
          clash : Live g.core floors (length m.callers) (local (length m.callers) v.0) → ⊥
          clash (low, (known, stored)) = let c : Held q ≡ Stored (stored_offset (home_at (here m floors).frame.homes (record { 0 = v.0 }))) = sym home ∙ stored in absurd cc

          by : (b : Bool) → same_holder h (local (length m.callers) v.0) ≡ b → (if b then y else m.world.memory h) ≡ (if b then x else m.world.memory h)
          by true e = absurd (clash (subst (Live g.core floors (length m.callers)) (same_is h (local (length m.callers) v.0) e) live))
          by false e = refl

-- ---- a variable of the activation under way that is stored in its locals gets a value; what the spare register has is lost

module _ (g : Setting) (fit : IsFitting g) (floors : ℕ → Floor) (m : MirState) (l : State) (s : Stays g floors m l) (v : LocalId) (offset : ℕ) (variable : IsVariable g.core (here m floors).number v.0 false) (home : home_at (here m floors).frame.homes v ≡ Stored offset) where
  abbrev level : ℕ
  level = length m.callers

  abbrev holder : Holder
  holder = local level v.0

  abbrev of : TypeId
  of = type_of_local g.core (here m floors).number v.0

  abbrev place : ℕ
  place = address_of g floors holder

  -- it lies at its offset
  pub offset_is : stored_offset (home_at (here m floors).frame.homes (record { 0 = v.0 })) ≡ offset
  offset_is = ap stored_offset home

  -- it is live
  live_here : Live g.core floors level holder
  live_here = (omega arith, subst (StoredAt g.core (here m floors).number (here m floors).frame (Local (record { 0 = v.0 }))) (sym offset_is) (variable, home))

  module _ (x : Value) (memory : ℕ → ℕ) (others : (y : ℕ) → y < l.limit → (y < place) ⊎ (place + rounded (size_in g.core of) ≤ y) → memory y ≡ l.memory y) where
    abbrev values : Holder → Value
    values = (with_value (all_of holder) x m.world).memory

    -- what else is live has none of the whole words of the variable
    far_from : (h : Holder) → same_holder h holder ≡ false → Live g.core floors level h → (y : ℕ) → address_of g floors h ≤ y → y < address_of g floors h + size_in g.core (type_held g.core floors h) → (y < place) ⊎ (place + rounded (size_in g.core of) ≤ y)
    far_from h other live y up down =
        let mine = local_stands g fit floors level l.limit (floors_here g fit floors m l s) (limit_here g fit floors m l s) level v.0 live_here in
        let its = live_stands g fit floors level l.limit (floors_here g fit floors m l s) (limit_here g fit floors m l s) h live in
        by mine.0 mine.1 its.words (live_apart g fit floors level l.limit (floors_here g fit floors m l s) (limit_here g fit floors m l s) h holder other live live_here)
      where
        by : place % 4 ≡ 0 → g.bottom ≤ place → (address_of g floors h + size_in g.core (type_held g.core floors h) ≤ g.bottom) ⊎ (address_of g floors h % 4 ≡ 0) → Apart (address_of g floors h) (size_in g.core (type_held g.core floors h)) place (size_in g.core of) → (y < place) ⊎ (place + rounded (size_in g.core of) ≤ y)
        by mine above (inl below) apart = inl (omega arith)
        by mine above (inr its) (inl before) = inl (omega arith)
        by mine above (inr its) (inr behind) = let within = rounded_within place (address_of g floors h) (size_in g.core of) mine its behind in inr (omega arith)

    -- all that is live lies where it did, and the variable's value at its place
    all_lie : Lies (arrangement_of g.core of) x memory place → AllLie g floors level values memory
    all_lie there h live = by (same_holder h holder) refl
      where
        by : (b : Bool) → same_holder h holder ≡ b → Lies (arrangement_of g.core (type_held g.core floors h)) (if b then x else m.world.memory h) memory (address_of g floors h)
        by true e = subst (λ h. Lies (arrangement_of g.core (type_held g.core floors h)) x memory (address_of g floors h)) (sym (same_is h holder e)) there
        by false e =
            let stands = live_stands g fit floors level l.limit (floors_here g fit floors m l s) (limit_here g fit floors m l s) h live in
            let arranged = type_is_arranged g.core fit.program.extents (type_held g.core floors h) stands.small in
            let size = arranged.size in
            let below = stands.below in
            kept (arrangement_of g.core (type_held g.core floors h)) (m.world.memory h) l.memory memory (address_of g floors h) arranged.arranged
            (λ y up down. others y (omega arith) (far_from h e live y up (omega arith))) (s.lie h live)

    -- below the stack memory is as it was
    bottom_kept : (y : ℕ) → y < g.bottom → memory y ≡ l.memory y
    bottom_kept y low =
        let floors_stand = floors_here g fit floors m l s in
        let lowest = floors_stand.lowest level (omega arith) in
        let last = floors_stand.last in
        others y (omega arith) (inl (omega arith))

    -- variables in registers have the values that they had
    value_here : (u r : ℕ) → home_at (here m floors).frame.homes (record { 0 = u }) ≡ Held (record { 0 = r }) → m.world.memory (local level u) ≡ values (local level u)
    value_here u r at_ = by (same_holder (local level u) holder) refl
      where
        clash : u ≡ v.0 → ⊥
        clash same = let c : Held (record { 0 = r }) ≡ Stored offset = sym at_ ∙ ap (λ n. home_at (here m floors).frame.homes (record { 0 = n })) same ∙ home in absurd cc

        by : (b : Bool) → same_holder (local level u) holder ≡ b → m.world.memory (local level u) ≡ (if b then x else m.world.memory (local level u))
        by true e = let one : local level u ≡ holder = same_is (local level u) holder e in absurd (clash cc)
        by false e = refl

    -- and so both still stand for one another
    pub stays_begun : (rest : List Instr) (f : ℕ → ℕ) (now : List LowInstruction) → IsPlainWorld (with_value (all_of holder) x m.world) → ((y : ℕ) → y < l.limit → memory y < 2 ^ 8) → Lies (arrangement_of g.core of) x memory place → ((r : ℕ) → r < (here m floors).frame.bank.scratch → r ≢ (here m floors).frame.spare.0 → f r ≡ l.top.registers r) → Stays g floors (record m { world = with_value (all_of holder) x m.world; work = rest }) (record (at l f now) { memory = memory })
    stays_begun rest f now plain bytes there same =
        let a = s.activation in
        let fits = a.floor.fits in
        let behind = fits.behind in
        let scratch = fits.scratch in
        let spare = spare_fits g (here m floors) a.floor in
        let second = spare.behind in
        let zeroth : f 0 ≡ l.top.registers 0 = same 0 (omega arith) (λ e. omega arith) in
        let first : f 1 ≡ l.top.registers 1 = same 1 (omega arith) (λ e. omega arith) in
        let moved = callers_moved g floors floors m.world.memory values m.world.bound m.world.bound m.callers l.callers m.routine (l.top.registers result_address.0) l.limit l.room m.charged
        (record { floors = λ d low. refl; variables = λ d u q low known at_. ap (λ b. if b then x else m.world.memory (local d u)) (level_other level d u v.0 low); places = λ d u low known. refl }) s.callers in
        record {
          running = refl;
          plain = plain;
          pending = s.pending;
          depth = s.depth;
          activation = record {
            floor = a.floor;
            number = a.number;
            same = a.same;
            kept = record {
              variables = λ u r known at_. subst (λ w. IsWordOf w (number_in (values (local level u)))) (sym (held u r known.0 at_)) (subst (λ y. IsWordOf (l.top.registers r) (number_in y)) (value_here u r at_) (a.kept.variables u r known at_));
              references = λ u known. subst (IsAt g floors level (m.world.bound level u) _) (sym (held u (parameter u) known.0 (fits.references (record { 0 = u }) known))) (a.kept.references u known);
              words = λ u known. subst (λ w. w < 2 ^ 32) (sym (held u (parameter u) known.0 (fits.references (record { 0 = u }) known))) (a.kept.words u known);
              temporaries = λ t low. subst (λ w. IsWordOf w (m.world.temps t)) (sym (same ((here m floors).frame.bank.temporaries + t) (omega arith) (spare.temporaries t low))) (a.kept.temporaries t low);
            };
            left = ap (λ w. w + m.charged) zeroth ∙ a.left;
            base = a.base;
            enough = subst (λ w. w + 1024 ≤ l.room) (sym zeroth) a.enough;
            top = a.top;
          };
          callers = subst (λ w. CallersStand g floors values m.world.bound m.callers l.callers m.routine w l.limit l.room m.charged) (sym first) moved;
          lie = all_lie there;
          fixed = λ y low fixed. bottom_kept y low ∙ s.fixed y low fixed;
          heap = heap_below g fit l.memory memory bottom_kept s.heap;
          due = count_below g fit (length m.pending) l.memory memory bottom_kept s.due;
          bytes = bytes;
          output = s.output;
          errors = s.errors;
          input = s.input;
        }
      where
        -- a variable or a reference that a register has
        held : (u r : ℕ) → u < (variables_of g.core (here m floors).number).count → home_at (here m floors).frame.homes (record { 0 = u }) ≡ Held (record { 0 = r }) → f r ≡ l.top.registers r
        held u r low at_ =
            let fits = s.activation.floor.fits in
            let scratch = fits.scratch in
            let spare = spare_fits g (here m floors) s.activation.floor in
            let less = (subst (HomeFits (here m floors).frame) at_ (fits.homes (record { 0 = u }) low)).1 in
            same r (omega arith) (spare.variables (record { 0 = u }) (record { 0 = r }) at_ less)
