-- States stand for one another where a routine begins, but for its parameters that are still to be stored.
use Rattle.std.proofs.Common.{◌≡◌, ◌≤◌, ◌<◌, ◌⊎◌, inl, inr, ℕ, suc, ◌+◌, ◌-◌, List, ◌∷◌, length, Option, Some, None, refl, sym, ap, ◌∙◌, subst, arith, replicate}
use Rattle.std.specs.Prelude.{◌^◌, pos, true, false, slice_get}
use Rattle.std.proofs.lemmas.Bool.{cases_lt}
use Rattle.std.proofs.lemmas.List.{length-replicate}
use Rattle.op_compute.specs.Meaning.{IsWordOf}
use Rattle.op_constants.proofs.Lying.{kept}
use Rattle.op_constants.proofs.TypesArranged.{type_is_arranged}
use Rattle.op_constants.proofs.Zeros.{AreZeros, zero-number, zero_lies}
use Rattle.op_constants.specs.Lies.{Lies, arrangement_of, bytes_in}
use Rattle.op_core.proofs.Rows.{row_at}
use Rattle.op_core.specs.Rows.{rows}
use Rattle.op_core.specs.declared.ids.TypeId.{TypeId}
use Rattle.op_core.specs.declared.routine.Variable.{Variable}
use Rattle.op_expand.specs.Calls.{runtime}
use Rattle.op_meaning.specs.Frames.{Handed}
use Rattle.op_places.specs.Homes.{home_at, offset_of, parameter}
use Rattle.op_places.specs.declared.homes.Home.TheVariants.{Held, Stored}
use Rattle.op_low.specs.Machine.{entered as entered_low}
use Rattle.op_low.specs.State.{Caller, State, space}
use Rattle.op_meaning.specs.Calls.{no_temps}
use Rattle.op_meaning.specs.Shapes.{composite, refers, shape_of, type_of_local, type_of_row, type_of_variable, variables_of, zero_of}
use Rattle.op_meaning.specs.Values.{Value, Holder, global, local, temporary, object, number_in}
use Rattle.op_meaning.specs.World.{World}
use Rattle.op_mir.proofs.PlainLemmas.{plain_entered}
use Rattle.op_mir.specs.Machine.{MirCaller, MirState, tables}
use Rattle.op_mir.specs.Plain.{IsPlainWorld}
use Rattle.op_mir.specs.declared.path.Root.{Root}
use Rattle.op_mir.specs.declared.path.Root.TheVariants.{Local, Temporary}
use Rattle.op_rv.proofs.Memory.{with_bytes-below, with_bytes-within, zeros_get}
use Rattle.op_agreement.proofs.HeapKept.{heap_below}
use Rattle.op_agreement.proofs.Charting.{live_stands}
use Rattle.op_agreement.proofs.Counting.{count_below}
use Rattle.op_agreement.proofs.Entering.{Enters, above_at, at_deeper, below_begun, bound_below, entered_is, few_given, is_stored, locals_here, locals_of, memory_begun, parameter_is, register_free, registers_begun, row_there, value_below, value_global, value_held, value_temporary, value_unset, values_at, world_after, world_begun, zero_stored, zero_temporary}
use Rattle.op_agreement.proofs.Keeping.{InFree, InOwn, held_variable, reference_is_parameter, temporaries_behind}
use Rattle.op_agreement.proofs.Parameters.{IsParameter}
use Rattle.op_agreement.proofs.Updating.{floors_here, limit_here}
use Rattle.op_agreement.specs.Chart.{AllLie, Floor, IsAt, Live, address_of, stored_offset, type_held}
use Rattle.op_agreement.specs.Fitting.{IsFitting}
use Rattle.op_agreement.specs.Settings.{Setting, StoredAt, managed, type_stored}
use Rattle.op_agreement.specs.Stands.{ActivationStands, AreKept, Stays}
use Rattle.op_agreement.specs.Typed.{IsVariable}

-- a register with 0 has the number 0
zero_word : (n : ℕ) → n ≡ 0 → IsWordOf n (pos 0)
zero_word n none = subst (λ w. IsWordOf w (pos 0)) (sym none) (record { number = refl; bound = omega arith })

module _ (g : Setting) (fit : IsFitting g) (m : MirState) (l : State) (floors new : ℕ → Floor) (r : ℕ) (given : List Handed) (c : MirCaller) (lcs : List Caller) (room : ℕ) (first result : ℕ) (words : List ℕ) (e : Enters g m l floors new r given c lcs room first result words) where
  abbrev deep : ℕ
  deep = suc (length m.callers)

  abbrev floor_here : Floor
  floor_here = new (suc (length m.callers))

  abbrev world : World
  world = world_after g fit m l floors new r given c lcs room first result words e

  abbrev values : ℕ → Holder → Value
  values = values_at g fit m l floors new r given c lcs room first result words e

  abbrev registers : ℕ → ℕ
  registers = registers_begun g fit m l floors new r given c lcs room first result words e

  abbrev memory : ℕ → ℕ
  memory = memory_begun g fit m l floors new r given c lcs room first result words e

  abbrev rows_here : List Variable
  rows_here = rows g.core.variables (variables_of g.core floor_here.number)

  -- ---- registers

  -- the row of a variable that stands for another one
  reference_row : (v : ℕ) → IsVariable g.core floor_here.number v true → (p : Variable) × (slice_get rows_here v ≡ Some p)
  reference_row v (low, is) = by (slice_get g.core.variables ((variables_of g.core floor_here.number).first + v)) refl is
    where
      by : (o : Option Variable) → slice_get g.core.variables ((variables_of g.core floor_here.number).first + v) ≡ o → refers o ≡ true → (p : Variable) × (slice_get rows_here v ≡ Some p)
      by None at_ is = absurd cc
      by (Some p) at_ is = (p, row_at g.core.variables (variables_of g.core floor_here.number) v low ∙ at_)

  -- the row of a variable is that of the program
  row_is : (v : ℕ) (p : Variable) → v < (variables_of g.core floor_here.number).count → slice_get rows_here v ≡ Some p → slice_get g.core.variables ((variables_of g.core floor_here.number).first + v) ≡ Some p
  row_is v p low found = sym (row_at g.core.variables (variables_of g.core floor_here.number) v low) ∙ found

  -- the place that a parameter stands for is at the address in its register
  reference_at : (v : ℕ) → IsVariable g.core floor_here.number v true → IsAt g new deep (world.bound deep v) (type_of_local g.core floor_here.number v) (registers (parameter v)) × (registers (parameter v) < 2 ^ 32)
  reference_at v variable =
      let (p, found) = reference_row v variable in
      let low = reference_is_parameter g.core floor_here.number floor_here.routine floor_here.frame e.floor.framed e.floor.fits v variable in
      by p (row_is v p variable.0 found) (parameter_is g fit m l floors new r given c lcs room first result words e v p (row_there g fit m l floors new r given c lcs room first result words e v p low found))
    where
      by : (p : Variable) → slice_get g.core.variables ((variables_of g.core floor_here.number).first + v) ≡ Some p → IsParameter g floors (length m.callers) m.world world deep v p (registers (parameter v)) → IsAt g new deep (world.bound deep v) (type_of_local g.core floor_here.number v) (registers (parameter v)) × (registers (parameter v) < 2 ^ 32)
      by p row (inl (value, is)) = let clash : true ≡ false = sym variable.1 ∙ ap refers row ∙ value in absurd cc
      by p row (inr (reference, at_, small)) =
          let type : p.of ≡ type_of_local g.core floor_here.number v = sym (ap type_of_row row) in
          (subst (λ t. IsAt g new deep (world.bound deep v) t (registers (parameter v))) type (at_deeper g fit m l floors new r given c lcs room first result words e (world.bound deep v) p.of (registers (parameter v)) at_), small)

  -- a variable that is kept in a register has its value there
  word_held : (k v q : ℕ) → IsVariable g.core floor_here.number v false → home_at floor_here.frame.homes (record { 0 = v }) ≡ Held (record { 0 = q }) → IsWordOf (registers q) (number_in (values k (local deep v)))
  word_held k v q variable home =
      subst (λ x. IsWordOf (registers q) (number_in x)) (sym (value_held g fit m l floors new r given c lcs room first result words e k v (ap is_stored home)))
      (by (held_variable g.core floor_here.number floor_here.routine floor_here.frame e.floor.framed v q variable home))
    where
      own : (p : Variable) → slice_get g.core.variables ((variables_of g.core floor_here.number).first + v) ≡ Some p → IsParameter g floors (length m.callers) m.world world deep v p (registers (parameter v)) → IsWordOf (registers (parameter v)) (number_in (world.memory (local deep v)))
      own p row (inl (value, inl number)) = number.4
      own p row (inl (value, inr parts)) =
          let shape : shape_of g.core (type_of_local g.core floor_here.number v) ≡ composite = ap (λ o. shape_of g.core (type_of_row o)) row ∙ parts.0 in
          let (offset, stored) = e.floor.fits.composites (record { 0 = v }) variable shape in
          let clash : Held (record { 0 = q }) ≡ Stored offset = sym home ∙ stored in
          absurd cc
      own p row (inr (reference, at_, small)) = let clash : true ≡ false = sym reference ∙ sym (ap refers row) ∙ variable.1 in absurd cc

      by : InOwn g.core floor_here.number v q ⊎ InFree g.core floor_here.number v q → IsWordOf (registers q) (number_in (world.memory (local deep v)))
      by (inl i) =
          subst (λ x. IsWordOf (registers x) (number_in (world.memory (local deep v)))) (sym i.own)
          (own i.variable (row_is v i.variable variable.0 i.row) (parameter_is g fit m l floors new r given c lcs room first result words e v i.variable (row_there g fit m l floors new r given c lcs room first result words e v i.variable i.low i.row)))
      by (inr i) =
          let few = (few_given g fit m l floors new r given c lcs room first result words e).0 in
          let high = i.high in
          let value = value_unset g fit m l floors new r given c lcs room first result words e v (omega arith) in
          let none : number_in (world.memory (local deep v)) ≡ pos 0 = ap number_in value ∙ zero-number (suc (type_of_local g.core r v).0) g.core (type_of_local g.core r v) in
          subst (IsWordOf (registers q)) (sym none) (zero_word (registers q) (register_free g fit m l floors new r given c lcs room first result words e q i.behind))

  -- variables in registers, what parameters stand for, and temporaries
  kept_begun : (k : ℕ) → AreKept g new deep (values k) world.bound no_temps registers
  kept_begun k = record {
    variables = word_held k;
    references = λ v variable. (reference_at v variable).0;
    words = λ v variable. (reference_at v variable).1;
    temporaries = λ t low.
        let behind = temporaries_behind g.core floor_here.number floor_here.routine floor_here.frame e.floor.framed in
        -- a register with 0 has the number 0
        zero_word (registers (floor_here.frame.bank.temporaries + t)) (register_free g fit m l floors new r given c lcs room first result words e (floor_here.frame.bank.temporaries + t) (omega arith));
  }

  -- its floor, and the room that is left
  activation_begun : (k : ℕ) → ActivationStands g new deep (values k) world.bound no_temps r (entered_low g.low (runtime + r) (first ∷ result ∷ words)) (l.limit + locals_of g r) (room - space g.low g.placement (runtime + r)) (m.charged + (managed g).charge r)
  activation_begun k =
      let a = e.stays.activation in
      let left = e.left in
      let had = a.left in
      let enough = e.enough in
      let top = e.top in
      let locals = locals_here g fit m l floors new r given c lcs room first result words e in
      let base = e.base in
      record {
        floor = e.floor;
        number = e.number;
        same = ap (λ n. runtime + n) (sym e.number);
        kept = kept_begun k;
        left = omega arith;
        base = omega arith;
        enough = omega arith;
        top = omega arith;
      }

  -- ---- memory

  -- below the locals of the new activation memory is as it was
  pub memory_below : (x : ℕ) → x < l.limit → memory x ≡ l.memory x
  memory_below x low = with_bytes-below l.memory l.limit (replicate (locals_of g r) 0) x low

  -- and there are zeros
  memory_zero : (x : ℕ) → l.limit ≤ x → x < l.limit + locals_of g r → memory x ≡ 0
  memory_zero x from to =
      let many : length (replicate {A = ℕ} (locals_of g r) 0) ≡ locals_of g r = length-replicate (locals_of g r) 0 in
      with_bytes-within l.memory l.limit (replicate (locals_of g r) 0) x from (omega arith) ∙ zeros_get (locals_of g r) (x - l.limit)

  -- what was live lies where it lay
  lies_below : (h : Holder) → Live g.core floors (length m.callers) h → Lies (arrangement_of g.core (type_held g.core floors h)) (m.world.memory h) memory (address_of g floors h)
  lies_below h live =
      let s = e.stays in
      let stands = live_stands g fit floors (length m.callers) l.limit (floors_here g fit floors m l s) (limit_here g fit floors m l s) h live in
      let whole = type_is_arranged g.core fit.program.extents (type_held g.core floors h) stands.small in
      let size = whole.size in
      let below = stands.below in
      kept (arrangement_of g.core (type_held g.core floors h)) (m.world.memory h) l.memory memory (address_of g floors h) whole.arranged (λ x from to. memory_below x (omega arith)) (s.lie h live)

  -- what is stored of the new activation lies as zero
  zero_there : (root : Root) (offset : ℕ) → StoredAt g.core floor_here.number floor_here.frame root offset → Lies (arrangement_of g.core (type_stored g.core floor_here.number root)) (zero_of g.core (type_stored g.core floor_here.number root)) memory (floor_here.base + offset)
  zero_there root offset stored =
      let fits = e.floor.fits in
      let of = type_stored g.core floor_here.number root in
      let within = fits.within root offset stored in
      let whole = type_is_arranged g.core fit.program.extents of (fits.types root offset stored) in
      let size = whole.size in
      let base = e.base in
      let locals = locals_here g fit m l floors new r given c lcs room first result words e in
      let zeros : AreZeros memory (floor_here.base + offset) (bytes_in (arrangement_of g.core of)) = λ x low. memory_zero (floor_here.base + offset + x) (omega arith) (omega arith) in
      zero_lies (suc of.0) (suc of.0) g.core of memory (floor_here.base + offset) whole.arranged zeros

  -- what lies on a floor: a variable, and a temporary of a record or array type
  abbrev LocalLies : ℕ → ℕ → Value → Floor → Type 0
  LocalLies d v x f =
      StoredAt g.core f.number f.frame (Local (record { 0 = v })) (stored_offset (home_at f.frame.homes (record { 0 = v })))
      → Lies (arrangement_of g.core (type_of_local g.core f.number v)) x memory (f.base + stored_offset (home_at f.frame.homes (record { 0 = v })))

  abbrev TemporaryLies : ℕ → TypeId → ℕ → Value → Floor → Type 0
  TemporaryLies d of n x f =
      StoredAt g.core f.number f.frame (Temporary of n) (offset_of g.core (Temporary of n) f.frame.temporaries f.frame.roots)
      → Lies (arrangement_of g.core of) x memory (f.base + offset_of g.core (Temporary of n) f.frame.temporaries f.frame.roots)

  -- all that is live lies as it is meant
  lie_begun : AllLie g new deep (values 0) memory
  -- all that is live lies as it is meant
  lie_begun (global v) live =
      subst (λ x. Lies (arrangement_of g.core (type_of_variable g.core v)) x memory (address_of g new (global v))) (sym (value_global g fit m l floors new r given c lcs room first result words e 0 v)) (lies_below (global v) live)
  -- all that is live lies as it is meant
  lie_begun (local d v) (low, stored) = by (cases_lt d deep)
    where
      by : (d < deep) ⊎ (deep ≤ d) → Lies (arrangement_of g.core (type_of_local g.core (new d).number v)) (values 0 (local d v)) memory ((new d).base + stored_offset (home_at (new d).frame.homes (record { 0 = v })))
      by (inl less) =
          subst (LocalLies d v (values 0 (local d v))) (sym (e.same d (omega arith)))
          (λ stored. subst (λ x. Lies (arrangement_of g.core (type_of_local g.core (floors d).number v)) x memory (address_of g floors (local d v))) (sym (value_below g fit m l floors new r given c lcs room first result words e 0 d v less)) (lies_below (local d v) (omega arith, stored))) stored
      by (inr more) =
          let same : d ≡ deep = omega arith in
          subst (λ i. LocalLies i v (values 0 (local i v)) (new i)) (sym same)
          (λ stored. subst (λ x. Lies (arrangement_of g.core (type_of_local g.core floor_here.number v)) x memory (address_of g new (local deep v)))
          (sym (zero_stored g fit m l floors new r given c lcs room first result words e 0 v (omega arith) (ap is_stored stored.1)))
          (zero_there (Local (record { 0 = v })) (stored_offset (home_at floor_here.frame.homes (record { 0 = v }))) stored)) stored
  -- all that is live lies as it is meant
  lie_begun (temporary d of n) (low, stored) = by (cases_lt d deep)
    where
      by : (d < deep) ⊎ (deep ≤ d) → Lies (arrangement_of g.core of) (values 0 (temporary d of n)) memory ((new d).base + offset_of g.core (Temporary of n) (new d).frame.temporaries (new d).frame.roots)
      by (inl less) =
          subst (TemporaryLies d of n (values 0 (temporary d of n))) (sym (e.same d (omega arith)))
          (λ stored. subst (λ x. Lies (arrangement_of g.core of) x memory (address_of g floors (temporary d of n))) (sym (value_temporary g fit m l floors new r given c lcs room first result words e 0 d of n less)) (lies_below (temporary d of n) (omega arith, stored))) stored
      by (inr more) =
          let same : d ≡ deep = omega arith in
          subst (λ i. TemporaryLies i of n (values 0 (temporary i of n)) (new i)) (sym same)
          (λ stored. subst (λ x. Lies (arrangement_of g.core of) x memory (address_of g new (temporary deep of n)))
          (sym (zero_temporary g fit m l floors new r given c lcs room first result words e 0 of n))
          (zero_there (Temporary of n) (offset_of g.core (Temporary of n) floor_here.frame.temporaries floor_here.frame.roots) stored)) stored
  -- all that is live lies as it is meant
  lie_begun (object name) live = absurd live

  -- ---- all of it

  -- no exception is under way or waits
  pub plain_after : IsPlainWorld world
  plain_after =
      subst IsPlainWorld (entered_is g.core (tables (managed g)) refl r given m.world ∙ ap (λ d. world_begun g.core r (suc d) given m.world) e.stays.depth)
      (plain_entered (tables (managed g)) r given m.world e.stays.plain)

  -- also before parameters are stored
  pub plain_at : (k : ℕ) → IsPlainWorld (record world { memory = values k })
  plain_at k = record {
    raised = plain_after.raised;
    made = plain_after.made;
    waiting = plain_after.waiting;
  }

  -- all but the place where both go on
  pub stays_begun : Stays g new (above_at g fit m l floors new r given c lcs room first result words e 0) (below_begun g fit m l floors new r given c lcs room first result words e)
  stays_begun =
      let s = e.stays in
      let lowest = (floors_here g fit floors m l s).lowest (length m.callers) (omega arith) in
      let last = (floors_here g fit floors m l s).last in
      record {
        running = s.running;
        plain = plain_at 0;
        pending = s.pending;
        depth = refl;
        activation = activation_begun 0;
        callers = e.waits (values 0) world.bound
            (λ d v low. value_below g fit m l floors new r given c lcs room first result words e 0 d v (omega arith))
            (λ d v low. bound_below g fit m l floors new r given c lcs room first result words e d v (omega arith));
        lie = lie_begun;
        fixed = λ x low fixed. memory_below x (omega arith) ∙ s.fixed x low fixed;
        heap = heap_below g fit l.memory memory (λ x low. memory_below x (omega arith)) s.heap;
        due = count_below g fit (length m.pending) l.memory memory (λ x low. memory_below x (omega arith)) s.due;
        bytes = λ x low. small x low (cases_lt x l.limit);
        output = s.output;
        errors = s.errors;
        input = s.input;
      }
    where
      small : (x : ℕ) → x < l.limit + locals_of g r → (x < l.limit) ⊎ (l.limit ≤ x) → memory x < 2 ^ 8
      small x low (inl below) = subst (λ b. b < 2 ^ 8) (sym (memory_below x below)) (e.stays.bytes x below)
      small x low (inr above) = let is = memory_zero x above low in omega arith
