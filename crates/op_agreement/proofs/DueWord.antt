-- The word that counts the finalization parts that are due is read and written, and what else lies in memory stays.
use Rattle.std.proofs.Common.{◌≡◌, ◌≤◌, ◌<◌, ◌⊎◌, inl, inr, ℕ, ◌+◌, List, ◌∷◌, length, refl, sym, ap, ◌∙◌, subst, arith}
use Rattle.std.specs.Prelude.{pos, true, false, nat_eq, if◌then◌else◌}
use Rattle.std.specs.Int.{bytes_low_first}
use Rattle.std.proofs.lemmas.Bool.{cases_lt, cond-true}
use Rattle.op_compute.specs.Straight.{at}
use Rattle.op_constants.proofs.Lying.{kept}
use Rattle.op_constants.proofs.TypesArranged.{type_is_arranged}
use Rattle.op_constants.specs.Lies.{arrangement_of}
use Rattle.op_constants.specs.Offsets.{size_in}
use Rattle.op_expand.specs.Calls.{due_word, finalizations, has_closing}
use Rattle.op_low.specs.Machine.{act, load, store}
use Rattle.op_low.specs.State.{State, bad, keep, usable}
use Rattle.op_low.specs.declared.ids.VirtualRegister.{VirtualRegister}
use Rattle.op_low.specs.declared.instruction.Instruction.TheVariants.{Address, Load, Store}
use Rattle.op_low.specs.declared.instruction.Instruction.{Instruction as LowInstruction}
use Rattle.op_meaning.specs.Frames.{Pending}
use Rattle.op_mir.specs.Code.{Instr}
use Rattle.op_mir.specs.Machine.{MirState}
use Rattle.op_rv.proofs.Memory.{four-bounded, with_bytes-outside, word_at-stored}
use Rattle.op_rv.specs.State.{with_bytes, word_at}
use Rattle.op_rv.specs.Step.{can_access, offset_from}
use Rattle.op_rv.specs.declared.instruction.LoadOp.TheVariants.{Lw}
use Rattle.op_rv.specs.declared.instruction.StoreOp.TheVariants.{Sw}
use Rattle.op_agreement.proofs.HeapKept.{heap_stays}
use Rattle.op_agreement.proofs.Charting.{due_apart, live_stands}
use Rattle.op_agreement.proofs.Copying.{having}
use Rattle.op_agreement.proofs.Going.{Goes, goes_one, goes_to}
use Rattle.op_agreement.proofs.Memory.{bounded_below, may_access}
use Rattle.op_agreement.proofs.Standing.{SameVariables, Temporaries, here, kept_registers}
use Rattle.op_agreement.proofs.Updating.{floors_here, limit_here}
use Rattle.op_agreement.specs.Chart.{AllLie, Floor, address_of, type_held}
use Rattle.op_agreement.specs.Fitting.{DueStands, IsFitting}
use Rattle.op_agreement.specs.Settings.{Apart, Setting, due_address}
use Rattle.op_agreement.specs.Stands.{ArePending, CallersStand, IsFixed, Stays}

module _ (g : Setting) (fit : IsFitting g) (l : State) (above : g.bottom ≤ l.limit) where
  the_word : DueStands g (due_address g)
  the_word = fit.placed.due

  plain : offset_from (due_address g) (pos 0) ≡ due_address g
  plain = let word = fit.placed.words (due_word g.core) in omega arith

  pub due_addressed : (f : ℕ → ℕ) (to : VirtualRegister) (rest : List LowInstruction) → Goes g 1 1 (at l f (Address to (due_word g.core) ∷ rest)) (at l (λ r. if nat_eq r to.0 then due_address g else f r) rest)
  unfolding act
  due_addressed f to rest = goes_one g l f (Address to (due_word g.core)) rest refl

  pub due_loads : (f : ℕ → ℕ) (to base : VirtualRegister) (rest : List LowInstruction) (n : ℕ) → f base.0 ≡ due_address g → word_at l.memory (due_address g) ≡ n → Goes g 1 1 (at l f (Load Lw to base (pos 0) ∷ rest)) (at l (λ r. if nat_eq r to.0 then n else f r) rest)
  unfolding act load
  due_loads f to base rest n is told =
      let stands = the_word in
      let below = stands.below in
      let can : can_access (usable g.placement.rights.readable (at l f rest)) (due_address g) 4 ≡ true = may_access g.placement.rights.readable l.limit (due_address g) 4 stands.words stands.readable (omega arith) in
      goes_to g 1 (at l f (Load Lw to base (pos 0) ∷ rest)) (act g.low g.placement (Load Lw to base (pos 0)) (at l f rest)) (at l (λ r. if nat_eq r to.0 then n else f r) rest)
      (ap (λ x. load g.placement Lw to (offset_from x (pos 0)) (at l f rest)) is
      ∙ ap (λ x. load g.placement Lw to x (at l f rest)) plain
      ∙ cond-true (can_access (usable g.placement.rights.readable (at l f rest)) (due_address g) 4) (keep to (word_at l.memory (due_address g)) (at l f rest)) (bad (at l f rest)) can
      ∙ ap (λ w. keep to w (at l f rest)) told)
      (goes_one g l f (Load Lw to base (pos 0)) rest refl)

  pub due_stores : (f : ℕ → ℕ) (from base : VirtualRegister) (rest : List LowInstruction) (n : ℕ) → f base.0 ≡ due_address g → f from.0 ≡ n → Goes g 1 1 (at l f (Store Sw from base (pos 0) ∷ rest)) (having l f rest (with_bytes l.memory (due_address g) (bytes_low_first 0 4 n)))
  unfolding act store
  due_stores f from base rest n is told =
      let stands = the_word in
      let below = stands.below in
      let can : can_access (usable g.placement.rights.writable (at l f rest)) (due_address g) 4 ≡ true = may_access g.placement.rights.writable l.limit (due_address g) 4 stands.words stands.writable (omega arith) in
      goes_to g 1 (at l f (Store Sw from base (pos 0) ∷ rest)) (act g.low g.placement (Store Sw from base (pos 0)) (at l f rest)) (having l f rest (with_bytes l.memory (due_address g) (bytes_low_first 0 4 n)))
      (ap (λ x. store g.placement Sw (f from.0) (offset_from x (pos 0)) (at l f rest)) is
      ∙ ap (λ x. store g.placement Sw (f from.0) x (at l f rest)) plain
      ∙ cond-true (can_access (usable g.placement.rights.writable (at l f rest)) (due_address g) 4) (having l f rest (with_bytes l.memory (due_address g) (bytes_low_first 0 4 (f from.0)))) (bad (at l f rest)) can
      ∙ ap (λ w. having l f rest (with_bytes l.memory (due_address g) (bytes_low_first 0 4 w))) told)
      (goes_one g l f (Store Sw from base (pos 0)) rest refl)

-- another number is counted, and no value is touched
module _ (g : Setting) (fit : IsFitting g) (closes : has_closing g.core ≡ true) (floors : ℕ → Floor) (m : MirState) (l : State) (s : Stays g floors m l) (pending : List Pending) (are : ArePending (finalizations g.core) pending) where
  abbrev pub counted : ℕ → ℕ
  counted = with_bytes l.memory (due_address g) (bytes_low_first 0 4 (g.stack + length pending))

  outside : (x : ℕ) → (x < due_address g) ⊎ (due_address g + 4 ≤ x) → counted x ≡ l.memory x
  outside x far = with_bytes-outside l.memory (due_address g) (bytes_low_first 0 4 (g.stack + length pending)) x (by far)
    where
      by : (x < due_address g) ⊎ (due_address g + 4 ≤ x) → due_address g ≤ x → x < due_address g + 4 → ⊥
      by (inl before) from to = omega arith
      by (inr behind) from to = omega arith

  lie_counted : AllLie g floors (length m.callers) m.world.memory counted
  lie_counted h live =
      let due = fit.placed.due in
      let stands = live_stands g fit floors (length m.callers) l.limit (floors_here g fit floors m l s) (limit_here g fit floors m l s) h live in
      let whole = type_is_arranged g.core fit.program.extents (type_held g.core floors h) stands.small in
      let size = whole.size in
      let apart = due_apart g fit floors (length m.callers) l.limit (floors_here g fit floors m l s) (limit_here g fit floors m l s) (due_address g) due h live in
      kept (arrangement_of g.core (type_held g.core floors h)) (m.world.memory h) l.memory counted (address_of g floors h) whole.arranged (λ x from to. outside x (far x from (omega arith) apart)) (s.lie h live)
    where
      far : (x : ℕ) → address_of g floors h ≤ x → x < address_of g floors h + size_in g.core (type_held g.core floors h) → Apart (address_of g floors h) (size_in g.core (type_held g.core floors h)) (due_address g) 4 → (x < due_address g) ⊎ (due_address g + 4 ≤ x)
      far x from to (inl before) = inl (omega arith)
      far x from to (inr behind) = inr (omega arith)

  fixed_counted : IsFixed g counted
  fixed_counted x low fixed = outside x (by (cases_lt x (due_address g)) (cases_lt x (due_address g + 4))) ∙ s.fixed x low fixed
    where
      by : (x < due_address g) ⊎ (due_address g ≤ x) → (x < due_address g + 4) ⊎ (due_address g + 4 ≤ x) → (x < due_address g) ⊎ (due_address g + 4 ≤ x)
      by (inl before) other = inl before
      by (inr from) (inr behind) = inr behind
      by (inr from) (inl to) = let clash : true ≡ false = sym (fit.placed.due.writable x from to) ∙ fixed in absurd cc

  pub stays_counted : (rest : List Instr) (f : ℕ → ℕ) (now : List LowInstruction) → SameVariables (here m floors) l.top.registers f → Temporaries (here m floors) m.world.temps f → Stays g floors (record m { work = rest; pending = pending }) (having l f now counted)
  stays_counted rest f now same temporaries =
      let a = s.activation in
      let fits = a.floor.fits in
      let behind = fits.behind in
      let few = are.few in
      let units = (fit.closing closes).few in
      let most = fit.program.stack in
      let zeroth : f 0 ≡ l.top.registers 0 = same 0 (omega arith) in
      let first : f 1 ≡ l.top.registers 1 = same 1 (omega arith) in
      record {
        running = refl;
        plain = s.plain;
        pending = are;
        due = λ some. word_at-stored l.memory (due_address g) (g.stack + length pending) (omega arith);
        depth = s.depth;
        activation = record {
          floor = a.floor;
          number = a.number;
          same = a.same;
          kept = kept_registers g floors (length m.callers) m.world.memory m.world.bound m.world.temps m.world.temps l.top.registers f fits same temporaries a.kept;
          left = ap (λ x. x + m.charged) zeroth ∙ a.left;
          base = a.base;
          enough = subst (λ x. x + 1024 ≤ l.room) (sym zeroth) a.enough;
          top = a.top;
        };
        callers = subst (λ x. CallersStand g floors m.world.memory m.world.bound m.callers l.callers m.routine x l.limit l.room m.charged) (sym first) s.callers;
        lie = lie_counted;
        fixed = fixed_counted;
        heap = heap_stays g fit l.memory counted (λ x owned. outside x owned.due) s.heap;
        bytes = bounded_below l.limit l.memory (due_address g) (bytes_low_first 0 4 (g.stack + length pending)) s.bytes (λ k. four-bounded (g.stack + length pending) k);
        output = s.output;
        errors = s.errors;
        input = s.input;
      }
