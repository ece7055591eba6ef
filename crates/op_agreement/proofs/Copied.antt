-- What is known where a value is copied from one live place to another, and what is kept then.
use Rattle.std.proofs.Common.{◌≡◌, ◌≤◌, ◌<◌, ◌⊎◌, inl, inr, ℕ, ◌+◌, ◌-◌, ◌%◌, List, length, refl, sym, ap, ◌∙◌, subst, arith, get_or}
use Rattle.std.specs.Prelude.{◌^◌, Bool, true, false, if◌then◌else◌}
use Rattle.std.proofs.lemmas.Bool.{cases_lt}
use Rattle.std.proofs.lemmas.Bool.Decides.{nat_tests}
use Rattle.op_compute.specs.Straight.{at}
use Rattle.op_constants.proofs.Lying.{copied, leads_within, put_lies}
use Rattle.op_constants.proofs.TypesArranged.{type_is_arranged}
use Rattle.op_constants.specs.Arranged.{IsSmall}
use Rattle.op_constants.specs.Lies.{Arrangement, IsArranged, Leads, Lies, arrangement_of, bytes_in, in_parts, one_number}
use Rattle.op_constants.specs.Offsets.{alignment_in, size_in}
use Rattle.op_core.specs.declared.ids.TypeId.{TypeId}
use Rattle.op_expand.specs.Calls.{result_address}
use Rattle.op_places.specs.Homes.{home_at}
use Rattle.op_places.specs.Moves.{by_words}
use Rattle.op_places.specs.declared.homes.Home.TheVariants.{Held, Stored}
use Rattle.op_low.specs.State.{State}
use Rattle.op_low.specs.declared.instruction.Instruction.{Instruction as LowInstruction}
use Rattle.op_meaning.specs.Values.{Place, Value, local, part_of, put, same_holder}
use Rattle.op_meaning.specs.World.{value_at, with_value}
use Rattle.op_mir.specs.Code.{Instr}
use Rattle.op_mir.specs.Machine.{MirState}
use Rattle.op_mir.specs.Plain.{IsPlainWorld}
use Rattle.op_rt_text.specs.Running.{Copyable}
use Rattle.op_rv.proofs.Memory.{byte_from, length-bytes_from, with_bytes-outside, with_bytes-within}
use Rattle.op_rv.specs.State.{bytes_from, with_bytes}
use Rattle.op_constants.proofs.Units.{coarser}
use Rattle.op_agreement.proofs.Aligning.{leads_apart, part_aligned, part_coarser}
use Rattle.op_agreement.proofs.Charting.{live_apart, live_stands, same_is}
use Rattle.op_agreement.proofs.Memory.{place_stands, some_size}
use Rattle.op_agreement.proofs.Standing.{SameVariables, Temporaries, here, kept_registers}
use Rattle.op_agreement.proofs.Updating.{Changed, Unchanged, callers_moved, floors_here, kept_moved, limit_here, stays_put}
use Rattle.op_agreement.specs.Chart.{AllLie, Floor, IsAt, Live, address_of, stored_offset, type_held}
use Rattle.op_agreement.specs.Fitting.{IsFitting}
use Rattle.op_agreement.specs.Settings.{Apart, Setting}
use Rattle.op_agreement.specs.Stands.{CallersStand, Stays}
use Rattle.op_agreement.specs.Typed.{IsVariable}

-- where there are no bytes any value lies
pub nothing_lies : (l : Arrangement) (v : Value) (memory : ℕ → ℕ) (a : ℕ) → IsArranged l → bytes_in l ≡ 0 → Lies l v memory a
nothing_lies (one_number kind) v memory a is none = let some = some_size kind in absurd (omega arith)
nothing_lies (in_parts size count offset part) v memory a is none = λ k low. let room = (is.0 k low).1 in nothing_lies (part k) (part_of k v) memory (a + offset k) (is.0 k low).0 (omega arith)

module _ (g : Setting) (fit : IsFitting g) (m : MirState) (l : State) (floors : ℕ → Floor) (s : Stays g floors m l) (of : TypeId) (small : IsSmall g.core of) where
  abbrev size : ℕ
  size = size_in g.core of

  abbrev At : Place → ℕ → Type 0
  At q a = IsAt g floors (length m.callers) q of a

  -- ---- two places of the type

  -- a place of the type is at a distance from the beginning of its holder
  within : (q : Place) (a : ℕ) → (is : At q a) → is.distance + size ≤ size_in g.core (type_held g.core floors q.holder)
  within q a is =
      let stands = live_stands g fit floors (length m.callers) l.limit (floors_here g fit floors m l s) (limit_here g fit floors m l s) q.holder is.live in
      let whole = type_is_arranged g.core fit.program.extents (type_held g.core floors q.holder) stands.small in
      let part = type_is_arranged g.core fit.program.extents of small in
      let inside = leads_within (arrangement_of g.core (type_held g.core floors q.holder)) (arrangement_of g.core of) q.path is.distance whole.arranged is.leads in
      let a_size = whole.size in
      let b_size = part.size in
      omega arith

  -- their bytes are the same, or apart
  pub same_or_apart : (q p : Place) (a b : ℕ) → (one : At q a) → (other : At p b) → a ≡ address_of g floors q.holder + one.distance → b ≡ address_of g floors p.holder + other.distance → (a + size ≤ b) ⊎ (b ≤ a)
  same_or_apart q p a b one other from_is to_is = by (same_holder q.holder p.holder) refl
    where
      by_parts : (address_of g floors q.holder ≡ address_of g floors p.holder) → (one.distance + bytes_in (arrangement_of g.core of) ≤ other.distance) ⊎ ((other.distance + bytes_in (arrangement_of g.core of) ≤ one.distance) ⊎ (one.distance ≡ other.distance)) → bytes_in (arrangement_of g.core of) ≡ size → (a + size ≤ b) ⊎ (b ≤ a)
      by_parts same (inl before) many = inl (omega arith)
      by_parts same (inr (inl behind)) many = inr (omega arith)
      by_parts same (inr (inr is)) many = inr (omega arith)

      by_holders : Apart (address_of g floors q.holder) (size_in g.core (type_held g.core floors q.holder)) (address_of g floors p.holder) (size_in g.core (type_held g.core floors p.holder)) → (a + size ≤ b) ⊎ (b ≤ a)
      by_holders (inl before) = let inside = within q a one in inl (omega arith)
      by_holders (inr behind) = let inside = within p b other in inr (omega arith)

      by : (c : Bool) → same_holder q.holder p.holder ≡ c → (a + size ≤ b) ⊎ (b ≤ a)
      by true e =
          let same = same_is q.holder p.holder e in
          let stands = live_stands g fit floors (length m.callers) l.limit (floors_here g fit floors m l s) (limit_here g fit floors m l s) q.holder one.live in
          let whole = type_is_arranged g.core fit.program.extents (type_held g.core floors q.holder) stands.small in
          let part = type_is_arranged g.core fit.program.extents of small in
          let leads : Leads (arrangement_of g.core (type_held g.core floors q.holder)) p.path (arrangement_of g.core of) other.distance = subst (λ h. Leads (arrangement_of g.core (type_held g.core floors h)) p.path (arrangement_of g.core of) other.distance) (sym same) other.leads in
          by_parts (ap (address_of g floors) same) (leads_apart (arrangement_of g.core (type_held g.core floors q.holder)) (arrangement_of g.core of) q.path p.path one.distance other.distance whole.arranged one.leads leads) part.size
      by false e = by_holders (live_apart g fit floors (length m.callers) l.limit (floors_here g fit floors m l s) (limit_here g fit floors m l s) q.holder p.holder e one.live other.live)

  -- what is copied by words stands by whole words, if it has bytes
  pub place_whole : (q : Place) (a : ℕ) → (is : At q a) → 0 < size → a ≡ address_of g floors q.holder + is.distance → by_words g.core of ≡ true → a % 4 ≡ 0
  place_whole q a is some same words =
      let stands = live_stands g fit floors (length m.callers) l.limit (floors_here g fit floors m l s) (limit_here g fit floors m l s) q.holder is.live in
      let four : alignment_in g.core of ≡ 4 = grind (arith, nat_tests) in
      let far = subst (λ n. is.distance % n ≡ 0) four (part_aligned g.core fit.program.extents fit.program.first_type (type_held g.core floors q.holder) of q.path is.distance stands.small small is.leads) in
      let less = subst (λ n. n ≤ alignment_in g.core (type_held g.core floors q.holder)) four (part_coarser g.core fit.program.extents fit.program.first_type (type_held g.core floors q.holder) of q.path is.distance stands.small small is.leads) in
      let unit = (type_is_arranged g.core fit.program.extents (type_held g.core floors q.holder) stands.small).unit in
      let inside = within q a is in
      let near = coarser 4 (alignment_in g.core (type_held g.core floors q.holder)) (address_of g floors q.holder) (inr (inr refl)) unit less (stands.aligned (omega arith)) in
      omega arith

  -- and takes whole words
  pub size_whole : by_words g.core of ≡ true → size % 4 ≡ 0
  size_whole words =
      let four : alignment_in g.core of ≡ 4 = grind (arith, nat_tests) in
      subst (λ n. size % n ≡ 0) four (type_is_arranged g.core fit.program.extents of small).whole

  module _ (q p : Place) (a b : ℕ) (one : At q a) (other : At p b) (some : 0 < size) where
    -- both stand by whole words, if they are copied by words
    pub all_whole : by_words g.core of ≡ true → (a % 4 ≡ 0) × (b % 4 ≡ 0) × (size % 4 ≡ 0)
    all_whole words =
        let from = place_stands g fit m l floors s q of a one small some in
        let to = place_stands g fit m l floors s p of b other small some in
        (place_whole q a from.is_at some from.same words, place_whole p b to.is_at some to.same words, size_whole words)

    -- so the one may be copied to the other
    pub copyable : Copyable g.placement l b a size
    copyable =
        let from = place_stands g fit m l floors s q of a one small some in
        let to = place_stands g fit m l floors s p of b other small some in
        let from_below = from.below in
        record {
          target = record { may = to.writable; below = to.below };
          source = record { may = from.readable; below = from.below };
          bytes = λ x at_ before. s.bytes x (omega arith);
          apart = same_or_apart q p a b from.is_at to.is_at from.same to.same;
        }

    -- ---- the value of the one is put at the other

    module _ (memory : ℕ → ℕ) (is : (x : ℕ) → x < l.limit → memory x ≡ with_bytes l.memory b (bytes_from l.memory a size) x) where
      -- the bytes of the one stand at the other, and all else is as it was
      bytes_moved : (x : ℕ) → x < size → memory (b + x) ≡ l.memory (a + x)
      bytes_moved x low =
          let to = place_stands g fit m l floors s p of b other small some in
          let below = to.below in
          let many = length-bytes_from l.memory a size in
          let there : b + x - b ≡ x = omega arith in
          is (b + x) (omega arith)
          ∙ with_bytes-within l.memory b (bytes_from l.memory a size) (b + x) (omega arith) (omega arith)
          ∙ ap (λ i. get_or (bytes_from l.memory a size) i 0) there
          ∙ byte_from l.memory a size x low

      changed : Changed g fit floors m l s memory b size
      changed x low far = is x low ∙ with_bytes-outside l.memory b (bytes_from l.memory a size) x (λ from before. out far from before (length-bytes_from l.memory a size))
        where
          out : (x < b) ⊎ (b + size ≤ x) → b ≤ x → x < b + length (bytes_from l.memory a size) → length (bytes_from l.memory a size) ≡ size → ⊥
          out (inl lower) from before many = omega arith
          out (inr upper) from before many = omega arith

      -- bytes are still bytes
      bytes_stay : (x : ℕ) → x < l.limit → memory x < 2 ^ 8
      bytes_stay x low = by (cases_lt x b) (cases_lt x (b + size))
        where
          old : (x < b) ⊎ (b + size ≤ x) → memory x < 2 ^ 8
          old far = subst (λ y. y < 2 ^ 8) (sym (changed x low far)) (s.bytes x low)

          by : (x < b) ⊎ (b ≤ x) → (x < b + size) ⊎ (b + size ≤ x) → memory x < 2 ^ 8
          by (inl lower) other_end = old (inl lower)
          by (inr from) (inr upper) = old (inr upper)
          by (inr from) (inl before) =
              let source = place_stands g fit m l floors s q of a one small some in
              let below = source.below in
              let there : b + (x - b) ≡ x = omega arith in
              let same : memory x ≡ l.memory (a + (x - b)) = ap memory (sym there) ∙ bytes_moved (x - b) (omega arith) in
              subst (λ y. y < 2 ^ 8) (sym same) (s.bytes (a + (x - b)) (omega arith))

      -- the value lies there
      value_there : Lies (arrangement_of g.core of) (value_at m.world q) memory b
      value_there =
          let from = place_stands g fit m l floors s q of a one small some in
          let part = type_is_arranged g.core fit.program.extents of small in
          let many = part.size in
          copied (arrangement_of g.core of) (value_at m.world q) l.memory memory a b part.arranged (λ x low. bytes_moved x (omega arith)) from.lies

      -- and so what stays
      pub stays_copied : (rest : List Instr) (f : ℕ → ℕ) (now : List LowInstruction) → IsPlainWorld (with_value p (value_at m.world q) m.world) → SameVariables (here m floors) l.top.registers f → Temporaries (here m floors) m.world.temps f → Stays g floors (record m { world = with_value p (value_at m.world q) m.world; work = rest }) (record (at l f now) { memory = memory })
      stays_copied rest f now plain same are =
          stays_put g fit floors m l s p of b other some small (value_at m.world q) memory changed rest f now plain bytes_stay value_there same are

  -- ---- a value without bytes is put

  module _ (p : Place) (b : ℕ) (other : At p b) (none : size ≡ 0) (v : Value) where
    -- all values lie as before
    nothing_put : AllLie g floors (length m.callers) (with_value p v m.world).memory l.memory
    nothing_put h live = by (same_holder h p.holder) refl
      where
        by : (c : Bool) → same_holder h p.holder ≡ c → Lies (arrangement_of g.core (type_held g.core floors h)) (if c then put p.path v (m.world.memory h) else m.world.memory h) l.memory (address_of g floors h)
        by true e =
            let stands = live_stands g fit floors (length m.callers) l.limit (floors_here g fit floors m l s) (limit_here g fit floors m l s) p.holder other.live in
            let whole = type_is_arranged g.core fit.program.extents (type_held g.core floors p.holder) stands.small in
            let part = type_is_arranged g.core fit.program.extents of small in
            subst (λ h. Lies (arrangement_of g.core (type_held g.core floors h)) (put p.path v (m.world.memory h)) l.memory (address_of g floors h)) (sym (same_is h p.holder e))
            (put_lies (arrangement_of g.core (type_held g.core floors p.holder)) (arrangement_of g.core of) p.path (m.world.memory p.holder) v l.memory l.memory (address_of g floors p.holder) other.distance whole.arranged other.leads (λ x far. refl)
            (nothing_lies (arrangement_of g.core of) v l.memory (address_of g floors p.holder + other.distance) part.arranged (part.size ∙ none)) (s.lie p.holder other.live))
        by false e = s.lie h live

    -- variables that are kept in registers are no places
    held_same : (d u r : ℕ) → d ≤ length m.callers → IsVariable g.core (floors d).number u false → home_at (floors d).frame.homes (record { 0 = u }) ≡ Held (record { 0 = r }) → (with_value p v m.world).memory (local d u) ≡ m.world.memory (local d u)
    held_same d u r low variable home = by (same_holder (local d u) p.holder) refl
      where
        clash : Live g.core floors (length m.callers) (local d u) → ⊥
        clash (level, (known, stored)) = let c : Held (record { 0 = r }) ≡ Stored (stored_offset (home_at (floors d).frame.homes (record { 0 = u }))) = sym home ∙ stored in cc

        by : (c : Bool) → same_holder (local d u) p.holder ≡ c → (if c then put p.path v (m.world.memory (local d u)) else m.world.memory (local d u)) ≡ m.world.memory (local d u)
        by true e = absurd (clash (subst (Live g.core floors (length m.callers)) (sym (same_is (local d u) p.holder e)) other.live))
        by false e = refl

    same_below : Unchanged g floors floors m.world.memory (with_value p v m.world).memory m.world.bound m.world.bound (length m.callers)
    same_below = record { floors = λ d low. refl; variables = λ d u r low variable home. held_same d u r (omega arith) variable home; places = λ d u low reference. refl }

    -- and so what stays
    pub stays_nothing : (rest : List Instr) (f : ℕ → ℕ) (now : List LowInstruction) → IsPlainWorld (with_value p v m.world) → SameVariables (here m floors) l.top.registers f → Temporaries (here m floors) m.world.temps f → Stays g floors (record m { world = with_value p v m.world; work = rest }) (at l f now)
    stays_nothing rest f now plain same are =
        let a = s.activation in
        let fits = a.floor.fits in
        let behind = fits.behind in
        let zeroth : f 0 ≡ l.top.registers 0 = same 0 (omega arith) in
        let first : f 1 ≡ l.top.registers 1 = same 1 (omega arith) in
        let moved = callers_moved g floors floors m.world.memory (with_value p v m.world).memory m.world.bound m.world.bound m.callers l.callers m.routine (l.top.registers result_address.0) l.limit l.room m.charged same_below s.callers in
        record {
          running = refl;
          plain = plain;
          pending = s.pending;
          depth = s.depth;
          activation = record {
            floor = a.floor;
            number = a.number;
            same = a.same;
            kept = kept_registers g floors (length m.callers) (with_value p v m.world).memory m.world.bound m.world.temps m.world.temps l.top.registers f fits same are
                (kept_moved g floors floors m.world.memory (with_value p v m.world).memory m.world.bound m.world.bound (length m.callers) (λ d low. refl) (λ u r variable home. held_same (length m.callers) u r (omega arith) variable home) (λ u reference. refl) m.world.temps l.top.registers a.kept);
            left = ap (λ x. x + m.charged) zeroth ∙ a.left;
            base = a.base;
            enough = let enough = a.enough in omega arith;
            top = a.top;
          };
          callers = subst (λ x. CallersStand g floors (with_value p v m.world).memory m.world.bound m.callers l.callers m.routine x l.limit l.room m.charged) (sym first) moved;
          lie = nothing_put;
          fixed = s.fixed;
          heap = s.heap;
          due = s.due;
          bytes = s.bytes;
          output = s.output;
          errors = s.errors;
          input = s.input;
        }
