-- The beginning of a routine: its parameters by value that have an address come from their registers.
use Rattle.std.proofs.Common.{◌≡◌, ◌≤◌, ◌<◌, ◌⊎◌, inl, inr, ℕ, suc, ◌+◌, List, [], ◌∷◌, ◌++◌, length, Option, Some, None, refl, sym, ap, ◌∙◌, subst, arith, append_assoc, ◌*◌, ap₂}
use Rattle.std.specs.Prelude.{pos, if◌then◌else◌}
use Rattle.op_compute.specs.Bank.{scratch_of}
use Rattle.op_compute.specs.Conversions.{low_bits_code}
use Rattle.op_compute.specs.Meaning.{IsWordOf}
use Rattle.op_compute.specs.Straight.{at, fewest_steps}
use Rattle.op_constants.proofs.Lying.{copied, part_lies}
use Rattle.op_constants.proofs.TypesArranged.{type_is_arranged}
use Rattle.op_constants.specs.Lies.{Lies, arrangement_of}
use Rattle.op_constants.specs.Offsets.{size_in}
use Rattle.op_constants.specs.Shapes.{is_composite}
use Rattle.op_core.specs.declared.program.Core.{Core}
use Rattle.op_core.specs.declared.routine.Variable.{Variable}
use Rattle.op_core.specs.declared.types.IntegerKind.{IntegerKind}
use Rattle.op_meaning.specs.Frames.{Handed}
use Rattle.op_places.specs.Homes.{home_at, parameter, rounded}
use Rattle.op_places.specs.Moves.{held_by, near, store_op, taken_code}
use Rattle.op_places.specs.Places.{place_code, place_of}
use Rattle.op_expand.specs.Routines.{received, received_number}
use Rattle.op_places.specs.declared.frame.Frame.{Frame}
use Rattle.op_places.specs.declared.homes.Home.{Home}
use Rattle.op_places.specs.declared.homes.Home.TheVariants.{Held, Stored as StoredHome, Shared}
use Rattle.op_places.specs.declared.spot.Spot.{Spot}
use Rattle.op_low.specs.State.{Caller, State}
use Rattle.op_low.specs.declared.ids.VirtualRegister.{VirtualRegister}
use Rattle.op_low.specs.declared.instruction.Instruction.{Instruction as LowInstruction}
use Rattle.op_low.specs.declared.instruction.Instruction.TheVariants.{Store as StoreWord}
use Rattle.op_meaning.specs.Numbers.{low_bits_of}
use Rattle.op_meaning.specs.Shapes.{Shape, shape_of, single, is_reference}
use Rattle.op_meaning.specs.Statements.{kind_by}
use Rattle.op_meaning.specs.Values.{Value, Holder, Place, all_of, local, number, number_in}
use Rattle.op_meaning.specs.World.{World, value_at}
use Rattle.op_mir.specs.Machine.{MirCaller, MirState}
use Rattle.op_mir.specs.View.{view_path}
use Rattle.op_mir.specs.declared.ids.LocalId.{LocalId}
use Rattle.op_mir.specs.declared.path.Path.{Path}
use Rattle.op_mir.specs.declared.path.Root.TheVariants.{Local}
use Rattle.op_rt_text.specs.Names.{register}
use Rattle.op_agreement.proofs.Entering.{Enters, above_at, registers_begun, values_at, world_after}
use Rattle.op_agreement.proofs.Going.{Goes, goes_from, goes_then, standing, goes_within}
use Rattle.op_agreement.proofs.Memory.{PlaceStands, number_stores, place_stands, size_of_number, some_size}
use Rattle.op_agreement.proofs.Paths.{place_goes}
use Rattle.op_agreement.proofs.Placing.{IsStoredValue, Received, received_on, register_low, small_here, type_here, variable_here}
use Rattle.op_agreement.proofs.Taking.{CanTake, taken_goes}
use Rattle.op_agreement.proofs.Updating.{floors_here}
use Rattle.op_agreement.proofs.WholeWords.{rounded_some}
use Rattle.op_agreement.specs.Chart.{Floor, IsAt, address_of, stored_offset, type_held}
use Rattle.op_agreement.specs.Fitting.{IsFitting}
use Rattle.op_agreement.specs.Handing.{ArePartsHanded, IsNumberHanded}
use Rattle.op_agreement.specs.Settings.{Setting}
use Rattle.op_agreement.specs.Typed.{PathTo}

-- the bytes of a value that is copied
abbrev pub copied_bytes : Core → Variable → ℕ
copied_bytes core p = if is_reference p.role then 0 else if is_composite (shape_of core p.of) then size_in core p.of else 0

-- what it costs at most to receive a parameter
abbrev pub receive_most : Core → Variable → ℕ
receive_most core p = 195 + 6 * copied_bytes core p

-- low code that has come to where so many parameters are received
pub record Receives (g : Setting) (Holds : State → Type 0) (most : ℕ) (from : State) : Type 0 where
  pub to : State
  pub goes : Goes g 0 most from to
  pub holds : Holds to

-- ---- the code that receives a parameter, by where it is kept

-- a number, or a value with parts
abbrev received_stored : Core → Frame → (k : ℕ) → Variable → Shape → List LowInstruction
received_stored core frame k p shape = if is_composite shape then taken_code core frame (register (parameter k)) (size_in core p.of) (record { 0 = k }) else received_number core frame k p.of

-- by its home
abbrev pub received_by : Core → Frame → (k : ℕ) → Variable → Home → List LowInstruction
received_by core frame k p (StoredHome offset) = received_stored core frame k p (shape_of core p.of)
received_by core frame k p (Held q) = []
received_by core frame k p (Shared id) = []

module _ (g : Setting) (fit : IsFitting g) (m : MirState) (l : State) (floors new : ℕ → Floor) (r : ℕ) (given : List Handed) (c : MirCaller) (lcs : List Caller) (room : ℕ) (first result : ℕ) (words : List ℕ) (e : Enters g m l floors new r given c lcs room first result words) where
  abbrev deep : ℕ
  deep = suc (length m.callers)

  abbrev floor_here : Floor
  floor_here = new (suc (length m.callers))

  abbrev world : World
  world = world_after g fit m l floors new r given c lcs room first result words e

  abbrev values : ℕ → Holder → Value
  values = values_at g fit m l floors new r given c lcs room first result words e

  abbrev above : ℕ → MirState
  above = above_at g fit m l floors new r given c lcs room first result words e

  abbrev registers : ℕ → ℕ
  registers = registers_begun g fit m l floors new r given c lcs room first result words e

  abbrev HasReceived : ℕ → List LowInstruction → State → Type 0
  HasReceived = Received g fit m l floors new r given c lcs room first result words e

  -- ---- a parameter that is stored

  module _ (k : ℕ) (p : Variable) (offset : ℕ) (i : IsStoredValue g fit m l floors new r given c lcs room first result words e k p offset) (lk : State) (rest : List LowInstruction) where
    abbrev from : VirtualRegister
    from = register (parameter k)

    abbrev free : VirtualRegister
    free = scratch_of floor_here.frame.bank 0

    abbrev place : ℕ
    place = floor_here.base + offset

    abbrev variable : LocalId
    variable = record { 0 = k }

    abbrev path : Path
    path = record { root = Local variable; steps = [] }

    abbrev spot : Spot
    spot = place_of g.core floor_here.frame near (Local variable) [] free

    abbrev place_before : List LowInstruction
    place_before = place_code g.core floor_here.frame near (Local variable) [] free

    abbrev stored_by : IntegerKind → LowInstruction
    stored_by kind = StoreWord (store_op kind) from spot.base (pos spot.offset)

    abbrev store_for : IntegerKind → Option VirtualRegister → List LowInstruction
    store_for kind (Some q) = low_bits_code q kind from
    store_for kind None = place_before ++ stored_by kind ∷ []

    -- the code of a number, which has a home in the locals
    number_code_is : (kind : IntegerKind) → shape_of g.core p.of ≡ single kind → received_number g.core floor_here.frame k p.of ≡ place_before ++ stored_by kind ∷ []
    number_code_is kind shape = ap (λ s. store_for (kind_by s) (held_by (Local variable) [] (home_at floor_here.frame.homes variable))) shape ∙ ap (λ h. store_for kind (held_by (Local variable) [] h)) i.home

    -- a number
    number_received : (was : HasReceived k (received_number g.core floor_here.frame k p.of ++ rest) lk) → IsNumberHanded g (world.memory (local deep k)) p (registers (parameter k)) → Receives g (HasReceived (k + 1) rest) (receive_most g.core p) lk
    number_received was (kind, shape, value, fits, word) =
        let s = was.stays in
        let scratch = e.floor.fits.scratch in
        let own = register_low g fit m l floors new r given c lcs room first result words e k p offset i in
        let small = small_here g fit m l floors new r given c lcs room first result words e k p offset i in
        let z = number_in (world.memory (local deep k)) in
        let typed : PathTo g.core floor_here.number (view_path path) p.of = record {
          from = p.of;
          root = (variable_here g fit m l floors new r given c lcs room first result words e k p offset i, type_here g fit m l floors new r given c lcs room first result words e k p offset i);
          reaches = refl;
          words = tt;
          small = small;
        } in
        let begins : lk ≡ at lk lk.top.registers (place_before ++ (stored_by kind ∷ rest)) = standing g lk (place_before ++ (stored_by kind ∷ rest)) s.running (was.code ∙ ap (λ x. x ++ rest) (number_code_is kind shape) ∙ append_assoc place_before (stored_by kind ∷ []) rest) in
        let reached = place_goes g fit (above k) lk new s path p.of near free lk.top.registers (stored_by kind ∷ rest) typed (offset, i.home) tt (omega arith) (λ x low. refl) in
        let same : reached.h (parameter k) ≡ registers (parameter k) = reached.kept (parameter k) (omega arith) ∙ was.arrived (parameter k) (omega arith) (omega arith) in
        let there : IsWordOf (reached.h (parameter k)) z = subst (λ w. IsWordOf w z) (sym same) word in
        let a = reached.h spot.base.0 + spot.offset in
        let stores = number_stores g fit (above k) lk new s (all_of (local deep k)) p.of kind reached.h from spot.base spot.offset rest z shape small reached.is (let low = reached.low in omega arith) there in
        let size = size_of_number g fit (above k) lk new s p.of kind shape small in
        let some = some_size kind in
        let at_ = at_place reached.is (omega arith) in
        let full = (rounded_some (size_in g.core p.of) (omega arith)).1 in
        let lies : Lies (arrangement_of g.core p.of) (world.memory (local deep k)) stores.memory place = subst (λ v. Lies (arrangement_of g.core p.of) v stores.memory place) (ap number fits ∙ sym value) (subst (Lies (arrangement_of g.core p.of) (number (low_bits_of kind z)) stores.memory) at_ stores.lies) in
        let to = record (at lk reached.h rest) { memory = stores.memory } in
        let least = fewest_steps place_before in
        record {
          to = to;
          goes = goes_within g 0 (receive_most g.core p) lk to (goes_from g 0 lk (at lk lk.top.registers (place_before ++ (stored_by kind ∷ rest))) to begins
              (goes_then g least 1 0 (at lk lk.top.registers (place_before ++ (stored_by kind ∷ rest))) (at lk reached.h (stored_by kind ∷ rest)) to (omega arith) reached.goes stores.goes)) (omega arith);
          holds = received_on g fit m l floors new r given c lcs room first result words e k p offset i lk (received_number g.core floor_here.frame k p.of ++ rest) rest was reached.h stores.memory
              (λ x low other. reached.kept x (omega arith))
              (λ x low far. stores.changed x low (outside x a (size_in g.core p.of) at_ full far))
              stores.bytes lies;
        }
      where
        at_place : {a : ℕ} → IsAt g new deep (all_of (local deep k)) p.of a → 0 < size_in g.core p.of → a ≡ place
        at_place {a} is some = by is.at
          where
            offset_is : stored_offset (home_at floor_here.frame.homes variable) ≡ offset
            offset_is = ap stored_offset i.home

            by : (size_in g.core p.of ≡ 0) ⊎ (a ≡ address_of g new (local deep k) + is.distance) → a ≡ place
            by (inl none) = absurd (omega arith)
            by (inr at_) = let none = is.leads.1 in let same = offset_is in omega arith

        outside : (x a size : ℕ) → a ≡ place → size ≤ rounded size → (x < place) ⊎ (place + rounded size ≤ x) → (x < a) ⊎ (a + size ≤ x)
        outside x a size same full (inl before) = inl (omega arith)
        outside x a size same full (inr behind) = inr (omega arith)

    -- a value with parts, from where it stands with the caller
    abbrev taking : List LowInstruction
    taking = taken_code g.core floor_here.frame from (size_in g.core p.of) variable

    abbrev source : ℕ
    source = registers (parameter k)

    -- what has no bytes may have any address
    parts_lie : (memory : ℕ → ℕ) (q : Place) → IsAt g floors (length m.callers) q p.of source → world.memory (local deep k) ≡ value_at m.world q → ((x : ℕ) → x < size_in g.core p.of → memory (place + x) ≡ l.memory (source + x)) → Lies (arrangement_of g.core p.of) (world.memory (local deep k)) memory place
    parts_lie memory q is value same = subst (λ v. Lies (arrangement_of g.core p.of) v memory place) (sym value) (by is.at)
      where
        there : ℕ
        there = address_of g floors q.holder + is.distance

        moved : ((x : ℕ) → x < size_in g.core p.of → memory (place + x) ≡ l.memory (there + x)) → Lies (arrangement_of g.core p.of) (value_at m.world q) memory place
        moved same =
            let whole = type_is_arranged g.core fit.program.extents p.of (small_here g fit m l floors new r given c lcs room first result words e k p offset i) in
            let size = whole.size in
            copied (arrangement_of g.core p.of) (value_at m.world q) l.memory memory there place whole.arranged (λ x low. same x (omega arith))
            (part_lies (arrangement_of g.core (type_held g.core floors q.holder)) (arrangement_of g.core p.of) q.path (m.world.memory q.holder) l.memory (address_of g floors q.holder) is.distance is.leads (e.stays.lie q.holder is.live))

        by : (size_in g.core p.of ≡ 0) ⊎ (source ≡ address_of g floors q.holder + is.distance) → Lies (arrangement_of g.core p.of) (value_at m.world q) memory place
        by (inl none) = moved (λ x low. absurd (omega arith))
        by (inr at_) = moved (λ x low. same x low ∙ ap (λ a. l.memory (a + x)) at_)

    -- where it stands with the caller
    source_stands : (q : Place) → IsAt g floors (length m.callers) q p.of source → 0 < size_in g.core p.of → PlaceStands g fit m l floors e.stays q p.of source
    source_stands q is some = place_stands g fit m l floors e.stays q p.of source is (small_here g fit m l floors new r given c lcs room first result words e k p offset i) some

    -- it takes its bytes from there
    parts_received : (was : HasReceived k (taking ++ rest) lk) → ArePartsHanded g floors (length m.callers) m.world (world.memory (local deep k)) p source → Receives g (HasReceived (k + 1) rest) (receive_most g.core p) lk
    parts_received was (shape, q, is, value, small_word) =
        let s = was.stays in
        let a = s.activation in
        let scratch = e.floor.fits.scratch in
        let own = register_low g fit m l floors new r given c lcs room first result words e k p offset i in
        let size = size_in g.core p.of in
        let base = e.base in
        let stack = floors_here g fit new (above k) lk s in
        let below : 0 < size → source + size ≤ floor_here.base = λ some. let stands = source_stands q is some in let low = stands.below in omega arith in
        let can : CanTake g floor_here lk from variable offset source size = record {
          floor = e.floor;
          running = s.running;
          routine = a.same;
          limit = a.base;
          words = stack.words deep (omega arith);
          lowest = stack.lowest deep (omega arith);
          room = let enough = a.enough in omega arith;
          top = a.top;
          bytes = s.bytes;
          variable = variable_here g fit m l floors new r given c lcs room first result words e k p offset i;
          home = i.home;
          typed = ap (size_in g.core) (sym (type_here g fit m l floors new r given c lcs room first result words e k p offset i));
          other = λ same. omega arith;
          holds = was.arrived (parameter k) (omega arith) (omega arith);
          readable = λ x low high. (source_stands q is (omega arith)).readable x low high;
          below = below;
        } in
        let taken = taken_goes g fit floor_here lk from variable offset source size can rest was.code in
        let lies = parts_lie taken.memory q is value (λ x low. let ends = below (omega arith) in taken.copied x low ∙ was.below (source + x) (omega arith)) in
        record {
          to = record (at lk taken.registers rest) { memory = taken.memory };
          goes = goes_within g 0 (receive_most g.core p) lk (record (at lk taken.registers rest) { memory = taken.memory }) taken.goes (let same : copied_bytes g.core p ≡ size = ap₂ (λ a b. if a then 0 else if is_composite b then size else 0) i.value shape in omega arith);
          holds = received_on g fit m l floors new r given c lcs room first result words e k p offset i lk (taking ++ rest) rest was taken.registers taken.memory taken.kept taken.others taken.bytes lies;
        }

    -- by its type
    pub stored_received : (was : HasReceived k (received g.core floor_here.frame k p ++ rest) lk) → IsNumberHanded g (world.memory (local deep k)) p (registers (parameter k)) ⊎ ArePartsHanded g floors (length m.callers) m.world (world.memory (local deep k)) p (registers (parameter k)) → Receives g (HasReceived (k + 1) rest) (receive_most g.core p) lk
    stored_received was (inl handed) =
        let code : received g.core floor_here.frame k p ≡ received_number g.core floor_here.frame k p.of = ap (received_by g.core floor_here.frame k p) i.home ∙ ap (received_stored g.core floor_here.frame k p) handed.1 in
        number_received (subst (λ x. HasReceived k (x ++ rest) lk) code was) handed
    stored_received was (inr handed) =
        let code : received g.core floor_here.frame k p ≡ taking = ap (received_by g.core floor_here.frame k p) i.home ∙ ap (received_stored g.core floor_here.frame k p) handed.0 in
        -- it takes its bytes from there
        parts_received (subst (λ x. HasReceived k (x ++ rest) lk) code was) handed
