-- What is kept where values, and the activation on top, change.
use Rattle.std.proofs.Common.{◌≡◌, ◌≤◌, ◌<◌, ◌⊎◌, inl, inr, ℕ, suc, ◌+◌, List, [], ◌∷◌, length, refl, sym, ap, ◌∙◌, subst, arith}
use Rattle.std.specs.Prelude.{◌^◌, Bool, true, false, nat_lt, if◌then◌else◌, ℤ}
use Rattle.std.proofs.lemmas.Bool.{cases_lt}
use Rattle.std.proofs.lemmas.Bool.Decides.{nat_tests}
use Rattle.op_compute.specs.Meaning.{IsWordOf}
use Rattle.op_compute.specs.Straight.{at}
use Rattle.op_constants.proofs.Lying.{kept, leads_arranged, leads_within, put_lies}
use Rattle.op_constants.proofs.TypesArranged.{type_is_arranged}
use Rattle.op_constants.specs.Arranged.{IsSmall}
use Rattle.op_constants.specs.Lies.{Arrangement, IsArranged, Leads, Lies, arrangement_of, bytes_in}
use Rattle.op_constants.specs.Offsets.{size_in}
use Rattle.op_core.specs.declared.ids.TypeId.{TypeId}
use Rattle.op_expand.specs.Calls.{result_address}
use Rattle.op_places.specs.Homes.{home_at, offset_of, parameter}
use Rattle.op_places.specs.declared.homes.Home.TheVariants.{Held, Stored}
use Rattle.op_low.specs.State.{Activation, Caller, State}
use Rattle.op_low.specs.declared.instruction.Instruction.{Instruction as LowInstruction}
use Rattle.op_meaning.specs.Shapes.{type_of_local}
use Rattle.op_meaning.specs.Values.{Value, Holder, global, local, temporary, object, Place, number_in, put, same_holder}
use Rattle.op_meaning.specs.World.{with_value}
use Rattle.op_meaning.specs.Items.{Receiver, nowhere, to_temp, to_place}
use Rattle.op_mir.specs.Code.{Instr}
use Rattle.op_mir.specs.Machine.{MirCaller, MirState}
use Rattle.op_mir.specs.Plain.{IsPlainWorld}
use Rattle.op_mir.specs.declared.instruction.Receiver.{Receiver as DeclaredReceiver}
use Rattle.op_mir.specs.declared.path.Root.TheVariants.{Local, Temporary}
use Rattle.op_agreement.proofs.HeapKept.{heap_stays}
use Rattle.op_agreement.proofs.Charting.{FloorsStand, due_apart, floors_stand, live_apart, live_stands, same_is, owned_apart}
use Rattle.op_agreement.proofs.Counting.{count_kept}
use Rattle.op_agreement.proofs.Standing.{here, kept_registers, SameVariables, Temporaries}
use Rattle.op_agreement.specs.Chart.{AllLie, Floor, IsAt, Live, address_of, stored_offset, type_held}
use Rattle.op_agreement.specs.Fitting.{HasHeap, IsFitting}
use Rattle.op_agreement.specs.Settings.{Apart, Setting, StoredAt, due_address}
use Rattle.op_agreement.specs.Stands.{ActivationStands, AreKept, CallersStand, IsCounted, IsFixed, IsFloor, Position, ResultGoes, Stays}
use Rattle.op_agreement.specs.Typed.{IsVariable}

-- ---- the same floors up to some depth

abbrev pub SameFloors : (ℕ → Floor) → (ℕ → Floor) → ℕ → Type 0
SameFloors old new depth = (d : ℕ) → d ≤ depth → new d ≡ old d

module _ (g : Setting) (old new : ℕ → Floor) where
  -- what a place of a holder is, by the floor of that holder
  abbrev LocalAt : ℕ → ℕ → List ℕ → TypeId → ℕ → ℕ → Floor → Type 0
  LocalAt e v path of a far f =
      StoredAt g.core f.number f.frame (Local (record { 0 = v })) (stored_offset (home_at f.frame.homes (record { 0 = v })))
      × Leads (arrangement_of g.core (type_of_local g.core f.number v)) path (arrangement_of g.core of) far
      × ((size_in g.core of ≡ 0) ⊎ (a ≡ f.base + stored_offset (home_at f.frame.homes (record { 0 = v })) + far))

  abbrev TemporaryAt : ℕ → TypeId → ℕ → List ℕ → TypeId → ℕ → ℕ → Floor → Type 0
  TemporaryAt e to n path of a far f =
      StoredAt g.core f.number f.frame (Temporary to n) (offset_of g.core (Temporary to n) f.frame.temporaries f.frame.roots)
      × ((size_in g.core of ≡ 0) ⊎ (a ≡ f.base + offset_of g.core (Temporary to n) f.frame.temporaries f.frame.roots + far))

  holder_moved : (depth : ℕ) → SameFloors old new depth → (h : Holder) (path : List ℕ) (of : TypeId) (a : ℕ) → IsAt g old depth (record { holder = h; path = path }) of a → IsAt g new depth (record { holder = h; path = path }) of a
  holder_moved depth same (global v) path of a is = record { live = is.live; distance = is.distance; leads = is.leads; at = is.at }
  holder_moved depth same (local e v) path of a is =
      let low = is.live.0 in
      let (stored, leads, at_) = subst (LocalAt e v path of a is.distance) (sym (same e low)) (is.live.1, is.leads, is.at) in
      record { live = (low, stored); distance = is.distance; leads = leads; at = at_ }
  holder_moved depth same (temporary e to n) path of a is =
      let low = is.live.0 in
      let (stored, at_) = subst (TemporaryAt e to n path of a is.distance) (sym (same e low)) (is.live.1, is.at) in
      record { live = (low, stored); distance = is.distance; leads = is.leads; at = at_ }
  holder_moved depth same (object name) path of a is = absurd is.live

  pub at_moved : (depth : ℕ) → SameFloors old new depth → (q : Place) (of : TypeId) (a : ℕ) → IsAt g old depth q of a → IsAt g new depth q of a
  at_moved depth same q of a is = holder_moved depth same q.holder q.path of a is

  module _ (values new_values : Holder → Value) (bound new_bound : ℕ → ℕ → Place) where
    -- variables that are kept in registers, and what variable parameters stand for, are as they were in all activations below
    pub record Unchanged (depth : ℕ) : Type 0 where
      pub floors : SameFloors old new depth
      pub variables : (d v r : ℕ) → d < depth → IsVariable g.core (old d).number v false → home_at (old d).frame.homes (record { 0 = v }) ≡ Held (record { 0 = r }) → new_values (local d v) ≡ values (local d v)
      pub places : (d v : ℕ) → d < depth → IsVariable g.core (old d).number v true → new_bound d v ≡ bound d v

    shallower : (depth d : ℕ) → d ≤ depth → Unchanged depth → Unchanged d
    shallower depth d low u = record {
      floors = λ e less. u.floors e (omega arith);
      variables = λ e v r less is home. u.variables e v r (omega arith) is home;
      places = λ e v less is. u.places e v (omega arith) is;
    }

    abbrev pub SameHeld : ℕ → Type 0
    SameHeld d = (v r : ℕ) → IsVariable g.core (old d).number v false → home_at (old d).frame.homes (record { 0 = v }) ≡ Held (record { 0 = r }) → new_values (local d v) ≡ values (local d v)

    abbrev pub SameBound : ℕ → Type 0
    SameBound d = (v : ℕ) → IsVariable g.core (old d).number v true → new_bound d v ≡ bound d v

    pub kept_moved : (d : ℕ) → SameFloors old new d → SameHeld d → SameBound d → (temps : ℕ → ℤ) (registers : ℕ → ℕ) → AreKept g old d values bound temps registers → AreKept g new d new_values new_bound temps registers
    kept_moved d floors held places temps registers k =
        let same : old d ≡ new d = sym (floors d (omega arith)) in
        record {
          variables = subst (λ f. (v r : ℕ) → IsVariable g.core f.number v false → home_at f.frame.homes (record { 0 = v }) ≡ Held (record { 0 = r }) → IsWordOf (registers r) (number_in (new_values (local d v)))) same
              (λ v r is home. subst (λ x. IsWordOf (registers r) (number_in x)) (sym (held v r is home)) (k.variables v r is home));
          references = subst (λ f. (v : ℕ) → IsVariable g.core f.number v true → IsAt g new d (new_bound d v) (type_of_local g.core f.number v) (registers (parameter v))) same
              (λ v is. subst (λ q. IsAt g new d q (type_of_local g.core (old d).number v) (registers (parameter v))) (sym (places v is)) (at_moved d floors (bound d v) (type_of_local g.core (old d).number v) (registers (parameter v)) (k.references v is)));
          words = subst (λ f. (v : ℕ) → IsVariable g.core f.number v true → registers (parameter v) < 2 ^ 32) same k.words;
          temporaries = subst (λ f. (t : ℕ) → t < f.routine.temporaries → IsWordOf (registers (f.frame.bank.temporaries + t)) (temps t)) same k.temporaries;
        }

    pub activation_moved : (d : ℕ) → SameFloors old new d → SameHeld d → SameBound d → (temps : ℕ → ℤ) (routine : ℕ) (a : Activation) (limit room charged : ℕ) → ActivationStands g old d values bound temps routine a limit room charged → ActivationStands g new d new_values new_bound temps routine a limit room charged
    activation_moved d floors held places temps routine a limit room charged s =
        let same : old d ≡ new d = sym (floors d (omega arith)) in
        record {
          floor = subst (IsFloor g) same s.floor;
          number = subst (λ f. f.number ≡ routine) same s.number;
          same = subst (λ f. a.routine ≡ Rattle.op_expand.specs.Calls.runtime + f.number) same s.same;
          kept = kept_moved d floors held places temps a.registers s.kept;
          left = s.left;
          base = subst (λ f. limit ≡ f.base + f.frame.locals) same s.base;
          enough = s.enough;
          top = s.top;
        }

    result_moved : (d : ℕ) → SameFloors old new d → (declared : DeclaredReceiver) (receiver : Receiver) (l : Caller) (address : ℕ) → ResultGoes g old d declared receiver l address → ResultGoes g new d declared receiver l address
    result_moved d floors declared nowhere l address goes = tt
    result_moved d floors declared (to_temp t) l address goes = subst (λ f. t < f.routine.temporaries) (sym (floors d (omega arith))) goes
    result_moved d floors declared (to_place of path) l address (n, is, at_, small) = (n, is, at_moved d floors (record { holder = temporary d of n; path = [] }) of address at_, small)

    pub callers_moved : (cs : List MirCaller) (ls : List Caller) (number address limit room charged : ℕ) → Unchanged (length cs) → CallersStand g old values bound cs ls number address limit room charged → CallersStand g new new_values new_bound cs ls number address limit room charged
    callers_moved [] [] number address limit room charged u (main, at_) = (main, subst (λ f. limit ≡ g.bottom + f.frame.locals) (sym (u.floors 0 (omega arith))) at_)
    callers_moved [] (l ∷ ls) number address limit room charged u s = absurd s
    callers_moved (c ∷ cs) [] number address limit room charged u s = absurd s
    callers_moved (c ∷ cs) (l ∷ ls) number address limit room charged u (inr (below, under, spare, status, a, ended, others, are, charge, at_, more, closing, activation, callers)) =
        let deeper = shallower (suc (length cs)) (length cs) (omega arith) u in
        inr (
          below,
          under,
          spare,
          status,
          a,
          ended,
          others,
          are,
          charge,
          subst (λ f. limit ≡ below + f.frame.locals) (sym (u.floors (suc (length cs)) (omega arith))) at_,
          more,
          closing,
          activation_moved (length cs) deeper.floors (λ v r is home. u.variables (length cs) v r (omega arith) is home) (λ v is. u.places (length cs) v (omega arith) is) c.temps c.routine a below spare under activation,
          callers_moved cs others c.routine (a.registers result_address.0) below spare under deeper callers,
        )
    callers_moved (c ∷ cs) (l ∷ ls) number address limit room charged u (inl (below, under, spare, declared, low, charge, at_, more, frames, receiver, to, typed, result, waiting, made, position, activation, callers)) =
        let deeper = shallower (suc (length cs)) (length cs) (omega arith) u in
        let same : old (length cs) ≡ new (length cs) = sym (u.floors (length cs) (omega arith)) in
        inl (
          below,
          under,
          spare,
          declared,
          low,
          charge,
          subst (λ f. limit ≡ below + f.frame.locals) (sym (u.floors (suc (length cs)) (omega arith))) at_,
          more,
          frames,
          receiver,
          subst (λ f. l.to ≡ Rattle.op_expand.specs.Calls.receiver_of f.frame declared (Rattle.op_compute.specs.Bank.scratch_of f.frame.bank 0)) same to,
          typed,
          result_moved (length cs) deeper.floors declared c.receiver l address result,
          waiting,
          made,
          subst (λ f. Position g f c.work l.activation.now) same position,
          activation_moved (length cs) deeper.floors (λ v r is home. u.variables (length cs) v r (omega arith) is home) (λ v is. u.places (length cs) v (omega arith) is) c.temps c.routine l.activation below spare under activation,
          callers_moved cs ls c.routine (l.activation.registers result_address.0) below spare under deeper callers,
        )

-- ---- a value is put at a live place

-- where bytes are known below a limit alone
put_below : (limit : ℕ) (whole to : Arrangement) (path : List ℕ) (v w : Value) (old new : ℕ → ℕ) (a d : ℕ) → IsArranged whole → Leads whole path to d → a + bytes_in whole ≤ limit → ((x : ℕ) → x < limit → (x < a + d) ⊎ (a + d + bytes_in to ≤ x) → new x ≡ old x) → Lies to w new (a + d) → Lies whole v old a → Lies whole (put path w v) new a
put_below limit whole to path v w old new a d arranged leads room outside there lies =
    kept whole (put path w v) mixed new a arranged (λ x from up. sym (low x (omega arith)))
    (put_lies whole to path v w old mixed a d arranged leads (λ x far. by x (cases_lt x limit) far) (kept to w new mixed (a + d) (leads_arranged whole to path d arranged leads) (λ x from up. let inside = leads_within whole to path d arranged leads in low x (omega arith)) there) lies)
  where
    mixed : ℕ → ℕ
    mixed x = if nat_lt x limit then new x else old x

    low : (x : ℕ) → x < limit → mixed x ≡ new x
    low x less = let t : nat_lt x limit ≡ true = grind (arith, nat_tests) in ap (λ b. if b then new x else old x) t

    high : (x : ℕ) → limit ≤ x → mixed x ≡ old x
    high x more = let t : nat_lt x limit ≡ false = grind (arith, nat_tests) in ap (λ b. if b then new x else old x) t

    by : (x : ℕ) → (x < limit) ⊎ (limit ≤ x) → (x < a + d) ⊎ (a + d + bytes_in to ≤ x) → mixed x ≡ old x
    by x (inl less) far = low x less ∙ outside x less far
    by x (inr more) far = high x more

module _ (g : Setting) (fit : IsFitting g) (floors : ℕ → Floor) (m : MirState) (l : State) (s : Stays g floors m l) where
  abbrev depth_here : ℕ
  depth_here = length m.callers

  pub floors_here : FloorsStand g floors depth_here l.limit
  floors_here = floors_stand g fit floors m.world.memory m.world.bound m.callers l.callers m.routine (l.top.registers result_address.0) l.limit l.room m.charged s.activation.floor s.activation.base s.callers

  pub limit_here : l.limit ≤ g.top
  limit_here = let top = s.activation.top in omega arith

  -- new memory below the limit, where so many bytes at an address have changed
  abbrev pub Changed : (ℕ → ℕ) → (a size : ℕ) → Type 0
  Changed memory a size = (x : ℕ) → x < l.limit → (x < a) ⊎ (a + size ≤ x) → memory x ≡ l.memory x

  -- a place of some bytes lies within its holder
  within_holder : (q : Place) (of : TypeId) (a : ℕ) → (is : IsAt g floors depth_here q of a) → 0 < size_in g.core of → IsSmall g.core of → (a ≡ address_of g floors q.holder + is.distance) × (is.distance + size_in g.core of ≤ size_in g.core (type_held g.core floors q.holder))
  within_holder q of a is some small =
      let stands = live_stands g fit floors depth_here l.limit floors_here limit_here q.holder is.live in
      let whole = type_is_arranged g.core fit.program.extents (type_held g.core floors q.holder) stands.small in
      let part = type_is_arranged g.core fit.program.extents of small in
      let within = leads_within (arrangement_of g.core (type_held g.core floors q.holder)) (arrangement_of g.core of) q.path is.distance whole.arranged is.leads in
      let a_size = whole.size in
      let b_size = part.size in
      (by is.at, omega arith)
    where
      by : (size_in g.core of ≡ 0) ⊎ (a ≡ address_of g floors q.holder + is.distance) → a ≡ address_of g floors q.holder + is.distance
      by (inl none) = absurd (omega arith)
      by (inr at_) = at_

  module _ (q : Place) (of : TypeId) (a : ℕ) (is : IsAt g floors depth_here q of a) (some : 0 < size_in g.core of) (small : IsSmall g.core of) (v : Value) (memory : ℕ → ℕ) (changed : Changed memory a (size_in g.core of)) where
    pub value_put : Lies (arrangement_of g.core of) v memory a → AllLie g floors depth_here (with_value q v m.world).memory memory
    value_put there h live = by (same_holder h q.holder) refl
      where
        by : (b : Bool) → same_holder h q.holder ≡ b → Lies (arrangement_of g.core (type_held g.core floors h)) (if b then put q.path v (m.world.memory h) else m.world.memory h) memory (address_of g floors h)
        by true e =
            let (at_, within) = within_holder q of a is some small in
            let stands = live_stands g fit floors depth_here l.limit floors_here limit_here q.holder is.live in
            let below = stands.below in
            let whole = type_is_arranged g.core fit.program.extents (type_held g.core floors q.holder) stands.small in
            let part = type_is_arranged g.core fit.program.extents of small in
            let whole_size = whole.size in
            let part_size = part.size in
            subst (λ h. Lies (arrangement_of g.core (type_held g.core floors h)) (put q.path v (m.world.memory h)) memory (address_of g floors h)) (sym (same_is h q.holder e))
            (put_below l.limit (arrangement_of g.core (type_held g.core floors q.holder)) (arrangement_of g.core of) q.path (m.world.memory q.holder) v l.memory memory (address_of g floors q.holder) is.distance whole.arranged is.leads (omega arith)
            (λ x less far. changed x less (subst (λ b. (x < b) ⊎ (b + size_in g.core of ≤ x)) (sym at_) (subst (λ n. (x < address_of g floors q.holder + is.distance) ⊎ (address_of g floors q.holder + is.distance + n ≤ x)) part_size far)))
            (subst (Lies (arrangement_of g.core of) v memory) at_ there) (s.lie q.holder is.live))
        by false e =
            let (at_, within) = within_holder q of a is some small in
            let stands = live_stands g fit floors depth_here l.limit floors_here limit_here h live in
            let below = stands.below in
            let arranged = type_is_arranged g.core fit.program.extents (type_held g.core floors h) stands.small in
            let size = arranged.size in
            let apart = live_apart g fit floors depth_here l.limit floors_here limit_here h q.holder e live is.live in
            kept (arrangement_of g.core (type_held g.core floors h)) (m.world.memory h) l.memory memory (address_of g floors h) arranged.arranged (λ x from to. changed x (omega arith) (far x from to apart at_ within size)) (s.lie h live)
          where
            far : (x : ℕ) → address_of g floors h ≤ x → x < address_of g floors h + bytes_in (arrangement_of g.core (type_held g.core floors h)) → Apart (address_of g floors h) (size_in g.core (type_held g.core floors h)) (address_of g floors q.holder) (size_in g.core (type_held g.core floors q.holder)) → a ≡ address_of g floors q.holder + is.distance → is.distance + size_in g.core of ≤ size_in g.core (type_held g.core floors q.holder) → bytes_in (arrangement_of g.core (type_held g.core floors h)) ≡ size_in g.core (type_held g.core floors h) → (x < a) ⊎ (a + size_in g.core of ≤ x)
            far x from to (inl before) at_ within size = inl (omega arith)
            far x from to (inr behind) at_ within size = inr (omega arith)

    -- ---- and so what stays

    held_other : (d u r : ℕ) → d ≤ depth_here → IsVariable g.core (floors d).number u false → home_at (floors d).frame.homes (record { 0 = u }) ≡ Held (record { 0 = r }) → (with_value q v m.world).memory (local d u) ≡ m.world.memory (local d u)
    held_other d u r low variable home = by (same_holder (local d u) q.holder) refl
      where
        live_not : (h : Holder) → h ≡ local d u → Live g.core floors depth_here h → ⊥
        live_not h e live = clash (subst (Live g.core floors depth_here) e live)
          where
            clash : Live g.core floors depth_here (local d u) → ⊥
            clash (level, (known, stored)) = let c : Held (record { 0 = r }) ≡ Stored (stored_offset (home_at (floors d).frame.homes (record { 0 = u }))) = sym home ∙ stored in cc

        by : (b : Bool) → same_holder (local d u) q.holder ≡ b → (if b then put q.path v (m.world.memory (local d u)) else m.world.memory (local d u)) ≡ m.world.memory (local d u)
        by true e = absurd (live_not q.holder (sym (same_is (local d u) q.holder e)) is.live)
        by false e = refl

    pub unchanged_put : Unchanged g floors floors m.world.memory (with_value q v m.world).memory m.world.bound m.world.bound depth_here
    unchanged_put = record { floors = λ d low. refl; variables = λ d u r low variable home. held_other d u r (omega arith) variable home; places = λ d u low reference. refl }

    -- memory that may not be written is as it was
    fixed_put : IsFixed g memory
    fixed_put x low fixed =
        let (at_, within) = within_holder q of a is some small in
        let stands = live_stands g fit floors depth_here l.limit floors_here limit_here q.holder is.live in
        let bottom = floors_here.lowest depth_here (omega arith) in
        let last = floors_here.last in
        changed x (omega arith) (by (cases_lt x a) (cases_lt x (a + size_in g.core of)) (λ from to. stands.writable x (omega arith) (omega arith))) ∙ s.fixed x low fixed
      where
        by : (x < a) ⊎ (a ≤ x) → (x < a + size_in g.core of) ⊎ (a + size_in g.core of ≤ x) → (a ≤ x → x < a + size_in g.core of → g.placement.rights.writable x ≡ true) → (x < a) ⊎ (a + size_in g.core of ≤ x)
        by (inl before) other may = inl before
        by (inr from) (inr behind) may = inr behind
        by (inr from) (inl to) may = let clash : true ≡ false = sym (may from to) ∙ fixed in absurd cc

    -- the heap is as it was
    heap_put : HasHeap g memory
    heap_put =
        heap_stays g fit l.memory memory (λ x owned.
        let (at_, within) = within_holder q of a is some small in
        let bottom = floors_here.lowest depth_here (omega arith) in
        let last = floors_here.last in
        let below = owned.below in
        changed x (omega arith) (by x at_ within (owned_apart g fit floors depth_here l.limit floors_here limit_here x owned q.holder is.live))) s.heap
      where
        by : (x : ℕ) → a ≡ address_of g floors q.holder + is.distance → is.distance + size_in g.core of ≤ size_in g.core (type_held g.core floors q.holder) → (x < address_of g floors q.holder) ⊎ (address_of g floors q.holder + size_in g.core (type_held g.core floors q.holder) ≤ x) → (x < a) ⊎ (a + size_in g.core of ≤ x)
        by x at_ within (inl before) = inl (omega arith)
        by x at_ within (inr behind) = inr (omega arith)

    -- and so many finalization parts are counted
    due_put : IsCounted g (length m.pending) memory
    due_put closes =
        let (at_, within) = within_holder q of a is some small in
        let due = fit.placed.due in
        let below = due.below in
        let bottom = floors_here.lowest depth_here (omega arith) in
        let last = floors_here.last in
        count_kept g fit (length m.pending) l.memory memory
        (λ x from to. changed x (omega arith) (by x from to at_ within (due_apart g fit floors depth_here l.limit floors_here limit_here (due_address g) due q.holder is.live))) s.due closes
      where
        by : (x : ℕ) → due_address g ≤ x → x < due_address g + 4 → a ≡ address_of g floors q.holder + is.distance → is.distance + size_in g.core of ≤ size_in g.core (type_held g.core floors q.holder) → Apart (address_of g floors q.holder) (size_in g.core (type_held g.core floors q.holder)) (due_address g) 4 → (x < a) ⊎ (a + size_in g.core of ≤ x)
        by x from to at_ within (inl before) = inr (omega arith)
        by x from to at_ within (inr behind) = inl (omega arith)

    pub stays_put : (rest : List Instr) (f : ℕ → ℕ) (now : List LowInstruction) → IsPlainWorld (with_value q v m.world) → ((x : ℕ) → x < l.limit → memory x < 2 ^ 8) → Lies (arrangement_of g.core of) v memory a → SameVariables (here m floors) l.top.registers f → Temporaries (here m floors) m.world.temps f → Stays g floors (record m { world = with_value q v m.world; work = rest }) (record (at l f now) { memory = memory })
    stays_put rest f now plain bytes there same are =
        let a = s.activation in
        let fits = a.floor.fits in
        let behind = fits.behind in
        let zeroth : f 0 ≡ l.top.registers 0 = same 0 (omega arith) in
        let first : f 1 ≡ l.top.registers 1 = same 1 (omega arith) in
        let moved = callers_moved g floors floors m.world.memory (with_value q v m.world).memory m.world.bound m.world.bound m.callers l.callers m.routine (l.top.registers result_address.0) l.limit l.room m.charged unchanged_put s.callers in
        record {
          running = refl;
          plain = plain;
          pending = s.pending;
          depth = s.depth;
          activation = record {
            floor = a.floor;
            number = a.number;
            same = a.same;
            kept = kept_registers g floors depth_here (with_value q v m.world).memory m.world.bound m.world.temps m.world.temps l.top.registers f fits same are
                (kept_moved g floors floors m.world.memory (with_value q v m.world).memory m.world.bound m.world.bound depth_here (λ d low. refl) (λ u r variable home. held_other depth_here u r (omega arith) variable home) (λ u reference. refl) m.world.temps l.top.registers a.kept);
            left = ap (λ x. x + m.charged) zeroth ∙ a.left;
            base = a.base;
            enough = subst (λ x. x + 1024 ≤ l.room) (sym zeroth) a.enough;
            top = a.top;
          };
          callers = subst (λ x. CallersStand g floors (with_value q v m.world).memory m.world.bound m.callers l.callers m.routine x l.limit l.room m.charged) (sym first) moved;
          lie = value_put there;
          fixed = fixed_put;
          heap = heap_put;
          due = due_put;
          bytes = bytes;
          output = s.output;
          errors = s.errors;
          input = s.input;
        }
