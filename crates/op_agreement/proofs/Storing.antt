-- Stores, and looks at places.
use Rattle.std.proofs.Common.{◌≡◌, ◌≢◌, ◌≤◌, ◌<◌, ◌⊎◌, inl, inr, ℕ, ℤ, ◌+◌, List, [], ◌∷◌, ◌++◌, length, Option, Some, None, refl, sym, ap, ap₂, ◌∙◌, subst, arith, append_assoc, ◌*◌}
use Rattle.std.specs.Prelude.{◌^◌, ◌%◌, map, pos, Bool, true, false, ◌&&◌, nat_eq, nat_le, nat_lt, if◌then◌else◌}
use Rattle.std.proofs.lemmas.Bool.{and_parts, cases_eq}
use Rattle.std.proofs.lemmas.Bool.Decides.{nat_tests}
use Rattle.op_compute.proofs.ConversionLemmas.{low_bits}
use Rattle.op_compute.proofs.Registers.{put_lower}
use Rattle.op_compute.specs.Bank.{register_of, scratch_of, work_of}
use Rattle.op_compute.specs.Conversions.{low_bits_code}
use Rattle.op_compute.specs.Meaning.{Answers, IsApart, IsWordOf, gives}
use Rattle.op_compute.specs.Straight.{Away, Behind, Crooked, Outcome, at, fewest_steps, outcome}
use Rattle.op_compute.specs.declared.bank.Operands.{Operands}
use Rattle.op_constants.specs.Lies.{Lies, arrangement_of}
use Rattle.op_core.specs.declared.ids.TypeId.{TypeId}
use Rattle.op_core.specs.declared.types.IntegerKind.TheVariants.{Signed8, Unsigned8, Signed16, Unsigned16, Signed32}
use Rattle.op_core.specs.declared.types.IntegerKind.{IntegerKind}
use Rattle.op_expand.specs.Calls.{result_address}
use Rattle.op_places.specs.Homes.{home_at, parameter}
use Rattle.op_places.specs.Moves.{held_by, near, store_op}
use Rattle.op_places.specs.Places.{place_code, place_of}
use Rattle.op_places.specs.declared.homes.Home.TheVariants.{Held, Stored as StoredHome, Shared}
use Rattle.op_places.specs.declared.homes.Home.{Home}
use Rattle.op_low.specs.State.{State}
use Rattle.op_low.specs.declared.ids.VirtualRegister.{VirtualRegister}
use Rattle.op_low.specs.declared.instruction.Instruction.TheVariants.{Const, Store as StoreWord}
use Rattle.op_low.specs.declared.instruction.Instruction.{Instruction as LowInstruction}
use Rattle.op_meaning.specs.Actions.{perform}
use Rattle.op_meaning.specs.Numbers.{low_bits_of}
use Rattle.op_meaning.specs.Paths.{at_place, place_of as place_meant}
use Rattle.op_meaning.specs.Shapes.{variables_of}
use Rattle.op_meaning.specs.Values.{Holder, Place, Value, all_of, local, number, number_in, same_holder, Reached as Met, reached as met, failing}
use Rattle.op_meaning.specs.World.{number_at, with_value}
use Rattle.op_mir.proofs.PlainLemmas.{plain_perform}
use Rattle.op_mir.specs.Code.{Instr}
use Rattle.op_mir.specs.Machine.{MirState, execute, mir_step, mir_cost}
use Rattle.op_mir.specs.Plain.{IsPlainWorld}
use Rattle.op_mir.specs.Valid.{action_fits, has, load_fits}
use Rattle.op_mir.specs.View.{view_action, view_path, view_step}
use Rattle.op_mir.specs.declared.action.Action.TheVariants.{Store, Look}
use Rattle.op_mir.specs.declared.ids.BlockId.{BlockId}
use Rattle.op_mir.specs.declared.ids.LocalId.{LocalId}
use Rattle.op_mir.specs.declared.ids.TemporaryId.{TemporaryId}
use Rattle.op_mir.specs.declared.instruction.Instruction.TheVariants.{Act}
use Rattle.op_mir.specs.declared.instruction.Instruction.{Instruction}
use Rattle.op_mir.specs.declared.path.Path.{Path}
use Rattle.op_mir.specs.declared.path.Root.TheVariants.{Global, Local, Through, Temporary}
use Rattle.op_mir.specs.declared.path.Root.{Root}
use Rattle.op_mir.specs.declared.path.Step.{Step}
use Rattle.op_agreement.proofs.Branching.{begins_here, has_of, step_here, turned}
use Rattle.op_agreement.proofs.Cases.{behind_act}
use Rattle.op_agreement.proofs.Charting.{same_is}
use Rattle.op_agreement.proofs.Computing.{rest_above, rest_below, rest_stands}
use Rattle.op_agreement.proofs.Following.{Comes}
use Rattle.op_agreement.proofs.Going.{Goes, GoesTo, goes_from, goes_straight, goes_then, goes_within}
use Rattle.op_agreement.proofs.Lengths.{low_bits_short}
use Rattle.op_agreement.proofs.Loading.{index_fails, indices_in, placed_part}
use Rattle.op_agreement.proofs.Memory.{number_stores, size_of_number, some_size}
use Rattle.op_agreement.proofs.Paths.{PlaceTo, place_goes, place_most}
use Rattle.op_agreement.proofs.Places.{small_last}
use Rattle.op_agreement.proofs.Pricing.{afford}
use Rattle.op_agreement.proofs.Standing.{Next, here, stands_on}
use Rattle.op_agreement.proofs.Updating.{callers_moved, stays_put}
use Rattle.op_agreement.specs.Chart.{Floor, IsAt, Live, address_of, type_held}
use Rattle.op_agreement.specs.Coding.{code_for}
use Rattle.op_agreement.specs.Fitting.{IsFitting}
use Rattle.op_agreement.specs.Settings.{HomeFits, IsPlaced, Setting, managed}
use Rattle.op_agreement.specs.Stands.{CallersStand, Stands, Stays}
use Rattle.op_agreement.specs.Steps.{most_for_one}
use Rattle.op_agreement.specs.Typed.{IsVariable, PathTo}

-- ---- a variable that is kept in a register

abbrev register_held : Home → ℕ
register_held (Held r) = r.0
register_held _ = 0

module _ (g : Setting) (floors : ℕ → Floor) (m : MirState) (l : State) (s : Stays g floors m l) (v r : ℕ) (n : ℤ) (variable : IsVariable g.core (here m floors).number v false) (home : home_at (here m floors).frame.homes (record { 0 = v }) ≡ Held (record { 0 = r })) where
  abbrev level : ℕ
  level = length m.callers

  abbrev set : Holder → Value
  set h = if same_holder h (local level v) then number n else m.world.memory h

  not_live : Live g.core floors level (local level v) → ⊥
  not_live (low, (known, stored)) = let c : Held (record { 0 = r }) ≡ StoredHome _ = sym home ∙ stored in cc

  set_other : (h : Holder) → (h ≡ local level v → ⊥) → set h ≡ m.world.memory h
  set_other h other = by (same_holder h (local level v)) refl
    where
      by : (b : Bool) → same_holder h (local level v) ≡ b → (if b then number n else m.world.memory h) ≡ m.world.memory h
      by true e = absurd (other (same_is h (local level v) e))
      by false e = refl

  set_there : set (local level v) ≡ number n
  set_there =
      let a : nat_eq level level ≡ true = grind (arith, nat_tests) in
      let b : nat_eq v v ≡ true = grind (arith, nat_tests) in
      ap (λ t. if t then number n else m.world.memory (local level v)) (ap₂ (λ x y. x && y) a b)

  level_differs : (d u : ℕ) → d < level → local d u ≡ local level v → ⊥
  level_differs d u low e = let same : d ≡ level = cc in omega arith

  variable_differs : (u : ℕ) → (u ≡ v → ⊥) → local level u ≡ local level v → ⊥
  variable_differs u other e = other cc

  pub stays_variable : (rest : List Instr) (h : ℕ → ℕ) (now : List LowInstruction) → IsWordOf (h r) n → ((q : ℕ) → q < (here m floors).frame.bank.scratch → q ≢ r → h q ≡ l.top.registers q) → IsPlainWorld (record m.world { memory = set }) → Stays g floors (record m { world = record m.world { memory = set }; work = rest }) (at l h now)
  stays_variable rest h now word kept plain =
      let a = s.activation in
      let fits = a.floor.fits in
      let behind = fits.behind in
      let scratch = fits.scratch in
      let (above, below) = subst (HomeFits (here m floors).frame) home (fits.homes (record { 0 = v }) variable.0) in
      let zeroth : h 0 ≡ l.top.registers 0 = kept 0 (omega arith) (λ e. omega arith) in
      let first : h 1 ≡ l.top.registers 1 = kept 1 (omega arith) (λ e. omega arith) in
      let moved = callers_moved g floors floors m.world.memory set m.world.bound m.world.bound m.callers l.callers m.routine (l.top.registers result_address.0) l.limit l.room m.charged
      (record { floors = λ d low. refl; variables = λ d u q low known at_. set_other (local d u) (level_differs d u low); places = λ d u low known. refl }) s.callers in
      record {
        running = refl;
        plain = plain;
        pending = s.pending;
        depth = s.depth;
        activation = record {
          floor = a.floor;
          number = a.number;
          same = a.same;
          kept = record {
            variables = λ u q known at_. held u q known at_ (cases_eq u v);
            references = λ u known. subst (IsAt g floors level (m.world.bound level u) _) (sym (reference u known)) (a.kept.references u known);
            words = λ u known. subst (λ x. x < 2 ^ 32) (sym (reference u known)) (a.kept.words u known);
            temporaries = λ t low. subst (λ x. IsWordOf x (m.world.temps t)) (sym (kept ((here m floors).frame.bank.temporaries + t) (omega arith) (λ e. omega arith))) (a.kept.temporaries t low);
          };
          left = ap (λ x. x + m.charged) zeroth ∙ a.left;
          base = a.base;
          enough = subst (λ x. x + 1024 ≤ l.room) (sym zeroth) a.enough;
          top = a.top;
        };
        callers = subst (λ x. CallersStand g floors set m.world.bound m.callers l.callers m.routine x l.limit l.room m.charged) (sym first) moved;
        lie = λ k live. subst (λ x. Lies (arrangement_of g.core (type_held g.core floors k)) x l.memory (address_of g floors k)) (sym (set_other k (λ e. not_live (subst (Live g.core floors level) e live)))) (s.lie k live);
        fixed = s.fixed;
        heap = s.heap;
        due = s.due;
        bytes = s.bytes;
        output = s.output;
        errors = s.errors;
        input = s.input;
      }
    where
      held : (u q : ℕ) → IsVariable g.core (here m floors).number u false → home_at (here m floors).frame.homes (record { 0 = u }) ≡ Held (record { 0 = q }) → (u ≡ v) ⊎ (u ≡ v → ⊥) → IsWordOf (h q) (number_in (set (local level u)))
      held u q known at_ (inl same) =
          let one : Held (record { 0 = q }) ≡ Held (record { 0 = r }) = sym at_ ∙ ap (λ x. home_at (here m floors).frame.homes (record { 0 = x })) same ∙ home in
          let reg : q ≡ r = ap register_held one in
          let value : set (local level u) ≡ number n = ap (λ x. set (local level x)) same ∙ set_there in
          subst (λ x. IsWordOf (h x) (number_in (set (local level u)))) (sym reg) (subst (λ x. IsWordOf (h r) (number_in x)) (sym value) word)
      held u q known at_ (inr other) =
          let fits = s.activation.floor.fits in
          let scratch = fits.scratch in
          let low = (subst (HomeFits (here m floors).frame) at_ (fits.homes (record { 0 = u }) known.0)).1 in
          let apart = fits.alone (record { 0 = u }) (record { 0 = v }) q r known.0 variable.0 other at_ home in
          subst (λ x. IsWordOf x (number_in (set (local level u)))) (sym (kept q (omega arith) apart)) (subst (λ x. IsWordOf (l.top.registers q) (number_in x)) (sym (set_other (local level u) (variable_differs u other))) (s.activation.kept.variables u q known at_))

      reference : (u : ℕ) → IsVariable g.core (here m floors).number u true → h (parameter u) ≡ l.top.registers (parameter u)
      reference u known =
          let fits = s.activation.floor.fits in
          let scratch = fits.scratch in
          let at_ = fits.references (record { 0 = u }) known in
          let low = (subst (HomeFits (here m floors).frame) at_ (fits.homes (record { 0 = u }) known.0)).1 in
          let other : u ≢ v = λ same. let clash : true ≡ false = sym known.1 ∙ ap (λ x. Rattle.op_meaning.specs.Shapes.refers (Rattle.std.specs.Prelude.slice_get g.core.variables ((variables_of g.core (here m floors).number).first + x))) same ∙ variable.1 in cc in
          kept (parameter u) (omega arith) (fits.alone (record { 0 = u }) (record { 0 = v }) (parameter u) r known.0 variable.0 other at_ home)

low_bits_some : (to from : VirtualRegister) (kind : IntegerKind) → fewest_steps (low_bits_code to kind from) ≡ 1
unfolding low_bits_code
low_bits_some to from Signed8 = refl
low_bits_some to from Unsigned8 = refl
low_bits_some to from Signed16 = refl
low_bits_some to from Unsigned16 = refl
low_bits_some to from Signed32 = refl

module _ (g : Setting) (fit : IsFitting g) (m : MirState) (l : State) (floors : ℕ → Floor) (is : List Instruction) where
  abbrev NextIs : Instruction → Type 0
  NextIs i = Next g m l floors i is

  abbrev frame : Rattle.op_places.specs.declared.frame.Frame.Frame
  frame = (here m floors).frame

  module _ (kind : IntegerKind) (from : TemporaryId) where
    abbrev Stores : Root → List Step → Option BlockId → Instruction
    Stores root steps landing = Act (Store (record { root = root; steps = steps }) kind from) landing

    store_held : (v : LocalId) (r : VirtualRegister) (landing : Option BlockId) (next : NextIs (Stores (Local v) [] landing)) → home_at frame.homes v ≡ Held r → Comes g m l
    unfolding code_for execute perform action_fits load_fits
    store_held v r landing next home =
        let s = next.stays in
        let a = s.activation in
        let fits = a.floor.fits in
        let scratch = fits.scratch in
        let bank = frame.bank in
        let (of, shape, typed) = next.fine.1 in
        let (variable, type) = typed.root in
        let (has_from, fits_path) = and_parts (has (here m floors).routine from) _ next.fine.0 in
        let low_from = has_of (here m floors).routine from has_from in
        let (above, below) = subst (HomeFits frame) home (fits.homes v variable.0) in
        let i = Stores (Local v) [] landing in
        let code = low_bits_code r kind (register_of bank from) in
        let some = low_bits_some r (register_of bank from) kind in
        let is_code : code_for g.core g.mir frame i ≡ code = rw home refl in
        let o : Operands = record { to = r; left = register_of bank from; right = register_of bank from } in
        let apart : IsApart (work_of bank) o = record { to = omega arith; left = omega arith; right = omega arith; second = omega arith; third = omega arith } in
        let x = number_at m.world from.0 in
        let rest = rest_below g m l floors i is next in
        let straight = goes_straight g l code rest l.top.registers in
        let answers = low_bits (work_of bank) o l.top.registers x apart (a.kept.temporaries from.0 low_from) kind in
        let plain : IsPlainWorld (with_value (all_of (local m.world.depth v.0)) (number (low_bits_of kind x)) m.world) = plain_perform g.core fit.program.exceptions (λ n. 0) (view_action g.core (here m floors).number (Store (record { root = Local v; steps = [] }) kind from)) m.world tt s.plain in
        by (outcome code l.top.registers) straight answers (begins_here g fit m l floors i is next code is_code) some variable
        (subst (λ d. IsPlainWorld (with_value (all_of (local d v.0)) (number (low_bits_of kind x)) m.world)) s.depth plain)
        (step_here g fit m l floors i is next ∙ ap (λ d. record m { world = with_value (all_of (local d v.0)) (number (low_bits_of kind x)) m.world; work = rest_above g m l floors i is next }) s.depth)
      where
        by : (o : Outcome) → GoesTo g (fewest_steps (low_bits_code r kind (register_of frame.bank from))) (length (low_bits_code r kind (register_of frame.bank from))) l (at l l.top.registers (low_bits_code r kind (register_of frame.bank from) ++ rest_below g m l floors (Stores (Local v) [] landing) is next)) (rest_below g m l floors (Stores (Local v) [] landing) is next) o → Answers (work_of frame.bank) r l.top.registers (gives (low_bits_of kind (number_at m.world from.0))) o → l ≡ at l l.top.registers (low_bits_code r kind (register_of frame.bank from) ++ rest_below g m l floors (Stores (Local v) [] landing) is next) → fewest_steps (low_bits_code r kind (register_of frame.bank from)) ≡ 1 → IsVariable g.core (here m floors).number v.0 false → IsPlainWorld (with_value (all_of (local (length m.callers) v.0)) (number (low_bits_of kind (number_at m.world from.0))) m.world) → mir_step (managed g) m ≡ record m { world = with_value (all_of (local (length m.callers) v.0)) (number (low_bits_of kind (number_at m.world from.0))) m.world; work = rest_above g m l floors (Stores (Local v) [] landing) is next } → Comes g m l
        by (Behind h) goes answers begins some variable plain step =
            let rest = rest_below g m l floors (Stores (Local v) [] landing) is next in
            let n = low_bits_of kind (number_at m.world from.0) in
            record {
              to = at l h rest;
              goes = goes_within g 1 (most_for_one * mir_cost (managed g) m) l (at l h rest)
                  (subst (λ k. Goes g k (length (low_bits_code r kind (register_of frame.bank from))) l (at l h rest)) some (goes_from g _ l _ (at l h rest) begins goes))
                  (afford g fit m l floors (Stores (Local v) [] landing) is next (λ light. light) (length (low_bits_code r kind (register_of frame.bank from))) (let short = low_bits_short r kind (register_of frame.bank from) in omega arith));
              stands = subst (λ k. Stands g k (at l h rest)) (sym step) (stands_on g (record m { world = with_value (all_of (local (length m.callers) v.0)) (number n) m.world; work = rest_above g m l floors (Stores (Local v) [] landing) is next }) (at l h rest) next.ending next.frames (record {
                floors = floors;
                stays = stays_variable g floors m l next.stays v.0 r.0 n variable home (rest_above g m l floors (Stores (Local v) [] landing) is next) h rest answers.result (λ q low other. answers.others q (omega arith) other) plain;
                position = rest_stands g m l floors (Stores (Local v) [] landing) is next (behind_act next.on);
              }));
            }
        by (Away block h) goes answers begins some variable plain step = absurd answers
        by Crooked goes answers begins some variable plain step = absurd answers

    abbrev store_code_placed : Path → List LowInstruction
    store_code_placed path = place_code g.core frame near path.root path.steps (scratch_of frame.bank 0)

    abbrev spot_placed : Path → Rattle.op_places.specs.declared.spot.Spot.Spot
    spot_placed path = place_of g.core frame near path.root path.steps (scratch_of frame.bank 0)

    abbrev sw : Path → LowInstruction
    sw path = StoreWord (store_op kind) (register_of frame.bank from) (spot_placed path).base (pos (spot_placed path).offset)

    store_by : (path : Path) (landing : Option BlockId) (next : NextIs (Act (Store path kind from) landing)) (of : TypeId) → Rattle.op_meaning.specs.Shapes.shape_of g.core of ≡ Rattle.op_meaning.specs.Shapes.single kind → PathTo g.core (here m floors).number (view_path path) of → from.0 < (here m floors).routine.temporaries → (o : Met Place) → place_meant m.world (view_path path) ≡ o → l ≡ at l l.top.registers (store_code_placed path ++ (sw path ∷ rest_below g m l floors (Act (Store path kind from) landing) is next)) → PlaceTo g fit m l floors next.stays (fewest_steps (store_code_placed path)) (place_most path) (at l l.top.registers (store_code_placed path ++ (sw path ∷ rest_below g m l floors (Act (Store path kind from) landing) is next))) l.top.registers (scratch_of frame.bank 0) (spot_placed path) (sw path ∷ rest_below g m l floors (Act (Store path kind from) landing) is next) of o → mir_step (managed g) m ≡ record m { world = at_place g.core o (λ p. with_value p (number (low_bits_of kind (number_at m.world from.0))) m.world) m.world; work = rest_above g m l floors (Act (Store path kind from) landing) is next } → IsPlainWorld (at_place g.core o (λ p. with_value p (number (low_bits_of kind (number_at m.world from.0))) m.world) m.world) → Comes g m l
    store_by path landing next of shape typed low_from (failing error) e begins fails step plain = index_fails g fit m l floors is (Act (Store path kind from) landing) next _ (place_most path) _ error begins fails (afford g fit m l floors (Act (Store path kind from) landing) is next (λ light. light) (place_most path + 5) (omega arith)) step
    store_by path landing next of shape typed low_from (met q) e begins reached step plain =
        let i = Act (Store path kind from) landing in
        let s = next.stays in
        let a = s.activation in
        let scratch = a.floor.fits.scratch in
        let bank = frame.bank in
        let small = small_last g.core typed.from of (map view_step path.steps) typed.reaches typed.small in
        let spot = spot_placed path in
        let rest = rest_below g m l floors i is next in
        let x = number_at m.world from.0 in
        let same : reached.h (register_of bank from).0 ≡ l.top.registers (register_of bank from).0 = reached.kept (register_of bank from).0 (omega arith) in
        let word : IsWordOf (reached.h (register_of bank from).0) x = subst (λ v. IsWordOf v x) (sym same) (a.kept.temporaries from.0 low_from) in
        let stores = number_stores g fit m l floors s q of kind reached.h (register_of bank from) spot.base spot.offset rest x shape small reached.is (let low = reached.low in omega arith) word in
        let size = size_of_number g fit m l floors s of kind shape small in
        let some = some_size kind in
        let k = record (at l reached.h rest) { memory = stores.memory } in
        record {
          to = k;
          goes = goes_within g 1 (most_for_one * mir_cost (managed g) m) l k
              (goes_from g 1 l _ k begins (goes_then g _ 1 1 _ (at l reached.h (sw path ∷ rest)) k (omega arith) reached.goes stores.goes))
              (afford g fit m l floors i is next (λ light. light) (place_most path + 1) (omega arith));
          stands = subst (λ y. Stands g y k) (sym step) (stands_on g (record m { world = with_value q (number (low_bits_of kind x)) m.world; work = rest_above g m l floors i is next }) k next.ending next.frames (record {
            floors = floors;
            stays = stays_put g fit floors m l s q of (reached.h spot.base.0 + spot.offset) reached.is (omega arith) small (number (low_bits_of kind x)) stores.memory stores.changed (rest_above g m l floors i is next) reached.h rest plain stores.bytes stores.lies
                (λ r low. reached.kept r (omega arith))
                (λ t low. subst (λ y. IsWordOf y (m.world.temps t)) (sym (reached.kept (bank.temporaries + t) (omega arith))) (a.kept.temporaries t low));
            position = rest_stands g m l floors i is next (behind_act next.on);
          }));
        }

    store_placed : (path : Path) (landing : Option BlockId) (next : NextIs (Act (Store path kind from) landing)) → IsPlaced g.core (here m floors).number frame path.root → code_for g.core g.mir frame (Act (Store path kind from) landing) ≡ store_code_placed path ++ sw path ∷ [] → Comes g m l
    unfolding execute perform action_fits load_fits
    store_placed path landing next placed code =
        let i = Act (Store path kind from) landing in
        let s = next.stays in
        let (of, shape, typed) = next.fine.1 in
        let (has_from, fits_path) = and_parts (has (here m floors).routine from) _ next.fine.0 in
        let indices = indices_in g.mir (here m floors).routine path fits_path in
        let rest = rest_below g m l floors i is next in
        let begins : l ≡ at l l.top.registers (store_code_placed path ++ (sw path ∷ rest)) = begins_here g fit m l floors i is next (store_code_placed path ++ sw path ∷ []) code ∙ ap (at l l.top.registers) (append_assoc (store_code_placed path) (sw path ∷ []) rest) in
        store_by path landing next of shape typed (has_of (here m floors).routine from has_from) (place_meant m.world (view_path path)) refl begins
        (place_goes g fit m l floors s path of near (scratch_of frame.bank 0) l.top.registers (sw path ∷ rest) typed placed indices (omega arith) (λ r below. refl))
        (step_here g fit m l floors i is next)
        (plain_perform g.core fit.program.exceptions (λ n. 0) (view_action g.core (here m floors).number (Store path kind from)) m.world tt s.plain)

    abbrev store_by_home : LocalId → Option VirtualRegister → List LowInstruction
    store_by_home v (Some r) = low_bits_code r kind (register_of frame.bank from)
    store_by_home v None =
        let spot = place_of g.core frame near (Local v) [] (scratch_of frame.bank 0) in
        place_code g.core frame near (Local v) [] (scratch_of frame.bank 0) ++ StoreWord (store_op kind) (register_of frame.bank from) spot.base (pos spot.offset) ∷ []

    store_local : (v : LocalId) (landing : Option BlockId) (next : NextIs (Stores (Local v) [] landing)) (home : Home) → home_at frame.homes v ≡ home → HomeFits frame home → Comes g m l
    unfolding code_for
    store_local v landing next (Held r) e fits = store_held v r landing next e
    store_local v landing next (StoredHome offset) e fits =
        store_placed (record { root = Local v; steps = [] }) landing next (offset, e)
        (ap (λ h. store_by_home v (held_by (Local v) [] h)) e)
    store_local v landing next (Shared s) e fits = absurd fits

    store_at : (root : Root) (steps : List Step) (landing : Option BlockId) → NextIs (Act (Store (record { root = root; steps = steps }) kind from) landing) → Comes g m l
    unfolding code_for
    store_at (Global v) steps landing next = store_placed (record { root = Global v; steps = steps }) landing next tt refl
    store_at (Through v) steps landing next = store_placed (record { root = Through v; steps = steps }) landing next tt refl
    store_at (Temporary of n) steps landing next = store_placed (record { root = Temporary of n; steps = steps }) landing next next.homes refl
    store_at (Local v) [] landing next = store_local v landing next (home_at frame.homes v) refl (next.stays.activation.floor.fits.homes v next.fine.1.2.root.0.0)
    store_at (Local v) (st ∷ ss) landing next = store_placed (record { root = Local v; steps = st ∷ ss }) landing next (placed_part g fit m l floors is (Act (Store (record { root = Local v; steps = st ∷ ss }) kind from) landing) next v st ss next.fine.1.0 next.fine.1.2) refl

    pub store_comes : (path : Path) (landing : Option BlockId) → NextIs (Act (Store path kind from) landing) → Comes g m l
    store_comes path landing next = store_at path.root path.steps landing next

  -- ---- looks

  -- a look at a variable that a register has
  pub look_empty : (path : Path) (landing : Option BlockId) (next : NextIs (Act (Look path) landing)) → code_for g.core g.mir frame (Act (Look path) landing) ≡ Const (scratch_of frame.bank 0) 0 ∷ [] → (q : Place) → place_meant m.world (view_path path) ≡ met q → Comes g m l
  unfolding outcome execute perform
  look_empty path landing next code q e =
      turned g fit m l floors (Act (Look path) landing) is next (Const (scratch_of frame.bank 0) 0 ∷ []) None code refl (afford g fit m l floors (Act (Look path) landing) is next (λ light. light) 1 (omega arith)) (λ none. behind_act next.on) (λ k e. absurd cc)
      (λ r low. put_lower l.top.registers (scratch_of frame.bank 0) 0 r low)
      (step_here g fit m l floors (Act (Look path) landing) is next ∙ ap (λ o. record m { world = at_place g.core o (λ p. m.world) m.world; work = rest_above g m l floors (Act (Look path) landing) is next }) e)
