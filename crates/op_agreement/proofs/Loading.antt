-- Loads, stores and looks.
use Rattle.std.proofs.Common.{◌≡◌, ◌≤◌, ℕ, ℤ, ◌+◌, ◌*◌, List, [], ◌∷◌, ◌++◌, Option, Some, None, refl, sym, ap, ◌∙◌, subst, arith, append_assoc}
use Rattle.std.specs.Prelude.{map, pos, true, false, nat_eq, if◌then◌else◌}
use Rattle.std.proofs.lemmas.Bool.{and_parts}
use Rattle.std.specs.List.{list_all}
use Rattle.std.proofs.lemmas.Bool.Decides.{nat_tests}
use Rattle.op_compute.proofs.Registers.{kept_none, result_set}
use Rattle.op_compute.specs.Bank.{error_block_of, register_of, scratch_of, work_of}
use Rattle.op_compute.specs.Meaning.{Gives, IsWordOf, gives}
use Rattle.op_compute.specs.Straight.{at, fewest_steps, outcome}
use Rattle.op_compute.specs.declared.bank.RuntimeError.TheVariants.{RangeCheck}
use Rattle.op_constants.specs.Reaching.{Reaches}
use Rattle.op_core.specs.declared.ids.TypeId.{TypeId}
use Rattle.op_core.specs.declared.types.IntegerKind.{IntegerKind}
use Rattle.op_places.specs.Homes.{home_at}
use Rattle.op_places.specs.Moves.{held_by, load_op, near}
use Rattle.op_places.specs.Places.{place_code, place_of}
use Rattle.op_places.specs.declared.homes.Home.TheVariants.{Held, Stored as StoredHome, Shared}
use Rattle.op_places.specs.declared.homes.Home.{Home}
use Rattle.op_low.specs.State.{State, block_of}
use Rattle.op_low.specs.declared.ids.VirtualRegister.{VirtualRegister}
use Rattle.op_low.specs.declared.instruction.Instruction.TheVariants.{Load as LoadWord, Move}
use Rattle.op_low.specs.declared.instruction.Instruction.{Instruction as LowInstruction}
use Rattle.op_meaning.specs.Actions.{perform}
use Rattle.op_meaning.specs.Errors.{failed}
use Rattle.op_meaning.specs.Paths.{at_place, place_of as place_meant}
use Rattle.op_meaning.specs.Shapes.{composite, shape_by, shape_of}
use Rattle.op_meaning.specs.Values.{Place, local, number_in, Reached as Met, reached as met, failing}
use Rattle.op_meaning.specs.World.{value_at, with_number}
use Rattle.op_mir.specs.Machine.{MirState, execute, mir_cost, mir_step}
use Rattle.op_mir.specs.Valid.{action_fits, has, load_fits, path_fits, root_fits, step_fits}
use Rattle.op_mir.specs.View.{view_path, view_step}
use Rattle.op_mir.specs.declared.action.Action.TheVariants.{Load}
use Rattle.op_mir.specs.declared.code.Mir.{Mir}
use Rattle.op_mir.specs.declared.code.Routine.{Routine}
use Rattle.op_mir.specs.declared.ids.BlockId.{BlockId}
use Rattle.op_mir.specs.declared.ids.LocalId.{LocalId}
use Rattle.op_mir.specs.declared.ids.TemporaryId.{TemporaryId}
use Rattle.op_mir.specs.declared.instruction.Instruction.TheVariants.{Act}
use Rattle.op_mir.specs.declared.instruction.Instruction.{Instruction}
use Rattle.op_mir.specs.declared.path.Path.{Path}
use Rattle.op_mir.specs.declared.path.Root.TheVariants.{Global, Local, Through, Temporary}
use Rattle.op_mir.specs.declared.path.Root.{Root}
use Rattle.op_mir.specs.declared.path.Step.TheVariants.{Field, Element}
use Rattle.op_mir.specs.declared.path.Step.{Step}
use Rattle.op_agreement.proofs.Branching.{answered, begins_here, step_here}
use Rattle.op_agreement.proofs.Cases.{behind_act}
use Rattle.op_agreement.proofs.Computing.{number_stands, rest_above, rest_below}
use Rattle.op_agreement.proofs.Elements.{KeptBelow}
use Rattle.op_agreement.proofs.ErrorsEnd.{error_ends}
use Rattle.op_agreement.proofs.Following.{Comes}
use Rattle.op_agreement.proofs.Going.{goes_from, goes_then, goes_within}
use Rattle.op_agreement.proofs.Memory.{number_loads}
use Rattle.op_agreement.proofs.Paths.{Failed, PlaceTo, place_goes, place_most}
use Rattle.op_agreement.proofs.Places.{HaveIndices, indices_of, small_last}
use Rattle.op_agreement.proofs.Pricing.{afford}
use Rattle.op_agreement.proofs.Standing.{Next, here}
use Rattle.op_agreement.specs.Chart.{Floor}
use Rattle.op_agreement.specs.Coding.{code_for}
use Rattle.op_agreement.specs.Fitting.{IsFitting}
use Rattle.op_agreement.specs.Settings.{HomeFits, IsPlaced, Setting, managed}
use Rattle.op_agreement.specs.Stands.{Stands}
use Rattle.op_agreement.specs.Steps.{most_for_one}
use Rattle.op_agreement.specs.Typed.{PathTo}

step_composite : (core : _) (from to : TypeId) (st : Step) (ss : List Step) → Reaches core from (view_step st ∷ map view_step ss) to → shape_of core from ≡ composite
step_composite core from to (Field of n) ss (same, run, found, few, reaches) = ap (shape_by core) found
step_composite core from to (Element of low high t) ss (same, index, each, found, range, reaches) = ap (shape_by core) found

pub indices_in : (mir : Mir) (x : Routine) (path : Path) → path_fits mir x path ≡ true → HaveIndices x path.steps
unfolding path_fits
indices_in mir x path is = indices_of mir x path.steps (and_parts (root_fits mir x path.root) (list_all (step_fits mir x) path.steps) is).1

module _ (g : Setting) (fit : IsFitting g) (m : MirState) (l : State) (floors : ℕ → Floor) (is : List Instruction) where
  abbrev NextIs : Instruction → Type 0
  NextIs i = Next g m l floors i is

  abbrev frame : Rattle.op_places.specs.declared.frame.Frame.Frame
  frame = (here m floors).frame

  -- a variable with parts, or one that is not held in a register
  pub placed_part : (i : Instruction) (next : NextIs i) (v : LocalId) (st : Step) (ss : List Step) (of : TypeId) → PathTo g.core (here m floors).number (view_path (record { root = Local v; steps = st ∷ ss })) of → IsPlaced g.core (here m floors).number frame (Local v)
  placed_part i next v st ss of typed =
      let fits = next.stays.activation.floor.fits in
      let (variable, type) = typed.root in
      fits.composites v variable (ap (shape_of g.core) type ∙ step_composite g.core typed.from of st ss typed.reaches)

  -- an error of an index
  pub index_fails : (i : Instruction) (next : NextIs i) (least most : ℕ) (from : State) (error : ℕ) → l ≡ from → Failed g fit m l floors next.stays least most from error → most + 5 ≤ most_for_one * mir_cost (managed g) m → mir_step (managed g) m ≡ record m { world = failed g.core error m.world; work = rest_above g m l floors i is next } → Comes g m l
  index_fails i next least most from error same fails few step =
      let (k, ends, stands) = error_ends g fit floors m l next.stays RangeCheck fails.h (rest_above g m l floors i is next) in
      let comes = step ∙ ap (λ n. record m { world = failed g.core n m.world; work = rest_above g m l floors i is next }) fails.is in
      record {
        to = k;
        goes = goes_within g 1 (most_for_one * mir_cost (managed g) m) l k (goes_from g 1 l from k same (goes_then g least 5 1 from (at l fails.h (block_of g.low l.top.routine (error_block_of frame.bank RangeCheck).0)) k (omega arith) fails.goes ends)) few;
        stands = subst (λ x. Stands g x k) (sym comes) stands;
      }

  -- ---- loads

  module _ (to : TemporaryId) (kind : IntegerKind) where
    load_held : (v : LocalId) (r : VirtualRegister) (landing : Option BlockId) (next : NextIs (Act (Load to kind (record { root = Local v; steps = [] })) landing)) → home_at frame.homes v ≡ Held r → Comes g m l
    unfolding code_for execute perform outcome action_fits
    load_held v r landing next home =
        let a = next.stays.activation in
        let (of, shape, typed) = next.fine.1 in
        let (variable, type) = typed.root in
        let n = number_in (m.world.memory (local m.world.depth v.0)) in
        let word : IsWordOf (l.top.registers r.0) n = subst (λ d. IsWordOf (l.top.registers r.0) (number_in (m.world.memory (local d v.0)))) (sym next.stays.depth) (a.kept.variables v.0 r.0 variable home) in
        let bank = frame.bank in
        let code : code_for g.core g.mir frame (Act (Load to kind (record { root = Local v; steps = [] })) landing) ≡ Move (register_of bank to) r ∷ [] = rw home refl in
        answered g fit m l floors (Act (Load to kind (record { root = Local v; steps = [] })) landing) is next (Move (register_of bank to) r ∷ []) to (gives n) code refl (omega arith) (λ light. light) (behind_act next.on)
        (result_set (work_of bank) (register_of bank to) l.top.registers l.top.registers (l.top.registers r.0) n (kept_none (work_of bank) (register_of bank to) l.top.registers) word)
        (step_here g fit m l floors (Act (Load to kind (record { root = Local v; steps = [] })) landing) is next)

    load_placed : (path : Path) (landing : Option BlockId) (next : NextIs (Act (Load to kind path) landing)) → IsPlaced g.core (here m floors).number frame path.root → code_for g.core g.mir frame (Act (Load to kind path) landing) ≡ place_code g.core frame near path.root path.steps (scratch_of frame.bank 0) ++ LoadWord (load_op kind) (register_of frame.bank to) (place_of g.core frame near path.root path.steps (scratch_of frame.bank 0)).base (pos (place_of g.core frame near path.root path.steps (scratch_of frame.bank 0)).offset) ∷ [] → Comes g m l
    unfolding execute perform action_fits load_fits
    load_placed path landing next placed code =
        let (of, shape, typed) = next.fine.1 in
        let (has_to, fits_path) = and_parts (has (here m floors).routine to) _ next.fine.0 in
        let indices = indices_in g.mir (here m floors).routine path fits_path in
        let i = Act (Load to kind path) landing in
        let free = scratch_of frame.bank 0 in
        let spot = place_of g.core frame near path.root path.steps free in
        let pc = place_code g.core frame near path.root path.steps free in
        let rest = rest_below g m l floors i is next in
        let lw = LoadWord (load_op kind) (register_of frame.bank to) spot.base (pos spot.offset) in
        let begins : l ≡ at l l.top.registers (pc ++ (lw ∷ rest)) = begins_here g fit m l floors i is next (pc ++ lw ∷ []) code ∙ ap (at l l.top.registers) (append_assoc pc (lw ∷ []) rest) in
        by (place_meant m.world (view_path path)) refl begins (place_goes g fit m l floors next.stays path of near free l.top.registers (lw ∷ rest) typed placed indices (omega arith) (λ r below. refl))
      where
        by : (o : Met Place) → place_meant m.world (view_path path) ≡ o → l ≡ at l l.top.registers (place_code g.core frame near path.root path.steps (scratch_of frame.bank 0) ++ (LoadWord (load_op kind) (register_of frame.bank to) (place_of g.core frame near path.root path.steps (scratch_of frame.bank 0)).base (pos (place_of g.core frame near path.root path.steps (scratch_of frame.bank 0)).offset) ∷ rest_below g m l floors (Act (Load to kind path) landing) is next)) → PlaceTo g fit m l floors next.stays (fewest_steps (place_code g.core frame near path.root path.steps (scratch_of frame.bank 0))) (place_most path) (at l l.top.registers (place_code g.core frame near path.root path.steps (scratch_of frame.bank 0) ++ (LoadWord (load_op kind) (register_of frame.bank to) (place_of g.core frame near path.root path.steps (scratch_of frame.bank 0)).base (pos (place_of g.core frame near path.root path.steps (scratch_of frame.bank 0)).offset) ∷ rest_below g m l floors (Act (Load to kind path) landing) is next))) l.top.registers (scratch_of frame.bank 0) (place_of g.core frame near path.root path.steps (scratch_of frame.bank 0)) (LoadWord (load_op kind) (register_of frame.bank to) (place_of g.core frame near path.root path.steps (scratch_of frame.bank 0)).base (pos (place_of g.core frame near path.root path.steps (scratch_of frame.bank 0)).offset) ∷ rest_below g m l floors (Act (Load to kind path) landing) is next) next.fine.1.0 o → Comes g m l
        by (failing error) e begins fails =
            index_fails (Act (Load to kind path) landing) next _ (place_most path) _ error begins fails (afford g fit m l floors (Act (Load to kind path) landing) is next (λ light. light) (place_most path + 5) (omega arith))
            (step_here g fit m l floors (Act (Load to kind path) landing) is next ∙ ap (λ o. record m { world = at_place g.core o (λ p. with_number to.0 (number_in (value_at m.world p)) m.world) m.world; work = rest_above g m l floors (Act (Load to kind path) landing) is next }) e)
        by (met q) e begins reached =
            let typed = next.fine.1.2 in
            let small = small_last g.core typed.from next.fine.1.0 (map view_step path.steps) typed.reaches typed.small in
            let spot = place_of g.core frame near path.root path.steps (scratch_of frame.bank 0) in
            let rest = rest_below g m l floors (Act (Load to kind path) landing) is next in
            let n = number_in (value_at m.world q) in
            let (loads, word) = number_loads g fit m l floors next.stays q next.fine.1.0 kind reached.h (register_of frame.bank to) spot.base spot.offset rest next.fine.1.1 small reached.is (let low = reached.low in omega arith) in
            let v = Rattle.op_rv.specs.Step.load_value (load_op kind) l.memory (reached.h spot.base.0 + spot.offset) in
            let h2 = λ (r : ℕ). if nat_eq r (register_of frame.bank to).0 then v else reached.h r in
            record {
              to = at l h2 rest;
              goes = goes_within g 1 (most_for_one * mir_cost (managed g) m) l (at l h2 rest)
                  (goes_from g 1 l _ (at l h2 rest) begins (goes_then g _ 1 1 _ (at l reached.h (LoadWord (load_op kind) (register_of frame.bank to) spot.base (pos spot.offset) ∷ rest)) (at l h2 rest) (omega arith) reached.goes loads))
                  (afford g fit m l floors (Act (Load to kind path) landing) is next (λ light. light) (place_most path + 1) (omega arith));
              stands = subst (λ k. Stands g k (at l h2 rest)) (sym (step_here g fit m l floors (Act (Load to kind path) landing) is next ∙ ap (λ o. record m { world = at_place g.core o (λ p. with_number to.0 (number_in (value_at m.world p)) m.world) m.world; work = rest_above g m l floors (Act (Load to kind path) landing) is next }) e))
                  (number_stands g m l floors (Act (Load to kind path) landing) is next to n h2 (behind_act next.on) (set_gives reached.h v n word reached.kept));
            }
          where
            set_gives : (h : ℕ → ℕ) (v : ℕ) (n : ℤ) → IsWordOf v n → KeptBelow (scratch_of frame.bank 0).0 l.top.registers h → Gives (work_of frame.bank) (register_of frame.bank to) l.top.registers (λ r. if nat_eq r (register_of frame.bank to).0 then v else h r) n
            set_gives h v n word kept = record {
              result = let t : nat_eq (register_of frame.bank to).0 (register_of frame.bank to).0 ≡ true = grind (arith, nat_tests) in subst (λ b. IsWordOf (if b then v else h (register_of frame.bank to).0) n) (sym t) word;
              others = λ r low other. let t : nat_eq r (register_of frame.bank to).0 ≡ false = grind (arith, nat_tests) in ap (λ b. if b then v else h r) t ∙ kept r low;
            }

    abbrev load_place : Root → List Step → List LowInstruction
    load_place root steps = place_code g.core frame near root steps (scratch_of frame.bank 0)

    abbrev load_word : Root → List Step → LowInstruction
    load_word root steps = LoadWord (load_op kind) (register_of frame.bank to) (place_of g.core frame near root steps (scratch_of frame.bank 0)).base (pos (place_of g.core frame near root steps (scratch_of frame.bank 0)).offset)

    abbrev load_by_home : LocalId → Option VirtualRegister → List LowInstruction
    load_by_home v (Some r) = Move (register_of frame.bank to) r ∷ []
    load_by_home v None =
        let spot = place_of g.core frame near (Local v) [] (scratch_of frame.bank 0) in
        place_code g.core frame near (Local v) [] (scratch_of frame.bank 0) ++ LoadWord (load_op kind) (register_of frame.bank to) spot.base (pos spot.offset) ∷ []

    load_local : (v : LocalId) (landing : Option BlockId) (next : NextIs (Act (Load to kind (record { root = Local v; steps = [] })) landing)) (home : Home) → home_at frame.homes v ≡ home → HomeFits frame home → Comes g m l
    unfolding code_for
    load_local v landing next (Held r) e fits = load_held v r landing next e
    load_local v landing next (StoredHome offset) e fits =
        load_placed (record { root = Local v; steps = [] }) landing next (offset, e)
        (ap (λ h. load_by_home v (held_by (Local v) [] h)) e)
    load_local v landing next (Shared s) e fits = absurd fits

    load_at : (root : Root) (steps : List Step) (landing : Option BlockId) → NextIs (Act (Load to kind (record { root = root; steps = steps })) landing) → Comes g m l
    unfolding code_for
    load_at (Global v) steps landing next = load_placed (record { root = Global v; steps = steps }) landing next tt refl
    load_at (Through v) steps landing next = load_placed (record { root = Through v; steps = steps }) landing next tt refl
    load_at (Temporary of n) steps landing next = load_placed (record { root = Temporary of n; steps = steps }) landing next next.homes refl
    load_at (Local v) [] landing next = load_local v landing next (home_at frame.homes v) refl (next.stays.activation.floor.fits.homes v next.fine.1.2.root.0.0)
    load_at (Local v) (st ∷ ss) landing next = load_placed (record { root = Local v; steps = st ∷ ss }) landing next (placed_part (Act (Load to kind (record { root = Local v; steps = st ∷ ss })) landing) next v st ss next.fine.1.0 next.fine.1.2) refl

    pub load_comes : (path : Path) (landing : Option BlockId) → NextIs (Act (Load to kind path) landing) → Comes g m l
    load_comes path landing next = load_at path.root path.steps landing next
