-- The low code of a program that fits is valid.
use Rattle.std.proofs.Common.{◌≡◌, ◌<◌, ◌≤◌, ℕ, suc, ◌+◌, max, Bool, true, false, List, [], ◌∷◌, ◌++◌, length, map, take, nat_eq, nat_lt, slice_get, Option, Some, inl, inr, ◌⊎◌, true≢false, refl, sym, ap, ◌∙◌, subst, arith, le_refl, length-append, if◌then◌else◌}
use Rattle.std.proofs.lemmas.Bool.{and_from, ltb-false}
use Rattle.std.proofs.lemmas.Bool.Decides.{nat_tests}
use Rattle.std.proofs.lemmas.List.{length-map}
use Rattle.std.specs.List.{list_all, list_any}
use Rattle.op_compute.specs.Bank.{scratch_of}
use Rattle.op_constants.specs.Literals.{routine_literals, routines_literals}
use Rattle.op_constants.specs.Offsets.{size_in}
use Rattle.op_core.specs.Rows.{rows}
use Rattle.op_core.specs.declared.ids.TypeId.{TypeId}
use Rattle.op_core.specs.declared.program.Core.{Core}
use Rattle.op_places.proofs.RoomLemmas.{behind_grows}
use Rattle.op_expand.specs.Calls.{has_closing, closing_number}
use Rattle.op_places.specs.Frames.{frame_of, first_room, parameters_of, variables_room}
use Rattle.op_places.specs.Homes.{home_at, parameter, roots_of}
use Rattle.op_places.specs.Moves.{held, held_by}
use Rattle.op_expand.specs.Programs.{routines_from}
use Rattle.op_expand.specs.Registers.{registers_in}
use Rattle.op_expand.specs.Routines.{all_blocks, beginning, blocks_of, error_block, error_blocks, low_parameters, low_routine, most_charge, routine_with}
use Rattle.op_places.specs.declared.frame.Returning.{Returning}
use Rattle.op_places.specs.declared.frame.Returning.TheVariants.{Ending, Nothing, Result}
use Rattle.op_places.specs.declared.homes.Home.{Home}
use Rattle.op_places.specs.declared.homes.Home.TheVariants.{Held, Shared, Stored}
use Rattle.op_frames.proofs.CallsFine.{CanReturn, TakesClosing}
use Rattle.op_frames.proofs.CodeFine.{CanBegin, CanDo, IsNumbered}
use Rattle.op_frames.proofs.Fine.{Bounds, Below}
use Rattle.op_frames.proofs.FramesFine.{beginning_fine, homes_below, locals_whole, spare_below, spare_given, taken_few}
use Rattle.op_frames.proofs.MadeLemmas.{every_append}
use Rattle.op_frames.proofs.MovesFine.{HasRuntime}
use Rattle.op_frames.proofs.PlacesFine.{IsFrame, Temporaries, most_each}
use Rattle.op_frames.proofs.RoutineFine.{IsFineBlock, IsGood, IsGoodBlock, blocks_count, blocks_fine, errors_fine, registers_under, stack_fine, valid_routine, every_split}
use Rattle.op_frames.specs.Fitting.{IsFitting, begin_of_block, begin_of_routine, begin_room, is_held, is_stored, registers_of_routine, room_of_block, room_of_instruction, scratch_of_routine}
use Rattle.op_frames.specs.Made.{Every, IsCode}
use Rattle.op_frames.specs.Named.{IsNamed}
use Rattle.op_low.specs.Valid.{is_valid_routine, most_registers, takes}
use Rattle.op_low.specs.declared.code.Low.{Low}
use Rattle.op_low.specs.declared.code.Routine.{Routine as LowRoutine}
use Rattle.op_low.specs.declared.ids.VirtualRegister.{VirtualRegister}
use Rattle.op_lower.specs.Temporaries.{in_block, in_blocks, in_instruction, most_of}
use Rattle.op_meaning.specs.Shapes.{variables_of}
use Rattle.op_mir.specs.View.{view_block, view_given, view_instruction}
use Rattle.op_mir.specs.declared.action.Action.{Action}
use Rattle.op_mir.specs.declared.action.Action.TheVariants.{Constant, Load, Store, Copy, Look, BeginWith, Pick, Compute, Do}
use Rattle.op_mir.specs.declared.code.Block.{Block}
use Rattle.op_mir.specs.declared.code.Mir.{Mir}
use Rattle.op_mir.specs.declared.code.Routine.{Routine}
use Rattle.op_mir.specs.declared.ids.BlockId.{BlockId}
use Rattle.op_mir.specs.declared.ids.LocalId.{LocalId}
use Rattle.op_mir.specs.declared.instruction.Instruction.{Instruction}
use Rattle.op_mir.specs.declared.instruction.Instruction.TheVariants.{Act, Call, Jump, When, Unless, Switch, Dispatch, MakeDue, OpenTemporaries, EndTemporary, Stop, Return}
use Rattle.op_mir.specs.declared.path.Root.TheVariants.{Local}
use Rattle.op_rt_text.specs.Runtime.{runtime_routines}

under_over : (a b : ℕ) → nat_lt a b ≡ true → b ≤ a → ⊥
under_over a b e less = grind (arith, nat_tests)

-- ---- the instructions of a routine

module _ (m : Bounds) (core : Core) (r : ℕ) (routine : Routine) (n blocks most : ℕ) (is : IsFrame m core (frame_of core r routine)) (temporaries : Temporaries (frame_of core r routine) n) (runtime : HasRuntime m) (fewer : blocks ≤ m.blocks) (mir : Mir)
    (few : 2 + parameters_of core r ≤ m.registers) (one : (frame_of core r routine).bank.scratch + 1 ≤ m.registers) (three : 3 ≤ m.registers) (room : (frame_of core r routine).bank.scratch + most ≤ m.registers)
    (calls : (f k : ℕ) → f < length core.routines → k ≡ parameters_of core f → takes (slice_get m.low.routines (9 + f)) (suc (suc k)) ≡ true) (ends : TakesClosing m core) where
  can_return : (returning : Returning) → CanReturn m core (frame_of core r routine) returning
  can_return Ending = (ends, one)
  can_return Nothing = tt
  can_return (Result of v) = λ e. three

  -- ---- what variables begin with

  spare_by : (stored : Bool) → list_any is_stored (take (parameters_of core r) (frame_of core r routine).homes) ≡ stored → (if stored then 1 else 2) ≤ most → Below m (frame_of core r routine).spare
  spare_by true e less = spare_given m (parameters_of core r) (scratch_of (frame_of core r routine).bank 1) 0 (take (parameters_of core r) (frame_of core r routine).homes) few (taken_few (parameters_of core r) (frame_of core r routine).homes) e
  spare_by false e less = spare_below m (parameters_of core r) (scratch_of (frame_of core r routine).bank 1) 0 (take (parameters_of core r) (frame_of core r routine).homes) few (taken_few (parameters_of core r) (frame_of core r routine).homes) (omega (arith, less, room))

  held_home : (v : LocalId) (home : Home) → is_held home ≡ true → (q : VirtualRegister) × (held_by (Local v) [] home ≡ Some q)
  held_home v (Held q) e = (q, refl)
  held_home v (Stored offset) e = absurd (true≢false (sym e))
  held_home v (Shared id) e = absurd (true≢false (sym e))

  another_by : (v : LocalId) (is_in : Bool) → is_held (home_at (frame_of core r routine).homes v) ≡ is_in → (if is_in then 1 else 2) ≤ most
      → ((q : VirtualRegister) × (held core (frame_of core r routine) (Local v) [] ≡ Some q)) ⊎ ((frame_of core r routine).bank.scratch + 2 ≤ m.registers)
  another_by v true e less = inl (held_home v (home_at (frame_of core r routine).homes v) e)
  another_by v false e less = inr (omega (arith, less, room))

  can_begin : (v : LocalId) (landing : Option BlockId) → begin_room core r (frame_of core r routine) (Act (BeginWith v) landing) ≤ most → CanBegin m core (frame_of core r routine) v
  unfolding begin_room
  can_begin v landing less = record {
    one = one;
    spare = λ e. spare_by (list_any is_stored (take (parameters_of core r) (frame_of core r routine).homes)) refl (rw e at less);
    another = λ e. another_by v (is_held (home_at (frame_of core r routine).homes v)) refl (rw e at less);
  }

  can_act : (a : Action) (landing : Option BlockId) → begin_room core r (frame_of core r routine) (Act a landing) ≤ most → CanDo m core (frame_of core r routine) (Act a landing)
  can_act (BeginWith v) landing less = can_begin v landing less
  can_act (Constant to k) landing less = tt
  can_act (Load to kind from) landing less = tt
  can_act (Store to kind from) landing less = tt
  can_act (Copy of to from) landing less = tt
  can_act (Look at) landing less = tt
  can_act (Pick to text index) landing less = tt
  can_act (Compute c) landing less = tt
  can_act (Do p operands to) landing less = tt

  can_do : (i : Instruction) → IsNamed core blocks (view_instruction core r i) → begin_room core r (frame_of core r routine) i ≤ most → CanDo m core (frame_of core r routine) i
  can_do (Act a landing) named less = can_act a landing less
  can_do (Call f operands) named less = calls f.0 (length operands.given) named.0 (sym (length-map operands.given view_given) ∙ named.1)
  can_do (Jump block) named less = tt
  can_do (When t block) named less = tt
  can_do (Unless t block) named less = tt
  can_do (Switch t arms) named less = tt
  can_do (Dispatch t block) named less = tt
  can_do (MakeDue f) named less = tt
  can_do (OpenTemporaries ts) named less = absurd named
  can_do (EndTemporary t) named less = absurd named
  can_do (Stop t) named less = ends
  can_do Return named less = can_return (frame_of core r routine).returning

  good_code : (code : List Instruction) → Every (IsNamed core blocks) (map (view_instruction core r) code) → Every (λ i. in_instruction i ≤ n) code → Every (λ i. room_of_instruction core r i ≤ most) code → Every (λ i. begin_room core r (frame_of core r routine) i ≤ most) code → Every (IsGood m core r routine n blocks is temporaries runtime fewer mir) code
  good_code [] named t w begins = tt
  good_code (i ∷ code) named t w begins =
      (record { named = named.0; temps = t.0; room = omega (arith, room, w.0); can = can_do i named.0 begins.0 }, good_code code named.1 t.1 w.1 begins.1)

  good_blocks : (bs : List Block) → Every (IsCode (IsNamed core blocks)) (map (view_block core r) bs) → Every (λ b. in_block b ≤ n) bs → Every (λ b. room_of_block core r b ≤ most) bs → Every (λ b. begin_of_block core r (frame_of core r routine) b ≤ most) bs → Every (IsGoodBlock m core r routine n blocks is temporaries runtime fewer mir) bs
  good_blocks [] c t w begins = tt
  good_blocks (b ∷ bs) c t w begins =
      let code = c.0 in
      ((good_code b.code code.each (most_each in_instruction b.code n t.0) (most_each (room_of_instruction core r) b.code most w.0) (most_each (begin_room core r (frame_of core r routine)) b.code most begins.0), code.leaves), good_blocks bs c.1 t.1 w.1 begins.1)

-- ---- a routine

one_more : (a b k : ℕ) → a + 1 ≤ a + max (max 1 b) k
one_more a b k = omega arith

least_max : (b k : ℕ) → k ≤ max (max 1 b) k
least_max b k = omega arith

begins_max : (b k : ℕ) → b ≤ max (max 1 b) k
begins_max b k = omega arith

module _ (low : Low) (core : Core) (mir : Mir) (sizes : (of : TypeId) → size_in core of ≤ 1048576) (others : List LowRoutine) (routines : low.routines ≡ runtime_routines ++ others) (globals : length core.variables < length low.globals) (enough : 7 ≤ low.counts.literals)
    (calls : (f k : ℕ) → f < length core.routines → k ≡ parameters_of core f → takes (slice_get low.routines (9 + f)) (suc (suc k)) ≡ true) (ends : has_closing core ≡ true → takes (slice_get low.routines (closing_number core)) 2 ≡ true) where
  parameters_by : (last : Bool) (k : ℕ) → (if last then 0 else parameter k) ≤ 2 + k
  parameters_by true k = omega arith
  parameters_by false k = le_refl (2 + k)

  low_few : (r : ℕ) → low_parameters core r ≤ 2 + parameters_of core r
  low_few r = parameters_by (nat_eq r (length core.routines)) (parameters_of core r)

  -- what is charged more than any stack has
  over_valid : (r : ℕ) → parameters_of core r + 4 ≤ most_registers → is_valid_routine low (routine_with (low_parameters core r) 0 (error_block 202 5 ∷ [])) ≡ true
  over_valid r few =
      let m : Bounds = record { low = low; locals = 0; blocks = 1; registers = 2 + parameters_of core r } in
      valid_routine m (low_parameters core r) (error_block 202 5 ∷ []) refl (stack_fine m enough (omega arith)) (omega arith) (low_few r) (omega (arith, few)) (omega arith) refl (omega arith)

  module _ (r : ℕ) (texts : List (List ℕ)) (routine : Routine) (fits : IsFitting core r routine) (literals : Every (IsNumbered low texts) (routine_literals core r routine)) where
    abbrev bounds : Bounds
    bounds = record { low = low; locals = (frame_of core r routine).locals; blocks = length routine.blocks + 4; registers = registers_of_routine core r routine }

    first_fits : 2 + parameters_of core r ≤ (variables_room core r routine).register
    first_fits = behind_grows core (parameters_of core r) (roots_of routine) 0 (first_room (parameters_of core r)) (rows core.variables (variables_of core r))

    few_parameters : 2 + parameters_of core r ≤ registers_of_routine core r routine
    few_parameters = omega (arith, first_fits)

    the_frame : IsFrame bounds core (frame_of core r routine)
    the_frame = record {
      locals = refl;
      homes = λ v. homes_below bounds core (parameters_of core r) (roots_of routine) few_parameters 0 (first_room (parameters_of core r)) (rows core.variables (variables_of core r)) (λ j w e i. let p = fits.references j w e i in omega (arith, p)) (omega arith) v.0;
      scratch = omega arith;
      two = omega (arith, few_parameters);
      errors = le_refl (length routine.blocks + 4);
      globals = globals;
      sizes = sizes;
    }

    the_temporaries : Temporaries (frame_of core r routine) routine.temporaries
    the_temporaries = refl

    the_runtime : HasRuntime bounds
    the_runtime = record { others = others; are = routines }

    three_there : 3 ≤ registers_of_routine core r routine
    three_there = let one = one_more ((variables_room core r routine).register + routine.temporaries) (begin_of_routine core r routine) (most_of (room_of_block core r) routine.blocks) in omega (arith, first_fits, one)

    low_fits : low_parameters core r ≤ registers_of_routine core r routine
    low_fits = omega (arith, low_few r, few_parameters)

    all_fine : Every (IsFineBlock bounds) (all_blocks core mir texts r routine)
    all_fine =
        let m = bounds in
        let frame = frame_of core r routine in
        let most = scratch_of_routine core r routine in
        let one : frame.bank.scratch + 1 ≤ m.registers = one_more ((variables_room core r routine).register + routine.temporaries) (begin_of_routine core r routine) (most_of (room_of_block core r) routine.blocks) in
        let three : 3 ≤ m.registers = three_there in
        let fewer : length routine.blocks ≤ m.blocks = omega arith in
        let t : in_blocks routine.blocks ≤ routine.temporaries = omega (arith, fits.temporaries) in
        let rooms = most_each (room_of_block core r) routine.blocks most (least_max (begin_of_routine core r routine) (most_of (room_of_block core r) routine.blocks)) in
        let begins = most_each (begin_of_block core r frame) routine.blocks most (begins_max (begin_of_routine core r routine) (most_of (room_of_block core r) routine.blocks)) in
        let good = good_blocks m core r routine routine.temporaries (length routine.blocks) most the_frame the_temporaries the_runtime fewer mir few_parameters one three (omega arith) calls ends routine.blocks fits.code (most_each in_block routine.blocks routine.temporaries t) rooms begins in
        let front = beginning_fine m core r routine routine.temporaries the_frame the_temporaries the_runtime few_parameters one in
        let fine = blocks_fine m core r routine routine.temporaries (length routine.blocks) the_frame the_temporaries the_runtime fewer mir texts (beginning core frame r) routine.blocks front good literals in
        let two_registers : 2 ≤ m.registers = omega (arith, three) in
        every_append (IsFineBlock m) (blocks_of core mir frame texts (beginning core frame r) routine.blocks) error_blocks fine (errors_fine m enough two_registers)

    under_valid : routine.charge ≤ most_charge → is_valid_routine low (routine_with (low_parameters core r) (frame_of core r routine).locals (all_blocks core mir texts r routine)) ≡ true
    under_valid charge =
        let m = bounds in
        let frame = frame_of core r routine in
        let fewer : length routine.blocks ≤ m.blocks = omega arith in
        let three : 3 ≤ m.registers = three_there in
        let count : length (all_blocks core mir texts r routine) ≡ m.blocks = length-append (blocks_of core mir frame texts (beginning core frame r) routine.blocks) error_blocks ∙ ap (λ k. k + 4) (blocks_count m core r routine routine.temporaries (length routine.blocks) the_frame the_temporaries the_runtime fewer mir texts (beginning core frame r) routine.blocks) in
        let there : 0 < length (all_blocks core mir texts r routine) = omega (arith, count) in
        valid_routine m (low_parameters core r) (all_blocks core mir texts r routine) count all_fine (omega (arith, three)) low_fits (fits.registers charge) (fits.locals charge) (locals_whole core r routine) there

    -- its registers are no more than are counted, and its locals are those of the frame
    pub low_frame : routine.charge ≤ most_charge → ((low_routine core mir texts r routine).registers ≤ registers_of_routine core r routine) × ((low_routine core mir texts r routine).locals ≡ (frame_of core r routine).locals)
    low_frame charge = by (nat_lt most_charge routine.charge) refl (registers_under bounds (low_parameters core r) (all_blocks core mir texts r routine) (omega (arith, three_there)) low_fits all_fine)
      where
        by : (over : Bool) → nat_lt most_charge routine.charge ≡ over → registers_in (low_parameters core r) (all_blocks core mir texts r routine) ≤ registers_of_routine core r routine → ((low_routine core mir texts r routine).registers ≤ registers_of_routine core r routine) × ((low_routine core mir texts r routine).locals ≡ (frame_of core r routine).locals)
        by true e few = absurd (under_over most_charge routine.charge e charge)
        by false e few = rw e (few, refl)

    routine_by : (over : Bool) → nat_lt most_charge routine.charge ≡ over → is_valid_routine low (if over then routine_with (low_parameters core r) 0 (error_block 202 5 ∷ []) else routine_with (low_parameters core r) (frame_of core r routine).locals (all_blocks core mir texts r routine)) ≡ true
    routine_by true e = over_valid r fits.parameters
    routine_by false e = under_valid (ltb-false most_charge routine.charge e)

    pub low_valid : is_valid_routine low (low_routine core mir texts r routine) ≡ true
    low_valid = routine_by (nat_lt most_charge routine.charge) refl

  -- ---- routines, from number r on

  pub from_valid : (xs : List Routine) (r : ℕ) (texts : List (List ℕ)) → ((k : ℕ) (x : Routine) → slice_get xs k ≡ Some x → IsFitting core (r + k) x) → Every (IsNumbered low texts) (routines_literals core r xs) → list_all (is_valid_routine low) (routines_from core mir texts r xs) ≡ true
  from_valid [] r texts fits there = refl
  from_valid (x ∷ xs) r texts fits there =
      let here : r + 0 ≡ r = omega arith in
      let next : suc r ≡ r + 1 = omega arith in
      let parts = every_split (IsNumbered low texts) (routine_literals core r x) (routines_literals core (suc r) xs) there in
      let mine = low_valid r texts x (subst (λ k. IsFitting core k x) here (fits 0 x refl)) parts.0 in
      let rest = from_valid xs (r + 1) texts (λ k y e. let next : r + suc k ≡ r + 1 + k = omega arith in subst (λ j. IsFitting core j y) next (fits (suc k) y e)) (subst (λ n. Every (IsNumbered low texts) (routines_literals core n xs)) next parts.1) in
      and_from _ _ mine rest
