-- The beginning: the main part takes the bytes of stack from a word behind the globals, and goes on at the first instruction.
use Rattle.std.proofs.Common.{◌≡◌, ◌≤◌, ◌<◌, ◌⊎◌, inl, inr, ℕ, zero, suc, ◌+◌, ◌-◌, List, [], ◌∷◌, ◌++◌, append_assoc, drop, flat_map, length, Option, Some, None, refl, sym, ap, ◌∙◌, subst, arith, get_or}
use Rattle.std.specs.Prelude.{◌^◌, ◌&&◌, Bool, true, false, pos, map, nat_eq, nat_lt, replicate, slice_get, slice_index, if◌then◌else◌}
use Rattle.std.specs.Option.{option_map, option_to_list}
use Rattle.std.proofs.lemmas.Bool.{cond-true, cases_lt}
use Rattle.std.proofs.lemmas.Bool.Decides.{nat_tests}
use Rattle.std.proofs.lemmas.List.{length-replicate}
use Rattle.std.proofs.lemmas.List.Concat.{flat_map-cons}
use Rattle.std.proofs.lemmas.Option.{slice_get-map, slice_get_past}
use Rattle.op_constants.specs.Literals.{literals_of}
use Rattle.op_constants.proofs.FirstLies.{first_lies, zeros_lie}
use Rattle.op_constants.proofs.TypesArranged.{type_is_arranged}
use Rattle.op_constants.proofs.Lying.{kept, number-same}
use Rattle.op_constants.proofs.Zeros.{nothing_lies}
use Rattle.op_constants.specs.Lies.{Lies, arrangement_of}
use Rattle.op_core.proofs.Rows.{there_is}
use Rattle.op_core.specs.Initial.{FirstValue}
use Rattle.op_core.specs.declared.ids.RoutineId.{RoutineId}
use Rattle.op_core.specs.declared.program.Core.{Core}
use Rattle.op_core.specs.declared.program.Unit.{Unit as UnitRow}
use Rattle.op_core.specs.declared.types.IntegerKind.TheVariants.{Signed32}
use Rattle.op_expand.specs.Calls.{finalizations, finalizations_of, left, runtime}
use Rattle.op_places.specs.Frames.{frame_of}
use Rattle.op_places.specs.Homes.{offset_of}
use Rattle.op_expand.specs.Routines.{begun_with_stack, beginning, code_of}
use Rattle.op_places.specs.declared.frame.Returning.TheVariants.{Ending as TheEnd}
use Rattle.op_low.specs.Machine.{act, load, start}
use Rattle.op_low.specs.State.{State, Running, bad, block_of, keep, routine_of, space}
use Rattle.op_low.specs.declared.instruction.Instruction.TheVariants.{Address, Load}
use Rattle.op_low.specs.declared.instruction.Instruction.{Instruction as LowInstruction}
use Rattle.op_meaning.specs.Frames.{Pending, Program}
use Rattle.op_meaning.specs.Shapes.{first_of, type_of_variable, variables_in, zero_of}
use Rattle.op_meaning.specs.Start.{first_memory}
use Rattle.op_meaning.specs.Values.{Value, Holder, global, local, temporary, object}
use Rattle.op_mir.specs.Code.{Instr, becoming_due, blocks_in, blocks_of, entering, items_of, program_blocks, ret, unit_code}
use Rattle.op_mir.specs.Machine.{block_at, block_or, mir_start}
use Rattle.op_mir.specs.View.{routine_at, view_block, view_instruction, view_routine}
use Rattle.op_mir.specs.declared.code.Block.{Block}
use Rattle.op_mir.specs.declared.code.Routine.{Routine}
use Rattle.op_mir.specs.declared.path.Root.TheVariants.{Temporary}
use Rattle.op_rv.proofs.Memory.{with_bytes-below, with_bytes-within}
use Rattle.op_rv.specs.Operation.{signed}
use Rattle.op_rv.specs.State.{with_bytes, word_at}
use Rattle.op_rv.specs.Step.{can_access, offset_from}
use Rattle.op_rv.specs.declared.instruction.LoadOp.TheVariants.{Lw}
use Rattle.op_rv.specs.declared.symbol.Symbol.TheVariants.{Global}
use Rattle.op_agreement.proofs.HeapKept.{heap_below}
use Rattle.op_agreement.proofs.Closing.{main_returning}
use Rattle.op_agreement.proofs.Counting.{count_below}
use Rattle.op_agreement.proofs.Going.{Goes, goes_fewer, goes_from, goes_one, goes_then, goes_to}
use Rattle.op_agreement.proofs.Memory.{may_access}
use Rattle.op_agreement.proofs.Standing.{stands_on}
use Rattle.op_agreement.specs.Chart.{AllLie, Floor}
use Rattle.op_agreement.specs.Fitting.{IsFitting, RoutineFits, global_address}
use Rattle.op_agreement.specs.Settings.{Setting}
use Rattle.op_agreement.specs.Stands.{ArePending, AreStillDue, IsCounted, IsFloor, Position, dues_in}
use Rattle.op_agreement.specs.Starting.{IsLoaded, Starts, low_begins, program_in, stack_address}
use Rattle.op_agreement.specs.Typed.{IsVariable}

-- what a global variable begins with
abbrev first_global : Core → ℕ → Option FirstValue → Value
first_global core v None = zero_of core (type_of_variable core v)
first_global core v (Some value) = first_of core (type_of_variable core v) value

global_first : (p : Program) (v : ℕ) (first : Option FirstValue) → p.first v ≡ first → first_memory p (global v) ≡ first_global p.core v first
global_first p v None is = rw is refl
global_first p v (Some value) is = rw is refl

-- what a variable begins with names no instance

-- the code of a unit makes its finalization part due
dues_unit : (first last : Option RoutineId) (rest : List Instr) → dues_in ((entering first ++ becoming_due last) ++ rest) ≡ option_to_list last ++ dues_in rest
dues_unit None None rest = refl
dues_unit None (Some f) rest = refl
dues_unit (Some r) None rest = refl
dues_unit (Some r) (Some f) rest = refl

dues_units : (us : List UnitRow) → dues_in (flat_map unit_code us ++ ret ∷ []) ≡ finalizations_of us
dues_units [] = refl
dues_units (u ∷ us) =
    let front : flat_map unit_code (u ∷ us) ++ ret ∷ [] ≡ unit_code u ++ (flat_map unit_code us ++ ret ∷ []) = ap (λ xs. xs ++ ret ∷ []) (flat_map-cons unit_code u us) ∙ append_assoc (unit_code u) (flat_map unit_code us) (ret ∷ []) in
    ap dues_in front ∙ dues_unit u.initialization u.finalization (flat_map unit_code us ++ ret ∷ []) ∙ ap (λ fs. option_to_list u.finalization ++ fs) (dues_units us)

module _ (g : Setting) (fit : IsFitting g) (loaded : IsLoaded g) (input : List ℕ) where
  -- ---- the lowest activation

  abbrev number_here : ℕ
  number_here = length g.core.routines

  abbrev main : Routine
  main = g.mir.program

  abbrev floors_first : ℕ → Floor
  floors_first d = record { number = number_here; routine = main; frame = frame_of g.core number_here main; base = g.bottom }

  abbrev low_number : ℕ
  low_number = runtime + number_here

  found : routine_at g.mir number_here ≡ Some main
  found =
      let same = fit.program.number in
      let t : nat_eq (length g.core.routines) (length g.mir.routines) ≡ true = grind (arith, nat_tests) in
      ap (λ b. if b then Some main else slice_get g.mir.routines number_here) t

  charged : main.charge ≤ Rattle.op_expand.specs.Routines.most_charge
  charged = let none = loaded.charge in omega arith

  fits : RoutineFits g number_here main
  fits = fit.routines number_here main found charged

  floor_first : IsFloor g (floors_first 0)
  floor_first = record { found = found; charge = charged; framed = refl; fits = fits.frame; expanded = fits.expanded }

  no_variable : (v : ℕ) (reference : Bool) → IsVariable g.core number_here v reference → ⊥
  no_variable v reference is =
      let none : slice_get g.core.routines number_here ≡ None = slice_get_past g.core.routines number_here (omega arith) in
      let low : v < (variables_in (slice_get g.core.routines number_here)).count = is.0 in
      let never : v < 0 = subst (λ o. v < (variables_in o).count) none low in
      omega arith

  -- ---- memory

  abbrev locals_here : ℕ
  locals_here = (routine_of g.low g.low.entry.0).locals

  locals_are : locals_here ≡ (floors_first 0).frame.locals
  locals_are = ap (λ r. (routine_of g.low r).locals) loaded.entry ∙ fits.expanded.locals

  abbrev memory_first : ℕ → ℕ
  memory_first = with_bytes g.loaded g.bottom (replicate locals_here 0)

  low_kept : (x : ℕ) → x < g.bottom → memory_first x ≡ g.loaded x
  low_kept x low = with_bytes-below g.loaded g.bottom (replicate locals_here 0) x low

  zero_here : (x : ℕ) → g.bottom ≤ x → x < g.bottom + locals_here → memory_first x ≡ 0
  zero_here x from to =
      let many : length (replicate {A = ℕ} locals_here 0) ≡ locals_here = length-replicate {A = ℕ} locals_here 0 in
      with_bytes-within g.loaded g.bottom (replicate locals_here 0) x from (omega arith) ∙ zero_in locals_here (x - g.bottom)
    where
      zero_in : (n k : ℕ) → get_or (replicate {A = ℕ} n 0) k 0 ≡ 0
      zero_in zero k = refl
      zero_in (suc n) zero = refl
      zero_in (suc n) (suc k) = zero_in n k

  -- ---- the two instructions in front

  abbrev begun : (ℕ → ℕ) → List LowInstruction → State
  begun f now = record {
    top = record { routine = g.low.entry.0; registers = f; now = now };
    callers = [];
    limit = g.bottom + locals_here;
    room = (g.top - g.bottom) - space g.low g.placement g.low.entry.0;
    memory = memory_first;
    input = input;
    output = [];
    errors = [];
    ending = Running;
  }

  begins_is : (now : List LowInstruction) → block_of g.low g.low.entry.0 0 ≡ now → low_begins g input ≡ begun (slice_index []) now
  unfolding start
  begins_is now is = ap (begun (slice_index [])) is

  abbrev with_address : ℕ → ℕ
  with_address r = if nat_eq r 0 then stack_address g else slice_index [] r

  abbrev told : ℕ → ℕ
  told r = if nat_eq r 0 then g.stack else with_address r

  addressed : (rest : List LowInstruction) → Goes g 1 1 (begun (slice_index []) (Address left (Global (record { 0 = length g.core.variables })) ∷ rest)) (begun with_address rest)
  unfolding act
  addressed rest = goes_one g (begun (slice_index []) []) (slice_index []) (Address left (Global (record { 0 = length g.core.variables }))) rest refl

  stack_read : word_at memory_first (stack_address g) ≡ g.stack
  stack_read = let below = loaded.stack_below in number-same Signed32 g.loaded memory_first (stack_address g) (stack_address g) (λ x low. low_kept (stack_address g + x) (omega arith)) ∙ loaded.stack_told

  loads : (rest : List LowInstruction) → Goes g 1 1 (begun with_address (Load Lw left left (pos 0) ∷ rest)) (begun told rest)
  unfolding act load
  loads rest =
      let word = fit.placed.words (Global (record { 0 = length g.core.variables })) in
      let below = loaded.stack_below in
      let a = stack_address g in
      let plain : offset_from a (pos 0) ≡ a = omega arith in
      let can : can_access (λ x. g.placement.rights.readable x && nat_lt x (g.bottom + locals_here)) a 4 ≡ true = may_access g.placement.rights.readable (g.bottom + locals_here) a 4 loaded.stack_whole loaded.stack_readable (omega arith) in
      let m = begun with_address rest in
      goes_to g 1 (begun with_address (Load Lw left left (pos 0) ∷ rest)) (act g.low g.placement (Load Lw left left (pos 0)) m) (begun told rest)
      (ap (λ x. load g.placement Lw left x m) plain ∙ cond-true (can_access (λ x. g.placement.rights.readable x && nat_lt x (g.bottom + locals_here)) a 4) (keep left (word_at memory_first a) m) (bad m) can ∙ ap (λ w. keep left w m) stack_read)
      (goes_one g m with_address (Load Lw left left (pos 0)) rest refl)

  -- ---- values

  lies_first : AllLie g floors_first 0 (first_memory (program_in g)) memory_first
  lies_first (global v) live =
      let stands = fit.placed.globals v live in
      let small = stands.type in
      let below = stands.below in
      let arranged = type_is_arranged g.core fit.program.extents (type_of_variable g.core v) small in
      let size = arranged.size in
      kept (arrangement_of g.core (type_of_variable g.core v)) (first_memory (program_in g) (global v)) g.loaded memory_first (global_address g v) arranged.arranged (λ x from to. low_kept x (omega arith)) (by ((program_in g).first v) refl)
    where
      by : (first : Option FirstValue) → (program_in g).first v ≡ first → Lies (arrangement_of g.core (type_of_variable g.core v)) (first_memory (program_in g) (global v)) g.loaded (global_address g v)
      by None is = subst (λ x. Lies (arrangement_of g.core (type_of_variable g.core v)) x g.loaded (global_address g v)) (sym (global_first (program_in g) v None is)) (zeros_lie g.core fit.program.extents (type_of_variable g.core v) (fit.placed.globals v live).type g.loaded (global_address g v) (loaded.zeros v live is))
      by (Some value) is = let (first, there) = loaded.values v value live is in subst (λ x. Lies (arrangement_of g.core (type_of_variable g.core v)) x g.loaded (global_address g v)) (sym (global_first (program_in g) v (Some value) is)) (first_lies g.core fit.program.extents (type_of_variable g.core v) value g.loaded (global_address g v) (fit.placed.globals v live).type first there)
  lies_first (local d v) (low, stored) = absurd (no_variable v false stored.0)
  lies_first (temporary d of n) (low, stored) =
      let frame = (floors_first d).frame in
      let far = offset_of g.core (Temporary of n) frame.temporaries frame.roots in
      let small = fits.frame.types (Temporary of n) far stored in
      let within = fits.frame.within (Temporary of n) far stored in
      let arranged = type_is_arranged g.core fit.program.extents of small in
      let size = arranged.size in
      let room = locals_are in
      nothing_lies (arrangement_of g.core of) memory_first (g.bottom + far) arranged.arranged (λ x less. zero_here (g.bottom + far + x) (omega arith) (omega arith))
  lies_first (object name) live = absurd live

  -- ---- finalization parts

  -- the program itself makes all of them due
  still_due : AreStillDue g (mir_start (program_in g) input)
  still_due open_ =
      let t : nat_eq number_here number_here ≡ true = grind (arith, nat_tests) in
      ap (λ b. dues_in (block_at (if b then program_blocks (program_in g) else blocks_of (items_of (program_in g) number_here)) 0)) t
      ∙ dues_units g.core.units
      ∙ ap (λ (p : List Pending). drop (length p) (finalizations g.core)) (sym loaded.pending)

  -- ---- where the code goes on

  first_block : (block : Block) → slice_get main.blocks 0 ≡ Some block → Starts g input
  first_block block is =
      let stands = fits.expanded.blocks 0 block is in
      let returns : (floors_first 0).frame.returning ≡ TheEnd = fits.frame.returning ∙ main_returning g g.core number_here refl in
      let rest = code_of g.core g.mir (floors_first 0).frame (literals_of g.core g.mir) block.code in
      let front : beginning g.core (floors_first 0).frame number_here ≡ begun_with_stack g.core = rw returns refl in
      let now : block_of g.low g.low.entry.0 0 ≡ begun_with_stack g.core ++ rest = ap (λ r. block_of g.low r 0) loaded.entry ∙ stands.code ∙ ap (λ c. c ++ rest) front in
      let above : block_at (blocks_in (program_in g) number_here) 0 ≡ map (view_instruction g.core number_here) block.code =
      ap (λ bs. block_at bs 0) (sym loaded.blocks) ∙ ap (λ x. block_at (view_routine g.core number_here x) 0) found
      ∙ ap block_or (slice_get-map (view_block g.core number_here) main.blocks 0 ∙ ap (option_map (view_block g.core number_here)) is) in
      let position : Position g (floors_first 0) (block_at (blocks_in (program_in g) number_here) 0) rest = record { is = block.code; above = above; below = refl; literals = stands.literals; fine = fits.fine 0 block is; homes = fits.homes 0 block is } in
      let room = loaded.room in
      let space_is : space g.low g.placement g.low.entry.0 ≡ space g.low g.placement low_number = ap (space g.low g.placement) loaded.entry in
      let behind = fits.frame.behind in
      record {
        to = begun told rest;
        goes = goes_from g 0 (low_begins g input) (begun (slice_index []) (begun_with_stack g.core ++ rest)) (begun told rest) (begins_is (begun_with_stack g.core ++ rest) now)
            (goes_fewer g 2 0 (begun (slice_index []) (begun_with_stack g.core ++ rest)) (begun told rest) (omega arith) (goes_then g 1 1 2 (begun (slice_index []) (begun_with_stack g.core ++ rest)) (begun with_address (Load Lw left left (pos 0) ∷ rest)) (begun told rest) (omega arith) (addressed (Load Lw left left (pos 0) ∷ rest)) (loads rest)));
        stands = (
          still_due,
          stands_on g (mir_start (program_in g) input) (begun told rest) refl refl (record {
            floors = floors_first;
            stays = record {
              running = refl;
              plain = record { raised = refl; made = refl; waiting = λ t. refl };
              pending = subst (ArePending (finalizations g.core)) (sym loaded.pending) (record { few = omega arith; are = refl });
              depth = refl;
              activation = record {
                floor = floor_first;
                number = refl;
                same = loaded.entry;
                kept = record {
                  variables = λ v r variable home. absurd (no_variable v false variable);
                  references = λ v variable. absurd (no_variable v true variable);
                  words = λ v variable. absurd (no_variable v true variable);
                  temporaries = λ t low. record { number = by t; bound = subst (λ x. x < 2 ^ 32) (sym (zeroth t)) (omega arith) };
                };
                left = omega arith;
                base = ap (λ n. g.bottom + n) locals_are;
                enough = omega arith;
                top = omega arith;
              };
              callers = (refl, ap (λ n. g.bottom + n) locals_are);
              lie = lies_first;
              fixed = λ x low fixed. low_kept x low;
              heap = heap_below g fit g.loaded memory_first low_kept loaded.heap;
              due = subst (λ pending. IsCounted g (length pending) memory_first) (sym loaded.pending) (count_below g fit 0 g.loaded memory_first low_kept (λ some. let none : g.stack ≡ g.stack + 0 = omega arith in loaded.stack_told ∙ none));
              bytes = λ x low. byte x (cases_lt x g.bottom) low;
              output = refl;
              errors = refl;
              input = refl;
            };
            position = position;
          }),
        );
      }
    where
      zeroth : (t : ℕ) → told ((floors_first 0).frame.bank.temporaries + t) ≡ 0
      zeroth t =
          let behind = fits.frame.behind in
          let other : nat_eq ((floors_first 0).frame.bank.temporaries + t) 0 ≡ false = grind (arith, nat_tests) in
          ap (λ b. if b then g.stack else (if b then stack_address g else slice_index [] ((floors_first 0).frame.bank.temporaries + t))) other

      by : (t : ℕ) → signed (told ((floors_first 0).frame.bank.temporaries + t)) ≡ pos 0
      by t = ap signed (zeroth t)

      byte : (x : ℕ) → (x < g.bottom) ⊎ (g.bottom ≤ x) → x < g.bottom + locals_here → memory_first x < 2 ^ 8
      byte x (inl low) less = subst (λ b. b < 2 ^ 8) (sym (low_kept x low)) (loaded.bytes x low)
      byte x (inr high) less = subst (λ b. b < 2 ^ 8) (sym (zero_here x high less)) (omega arith)

  pub starts : Starts g input
  starts = let (block, is) = there_is main.blocks 0 fits.some in first_block block is
