-- The image of low code does what the low code does.
use Rattle.std.proofs.Common.{◌≡◌, ℕ, zero, suc, ◌+◌, ◌-◌, ◌*◌, ◌^◌, ◌<◌, ◌≤◌, true, nat_eq, Option, Some, None, List, [], ◌∷◌, ◌++◌, length, slice_get, refl, ap, sym, subst, ◌∙◌, inl, inr, arith}
use Rattle.std.proofs.lemmas.Bool.{cases_lt, cond-false, cond-true}
use Rattle.std.proofs.lemmas.Bool.Decides.{nat_tests}
use Rattle.std.specs.List.{list_all}
use Rattle.std.specs.Option.{option_map}
use Rattle.op_layout.specs.declared.layout.Layout.{Layout}
use Rattle.op_link.proofs.Decoded.{program_has_words}
use Rattle.op_link.proofs.Growth.{routine_grows}
use Rattle.op_link.proofs.Lengths.{some_same}
use Rattle.op_link.proofs.Mapped.{in_range}
use Rattle.op_link.specs.Code.{high_of, low_of, symbol_address}
use Rattle.op_link.specs.Image.{start as start_image}
use Rattle.op_link.specs.Linking.{addresses_of, linked_size, settled, start_code}
use Rattle.op_link.specs.Loaded.{HasCode, IsLoaded, addresses_by, linked_sizes}
use Rattle.op_link.specs.Memory.{are_in_range, heap_size, segments_of, stack_address}
use Rattle.op_link.specs.Placing.{behind_routine, first_spot, placement_by, routine_place, routine_places}
use Rattle.op_link.specs.Reach.{head_in}
use Rattle.op_link.specs.declared.memory_map.Settings.{Settings}
use Rattle.op_link.specs.declared.place.RoutinePlace.{RoutinePlace}
use Rattle.op_link.specs.declared.place.Spot.{Spot}
use Rattle.op_low.specs.Machine.{IsPlacement, NeverBad}
use Rattle.op_low.specs.State.{Ended, State as LowState}
use Rattle.op_low.specs.declared.code.Low.{Low}
use Rattle.op_rv.specs.Encoding.{fits}
use Rattle.op_rv.specs.State.{State}
use Rattle.op_rv.specs.declared.instruction.ImmOp.TheVariants.{Addi}
use Rattle.op_rv.specs.declared.instruction.Instr.{Instr}
use Rattle.op_rv.specs.declared.instruction.Instr.TheVariants.{Imm, Jalr, Lui}
use Rattle.op_rv.specs.declared.objects.ObjectRoutine.{ObjectRoutine}
use Rattle.op_rv.specs.declared.objects.Objects.{Objects}
use Rattle.op_rv.specs.declared.symbol.Symbol.{Symbol}
use Rattle.op_select.proofs.Beginning.{begins}
use Rattle.op_select.proofs.ClearLemmas.{stored}
use Rattle.op_select.proofs.Following.{selected_follows}
use Rattle.op_select.proofs.Walks.{Walk, placed, sound_placed, walk_join}
use Rattle.op_select.specs.Going.{IsSafe, IsSetting, Setting, Sound, placement_of}
use Rattle.op_select.specs.RiscvMachine.{riscv_machine}
use Rattle.op_select.specs.Selected.{Finished, Matches, MatchesBy, selected}
use Rattle.op_select.specs.Selection.{select_of}
use Rattle.op_select.specs.Starting.{Starts}
use Rattle.op_simulation.proofs.Composition.{joins_equal}
use Rattle.op_simulation.proofs.Paths.{path_join}
use Rattle.op_simulation.proofs.Points.{agreement, always_below}
use Rattle.op_simulation.proofs.Runs.{run_add}
use Rattle.op_simulation.specs.System.{run, spent}
use Rattle.op_image.proofs.Counting.{HasItems}
use Rattle.op_image.proofs.Expanding.{Reachable}
use Rattle.op_image.proofs.GlobalsPlaced.{globals_stand}
use Rattle.op_image.proofs.Guarding.{heap_left}
use Rattle.op_image.proofs.Linkable.{all_fields, same_length}
use Rattle.op_image.proofs.Mapped.{code_decodes, stack_lies}
use Rattle.op_image.proofs.Placed.{Known, few_zeros, heap_stands, is_setting, knows, literal_stands, size_within, targets, with_items}
use Rattle.op_image.proofs.Places.{places_lie}
use Rattle.op_image.proofs.Standing.{instruction_here}
use Rattle.op_image.proofs.Started.{BeginsWith, HeapDone, SixDone, SixStand, bytes_small, heap_done, program_begins, six_done}
use Rattle.op_image.specs.Beginning.{begun, begun_by}
use Rattle.op_image.specs.Building.{is_buildable}
use Rattle.op_image.specs.Meaning.{linked_code, or_zero, routine_from, setting_of}
use Rattle.op_image.specs.Means.{AreBytes, GoesAlong, HasRoom, LeavesHeap, Means, Runs, guarded, image_run, low_run, low_start}

-- ---- routines are found where they begin

abbrev HaveItems : List ObjectRoutine → Type 0
HaveItems routines = (k : ℕ) (routine : ObjectRoutine) → slice_get routines k ≡ Some routine → HasItems routine

head_is_first : (known : List RoutinePlace) (r : ℕ) (spot : Spot) (routine : ObjectRoutine) → (routine_place known r spot routine).head ≡ spot.address
unfolding routine_place
head_is_first known r spot routine = refl

first_found : (n : ℕ) (place : RoutinePlace) (places : List RoutinePlace) (at : ℕ) → place.head ≡ at → routine_from n (place ∷ places) at ≡ Some n
first_found n place places at is = cond-true (nat_eq place.head at) (Some n) (routine_from (suc n) places at) (grind (arith, nat_tests))

later_found : (n : ℕ) (place : RoutinePlace) (places : List RoutinePlace) (at : ℕ) → place.head < at → routine_from n (place ∷ places) at ≡ routine_from (suc n) places at
later_found n place places at under = cond-false (nat_eq place.head at) (Some n) (routine_from (suc n) places at) (grind (arith, nat_tests))

found_at : (known : List RoutinePlace) (r : ℕ) (spot : Spot) (routines : List ObjectRoutine) (k n : ℕ) (place : RoutinePlace) → HaveItems routines → r + k ≡ n → slice_get (routine_places known r spot routines) k ≡ Some place → routine_from r (routine_places known r spot routines) place.head ≡ Some n
found_at known r spot [] k n place items count is = absurd cc
found_at known r spot (routine ∷ routines) zero n place items count is =
    let same : r ≡ n = omega arith in
    first_found r (routine_place known r spot routine) (routine_places known (suc r) (behind_routine known r spot routine) routines) place.head (ap (λ (place : RoutinePlace). place.head) (some_same (routine_place known r spot routine) place is)) ∙ ap Some same
found_at known r spot (routine ∷ routines) (suc k) n place items count is =
    let next = behind_routine known r spot routine in
    let lies = (places_lie known (suc r) next routines k place is).head in
    let lower = lies.lower.under in
    let grows = (routine_grows known r spot routine).least in
    let some = (items 0 routine refl).items in
    let first = head_is_first known r spot routine in
    later_found r (routine_place known r spot routine) (routine_places known (suc r) next routines) place.head (omega arith)
    ∙ found_at known (suc r) next routines k n place (λ k routine is. items (suc k) routine is) (omega arith) is

record There {X : Type 0} (xs : List X) (k : ℕ) : Type 0 where
  element : X
  is : slice_get xs k ≡ Some element

there : {X : Type 0} (xs : List X) (k : ℕ) → k < length xs → There xs k
there [] k under = absurd (omega arith)
there (x ∷ xs) zero under = record { element = x; is = refl }
there (x ∷ xs) (suc k) under = (let more = there xs k (omega arith) in record { element = more.element; is = more.is })

record PlaceOf (found : Option RoutinePlace) : Type 0 where
  place : RoutinePlace
  is : found ≡ Some place

place_of : (found : Option RoutinePlace) (at : ℕ) → option_map (λ (place : RoutinePlace). place.head) found ≡ Some at → PlaceOf found
place_of None at is = absurd cc
place_of (Some place) at is = record { place = place; is = refl }

address_by : (found : Option ℕ) → ((at : ℕ) → found ≡ Some at → at < 2 ^ 32) → or_zero found < 2 ^ 32
address_by None fits = omega arith
address_by (Some at) fits = fits at refl

-- ---- steps

one_step_one : (n : ℕ) (s : State) → spent riscv_machine n s ≡ n
unfolding spent
one_step_one zero s = refl
one_step_one (suc n) s =
    let rest = one_step_one n (riscv_machine.step s) in
    omega arith

finished_at : (w : Setting) (status : ℕ) (m : LowState) (b : State) → m.ending ≡ Ended status → Matches w m b → Finished status m b
finished_at w status m b ended matches = subst (λ e. MatchesBy w e m b) ended matches.states

-- ---- from the beginning of the image on

module _ (w : Setting) (law : IsSetting w) (memory : ℕ → ℕ) (image input : List ℕ) (good : NeverBad w.low (placement_of w) (low_start w memory input)) (c : State) (walk : Walk (start_image image input) c 18 18 []) (starts : Starts w memory input c) where
  goes_along : GoesAlong w memory image input
  goes_along =
      let entered = begins w law memory input c starts in
      let most = walk.to in
      let within = entered.within in
      record {
        first = entered.after;
        steps = walk.steps + entered.steps;
        begun = (let least = walk.from in omega arith);
        within = omega arith;
        path = path_join riscv_machine (λ s. IsSafe s.ending) (start_image image input) c entered.after walk.steps entered.steps [] [] walk.steps entered.steps walk.path entered.path;
        agreement = agreement (selected w) (selected_follows w law) joins_equal (low_start w memory input) entered.after (entered.matches good);
      }

later : (w : Setting) (memory : ℕ → ℕ) (image input : List ℕ) (along : GoesAlong w memory image input) (k : ℕ) → run riscv_machine k along.first ≡ image_run image input (along.steps + k)
later w memory image input along k = ap (run riscv_machine k) (sym along.path.ends) ∙ sym (run_add riscv_machine along.steps k (start_image image input))

pub runs_along : (w : Setting) (memory : ℕ → ℕ) (image input : List ℕ) → GoesAlong w memory image input → Runs w memory image input
runs_along w memory image input along =
    let m = low_start w memory input in
    let agrees = along.agreement in
    let always = always_below (selected w) (λ s. IsSafe s.ending) (λ a b moment. moment) m along.first agrees in
    record {
      safe = λ n.
          elim (cases_lt n along.steps) [
            | inl early ↦ along.path.moments n early
            | inr late ↦
                let whole : along.steps + (n - along.steps) ≡ n = omega arith in
                subst (λ (s : State). IsSafe s.ending) (later w memory image input along (n - along.steps) ∙ ap (image_run image input) whole) (always (n - along.steps))
          ];
      ends = λ n status ended.
          let here = agrees.point n in
          let first = along.within in
          let cost = agrees.within n in
          let steps = one_step_one here along.first in
          record {
            steps = along.steps + here;
            within = omega arith;
            finished = subst (Finished status (low_run w memory input n)) (later w memory image input along here) (finished_at w status (low_run w memory input n) (run riscv_machine here along.first) ended (agrees.states n));
          };
      along = along;
    }

-- ---- a linked image

module _ (low : Low) (layout : Layout) (settings : Settings) (image : List ℕ) (buildable : is_buildable low layout ≡ true) (ranged : are_in_range settings ≡ true) (within : linked_size (select_of low) layout settings ≤ 67108864) (loaded : IsLoaded image (segments_of (linked_sizes (select_of low) layout settings) settings)) (has : HasCode image (select_of low) layout settings) where
  knowing : Known image (settled layout (select_of low) settings) layout (select_of low) settings (linked_code (select_of low) layout settings)
  knowing = knows low layout settings image buildable ranged within loaded has

  begun_with : BeginsWith (addresses_by (settled layout (select_of low) settings) layout (select_of low)) settings (select_of low).entry.0 (linked_code (select_of low) layout settings)
  begun_with = program_begins layout (addresses_by (settled layout (select_of low) settings) layout (select_of low)) settings (select_of low) (linked_code (select_of low) layout settings) knowing.is

  stands_at : (n at : ℕ) (i : Instr) → slice_get (start_code settings begun_with.to ++ begun_with.rest) n ≡ Some i → 65536 + 4 * n ≡ at → (setting_of low layout settings image).placing.code at ≡ Some i
  stands_at n at i is place =
      instruction_here (linked_code (select_of low) layout settings) n at i (ap (λ code. slice_get code n) begun_with.lists ∙ is) place

  six_stand : SixStand (setting_of low layout settings image) 65584 (stack_address settings) 0x70000000 begun_with.to
  six_stand =
      record {
        first = stands_at 12 65584 (Lui 8 (high_of (stack_address settings))) refl refl;
        second = stands_at 13 65588 (Imm Addi 8 8 (low_of (stack_address settings))) refl refl;
        third = stands_at 14 65592 (Lui 2 (high_of 0x70000000)) refl refl;
        fourth = stands_at 15 65596 (Imm Addi 2 2 (low_of 0x70000000)) refl refl;
        fifth = stands_at 16 65600 (Lui 1 (high_of begun_with.to)) refl refl;
        sixth = stands_at 17 65604 (Jalr 0 1 (low_of begun_with.to)) refl refl;
      }

  law_here : IsSetting (setting_of low layout settings image)
  law_here = is_setting low layout settings image buildable ranged within loaded has

  all_fit : list_all fits (linked_code (select_of low) layout settings) ≡ true
  all_fit = program_has_words layout (addresses_by (settled layout (select_of low) settings) layout (select_of low)) settings (select_of low) (linked_code (select_of low) layout settings) (all_fields low layout buildable) knowing.is

  reachable_entry : Reachable begun_with.to
  reachable_entry = (targets low layout settings image buildable ranged within loaded has).heads (select_of low).entry.0 begun_with.to begun_with.head

  module _ (bytes : AreBytes image) (input : List ℕ) where
    sound_start : Sound (setting_of low layout settings image) (start_image image input)
    unfolding start_image
    sound_start =
        record {
          running = refl;
          rights = refl;
          size = refl;
          bytes = λ x. bytes_small image x bytes;
          code = code_decodes image (linked_sizes (select_of low) layout settings) settings (linked_code (select_of low) layout settings) loaded knowing.words ranged (size_within low layout settings image buildable ranged within loaded has) (few_zeros low layout settings image buildable ranged within loaded has) all_fit knowing.decodes;
        }

    starts_at_code : (start_image image input).pc ≡ 65536
    unfolding start_image
    starts_at_code = loaded.entry

    heap : HeapDone (setting_of low layout settings image) (start_image image input) (heap_size settings) (1024 * settings.stack) 65584
    heap =
        let stands = heap_stands low layout settings image buildable ranged within loaded has in
        let range = in_range settings ranged in
        let least = range.heap_least in
        let most = range.heap_most in
        let stack_most = range.stack_most in
        heap_done (setting_of low layout settings image) law_here settings begun_with.to begun_with.rest (start_image image input) sound_start starts_at_code (omega arith) (omega arith)
        (λ x from before. stands.control_writable x from (omega arith)) (λ x from before. stands.heap_writable x from (omega arith))
        (λ n i is. stands_at n (65536 + 4 * n) i is refl)

    -- the state in which the heap is one hole
    abbrev heap_made : State
    heap_made = stored (start_image image input) heap.registers 65584 (begun_by (start_image image input).memory (heap_size settings) (1024 * settings.stack))

    six : SixDone heap_made (stack_address settings) 0x70000000 begun_with.to
    six =
        let stack = stack_lies settings ranged in
        let sum = stack.sum in
        six_done (setting_of low layout settings image) law_here heap_made (stack_address settings) 0x70000000 begun_with.to heap.sound (omega arith) (omega arith) reachable_entry six_stand

    abbrev at_entry : State
    at_entry = placed heap_made six.registers begun_with.to

    started : HasRoom (setting_of low layout settings image) → AreBytes input → Starts (setting_of low layout settings image) (begun settings image) input at_entry
    unfolding start_image select_of
    started room input_bytes =
        let stack = stack_lies settings ranged in
        record {
          sound = sound_placed (setting_of low layout settings image) law_here heap_made six.registers begun_with.to heap.sound six.size;
          pc = sym (ap or_zero begun_with.head);
          limit = six.limit;
          sp = six.sp;
          word = six.word;
          memory_below = λ x under. refl;
          input_is = refl;
          input_bytes = input_bytes;
          output = refl;
          errors = refl;
          bottom_aligned = stack.whole;
          top_aligned = refl;
          room = room;
        }

    pub runs_here : HasRoom (setting_of low layout settings image) → AreBytes input → NeverBad low (placement_of (setting_of low layout settings image)) (low_start (setting_of low layout settings image) (begun settings image) input) → Runs (setting_of low layout settings image) (begun settings image) image input
    runs_here room input_bytes good =
        runs_along (setting_of low layout settings image) (begun settings image) image input
        (goes_along (setting_of low layout settings image) law_here (begun settings image) image input good at_entry (walk_join (start_image image input) heap_made at_entry 12 12 6 6 [] [] heap.walk six.walk) (started room input_bytes))

    pub leaves_here : HasRoom (setting_of low layout settings image) → AreBytes input → NeverBad low (placement_of (guarded (setting_of low layout settings image) settings)) (low_start (guarded (setting_of low layout settings image) settings) (begun settings image) input) → LeavesHeap settings (begun settings image) image input
    unfolding start_image
    leaves_here room input_bytes good n x past is =
        let walk = walk_join (start_image image input) heap_made at_entry 12 12 6 6 [] [] heap.walk six.walk in
        let from = walk.from in
        let to = walk.to in
        let whole : walk.steps + (n - walk.steps) ≡ n = omega arith in
        let below = (heap_stands low layout settings image buildable ranged within loaded has).below in
        let there : image_run image input n ≡ run riscv_machine (n - walk.steps) at_entry =
        ap (image_run image input) (sym whole) ∙ run_add riscv_machine walk.steps (n - walk.steps) (start_image image input) ∙ ap (run riscv_machine (n - walk.steps)) walk.path.ends in
        ap (λ (s : State). s.memory x) there
        ∙ heap_left (setting_of low layout settings image) law_here settings below (begun settings image) input at_entry (started room input_bytes) good (n - walk.steps) x is

  symbol_word : (symbol : Symbol) → or_zero (symbol_address layout (addresses_by (settled layout (select_of low) settings) layout (select_of low)) symbol) < 2 ^ 32
  symbol_word symbol = address_by (symbol_address layout (addresses_by (settled layout (select_of low) settings) layout (select_of low)) symbol) ((targets low layout settings image buildable ranged within loaded has).symbols symbol)

  places_are : (addresses_by (settled layout (select_of low) settings) layout (select_of low)).routines ≡ routine_places (settled layout (select_of low) settings) 0 first_spot (select_of low).routines
  unfolding addresses_by addresses_of placement_by
  places_are = refl

  routine_found : (r : ℕ) → r < length (select_of low).routines → routine_from 0 (routine_places (settled layout (select_of low) settings) 0 first_spot (select_of low).routines) (or_zero (head_in (routine_places (settled layout (select_of low) settings) 0 first_spot (select_of low).routines) r)) ≡ Some r
  unfolding head_in
  routine_found r under =
      let places = routine_places (settled layout (select_of low) settings) 0 first_spot (select_of low).routines in
      let routine = there (select_of low).routines r under in
      let address = ap (λ (places : List RoutinePlace). head_in places r) (sym places_are) ∙ (knowing.items r routine.element routine.is).address in
      let found = place_of (slice_get places r) (knowing.items r routine.element routine.is).spot.address address in
      let count : 0 + r ≡ r = omega arith in
      ap (λ found. routine_from 0 places (or_zero (option_map (λ (place : RoutinePlace). place.head) found))) found.is
      ∙ found_at (settled layout (select_of low) settings) 0 first_spot (select_of low).routines r r found.place (with_items low layout settings image buildable ranged within loaded has) count found.is

  is_placement : IsPlacement low (placement_of (setting_of low layout settings image))
  unfolding symbol_address
  is_placement =
      record {
        words = symbol_word;
        finds = λ id under. subst (λ (places : List RoutinePlace). routine_from 0 places (or_zero (head_in places id.0)) ≡ Some id.0) (sym places_are) (routine_found id.0 (let long = same_length low layout buildable in omega arith));
      }

  pub means : AreBytes image → Means low layout settings image
  means bytes =
      record {
        bytes = bytes;
        loads = loaded.meets;
        literals = literal_stands low layout settings image buildable ranged within loaded has;
        globals = globals_stand low layout settings image buildable ranged within loaded has;
        heap = heap_stands low layout settings image buildable ranged within loaded has;
        setting = law_here;
        placement = is_placement;
        runs = λ room input input_bytes good. runs_here bytes input room input_bytes good;
        leaves = λ room input input_bytes good. leaves_here bytes input room input_bytes good;
      }

-- the same of objects that are its selection
pub means_of : (low : Low) (layout : Layout) (settings : Settings) (objects : Objects) (image : List ℕ) → objects ≡ select_of low → is_buildable low layout ≡ true → are_in_range settings ≡ true → linked_size objects layout settings ≤ 67108864 → IsLoaded image (segments_of (linked_sizes objects layout settings) settings) → HasCode image objects layout settings → AreBytes image → Means low layout settings image
means_of low layout settings objects image is buildable ranged within loaded has bytes =
    means low layout settings image buildable ranged
    (subst (λ (objects : Objects). linked_size objects layout settings ≤ 67108864) is within)
    (subst (λ (objects : Objects). IsLoaded image (segments_of (linked_sizes objects layout settings) settings)) is loaded)
    (subst (λ (objects : Objects). HasCode image objects layout settings) is has)
    bytes
