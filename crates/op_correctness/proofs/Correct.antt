-- The image of a program that passes the test does what the program means.
use Rattle.std.proofs.Common.{◌≡◌, ◌≤◌, ℕ, ◌+◌, ◌*◌, ◌-◌, true, List, length, None, refl, sym, ap, ◌∙◌, subst, arith}
use Rattle.std.proofs.lemmas.Bool.Decides.{nat_tests}
use Rattle.op_build.specs.Built.{IsBuilt, program_low}
use Rattle.op_core.specs.Sound.{IsSound, IsSoundNesting}
use Rattle.op_core.specs.declared.program.Core.{Core}
use Rattle.op_expand.specs.Calls.{runtime}
use Rattle.op_expand.specs.Programs.{low_of}
use Rattle.op_expand.specs.Routines.{most_charge}
use Rattle.op_constants.specs.Literals.{literals_of}
use Rattle.op_image.specs.Beginning.{begun}
use Rattle.op_image.specs.Building.{is_buildable}
use Rattle.op_layout.specs.Places.{layout_of}
use Rattle.op_image.specs.Means.{AreBytes, HasRoom, HeapStands, LeavesHeap, Runs, guarded, low_start}
use Rattle.op_link.specs.Image.{first_failing}
use Rattle.op_link.specs.Memory.{are_in_range, heap_size}
use Rattle.op_link.specs.declared.memory_map.Settings.{Settings}
use Rattle.op_low.specs.Machine.{NeverBad}
use Rattle.op_low.specs.State.{space}
use Rattle.op_low.specs.Valid.{is_valid}
use Rattle.op_low.specs.declared.code.Low.{Low}
use Rattle.op_lower.specs.Lowers.{Lowers}
use Rattle.op_managed.specs.Managed.{Manages}
use Rattle.op_meaning.specs.Frames.{program_of}
use Rattle.op_mir.specs.declared.code.Mir.{Mir}
use Rattle.op_typing.proofs.CodeTyped.{code_is_typed}
use Rattle.op_optimize.proofs.Optimized.{shortens, thins}
use Rattle.op_optimize.specs.Optimizing.{Optimizes}
use Rattle.op_plain.proofs.PlainLemmas.{plain_by_test}
use Rattle.op_plain.specs.Claims.{IsPlainCore}
use Rattle.op_plain.specs.Plain.{is_plain_program}
use Rattle.op_select.specs.Going.{IsSetting, Setting as Placed, placement_of}
use Rattle.op_agreement.proofs.Driver.{low_code_follows}
use Rattle.op_agreement.proofs.Expanding.{entry}
use Rattle.op_agreement.specs.Fitting.{IsFitting, IsPlacedProgram}
use Rattle.op_agreement.specs.Starting.{IsLoaded, low_begins}
use Rattle.op_correctness.proofs.Composing.{along}
use Rattle.op_correctness.proofs.Fits.{program_fits}
use Rattle.op_correctness.proofs.Good.{low_is_good}
use Rattle.op_correctness.proofs.Guarded.{LiesInFront, still_loaded, still_placed}
use Rattle.op_correctness.proofs.Better.{stays_buildable}
use Rattle.op_correctness.proofs.Fitting.{low_is_buildable, low_is_valid}
use Rattle.op_correctness.proofs.Loaded.{bottom_is, lies_in_front, loaded, placed}
use Rattle.op_correctness.proofs.Shortened.{better_is_good}
use Rattle.op_correctness.proofs.PlainItems.{program_plain}
use Rattle.op_correctness.proofs.Space.{is_spacious, program_space}
use Rattle.op_correctness.proofs.Thinner.{same_space}
use Rattle.op_correctness.specs.Agrees.{Agrees}
use Rattle.op_correctness.specs.Charges.{HaveCharges}
use Rattle.op_correctness.specs.Placed.{placed_in, setting_by, setting_in}
use Rattle.op_correctness.specs.SimpleCore.{IsSimpleCore}

-- ---- what the test gives

pub simple_core : (core : Core) → IsPlainCore core → IsSimpleCore core
simple_core core class = record { simple = class.simple; counted = class.counted; exceptions = class.exceptions; outs = class.outs; few = class.few }

pub core_charges : (core : Core) → IsPlainCore core → HaveCharges core
core_charges core class r low = record { variables = class.charged r; parameters = class.parameters r }

-- a stack has at most 64 MiB
stack_few : (settings : Settings) → are_in_range settings ≡ true → settings.stack ≤ 65536
stack_few settings range = grind (arith, nat_tests, range)

-- ---- over any place of the program

module _ (core : Core) (mir : Mir) (stack : ℕ) (low : Low) (is_low : low ≡ low_of core mir stack) (w : Placed) (memory : ℕ → ℕ) (image : List ℕ) (class : IsPlainCore core) (sound : IsSound core) (nesting : IsSoundNesting core) (lowers : Lowers core mir) (manages : Manages core mir) (optimizes : Optimizes low w.low) where
  fits : stack ≤ most_charge → IsPlacedProgram (setting_by core mir stack low w memory) → IsFitting (setting_by core mir stack low w memory)
  fits few is_placed =
      program_fits (setting_by core mir stack low w memory) sound nesting (simple_core core class) lowers is_low
      (is_spacious core mir stack sound nesting (simple_core core class) (core_charges core class) lowers low is_low w optimizes memory) (core_charges core class) few is_placed

  low_valid : is_valid low ≡ true
  low_valid = subst (λ l. is_valid l ≡ true) (sym is_low) (low_is_valid core mir sound nesting (simple_core core class) (core_charges core class) lowers stack)

  -- over this place the better code is never bad
  better_good : (few : stack ≤ most_charge) → IsPlacedProgram (setting_by core mir stack low w memory) → IsLoaded (setting_by core mir stack low w memory) → (input : List ℕ) → NeverBad w.low (placement_of w) (low_start w memory input)
  better_good few is_placed is_loaded input =
      let g = setting_by core mir stack low w memory in
      let fit = fits few is_placed in
      let good = low_is_good g fit is_loaded (low_code_follows g fit) input in
      better_is_good g w.low (low_begins g input) (low_start w memory input) (shortens low w.low optimizes (placement_of w) low_valid w.bottom (w.top - w.bottom) memory input good) good

module _ (core : Core) (mir : Mir) (stack : ℕ) (low : Low) (is_low : low ≡ low_of core mir stack) (w : Placed) (memory : ℕ → ℕ) (image : List ℕ) (class : IsPlainCore core) (sound : IsSound core) (nesting : IsSoundNesting core) (lowers : Lowers core mir) (manages : Manages core mir) (optimizes : Optimizes low w.low) where
  agrees_by : (law : IsSetting w) (settings : Settings) → HeapStands w memory settings image → space w.low (placement_of w) w.low.entry.0 ≤ 1024 → first_failing image ≡ None
      → ((input : List ℕ) → AreBytes input → NeverBad w.low (placement_of w) (low_start w memory input) → Runs w memory image input)
      → ((input : List ℕ) → AreBytes input → NeverBad w.low (placement_of (guarded w settings)) (low_start (guarded w settings) memory input) → LeavesHeap settings memory image input)
      → stack ≤ most_charge → IsPlacedProgram (setting_by core mir stack low w memory) → IsLoaded (setting_by core mir stack low w memory) → LiesInFront (setting_by core mir stack low w memory)
      → Agrees (program_of core stack) (heap_size settings) image
  agrees_by law settings stands own loads does leaves few is_placed is_loaded front = record {
    loads = loads;
    along = λ input bytes.
        let fit = fits core mir stack low is_low w memory image class sound nesting lowers manages optimizes few is_placed in
        let still = still_placed core mir stack low w law memory settings stands.below front is_placed in
        let loaded_still = still_loaded core mir stack low w law memory settings stands.below front is_loaded in
        along core mir stack low w memory image does
        (λ bytes_in good. shortens low w.low optimizes (placement_of w) (low_valid core mir stack low is_low w memory image class sound nesting lowers manages optimizes) w.bottom (w.top - w.bottom) memory bytes_in good)
        fit is_loaded (low_code_follows (setting_by core mir stack low w memory) fit) manages
        (program_plain core stack sound nesting (simple_core core class) class.endings class.globals)
        (code_is_typed core stack sound nesting (simple_core core class).simple) (lowers.blocks stack) own settings stands input bytes
        (leaves input bytes (better_good core mir stack low is_low (guarded w settings) memory image class sound nesting lowers manages optimizes few still loaded_still input));
  }

-- ---- in its image

module _ (core : Core) (mir : Mir) (settings : Settings) (image : List ℕ) (plain : is_plain_program core ≡ true) (sound : IsSound core) (nesting : IsSoundNesting core) (range : are_in_range settings ≡ true) (lowers : Lowers core mir) (manages : Manages core mir) (built : IsBuilt core mir settings image) where
  class : IsPlainCore core
  class = plain_by_test core plain

  few : settings.stack ≤ 65536
  few = stack_few settings range

  abbrev better : Low
  better = built.better

  abbrev w : Placed
  w = placed_in core mir settings better image

  -- the program's own code takes less than what the stack has beside the charges
  own_space : space (program_low core mir settings) (placement_of w) (runtime + length core.routines) ≤ 1024
  own_space = program_space core mir (1024 * settings.stack) sound nesting (simple_core core class) (core_charges core class) lowers (program_low core mir settings) refl w built.optimizes

  entry_space : space better (placement_of w) better.entry.0 ≤ 1024
  entry_space =
      let number : better.entry.0 ≡ runtime + length core.routines = ap (λ e. e.0) built.optimizes.entry ∙ entry (setting_in core mir settings better image) refl lowers.number in
      let same : space better (placement_of w) better.entry.0 ≡ space (program_low core mir settings) (placement_of w) (runtime + length core.routines) =
      ap (space better (placement_of w)) number ∙ same_space (program_low core mir settings) better (thins (program_low core mir settings) better built.optimizes) (placement_of w) (runtime + length core.routines) in
      let own = own_space in
      omega arith

  has_room : HasRoom (placed_in core mir settings better image)
  has_room =
      let bottom = bottom_is settings in
      let less = few in
      let own = entry_space in
      omega arith

  pub correct : Agrees (program_of core (1024 * settings.stack)) (heap_size settings) image
  correct =
      let bottom = bottom_is settings in
      let less = few in
      let own = own_space in
      agrees_by core mir (1024 * settings.stack) (program_low core mir settings) refl w (begun settings image) image class sound nesting lowers manages built.optimizes
      built.means.setting settings built.means.heap entry_space built.means.loads
      (λ input bytes good. built.means.runs has_room input bytes good) (λ input bytes good. built.means.leaves has_room input bytes good) (omega arith)
      (placed core mir settings better built.optimizes image built.means sound few)
      (loaded core mir settings better built.optimizes image built.means sound few lowers class.globals (omega arith))
      (lies_in_front core mir settings better built.optimizes image built.means sound few)

-- ---- low code may be built

pub buildable : (core : Core) (mir : Mir) (stack : ℕ) → is_plain_program core ≡ true → IsSound core → IsSoundNesting core → Lowers core mir → is_buildable (low_of core mir stack) (layout_of (literals_of core mir)) ≡ true
buildable core mir stack plain sound nesting lowers =
    let class = plain_by_test core plain in
    low_is_buildable core mir sound nesting (simple_core core class) (core_charges core class) lowers stack

-- so may what the optimizer makes of it
pub better_buildable : (core : Core) (mir : Mir) (stack : ℕ) (better : Low) → is_plain_program core ≡ true → IsSound core → IsSoundNesting core → Lowers core mir → Optimizes (low_of core mir stack) better → is_buildable better (layout_of (literals_of core mir)) ≡ true
better_buildable core mir stack better plain sound nesting lowers optimizes =
    stays_buildable (low_of core mir stack) better (layout_of (literals_of core mir)) optimizes (buildable core mir stack plain sound nesting lowers)
