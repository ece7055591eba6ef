-- What is proved of the image of a program.
use Rattle.std.specs.Prelude.{◌≡◌, ◌<◌, ◌≤◌, ℕ, ◌*◌, true, List, ◌+◌, Some, slice_get}
use Rattle.op_build.specs.Built.{IsBuilt, IsNotBuilt, program_layout, program_low}
use Rattle.op_build.specs.declared.building.BuildError.TheVariants.{Limit}
use Rattle.op_constants.specs.Literals.{literals_of}
use Rattle.op_core.specs.Sound.{IsSound, IsSoundNesting}
use Rattle.op_core.specs.declared.program.Core.{Core}
use Rattle.op_correctness.specs.Agrees.{Agrees, EndsAsMeant, GoesAlong, LooksAsMeant, NeverLooks}
use Rattle.op_correctness.specs.Placed.{placed_in}
use Rattle.op_expand.specs.Calls.{runtime}
use Rattle.op_expand.specs.Programs.{low_of}
use Rattle.op_expand.specs.Routines.{most_charge}
use Rattle.op_image.specs.Building.{is_buildable}
use Rattle.op_image.specs.Means.{image_run}
use Rattle.op_layout.specs.Places.{layout_of}
use Rattle.op_link.specs.Linking.{linked_size}
use Rattle.op_link.specs.Memory.{are_in_range, heap_size, most_linked}
use Rattle.op_link.specs.declared.memory_map.Settings.{Settings}
use Rattle.op_low.specs.State.{space}
use Rattle.op_low.specs.declared.code.Low.{Low}
use Rattle.op_lower.specs.Lowers.{Lowers}
use Rattle.op_managed.specs.Managed.{Manages}
use Rattle.op_meaning.specs.Frames.{Program, program_of}
use Rattle.op_mir.specs.FrameNeed.{frame_need}
use Rattle.op_mir.specs.Valid.{is_valid}
use Rattle.op_mir.specs.declared.code.Mir.{Mir}
use Rattle.op_mir.specs.declared.code.Routine.{Routine}
use Rattle.op_optimize.specs.Optimizing.{Optimizes}
use Rattle.op_plain.specs.Plain.{is_plain_program}
use Rattle.op_rv.specs.State.{Ended}
use Rattle.op_rv.specs.Step.{CallsRead}
use Rattle.op_select.specs.Going.{placement_of}
use Rattle.op_select.specs.Selection.{select_of}
use Rattle.op_sizes.specs.ProgramSize.{program_size}

-- the managed code of a sound program of the class is valid
abbrev pub ManagedCodeIsValid : Type 0
ManagedCodeIsValid = (core : Core) (mir : Mir) → is_plain_program core ≡ true → IsSound core → IsSoundNesting core → Lowers core mir → is_valid core mir ≡ true

-- the image that is built of the managed code of a sound program of the class agrees with the program
abbrev pub ImageAgrees : Type 0
ImageAgrees =
    (core : Core) (mir : Mir) (settings : Settings) (image : List ℕ) → is_plain_program core ≡ true → IsSound core → IsSoundNesting core → are_in_range settings ≡ true
    → Lowers core mir → Manages core mir → IsBuilt core mir settings image → Agrees (program_of core (1024 * settings.stack)) (heap_size settings) image

-- where an image ends that goes along with a program, the program ends with the same status, and has then written and left the same
abbrev pub EndsAreMeant : Type 0
EndsAreMeant =
    (p : Program) (heap : ℕ) (image input : List ℕ) → GoesAlong p heap image input → (m status : ℕ) → (image_run image input m).ending ≡ Ended status
    → EndsAsMeant p input status (image_run image input m).output (image_run image input m).errors (image_run image input m).input

-- where such an image calls for input, the program comes to a step that looks at its input
abbrev pub CallsAreMeant : Type 0
CallsAreMeant =
    (p : Program) (heap : ℕ) (image input : List ℕ) → GoesAlong p heap image input → (m : ℕ) → CallsRead (image_run image input m)
    → LooksAsMeant p input (image_run image input m).output (image_run image input m).errors

-- so the image of a program that never looks at its input never calls for any
abbrev pub NeverCalls : Type 0
NeverCalls = (p : Program) (heap : ℕ) (image input : List ℕ) → GoesAlong p heap image input → (m : ℕ) → CallsRead (image_run image input m) → NeverLooks p input → ⊥

-- the low code of such a program may be built: it names what is there, and its global variables have room
abbrev pub LowCodeIsBuildable : Type 0
LowCodeIsBuildable =
    (core : Core) (mir : Mir) (stack : ℕ) → is_plain_program core ≡ true → IsSound core → IsSoundNesting core → Lowers core mir
    → is_buildable (low_of core mir stack) (layout_of (literals_of core mir)) ≡ true

-- so may what the optimizer makes of it
abbrev pub BetterCodeIsBuildable : Type 0
BetterCodeIsBuildable =
    (core : Core) (mir : Mir) (stack : ℕ) (better : Low) → is_plain_program core ≡ true → IsSound core → IsSoundNesting core → Lowers core mir
    → Optimizes (low_of core mir stack) better → is_buildable better (layout_of (literals_of core mir)) ≡ true

-- the code, the constants and the initial globals of the image of such a program take together no more bytes than the program's size
abbrev pub ImageIsSmall : Type 0
ImageIsSmall =
    (core : Core) (mir : Mir) (settings : Settings) (better : Low) → is_plain_program core ≡ true → IsSound core → Lowers core mir → Optimizes (program_low core mir settings) better
    → linked_size (select_of better) (program_layout core mir) settings ≤ program_size core

-- so there is no image for its size only where the program's size is more than an image may take
abbrev pub LimitIsPassed : Type 0
LimitIsPassed =
    (core : Core) (mir : Mir) (settings : Settings) → is_plain_program core ≡ true → IsSound core → Lowers core mir
    → IsNotBuilt core mir settings Limit → most_linked < program_size core

-- Each routine that is charged no more than a stack may have takes no more of the stack in such an image than its managed code is said to need.
abbrev pub FramesAreKept : Type 0
FramesAreKept =
    (core : Core) (mir : Mir) (settings : Settings) (image : List ℕ) → is_plain_program core ≡ true → IsSound core → IsSoundNesting core → Lowers core mir → (built : IsBuilt core mir settings image)
    → (r : ℕ) (x : Routine) → slice_get mir.routines r ≡ Some x → x.charge ≤ most_charge → space built.better (placement_of (placed_in core mir settings built.better image)) (runtime + r) ≤ frame_need core r x
