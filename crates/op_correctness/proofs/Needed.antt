-- In its image a routine takes no more of the stack than its managed code is said to need.
use Rattle.std.proofs.Common.{◌≡◌, ◌≤◌, ℕ, ◌+◌, ◌*◌, List, Some, slice_get, true, refl, arith}
use Rattle.op_build.specs.Built.{IsBuilt, program_low}
use Rattle.op_core.specs.Sound.{IsSound, IsSoundNesting}
use Rattle.op_core.specs.declared.program.Core.{Core}
use Rattle.op_expand.specs.Calls.{runtime}
use Rattle.op_expand.specs.Routines.{most_charge}
use Rattle.op_frames.proofs.FramesNeeded.{frame_needed}
use Rattle.op_frames.proofs.SoundSizes.{single_some}
use Rattle.op_link.specs.declared.memory_map.Settings.{Settings}
use Rattle.op_low.specs.State.{space}
use Rattle.op_lower.specs.Lowers.{Lowers}
use Rattle.op_mir.specs.FrameNeed.{frame_need}
use Rattle.op_mir.specs.declared.code.Mir.{Mir}
use Rattle.op_mir.specs.declared.code.Routine.{Routine}
use Rattle.op_optimize.proofs.Optimized.{thins}
use Rattle.op_plain.proofs.PlainLemmas.{plain_by_test}
use Rattle.op_plain.specs.Plain.{is_plain_program}
use Rattle.op_select.specs.Going.{Setting as Placed, placement_of}
use Rattle.op_correctness.proofs.Correct.{core_charges, simple_core}
use Rattle.op_correctness.proofs.Fitting.{each_fits}
use Rattle.op_correctness.proofs.ManagedValid.{each_valid}
use Rattle.op_correctness.proofs.Space.{at_row, space_of}
use Rattle.op_correctness.proofs.Thinner.{same_space}
use Rattle.op_correctness.specs.Placed.{placed_in}

pub kept : (core : Core) (mir : Mir) (settings : Settings) (image : List ℕ) → is_plain_program core ≡ true → IsSound core → IsSoundNesting core → Lowers core mir → (built : IsBuilt core mir settings image)
    → (r : ℕ) (x : Routine) → slice_get mir.routines r ≡ Some x → x.charge ≤ most_charge → space built.better (placement_of (placed_in core mir settings built.better image)) (runtime + r) ≤ frame_need core r x
kept core mir settings image plain sound nesting lowers built r x at charge =
    let class = plain_by_test core plain in
    let is = simple_core core class in
    let charges = core_charges core class in
    let w : Placed = placed_in core mir settings built.better image in
    let found = at_row mir r x at in
    let taken = space_of core mir (1024 * settings.stack) sound nesting is charges lowers (program_low core mir settings) refl w built.optimizes r x found (each_fits core mir sound nesting is charges lowers r x at) charge in
    let needed = frame_needed core mir r x (single_some core sound.extents) (each_valid core mir sound nesting is charges lowers r x found) in
    let same = same_space (program_low core mir settings) built.better (thins (program_low core mir settings) built.better built.optimizes) (placement_of w) (runtime + r) in
    omega (arith, taken, needed, same)
