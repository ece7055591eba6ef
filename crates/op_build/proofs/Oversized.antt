-- Where the constants of a program alone are too large, so is its image: also that of its low code as it is.
use Rattle.std.proofs.Common.{◌≡◌, ℕ, ◌<◌, ◌≤◌, false, List, [], ◌∷◌, length, nat_le, refl, subst, arith}
use Rattle.std.proofs.lemmas.Bool.Decides.{nat_tests}
use Rattle.op_build.specs.Built.{IsOversized, program_layout, program_low}
use Rattle.op_constants.specs.Literals.{literals_of}
use Rattle.op_core.specs.declared.program.Core.{Core}
use Rattle.op_layout.specs.Places.{layout_of}
use Rattle.op_layout.specs.declared.layout.Layout.{Layout}
use Rattle.op_link.specs.Linking.{linked_size, linked_size_by, sizes_of}
use Rattle.op_link.specs.Memory.{most_linked}
use Rattle.op_link.specs.declared.memory_map.Settings.{Settings}
use Rattle.op_low.specs.declared.code.Low.{Low}
use Rattle.op_low.specs.declared.code.Routine.{Routine}
use Rattle.op_mir.specs.declared.code.Mir.{Mir}
use Rattle.op_optimize.specs.Each.{Each, NoneLeft, OneMore}
use Rattle.op_optimize.specs.Optimizing.{Optimizes, OptimizesRoutine, Untouched}
use Rattle.op_rv.specs.declared.objects.Objects.{Objects}
use Rattle.op_select.specs.Selection.{select_of}

-- code that stays as it is
stays : (routines : List Routine) → Each OptimizesRoutine routines routines
stays [] = NoneLeft
stays (routine ∷ routines) = OneMore (Untouched refl) (stays routines)

untouched : (low : Low) → Optimizes low low
untouched low = record { entry = refl; counts = refl; globals = refl; routines = stays low.routines }

-- the constants are a part of what is linked
bytes_linked : (objects : Objects) (layout : Layout) (settings : Settings) → length layout.bytes ≤ linked_size objects layout settings
unfolding linked_size linked_size_by sizes_of
bytes_linked objects layout settings = omega arith

past : (objects : Objects) (layout : Layout) (settings : Settings) → nat_le (length layout.bytes) most_linked ≡ false → most_linked < linked_size objects layout settings
past objects layout settings large = let part = bytes_linked objects layout settings in grind (arith, nat_tests, part, large)

pub by_constants : (core : Core) (mir : Mir) (settings : Settings) (texts : List (List ℕ)) → texts ≡ literals_of core mir → nat_le (length (layout_of texts).bytes) most_linked ≡ false → IsOversized core mir settings
by_constants core mir settings texts are large =
    let low = program_low core mir settings in
    record {
      better = low;
      optimizes = untouched low;
      large = past (select_of low) (program_layout core mir) settings (subst (λ ts. nat_le (length (layout_of ts).bytes) most_linked ≡ false) are large);
    }
