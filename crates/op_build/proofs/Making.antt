-- What is true of the image of low code with the constants that a program has is true of the program's.
use Rattle.std.proofs.Common.{◌≡◌, ℕ, ◌<◌, ◌≤◌, List, false, ap, subst, ◌∙◌}
use Rattle.op_build.specs.Built.{IsBuilt, IsLowCode, IsOversized, IsUnbuildable}
use Rattle.op_core.specs.declared.program.Core.{Core}
use Rattle.op_image.specs.Building.{is_buildable}
use Rattle.op_image.specs.Means.{Means}
use Rattle.op_layout.specs.declared.layout.Layout.{Layout}
use Rattle.op_link.specs.Linking.{image_of, linked_size}
use Rattle.op_link.specs.Memory.{most_linked}
use Rattle.op_link.specs.declared.memory_map.Settings.{Settings}
use Rattle.op_low.specs.declared.code.Low.{Low}
use Rattle.op_mir.specs.declared.code.Mir.{Mir}
use Rattle.op_select.specs.Selection.{select_of}

module _ (core : Core) (mir : Mir) (settings : Settings) (better : Low) (layout : Layout) (is : IsLowCode core mir settings better layout) where
  pub made : (image : List ℕ) → image ≡ image_of (select_of better) layout settings → linked_size (select_of better) layout settings ≤ most_linked → Means better layout settings image → IsBuilt core mir settings image
  made image exact within means = record {
    better = better;
    optimizes = is.code;
    exact = exact ∙ ap (λ l. image_of (select_of better) l settings) is.constants;
    within = subst (λ l. linked_size (select_of better) l settings ≤ most_linked) is.constants within;
    means = subst (λ l. Means better l settings image) is.constants means;
  }

  pub too_large : most_linked < linked_size (select_of better) layout settings → IsOversized core mir settings
  too_large large = record { better = better; optimizes = is.code; large = subst (λ l. most_linked < linked_size (select_of better) l settings) is.constants large }

  pub not_buildable : is_buildable better layout ≡ false → IsUnbuildable core mir settings
  not_buildable fails = record { better = better; optimizes = is.code; fails = subst (λ l. is_buildable better l ≡ false) is.constants fails }
