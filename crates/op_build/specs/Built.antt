-- What the image of a program in managed code is, and when there is none.
use Rattle.std.specs.Prelude.{◌≡◌, ◌<◌, ◌≤◌, ℕ, ◌*◌, List, false, ⊤}
use Rattle.op_build.specs.declared.building.BuildError.{BuildError}
use Rattle.op_build.specs.declared.building.BuildError.TheVariants.{Limit, Unbuildable, NoMemory}
use Rattle.op_constants.specs.Literals.{literals_of}
use Rattle.op_core.specs.declared.program.Core.{Core}
use Rattle.op_expand.specs.Programs.{low_of}
use Rattle.op_image.specs.Building.{is_buildable}
use Rattle.op_image.specs.Means.{Means}
use Rattle.op_layout.specs.Places.{layout_of}
use Rattle.op_layout.specs.declared.layout.Layout.{Layout}
use Rattle.op_link.specs.Linking.{image_of, linked_size}
use Rattle.op_link.specs.Memory.{most_linked}
use Rattle.op_link.specs.declared.memory_map.Settings.{Settings}
use Rattle.op_low.specs.declared.code.Low.{Low}
use Rattle.op_mir.specs.declared.code.Mir.{Mir}
use Rattle.op_optimize.specs.Optimizing.{Optimizes}
use Rattle.op_select.specs.Selection.{select_of}

-- the low code of a program as it is expanded, with the bytes of stack that the settings say
abbrev pub program_low : Core → Mir → Settings → Low
program_low core mir settings = low_of core mir (1024 * settings.stack)

-- its constants
abbrev pub program_layout : Core → Mir → Layout
program_layout core mir = layout_of (literals_of core mir)

-- this is what the optimizer makes of the low code of the program, and these are its constants
pub record IsLowCode (core : Core) (mir : Mir) (settings : Settings) (better : Low) (layout : Layout) : Type 0 where
  pub code : Optimizes (program_low core mir settings) better
  pub constants : layout ≡ program_layout core mir

-- the image is that of what the optimizer makes of the program's low code, is not too large, and does what that does
pub record IsBuilt (core : Core) (mir : Mir) (settings : Settings) (image : List ℕ) : Type 0 where
  pub better : Low
  pub optimizes : Optimizes (program_low core mir settings) better
  pub exact : image ≡ image_of (select_of better) (program_layout core mir) settings
  pub within : linked_size (select_of better) (program_layout core mir) settings ≤ most_linked
  pub means : Means better (program_layout core mir) settings image

-- what the optimizer makes of the program's low code would have an image that is too large
pub record IsOversized (core : Core) (mir : Mir) (settings : Settings) : Type 0 where
  pub better : Low
  pub optimizes : Optimizes (program_low core mir settings) better
  pub large : most_linked < linked_size (select_of better) (program_layout core mir) settings

-- it may not be built
pub record IsUnbuildable (core : Core) (mir : Mir) (settings : Settings) : Type 0 where
  pub better : Low
  pub optimizes : Optimizes (program_low core mir settings) better
  pub fails : is_buildable better (program_layout core mir) ≡ false

-- why there is no image
abbrev pub IsNotBuilt : Core → Mir → Settings → BuildError → Type 0
IsNotBuilt core mir settings Limit = IsOversized core mir settings
IsNotBuilt core mir settings Unbuildable = IsUnbuildable core mir settings
IsNotBuilt core mir settings NoMemory = ⊤
