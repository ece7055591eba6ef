-- What is linked of a program that passes the test takes no more bytes than the program's size.
use Rattle.std.proofs.Common.{◌≡◌, ◌<◌, ◌≤◌, true, ◌*◌, arith}
use Rattle.std.specs.List.{All}
use Rattle.op_build.specs.Built.{IsNotBuilt, program_layout, program_low}
use Rattle.op_build.specs.declared.building.BuildError.TheVariants.{Limit}
use Rattle.op_core.specs.Sound.{IsSound}
use Rattle.op_core.specs.declared.program.Core.{Core}
use Rattle.op_core.specs.declared.routine.Owner.TheVariants.{Unit as OfUnit}
use Rattle.op_link.specs.Linking.{linked_size}
use Rattle.op_link.specs.Memory.{most_linked}
use Rattle.op_link.specs.declared.memory_map.Settings.{Settings}
use Rattle.op_low.specs.declared.code.Low.{Low}
use Rattle.op_lower.specs.Lowers.{Lowers}
use Rattle.op_mir.specs.declared.code.Mir.{Mir}
use Rattle.op_optimize.specs.Optimizing.{Optimizes}
use Rattle.op_plain.proofs.PlainLemmas.{plain_by_test}
use Rattle.op_plain.specs.Claims.{IsPlainCore}
use Rattle.op_plain.specs.Plain.{is_plain_program}
use Rattle.op_select.specs.Selection.{select_of}
use Rattle.op_sizes.proofs.ProgramsSmall.{image_less}
use Rattle.op_sizes.specs.ProgramSize.{program_size}

module _ (core : Core) (mir : Mir) (settings : Settings) (plain : is_plain_program core ≡ true) (sound : IsSound core) (lowers : Lowers core mir) where
  class : IsPlainCore core
  class = plain_by_test core plain

  -- there are no methods
  owners : All (λ x. x.owner ≡ OfUnit) core.routines
  owners = λ k d low. (class.simple.routines k d low).owner

  pub sized : (better : Low) → Optimizes (program_low core mir settings) better → linked_size (select_of better) (program_layout core mir) settings ≤ program_size core
  sized better optimizes = image_less core mir lowers sound owners (class.counted 0) (class.written 0) (1024 * settings.stack) settings better optimizes

  pub limited : IsNotBuilt core mir settings Limit → most_linked < program_size core
  limited fails = let less = sized fails.better fails.optimizes in let more = fails.large in omega (arith, less, more)
