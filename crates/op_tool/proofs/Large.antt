-- What the compiler makes of a program may be built.
use Rattle.std.proofs.Common.{◌≡◌, ◌*◌, true, sym, ◌∙◌}
use Rattle.std.proofs.lemmas.Bool.{false≢true, leb-false, leb-true}
use Rattle.op_build.specs.Built.{IsNotBuilt}
use Rattle.op_build.specs.declared.building.BuildError.TheVariants.{Unbuildable}
use Rattle.op_core.specs.Sound.{IsSound, IsSoundNesting}
use Rattle.op_core.specs.declared.program.Core.{Core}
use Rattle.op_correctness.proofs.Correct.{better_buildable}
use Rattle.op_link.specs.declared.memory_map.Settings.{Settings}
use Rattle.op_lower.specs.Lowers.{Lowers}
use Rattle.op_mir.specs.declared.code.Mir.{Mir}
use Rattle.op_plain.specs.Plain.{is_plain_program}

pub never_unbuildable : (core : Core) (mir : Mir) (settings : Settings) → is_plain_program core ≡ true → IsSound core → IsSoundNesting core → Lowers core mir → IsNotBuilt core mir settings Unbuildable → ⊥
never_unbuildable core mir settings plain sound nesting lowers fails =
    false≢true (sym fails.fails ∙ better_buildable core mir (1024 * settings.stack) fails.better plain sound nesting lowers fails.optimizes)
