-- Errors before and in the check.
use Rattle.std.proofs.Common.{◌≡◌, ℕ, map, Option, Result, Ok, Err, IfErr, List, sym, subst}
use Rattle.op_base.proofs.Tests.{map_ok}
use Rattle.op_base.specs.declared.files.NamedFile.{NamedFile}
use Rattle.op_base.specs.declared.rule.Refusal.{Refusal}
use Rattle.op_check_unit.specs.Checking.{CheckIs}
use Rattle.op_check_unit.specs.Programs.{program_means}
use Rattle.op_check_unit.specs.Rules.{Obeys, ProgramBreaks}
use Rattle.op_core.specs.declared.error.CheckError.{CheckError}
use Rattle.op_core.specs.declared.program.Core.{Core}
use Rattle.op_link.specs.declared.memory_map.Settings.{Settings}
use Rattle.op_tree.specs.File.{file_of}
use Rattle.op_tree.specs.declared.file.Tree.{Tree}
use Rattle.op_units.specs.declared.forest.Forest.{Forest}
use Rattle.op_tool.specs.Compiles.{Checks, error_of, FailsAs, FailsToCheck, HasNoImage, IsBroken, IsImage, IsTypedProgram, Made, RefusesBy, by_files}
use Rattle.op_tool.specs.declared.compiler.CompileError.{CompileError}
use Rattle.op_tool.specs.declared.compiler.CompileError.TheVariants.{Refused, ReadFault, Limit, NoMemory}
use Rattle.op_units.specs.Walk.{Stops}
use Rattle.op_units.specs.declared.error.LoadError.{LoadError}
use Rattle.op_units.specs.declared.error.LoadError.TheVariants as load

-- the trees that are checked are those of the forest
pub checked_so : (forest : Forest) (trees : List Tree) (order : List (List ℕ)) (result : Result Core CheckError) → trees ≡ forest.trees → order ≡ forest.order → CheckIs (program_means (map file_of trees) order) result → Obeys (ProgramBreaks (map file_of trees) order) result → Checks forest result
checked_so forest trees order result is same means law = record {
  means = subst (λ ns. CheckIs (program_means (map file_of forest.trees) ns) result) same (subst (λ ts. CheckIs (program_means (map file_of ts) order) result) is means);
  law = subst (λ ns. Obeys (ProgramBreaks (map file_of forest.trees) ns) result) same (subst (λ ts. Obeys (ProgramBreaks (map file_of ts) order) result) is law);
}

-- a program that is not loaded
pub not_loaded : (stored : Option (List NamedFile)) (name : List ℕ) (before after : ℕ) (error : LoadError) → Stops stored name before after error → FailsToCheck stored name before after (error_of error)
not_loaded stored name before after (load.Refused refusal file) why = by_files why
not_loaded stored name before after load.ReadFault rose = rose
not_loaded stored name before after load.NoMemory free = free

-- what fails to be checked is not compiled
pub not_compiled_by : (stored : Option (List NamedFile)) (name : List ℕ) (settings : Settings) (before after : ℕ) (error : CompileError) → FailsToCheck stored name before after error → FailsAs stored name settings before after error
not_compiled_by stored name settings before after (Refused refusal file) is_broken = is_broken
not_compiled_by stored name settings before after ReadFault rose = rose
not_compiled_by stored name settings before after Limit never = absurd never
not_compiled_by stored name settings before after NoMemory free = free

-- a refusal by the check, or want of memory
pub not_checked : (stored : Option (List NamedFile)) (name where_it_is : List ℕ) (before after : ℕ) (refusal : Refusal) (error : CompileError) → IsBroken stored name where_it_is refusal → RefusesBy where_it_is refusal error → FailsToCheck stored name before after error
not_checked stored name where_it_is before after refusal (Refused given file) broken (is_file, is) = subst (λ f. IsBroken stored name f given) (sym is_file) (subst (IsBroken stored name where_it_is) (sym is) broken)
not_checked stored name where_it_is before after refusal ReadFault broken never = absurd never
not_checked stored name where_it_is before after refusal Limit broken never = never
not_checked stored name where_it_is before after refusal NoMemory broken free = free

-- ---- the image of a program

-- an image of a typed program is one of the program in the file
pub made_of : (stored : Option (List NamedFile)) (name : List ℕ) (settings : Settings) (core : Core) (image : List ℕ) → IsTypedProgram stored name core → IsImage core settings image → Made stored name settings image
made_of stored name settings core image is is_image = record { core = core; is_program = is; is_image = is_image }

-- why a program has none
pub fails_as : (stored : Option (List NamedFile)) (name : List ℕ) (settings : Settings) (before after : ℕ) (core : Core) (error : CompileError) → IsTypedProgram stored name core → HasNoImage core settings error → FailsAs stored name settings before after error
fails_as stored name settings before after core (Refused refusal file) is never = absurd never
fails_as stored name settings before after core ReadFault is never = absurd never
fails_as stored name settings before after core Limit is no_image = (core, is, no_image)
fails_as stored name settings before after core NoMemory is free = free

pub err_also : {A E : Type 0} {P Q : E → Type 0} (r : Result A E) → ((e : E) → P e → Q e) → IfErr r P → IfErr r Q
err_also (Ok a) f holds = holds
err_also (Err e) f holds = f e holds
