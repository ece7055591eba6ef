-- What checking and compiling a file give. `stored` are the files, as far as they tell.
use Rattle.std.specs.Prelude.{◌≡◌, ◌<◌, ◌≤◌, ℕ, ◌*◌, true, Option, Result, Ok, Err, List, ⊤, map, slice_get, unwrap_or}
use Rattle.op_base.specs.Rule.{HasText}
use Rattle.op_base.specs.Outside.{Rose}
use Rattle.op_base.specs.declared.files.NamedFile.{NamedFile}
use Rattle.op_base.specs.declared.place.Place.{Place}
use Rattle.op_base.specs.declared.rule.Refusal.{Refusal}
use Rattle.op_base.specs.declared.rule.Rule.{Rule}
use Rattle.op_build.specs.Built.{IsBuilt, IsNotBuilt, program_layout}
use Rattle.op_build.specs.declared.building.BuildError.{BuildError}
use Rattle.op_check_unit.specs.Checking.{CheckIs}
use Rattle.op_check_unit.specs.Programs.{program_means}
use Rattle.op_check_unit.specs.Rules.{Obeys, ProgramBreaks}
use Rattle.op_core.specs.Sound.{IsSound, IsSoundNesting}
use Rattle.op_core.specs.declared.error.CheckError.{CheckError}
use Rattle.op_core.specs.declared.program.Core.{Core}
use Rattle.op_correctness.specs.Agrees.{Agrees}
use Rattle.op_lower.specs.Lowers.{Lowers}
use Rattle.op_link.specs.Linking.{linked_size}
use Rattle.op_link.specs.Memory.{heap_size, most_linked}
use Rattle.op_link.specs.declared.memory_map.Settings.{Settings}
use Rattle.op_meaning.specs.Frames.{Program, program_of}
use Rattle.op_mir.specs.Valid.{is_valid}
use Rattle.op_mir.specs.declared.code.Mir.{Mir}
use Rattle.op_select.specs.Selection.{select_of}
use Rattle.op_sizes.specs.ProgramSize.{program_size}
use Rattle.op_tool.specs.declared.compiler.CompileError.{CompileError}
use Rattle.op_tool.specs.declared.compiler.CompileError.TheVariants.{Refused, ReadFault, Limit, NoMemory}
use Rattle.op_tree.specs.File.{file_of}
use Rattle.op_units.specs.declared.error.LoadError.{LoadError}
use Rattle.op_units.specs.declared.forest.Forest.{Forest}
use Rattle.op_units.specs.Walk.{GivesForest, Walks, refused}
use Rattle.op_build.specs.declared.building.BuildError.TheVariants as build
use Rattle.op_core.specs.declared.error.CheckError.TheVariants as check
use Rattle.op_units.specs.declared.error.LoadError.TheVariants as load

-- ---- programs

-- what the check of these files answers: their typed program where they break no rule, else the first rule that they break
pub record Checks (forest : Forest) (result : Result Core CheckError) : Type 0 where
  pub means : CheckIs (program_means (map file_of forest.trees) forest.order) result
  pub law : Obeys (ProgramBreaks (map file_of forest.trees) forest.order) result

-- the file is the main one of a program that breaks no rule, with this typed form
pub record IsProgram (stored : Option (List NamedFile)) (name : List ℕ) (forest : Forest) (core : Core) : Type 0 where
  pub loads : GivesForest stored name forest
  pub checks : Checks forest (Ok core)
  pub sound : IsSound core
  pub nesting : IsSoundNesting core

abbrev pub IsTypedProgram : Option (List NamedFile) → List ℕ → Core → Type 0
IsTypedProgram stored name core = (forest : Forest) × IsProgram stored name forest core

-- the program breaks no rule
abbrev pub IsAccepted : Option (List NamedFile) → List ℕ → Type 0
IsAccepted stored name = (core : Core) × IsTypedProgram stored name core

-- ---- images

-- what a typed program means, with the stack that it gets
abbrev pub meant : Core → Settings → Program
meant core settings = program_of core (1024 * settings.stack)

-- The image is that of the program's managed code, which is valid, and of what the program gets, and it agrees with the program: over every input it writes and
-- ends as the program does, step by step and for ever. Its code, its constants and its initial globals take together no more bytes than the
-- program's size.
pub record IsImage (core : Core) (settings : Settings) (image : List ℕ) : Type 0 where
  pub mir : Mir
  pub lowers : Lowers core mir
  pub valid : is_valid core mir ≡ true
  pub built : IsBuilt core mir settings image
  pub agrees : Agrees (meant core settings) (heap_size settings) image
  pub small : linked_size (select_of built.better) (program_layout core mir) settings ≤ program_size core

-- an image of the program in the file, with what it gets to run
pub record Made (stored : Option (List NamedFile)) (name : List ℕ) (settings : Settings) (image : List ℕ) : Type 0 where
  pub core : Core
  pub is_program : IsTypedProgram stored name core
  pub is_image : IsImage core settings image

-- ---- refusals

-- the name of the file where a place is: the main file's as it was given, and the bare names of the others
abbrev pub name_at : Forest → List ℕ → Place → List ℕ
name_at forest main place = unwrap_or (slice_get forest.names place.file) main

-- the first rule that the program breaks, and the name of the file where it does: of its files, else one that the check finds in them
pub data IsBroken (stored : Option (List NamedFile)) (name file : List ℕ) (refusal : Refusal) : Type 0 where
  by_files : Walks stored name (refused refusal file) → IsBroken stored name file refusal
  by_check : (forest : Forest) → GivesForest stored name forest → Checks forest (Err (check.Refused refusal)) → file ≡ name_at forest name refusal.place → IsBroken stored name file refusal

abbrev pub file_missing : Rule
file_missing = record { number = 10; feature = 0 }

-- the first line and column of the main file
abbrev pub main_start : Place
main_start = record { file = 0; line = 1; col = 1 }

-- the managed code of a typed program is valid and has no image, for this cause
pub record FailsToBuild (core : Core) (settings : Settings) (error : BuildError) : Type 0 where
  pub mir : Mir
  pub lowers : Lowers core mir
  pub valid : is_valid core mir ≡ true
  pub why : IsNotBuilt core mir settings error

-- code, constants and initial globals of its image have more bytes than an image may have, which the program's size passes too
pub record PassesLimit (core : Core) (settings : Settings) : Type 0 where
  pub fails : FailsToBuild core settings build.Limit
  pub size : most_linked < program_size core

abbrev pub IsTooLarge : Option (List NamedFile) → List ℕ → Settings → Type 0
IsTooLarge stored name settings = (core : Core) × IsTypedProgram stored name core × PassesLimit core settings

-- ---- errors

-- an error before or in the check, with its cause; `before` and `after` are the counts of faults of the files
abbrev pub FailsToCheck : Option (List NamedFile) → List ℕ → ℕ → ℕ → CompileError → Type 0
FailsToCheck stored name before after (Refused refusal file) = IsBroken stored name file refusal
FailsToCheck stored name before after ReadFault = Rose before after
FailsToCheck stored name before after Limit = ⊥
FailsToCheck stored name before after NoMemory = ⊤

-- an error with its cause
abbrev pub FailsAs : Option (List NamedFile) → List ℕ → Settings → ℕ → ℕ → CompileError → Type 0
FailsAs stored name settings before after (Refused refusal file) = IsBroken stored name file refusal
FailsAs stored name settings before after ReadFault = Rose before after
FailsAs stored name settings before after Limit = IsTooLarge stored name settings
FailsAs stored name settings before after NoMemory = ⊤

-- where it is a refusal, the rule has a text
abbrev pub RefusalHasText : CompileError → Type 0
RefusalHasText (Refused refusal file) = HasText refusal.rule
RefusalHasText error = ⊤

-- this refusal of the file, but for want of memory
abbrev pub RefusesBy : List ℕ → Refusal → CompileError → Type 0
RefusesBy name refusal (Refused given file) = (file ≡ name) × (given ≡ refusal)
RefusesBy name refusal ReadFault = ⊥
RefusesBy name refusal Limit = ⊥
RefusesBy name refusal NoMemory = ⊤

-- an error in loading, as one in compiling
abbrev pub error_of : LoadError → CompileError
error_of (load.Refused refusal file) = Refused refusal file
error_of load.ReadFault = ReadFault
error_of load.NoMemory = NoMemory

-- why a typed program has no image: no rule is broken
abbrev pub HasNoImage : Core → Settings → CompileError → Type 0
HasNoImage core settings (Refused refusal file) = ⊥
HasNoImage core settings ReadFault = ⊥
HasNoImage core settings Limit = PassesLimit core settings
HasNoImage core settings NoMemory = ⊤
