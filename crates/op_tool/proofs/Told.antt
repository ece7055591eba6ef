-- What a compilation is refused by has a text.
use Rattle.std.proofs.Common.{ℕ, Option, Err, List, map, refl}
use Rattle.op_base.specs.Rule.{HasText, text_of_feature, text_of_rule}
use Rattle.op_base.specs.declared.files.NamedFile.{NamedFile}
use Rattle.op_base.specs.declared.rule.Refusal.{Refusal}
use Rattle.op_check_unit.proofs.Told.{program_told}
use Rattle.op_core.specs.declared.error.CheckError.TheVariants as check
use Rattle.op_link.specs.declared.memory_map.Settings.{Settings}
use Rattle.op_tree.specs.File.{file_of}
use Rattle.op_units.proofs.Told.{told_walks}
use Rattle.op_tool.specs.Compiles.{FailsAs, FailsToCheck, IsBroken, RefusalHasText, by_check, by_files, file_missing}
use Rattle.op_tool.specs.declared.compiler.CompileError.{CompileError}
use Rattle.op_tool.specs.declared.compiler.CompileError.TheVariants.{Refused, ReadFault, Limit, NoMemory}

pub missing_told : HasText file_missing
unfolding text_of_rule text_of_feature
missing_told = refl

broken_told : (stored : Option (List NamedFile)) (name file : List ℕ) (refusal : Refusal) → IsBroken stored name file refusal → HasText refusal.rule
broken_told stored name file refusal (by_files walks) = told_walks walks
broken_told stored name file refusal (by_check forest loads checks is) = program_told (map file_of forest.trees) forest.order (Err (check.Refused refusal)) checks.means

-- an error before or in the check
pub check_told : (stored : Option (List NamedFile)) (name : List ℕ) (before after : ℕ) (error : CompileError) → FailsToCheck stored name before after error → RefusalHasText error
check_told stored name before after (Refused refusal file) is = broken_told stored name file refusal is
check_told stored name before after ReadFault is = tt
check_told stored name before after Limit is = tt
check_told stored name before after NoMemory is = tt

-- an error of a compilation
pub compile_told : (stored : Option (List NamedFile)) (name : List ℕ) (settings : Settings) (before after : ℕ) (error : CompileError) → FailsAs stored name settings before after error → RefusalHasText error
compile_told stored name settings before after (Refused refusal file) is = broken_told stored name file refusal is
compile_told stored name settings before after ReadFault is = tt
compile_told stored name settings before after Limit is = tt
compile_told stored name settings before after NoMemory is = tt
