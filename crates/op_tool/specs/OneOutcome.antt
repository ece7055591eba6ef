-- A program is accepted or refused, and never both.
use Rattle.std.specs.Prelude.{◌≡◌, ℕ, Some, List, map}
use Rattle.op_base.specs.declared.files.NamedFile.{NamedFile}
use Rattle.op_base.specs.declared.rule.Refusal.{Refusal}
use Rattle.op_check_unit.specs.Checking.{body_in, without_bodies}
use Rattle.op_check_unit.specs.FirstValues.{begins_with, without_first_values}
use Rattle.op_core.specs.declared.program.Core.{Core}
use Rattle.op_tool.specs.Compiles.{IsBroken, IsTypedProgram}
use Rattle.op_units.specs.OneWalk.{SameRefusal}

-- two typed programs say the same, wherever their trees lie in memory
pub record SameProgram (one other : Core) : Type 0 where
  pub others : without_first_values (without_bodies one) ≡ without_first_values (without_bodies other)
  pub bodies : map body_in one.routines ≡ map body_in other.routines
  pub values : map begins_with one.variables ≡ map begins_with other.variables

-- Where the files tell what they hold, the main file of this name has one typed form or breaks one rule first, in one file. What is left open is which
-- refusal is told of the tokens of a file that its grammar or a construct in it refuses.
pub record OneOutcome (files : List NamedFile) (name : List ℕ) : Type 0 where
  pub one_program : (one other : Core) → IsTypedProgram (Some files) name one → IsTypedProgram (Some files) name other → SameProgram one other
  pub one_rule : (file other : List ℕ) (r s : Refusal) → IsBroken (Some files) name file r → IsBroken (Some files) name other s → (file ≡ other) × SameRefusal r s
  pub never_both : (core : Core) (file : List ℕ) (r : Refusal) → IsTypedProgram (Some files) name core → IsBroken (Some files) name file r → ⊥
