-- What is proved of programs that pass the test.
use Rattle.std.specs.Prelude.{◌≡◌, ◌≤◌, ℕ, true, [], None, length, slice_get}
use Rattle.op_constants.specs.Offsets.{size_in}
use Rattle.op_core.specs.Rows.{rows}
use Rattle.op_core.specs.declared.program.Core.{Core}
use Rattle.op_core.specs.declared.routine.Role.TheVariants.{Object}
use Rattle.op_places.specs.Frames.{parameters_of}
use Rattle.op_frames.specs.Charged.{IsCharged}
use Rattle.op_frames.specs.Counted.{AreCountedStatements}
use Rattle.op_frames.specs.Made.{Every}
use Rattle.op_meaning.specs.Calls.{ending_of, emptied_type}
use Rattle.op_meaning.specs.Frames.{program_of}
use Rattle.op_meaning.specs.Shapes.{variables_of}
use Rattle.op_meaning.specs.Start.{first_pending}
use Rattle.op_mir.specs.Code.{items_of}
use Rattle.op_mir.specs.Plain.{ArePlain, ArePlainUnits, IsPlain}
use Rattle.op_plain.specs.Plain.{is_plain_program}
use Rattle.op_sizes.specs.Written.{AreWrittenStatements}
use Rattle.op_typing.specs.Simple.{IsSimpleProgram}

-- The class that the theorems of the compiler are about.
pub record IsPlainCore (core : Core) : Type 0 where
  -- no strings but texts that are written in it, no dynamic and open arrays, classes and interfaces
  pub simple : IsSimpleProgram core
  -- constants count for a node at least, and there are no exceptions and no instances
  pub counted : (stack r : ℕ) → AreCountedStatements ((program_of core stack).body r)
  -- conversions that are not written stand apart, and each branch of a case has a label
  pub written : (stack r : ℕ) → AreWrittenStatements ((program_of core stack).body r)
  -- errors end the program, nothing has to be ended behind a routine or the program or emptied before a call, and the parts of units are there
  pub exceptions : core.exceptions ≡ None
  pub endings : (r : ℕ) → ending_of core r ≡ []
  pub outs : (v : ℕ) → emptied_type core (slice_get core.variables v) ≡ None
  pub units : (stack : ℕ) → ArePlainUnits (program_of core stack) core.units
  pub few : length core.units ≤ 1024
  pub globals : first_pending core ≡ []
  -- at most 64 parameters
  pub parameters : (r : ℕ) → parameters_of core r ≤ 64
  -- each variable of a routine is charged its words
  pub charged : (r : ℕ) → Every (λ v. IsCharged v.role) (rows core.variables (variables_of core r))
  pub sized : (r : ℕ) → Every (λ v. IsCharged v.role × (v.role ≡ Object → size_in core v.of ≤ 4)) (rows core.variables (variables_of core r))

-- a program that passes the test is of this class
abbrev pub PlainByTest : Type 0
PlainByTest = (core : Core) → is_plain_program core ≡ true → IsPlainCore core

-- so it is plain, where the items of its bodies are
abbrev pub PlainByItems : Type 0
PlainByItems = (core : Core) (stack : ℕ) → is_plain_program core ≡ true → ((r : ℕ) → ArePlain (program_of core stack) (items_of (program_of core stack) r)) → IsPlain (program_of core stack)
