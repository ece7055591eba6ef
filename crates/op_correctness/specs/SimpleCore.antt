-- What is asked of a program beside soundness, which a test at run time finds.
use Rattle.std.specs.Prelude.{◌≡◌, ◌≤◌, ℕ, None, length, slice_get}
use Rattle.op_core.specs.declared.program.Core.{Core}
use Rattle.op_frames.specs.Counted.{AreCountedStatements}
use Rattle.op_meaning.specs.Calls.{emptied_type}
use Rattle.op_meaning.specs.Frames.{program_of}
use Rattle.op_typing.specs.Simple.{IsSimpleProgram}

pub record IsSimpleCore (core : Core) : Type 0 where
  -- what it works on are numbers, sets, records and arrays with bounds
  pub simple : IsSimpleProgram core
  -- its bodies handle no exceptions and make no instances, and their constants are charged
  pub counted : (stack r : ℕ) → AreCountedStatements ((program_of core stack).body r)
  -- errors end it, and nothing is emptied before a call
  pub exceptions : core.exceptions ≡ None
  pub outs : (v : ℕ) → emptied_type core (slice_get core.variables v) ≡ None
  -- it has no more units than the closing looks through
  pub few : length core.units ≤ 1024
