-- What a call leaves as it was, by its words and its answer.
use Rattle.std.specs.Prelude.{◌≡◌, ℕ, Bool, true, false, List, IsTrue}
use Rattle.op_base.specs.Outside.{Rose}
use Rattle.op_command.specs.Command.{Asked, IsCommand, IsNoCommand, runs_image}
use Rattle.op_tool.specs.declared.finish.Finish.{Finish}
use Rattle.op_tool.specs.declared.finish.Finish.TheVariants.{Ended, Usage, Refused, ReadFault, WriteFault, Spent, NoMemory, BadImage, Faulted, Limit}

-- the answers of a call that did nothing to its streams but write a line; a read fault is one of them where it is that of a file
abbrev pub only_reports : Finish → Bool
only_reports (Ended status) = false
only_reports Usage = true
only_reports (Refused rule place) = true
only_reports ReadFault = true
only_reports WriteFault = false
only_reports Spent = false
only_reports NoMemory = true
only_reports (BadImage condition) = true
only_reports (Faulted kind pc) = false
only_reports Limit = true

-- The answer tells that no image was run. `before` and `now` are the counts of faults of the input, which rose where a run answers that it could
-- not be read.
pub record RunsNothing (answer : Finish) (before now : ℕ) : Type 0 where
  pub reports : IsTrue (only_reports answer)
  pub reads : answer ≡ ReadFault → Rose before now → ⊥

-- the input stays as it was, with its count of faults: of a command that runs no image, of none, and by the answer
pub data LeavesInput (words : List (List ℕ)) (answer : Finish) (before now : ℕ) : Type 0 where
  by_command : (asked : Asked) → IsCommand words asked → runs_image asked.verb ≡ false → LeavesInput words answer before now
  by_none : IsNoCommand words → LeavesInput words answer before now
  by_answer : RunsNothing answer before now → LeavesInput words answer before now

-- the output stays as it was
pub data LeavesOutput (words : List (List ℕ)) (answer : Finish) (before now : ℕ) : Type 0 where
  by_command : (asked : Asked) → IsCommand words asked → runs_image asked.verb ≡ false → IsTrue (only_reports answer) → LeavesOutput words answer before now
  by_none : IsNoCommand words → LeavesOutput words answer before now
  by_answer : RunsNothing answer before now → LeavesOutput words answer before now

-- the errors stay as they were
pub data LeavesErrors (words : List (List ℕ)) (answer : Finish) : Type 0 where
  by_command : (asked : Asked) (status : ℕ) → IsCommand words asked → runs_image asked.verb ≡ false → answer ≡ Ended status → LeavesErrors words answer
