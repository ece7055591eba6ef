-- The status of each answer.
use Rattle.std.specs.Prelude.{ℕ}
use Rattle.op_tool.specs.declared.finish.Finish.{Finish}
use Rattle.op_tool.specs.declared.finish.Finish.TheVariants.{Ended, Usage, Refused, ReadFault, WriteFault, Spent, NoMemory, BadImage, Faulted, Limit}

abbrev pub status_of : Finish → ℕ
status_of (Ended status) = status
status_of Usage = 120
status_of (Refused rule place) = 121
status_of ReadFault = 122
status_of WriteFault = 123
status_of Spent = 124
status_of NoMemory = 125
status_of (BadImage condition) = 126
status_of (Faulted kind pc) = 126
status_of Limit = 126
