-- Variables that are charged words of the stack.
use Rattle.op_core.specs.declared.routine.Role.{Role}
use Rattle.op_core.specs.declared.routine.Role.TheVariants.{Plain, Constant, Parameter, Object, Result, Handler}

-- what a handler declares is charged nothing
abbrev pub IsCharged : Role → Type 0
IsCharged Handler = ⊥
IsCharged Plain = Unit {0}
IsCharged Constant = Unit {0}
IsCharged (Parameter mode) = Unit {0}
IsCharged Object = Unit {0}
IsCharged Result = Unit {0}
