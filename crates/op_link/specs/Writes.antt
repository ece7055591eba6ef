-- What a call that writes code owes.
use Rattle.std.specs.Prelude.{◌≡◌, ℕ, Option, Some, None, Result, Ok, Err, List, ⊤}
use Rattle.op_rv.specs.declared.instruction.Instr.{Instr}
use Rattle.op_link.specs.declared.code.CodeError.{CodeError}
use Rattle.op_link.specs.declared.code.CodeError.TheVariants.{OutOfReach, NoMemory}
use Rattle.op_link.specs.Code.{written}

abbrev pub WritesUnless : CodeError → List ℕ → Option (List Instr) → Type 0
WritesUnless OutOfReach old code = code ≡ None
WritesUnless NoMemory old code = ⊤

-- the code stands behind what stood there, or some of it is out of reach
abbrev pub Writes : {T : Type 0} → Result T CodeError → List ℕ → List ℕ → Option (List Instr) → Type 0
Writes (Ok t) old new code = written old code ≡ Some new
Writes (Err error) old new code = WritesUnless error old code
