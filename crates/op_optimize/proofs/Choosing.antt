-- A routine that stays, or gets other names where the test passes.
use Rattle.std.proofs.Common.{◌≡◌, ℕ, true, List, IfOk, Result, Ok, Err, refl}
use Rattle.op_low.specs.declared.code.Routine.{Routine}
use Rattle.op_optimize.specs.Renaming.{RenamesRoutine, Renamed, Stays, is_renaming, renamed_routine}

pub stays : (routine : Routine) → RenamesRoutine routine routine
stays routine = Stays refl

pub renamed_ok : {E : Type 0} (answer : Result Routine E) (live names : List ℕ) (registers : ℕ) (routine : Routine) → is_renaming live names registers routine ≡ true → IfOk answer (λ better. better ≡ renamed_routine names registers routine) → IfOk answer (RenamesRoutine routine)
renamed_ok (Ok better) live names registers routine is same = Renamed live names registers is same
renamed_ok (Err e) live names registers routine is same = same
