-- Programs of which the routines become others, one by one.
use Rattle.std.specs.Prelude.{◌≡◌}
use Rattle.op_low.specs.declared.code.Low.{Low}
use Rattle.op_low.specs.declared.code.Routine.{Routine}
use Rattle.op_optimize.specs.Each.{Each}

pub record EachRoutine (R : Routine → Routine → Type 0) (low better : Low) : Type 0 where
  pub entry : better.entry ≡ low.entry
  pub counts : better.counts ≡ low.counts
  pub globals : better.globals ≡ low.globals
  pub routines : Each R low.routines better.routines
