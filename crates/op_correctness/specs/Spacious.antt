-- An activation takes no more of the stack than it is charged.
use Rattle.std.specs.Prelude.{◌≡◌, ◌<◌, ◌≤◌, ℕ, ◌+◌, length, Some, true}
use Rattle.op_expand.specs.Calls.{closing_number, has_closing, runtime}
use Rattle.op_places.specs.Frames.{parameters_of}
use Rattle.op_expand.specs.Routines.{most_charge}
use Rattle.op_low.specs.State.{space}
use Rattle.op_mir.specs.View.{routine_at}
use Rattle.op_mir.specs.declared.code.Routine.{Routine}
use Rattle.op_agreement.specs.Settings.{Setting}

-- Of each routine that is charged no more than a stack may have. One without parameters takes so much less that there is room for the closing.
pub record IsSpacious (g : Setting) : Type 0 where
  pub charged : (r : ℕ) (x : Routine) → routine_at g.mir r ≡ Some x → x.charge ≤ most_charge → r < length g.mir.routines → space g.low g.placement (runtime + r) ≤ x.charge
  pub parts : (r : ℕ) (x : Routine) → routine_at g.mir r ≡ Some x → x.charge ≤ most_charge → r < length g.mir.routines → parameters_of g.core r ≡ 0 → space g.low g.placement (runtime + r) + 20 ≤ x.charge
  pub closing : has_closing g.core ≡ true → space g.low g.placement (closing_number g.core) ≤ 20
