-- How what is received changes the number of holders: at a place as a write there, and nowhere else.
use Rattle.std.proofs.Common.{◌≡◌, ℕ, ◌+◌, ap, ◌∙◌}
use Rattle.op_core.specs.declared.ids.TypeId.{TypeId}
use Rattle.op_counts.proofs.Failing.{failed_counted}
use Rattle.op_counts.proofs.Writes.{once_written}
use Rattle.op_counts.specs.Counting.{count_in, Leads, listed, times, held}
use Rattle.op_meaning.specs.Paths.{at_place}
use Rattle.op_meaning.specs.Calls.{received}
use Rattle.op_meaning.specs.Frames.{Program, StateOver, with_world}
use Rattle.op_meaning.specs.Items.{to_place}
use Rattle.op_meaning.specs.Paths.{Path, place_of}
use Rattle.op_meaning.specs.Values.{Value, Place, reached, failing}
use Rattle.op_meaning.specs.World.{value_at, with_value}

module _ {Work Counts : Type 0} (p : Program) (s : StateOver Work Counts) (v : Value) (y : ℕ) (of : TypeId) (path : Path) where
  -- What goes to a place is counted there, in place of what stood there.
  pub received_placed : (q : Place) → place_of s.world path ≡ reached q → times q.holder (listed p.core s) ≡ 1 → Leads q.path (s.world.memory q.holder)
      → held p.core (with_world (received p (to_place of path) v s.world) s) y + count_in y (value_at s.world q) ≡ held p.core s y + count_in y v
  received_placed q found once leads =
      ap (λ o. held p.core (with_world (at_place p.core o (λ r. with_value r v s.world) s.world) s) y + count_in y (value_at s.world q)) found
      ∙ once_written s.world y q v (listed p.core s) once leads

  -- Where an error is met on the way there, all holders stay as many.
  pub received_failing : (error : ℕ) → place_of s.world path ≡ failing error → held p.core (with_world (received p (to_place of path) v s.world) s) y ≡ held p.core s y
  received_failing error met =
      ap (λ o. held p.core (with_world (at_place p.core o (λ r. with_value r v s.world) s.world) s) y) met
      ∙ failed_counted p.core s y error
