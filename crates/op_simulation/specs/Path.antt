-- A known stretch of a run, put together from parts.
use Rattle.std.specs.Prelude.{◌≡◌, ℕ, ◌≤◌, ◌<◌, List}
use Rattle.op_simulation.specs.System.{System, run, trace, spent}

-- so many steps lead from one state to another, show these events at most at this cost, and in each state on the way, but
-- for the last, the fact holds
pub record Path {Event : Type 0} (B : System Event) (holds : B.State → Type 0) (from to : B.State) (steps : ℕ) (events : List Event) (most : ℕ) : Type 0 where
  pub ends : run B steps from ≡ to
  pub shows : trace B steps from ≡ events
  pub within : spent B steps from ≤ most
  pub moments : (j : ℕ) → j < steps → holds (run B j from)
