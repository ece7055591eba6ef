-- Runs of which the second one leaves out steps, by single steps.
use Rattle.std.specs.Prelude.{◌≡◌, ◌≢◌, ◌≤◌, ◌<◌, [], length}
use Rattle.op_low.specs.Machine.{cost, shows, step}
use Rattle.op_low.specs.State.{Bad, Placement, State}
use Rattle.op_low.specs.declared.code.Low.{Low}
use Rattle.op_optimize.specs.Shortening.{LooksLike}

-- a step of the first run shows nothing and is none of the second one, and less is left of its block, or it is one that shows the same at no more cost
pub data StepIs (low better : Low) (p : Placement) (related : State → State → Type 0) (m n : State) : Type 0 where
  Skips : related (step low p m) n → length (step low p m).top.now < length m.top.now → shows p m.ending m ≡ [] → StepIs low better p related m n
  Moves : related (step low p m) (step better p n) → cost better p n.ending n ≤ cost low p m.ending m → shows p n.ending n ≡ shows p m.ending m → StepIs low better p related m n

-- states that stand for one another look alike, and each step that is not bad keeps that
pub record Leads (low better : Low) (p : Placement) (related : State → State → Type 0) : Type 0 where
  pub alike : (m n : State) → related m n → LooksLike m n
  pub steps : (m n : State) → related m n → m.ending ≢ Bad → (step low p m).ending ≢ Bad → StepIs low better p related m n
