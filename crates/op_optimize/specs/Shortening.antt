-- In what sense low code does the same in no more steps.
use Rattle.std.specs.Prelude.{◌≡◌, ◌≤◌, ℕ, suc, ◌+◌, ◌*◌}
use Rattle.op_simulation.specs.System.{run, trace}
use Rattle.op_low.specs.Machine.{cost, low_machine, shows}
use Rattle.op_low.specs.State.{Placement, State}
use Rattle.op_low.specs.declared.code.Low.{Low}

-- both have written the same, have the same left of their input, and go on or have ended alike
pub record LooksLike (m n : State) : Type 0 where
  pub output : n.output ≡ m.output
  pub errors : n.errors ≡ m.errors
  pub input : n.input ≡ m.input
  pub ending : n.ending ≡ m.ending

-- so many steps or more are passed
pub record Passed (point : ℕ → ℕ) (k : ℕ) : Type 0 where
  pub steps : ℕ
  pub passed : k ≤ point steps

-- Two runs of which the second one leaves steps out: each step of the first is one step of the second, which shows the same at no more cost, or
-- none, where it shows nothing. After each they look alike, and the second one goes as far as one likes.
pub record Shortens (low better : Low) (p : Placement) (m n : State) : Type 0 where
  -- so many steps of the second run after those of the first
  pub point : ℕ → ℕ
  pub first : point 0 ≡ 0
  -- whether a step of the first is one of the second
  pub moves : ℕ → ℕ
  pub few : (k : ℕ) → moves k ≤ 1
  pub next : (k : ℕ) → point (suc k) ≡ point k + moves k
  pub alike : (k : ℕ) → LooksLike (run (low_machine low p) k m) (run (low_machine better p) (point k) n)
  pub costs : (k : ℕ) → moves k * cost better p (run (low_machine better p) (point k) n).ending (run (low_machine better p) (point k) n) ≤ cost low p (run (low_machine low p) k m).ending (run (low_machine low p) k m)
  pub shown : (k : ℕ) → trace (low_machine better p) (moves k) (run (low_machine better p) (point k) n) ≡ shows p (run (low_machine low p) k m).ending (run (low_machine low p) k m)
  pub passes : (k : ℕ) → Passed point k
