-- Machines, and what so many steps of one do, show and cost.
use Rattle.std.specs.Prelude.{◌≡◌, ℕ, zero, suc, ◌+◌, List, [], ◌++◌}

-- A machine whose next state is a function of its state. A state that has ended steps to itself, so every run goes on.
pub record System (Event : Type 0) : Type 1 where
  pub State : Type 0
  pub step : State → State
  -- what the step from here costs
  pub cost : State → ℕ
  -- what the step from here shows to the outside, in order
  pub shows : State → List Event

-- the state after n steps
unfoldable pub run : {Event : Type 0} (A : System Event) → ℕ → A.State → A.State
run A zero a = a
run A (suc n) a = run A n (A.step a)

-- what n steps show
unfoldable pub trace : {Event : Type 0} (A : System Event) → ℕ → A.State → List Event
trace A zero a = []
trace A (suc n) a = A.shows a ++ trace A n (A.step a)

-- what n steps cost
unfoldable pub spent : {Event : Type 0} (A : System Event) → ℕ → A.State → ℕ
spent A zero a = 0
spent A (suc n) a = A.cost a + spent A n (A.step a)

-- a state that has ended: it stays, and shows nothing more
pub record Halted {Event : Type 0} (A : System Event) (a : A.State) : Type 0 where
  pub stays : A.step a ≡ a
  pub silent : A.shows a ≡ []

-- a fact that holds in each state of a run, for ever
abbrev pub Always : {Event : Type 0} (A : System Event) → (A.State → Type 0) → A.State → Type 0
Always A holds a = (n : ℕ) → holds (run A n a)
