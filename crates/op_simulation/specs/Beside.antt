-- A machine with something beside it that goes by what the machine shows, and ends the machine where it cannot go on.
use Rattle.std.specs.Prelude.{◌≡◌, ℕ, ◌+◌, Bool, true, false, Option, Some, None, List, [], ◌∷◌}
use Rattle.op_simulation.specs.Matching.{Matching}
use Rattle.op_simulation.specs.System.{System}

-- a fold over events, as a heap is one over what is asked of it
pub record Fold (Event : Type 0) : Type 1 where
  -- what stands beside the machine
  pub Beside : Type 0
  -- what it becomes by an event, None where it cannot go on
  pub after : Beside → Event → Option Beside
  -- what the event costs there
  pub price : Beside → Event → ℕ
  -- what is shown at the end, where it cannot go on
  pub tells : List Event

-- ---- what becomes of the events of one step

pub data Outcome {Event : Type 0} (F : Fold Event) : Type 0 where
  Goes : (beside : F.Beside) → (shown : List Event) → (cost : ℕ) → Outcome F
  -- with what stood beside at the event that could not be
  Stops : (beside : F.Beside) → (shown : List Event) → (cost : ℕ) → Outcome F

-- an event in front
abbrev pub behind : {Event : Type 0} (F : Fold Event) → Event → ℕ → Outcome F → Outcome F
behind F e n (Goes b es c) = Goes b (e ∷ es) (n + c)
behind F e n (Stops b es c) = Stops b (e ∷ es) (n + c)

abbrev pub behind_all : {Event : Type 0} (F : Fold Event) → F.Beside → Event → Option F.Beside → (F.Beside → Outcome F) → Outcome F
behind_all F b e None rest = Stops b F.tells (F.price b e)
behind_all F b e (Some c) rest = behind F e (F.price b e) (rest c)

abbrev pub come : {Event : Type 0} (F : Fold Event) → F.Beside → List Event → Outcome F
come F b [] = Goes b [] 0
come F b (e ∷ es) = behind_all F b e (F.after b e) (λ c. come F c es)

abbrev pub shown_of : {Event : Type 0} {F : Fold Event} → Outcome F → List Event
shown_of (Goes b es c) = es
shown_of (Stops b es c) = es

abbrev pub cost_of : {Event : Type 0} {F : Fold Event} → Outcome F → ℕ
cost_of (Goes b es c) = c
cost_of (Stops b es c) = c

-- ---- the machine with the fold beside it

pub record Both {Event : Type 0} (A : System Event) (F : Fold Event) : Type 0 where
  pub machine : A.State
  pub beside : F.Beside
  pub stopped : Bool

-- the machine makes its step where all of its events could be, and stays where it was else
abbrev pub next_both : {Event : Type 0} {A : System Event} {F : Fold Event} → A.State → Outcome F → Both A F
next_both {A = A} a (Goes b es c) = record { machine = A.step a; beside = b; stopped = false }
next_both {A = A} a (Stops b es c) = record { machine = a; beside = b; stopped = true }

abbrev pub step_both : {Event : Type 0} (A : System Event) (F : Fold Event) → A.State → F.Beside → (stopped : Bool) → Both A F
step_both A F a b true = record { machine = a; beside = b; stopped = true }
step_both A F a b false = next_both a (come F b (A.shows a))

abbrev pub shows_both : {Event : Type 0} (A : System Event) (F : Fold Event) → A.State → F.Beside → (stopped : Bool) → List Event
shows_both A F a b true = []
shows_both A F a b false = shown_of (come F b (A.shows a))

abbrev pub cost_both : {Event : Type 0} (A : System Event) (F : Fold Event) → A.State → F.Beside → (stopped : Bool) → ℕ
cost_both A F a b true = 0
cost_both A F a b false = A.cost a + cost_of (come F b (A.shows a))

abbrev pub with_beside : {Event : Type 0} → System Event → Fold Event → System Event
with_beside A F =
    record {
      State = Both A F;
      step = λ s. step_both A F s.machine s.beside s.stopped;
      cost = λ s. cost_both A F s.machine s.beside s.stopped;
      shows = λ s. shows_both A F s.machine s.beside s.stopped;
    }

-- ---- in what sense two of them go along

-- states that match; one that has stopped below is a moment of the step above that could not be
abbrev pub BothMatch : {Event : Type 0} {A B : System Event} (X : Matching A B) (F : Fold Event) → A.State → B.State → (above below : Bool) → Type 0
BothMatch X F a b false false = X.states a b
BothMatch X F a b true true = X.moments a b
BothMatch X F a b _ _ = ⊥

-- the same stands beside both
abbrev pub beside_too : {Event : Type 0} {A B : System Event} → Matching A B → (F : Fold Event) → Matching (with_beside A F) (with_beside B F)
beside_too X F =
    record {
      states = λ s t. BothMatch X F s.machine t.machine s.stopped t.stopped × (s.beside ≡ t.beside);
      moments = λ s t. X.moments s.machine t.machine;
      traces = λ es fs. es ≡ fs;
      factor = X.factor;
    }
