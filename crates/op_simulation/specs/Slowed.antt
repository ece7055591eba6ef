-- An example: a machine that does each step of another one in two.
use Rattle.std.specs.Prelude.{◌≡◌, ℕ, suc, Bool, true, false, [], ◌∷◌, if◌then◌else◌}
use Rattle.op_simulation.specs.System.{System}
use Rattle.op_simulation.specs.Matching.{Matching, through}

-- a state of the other machine, and whether its step is done but for a pause
pub record Paused (S : Type 0) : Type 0 where
  pub state : S
  pub pauses : Bool

abbrev pub slowed : {Event : Type 0} → System Event → System Event
slowed A =
    record {
      State = Paused A.State;
      step = λ p. if p.pauses then record { state = p.state; pauses = false } else record { state = A.step p.state; pauses = true };
      cost = λ p. if p.pauses then 0 else A.cost p.state;
      shows = λ p. if p.pauses then [] else A.shows p.state;
    }

-- The same state, and no pause
pub record Rests {S : Type 0} (s : S) (p : Paused S) : Type 0 where
  pub same : p.state ≡ s
  pub ready : p.pauses ≡ false

-- a state before its step
abbrev pub at_rest : {S : Type 0} → S → Paused S
at_rest s = record { state = s; pauses = false }

-- a state or its next one
pub data Near {S : Type 0} (step : S → S) (s : S) (p : Paused S) : Type 0 where
  Here : p.state ≡ s → Near step s p
  Next : p.state ≡ step s → Near step s p

-- a machine and its slowed one: the same events at the same cost
abbrev pub in_two_steps : {Event : Type 0} (A : System Event) → Matching A (slowed A)
in_two_steps A = record { states = Rests; moments = Near A.step; traces = λ xs ys. xs ≡ ys; factor = 1 }

abbrev pub in_four_steps : {Event : Type 0} (A : System Event) → Matching A (slowed (slowed A))
in_four_steps A = through (in_two_steps A) (in_two_steps (slowed A))

-- counts up from its first number, and shows each
abbrev pub counter : System ℕ
counter = record { State = ℕ; step = suc; cost = λ _. 1; shows = λ n. n ∷ [] }
