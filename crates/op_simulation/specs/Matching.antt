-- Simulation: one step of a machine A is one or more steps of a machine B below it.
use Rattle.std.specs.Prelude.{◌≡◌, ℕ, suc, ◌+◌, ◌*◌, ◌≤◌, ◌<◌, List, [], ◌++◌}
use Rattle.op_simulation.specs.System.{System, run, trace, spent}

-- in what sense B goes along with A
pub record Matching {E F : Type 0} (A : System E) (B : System F) : Type 1 where
  -- states that stand for one another
  pub states : A.State → B.State → Type 0
  -- what holds at each moment of B, while A does the step from its state
  pub moments : A.State → B.State → Type 0
  -- traces that stand for one another; mostly they are equal
  pub traces : List E → List F → Type 0
  -- the greatest cost of B for a cost of one of A
  pub factor : ℕ

-- the steps of B for one step of A, one and so many more
pub record Stretch {E F : Type 0} {A : System E} {B : System F} (X : Matching A B) (a : A.State) (b : B.State) : Type 0 where
  pub more : ℕ
  pub states : X.states (A.step a) (run B (suc more) b)
  pub traces : X.traces (A.shows a) (trace B (suc more) b)
  pub within : spent B (suc more) b ≤ X.factor * A.cost a
  pub moments : (j : ℕ) → j ≤ more → X.moments a (run B j b)

-- B follows A: from any states that match there is such a stretch
pub record Follows {E F : Type 0} {A : System E} {B : System F} (X : Matching A B) : Type 0 where
  pub go : (a : A.State) (b : B.State) → X.states a b → Stretch X a b

-- Traces that match may be joined. Equal ones may.
pub record Joins {E F : Type 0} (traces : List E → List F → Type 0) : Type 0 where
  pub none : traces [] []
  pub both : (xs ys : List E) (us vs : List F) → traces xs us → traces ys vs → traces (xs ++ ys) (us ++ vs)

-- Two runs that go along for ever: after n steps of A and point n steps of B the states match. The points begin at 0,
-- and between two of them lies a stretch.
pub record Agreement {E F : Type 0} {A : System E} {B : System F} (X : Matching A B) (a : A.State) (b : B.State) : Type 0 where
  pub point : ℕ → ℕ
  pub first : point 0 ≡ 0
  pub stretch : (n : ℕ) → Stretch X (run A n a) (run B (point n) b)
  pub next : (n : ℕ) → point (suc n) ≡ suc (point n + (stretch n).more)
  pub states : (n : ℕ) → X.states (run A n a) (run B (point n) b)
  pub traces : (n : ℕ) → X.traces (trace A n a) (trace B (point n) b)
  pub within : (n : ℕ) → spent B (point n) b ≤ X.factor * spent A n a

-- the step k of B lies between the points n and n + 1
pub record Between (point : ℕ → ℕ) (k n : ℕ) : Type 0 where
  pub past : point n ≤ k
  pub before : k < point (suc n)

-- related by way of a value between
pub record Through {S T U : Type 0} (R : S → T → Type 0) (Q : T → U → Type 0) (a : S) (c : U) : Type 0 where
  pub middle : T
  pub upper : R a middle
  pub lower : Q middle c

-- A to B to C
abbrev pub through : {E F G : Type 0} {A : System E} {B : System F} {C : System G} → Matching A B → Matching B C → Matching A C
through X Y =
    record {
      states = Through X.states Y.states;
      moments = Through X.moments Y.moments;
      traces = Through X.traces Y.traces;
      factor = Y.factor * X.factor;
    }

-- how a matching may be restated: with the same states, and no more of the rest
pub record Weaker {E F : Type 0} {A : System E} {B : System F} (X Y : Matching A B) : Type 0 where
  pub from : (a : A.State) (b : B.State) → Y.states a b → X.states a b
  pub to : (a : A.State) (b : B.State) → X.states a b → Y.states a b
  pub moments : (a : A.State) (b : B.State) → X.moments a b → Y.moments a b
  pub traces : (xs : List E) (ys : List F) → X.traces xs ys → Y.traces xs ys
  pub factor : X.factor ≤ Y.factor
