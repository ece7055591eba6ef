-- From a simulation to whole runs: the agreement points, and that they pass every step below.
use Rattle.std.proofs.Common.{◌≡◌, ℕ, zero, suc, ◌+◌, ◌-◌, ◌*◌, ◌<◌, ◌≤◌, inl, inr, ◌++◌, refl, ap, sym, ◌∙◌, subst, subst₂, arith}
use Rattle.std.proofs.lemmas.Bool.{cases_lt}
use Rattle.op_simulation.specs.System.{System, Halted, Always, run, trace, spent}
use Rattle.op_simulation.specs.Matching.{Matching, Stretch, Follows, Joins, Agreement, Between}
use Rattle.op_simulation.proofs.Runs.{run_add, trace_add, spent_add, run_last, trace_last, spent_last, run_past_end, trace_past_end}

-- ---- the points

-- where B is after n steps of A
pub record Reached {E F : Type 0} {A : System E} {B : System F} (X : Matching A B) (a : A.State) (b : B.State) (n : ℕ) : Type 0 where
  pub at : ℕ
  pub states : X.states (run A n a) (run B at b)

-- so many steps and then a stretch
joined : {Event : Type 0} (B : System Event) (at more : ℕ) (b : B.State) → run B (suc more) (run B at b) ≡ run B (suc (at + more)) b
joined B at more b =
    let e : at + suc more ≡ suc (at + more) = omega arith in
    sym (run_add B at (suc more) b) ∙ ap (λ k. run B k b) e

joined_trace : {Event : Type 0} (B : System Event) (at more : ℕ) (b : B.State) → trace B at b ++ trace B (suc more) (run B at b) ≡ trace B (suc (at + more)) b
joined_trace B at more b =
    let e : at + suc more ≡ suc (at + more) = omega arith in
    sym (trace_add B at (suc more) b) ∙ ap (λ k. trace B k b) e

joined_cost : {Event : Type 0} (B : System Event) (at more : ℕ) (b : B.State) → spent B at b + spent B (suc more) (run B at b) ≡ spent B (suc (at + more)) b
joined_cost B at more b =
    let e : at + suc more ≡ suc (at + more) = omega arith in
    sym (spent_add B at (suc more) b) ∙ ap (λ k. spent B k b) e

forward : {E F : Type 0} {A : System E} {B : System F} (X : Matching A B) → Follows X → (a : A.State) (b : B.State) (n : ℕ) → Reached X a b n → Reached X a b (suc n)
forward {A = A} {B = B} X follows a b n here =
    let s = follows.go (run A n a) (run B here.at b) here.states in
    record {
      at = suc (here.at + s.more);
      states = subst₂ X.states (sym (run_last A n a)) (joined B here.at s.more b) s.states;
    }

pub reached : {E F : Type 0} {A : System E} {B : System F} (X : Matching A B) → Follows X → (a : A.State) (b : B.State) → X.states a b → (n : ℕ) → Reached X a b n
unfolding run
reached X follows a b related zero = record { at = 0; states = related }
reached X follows a b related (suc n) = forward X follows a b n (reached X follows a b related n)

abbrev stretch_at : {E F : Type 0} {A : System E} {B : System F} (X : Matching A B) → Follows X → (a : A.State) (b : B.State) → (n : ℕ) → (here : Reached X a b n) → Stretch X (run A n a) (run B here.at b)
stretch_at {A = A} {B = B} X follows a b n here = follows.go (run A n a) (run B here.at b) here.states

traces_at : {E F : Type 0} {A : System E} {B : System F} (X : Matching A B) (follows : Follows X) → Joins X.traces → (a : A.State) (b : B.State) (related : X.states a b) (n : ℕ) → X.traces (trace A n a) (trace B ((reached X follows a b related n).at) b)
unfolding trace reached forward
traces_at X follows joins a b related zero = joins.none
traces_at {A = A} {B = B} X follows joins a b related (suc n) =
    let here = reached X follows a b related n in
    let s = stretch_at X follows a b n here in
    let both = joins.both _ _ _ _ (traces_at X follows joins a b related n) s.traces in
    subst₂ X.traces (sym (trace_last A n a)) (joined_trace B here.at s.more b) both

cost_at : {E F : Type 0} {A : System E} {B : System F} (X : Matching A B) (follows : Follows X) → (a : A.State) (b : B.State) (related : X.states a b) (n : ℕ) → spent B ((reached X follows a b related n).at) b ≤ X.factor * spent A n a
unfolding spent reached forward
cost_at X follows a b related zero = omega arith
cost_at {A = A} {B = B} X follows a b related (suc n) =
    let here = reached X follows a b related n in
    let s = stretch_at X follows a b n here in
    let before = cost_at X follows a b related n in
    let within = s.within in
    let sum = joined_cost B here.at s.more b in
    let last = spent_last A n a in
    let c = X.factor in
    let product : c * (spent A n a + A.cost (run A n a)) ≡ c * spent A n a + c * A.cost (run A n a) = omega arith in
    let whole : c * spent A (suc n) a ≡ c * (spent A n a + A.cost (run A n a)) = ap (λ k. c * k) last in
    omega arith

pub agreement : {E F : Type 0} {A : System E} {B : System F} (X : Matching A B) → Follows X → Joins X.traces → (a : A.State) (b : B.State) → X.states a b → Agreement X a b
unfolding reached forward
agreement {A = A} {B = B} X follows joins a b related =
    record {
      point = λ n. (reached X follows a b related n).at;
      first = refl;
      stretch = λ n. stretch_at X follows a b n (reached X follows a b related n);
      next = λ n. refl;
      states = λ n. (reached X follows a b related n).states;
      traces = traces_at X follows joins a b related;
      within = cost_at X follows a b related;
    }

-- ---- they rise, pass every step below, and each step lies between two of them

pub point_rises : {E F : Type 0} {A : System E} {B : System F} (X : Matching A B) (a : A.State) (b : B.State) (agrees : Agreement X a b) (n : ℕ) → agrees.point n < agrees.point (suc n)
point_rises X a b agrees n =
    let next = agrees.next n in
    omega arith

pub point_passes : {E F : Type 0} {A : System E} {B : System F} (X : Matching A B) (a : A.State) (b : B.State) (agrees : Agreement X a b) (n : ℕ) → n ≤ agrees.point n
point_passes X a b agrees zero = omega arith
point_passes X a b agrees (suc n) =
    let before = point_passes X a b agrees n in
    let rises = point_rises X a b agrees n in
    omega arith

pub between_points : {E F : Type 0} {A : System E} {B : System F} (X : Matching A B) (a : A.State) (b : B.State) (agrees : Agreement X a b) (k n : ℕ) → k < agrees.point n → (i : ℕ) × (i < n) × Between agrees.point k i
between_points X a b agrees k zero under =
    let first = agrees.first in
    absurd (omega arith)
between_points X a b agrees k (suc n) under =
    elim (cases_lt k (agrees.point n)) [
      | inl lower ↦
          let found = between_points X a b agrees k n lower in
          let less : found.0 < suc n = let h = found.1 in omega arith in
          (found.0, less, found.2)
      | inr upper ↦ (n, omega arith, record { past = upper; before = under })
    ]

-- what holds between two points, at a step of B counted from the beginning
pub moments_between : {E F : Type 0} {A : System E} {B : System F} (X : Matching A B) (a : A.State) (b : B.State) (agrees : Agreement X a b) (k n : ℕ) → Between agrees.point k n → X.moments (run A n a) (run B k b)
moments_between {A = A} {B = B} X a b agrees k n between =
    let past = between.past in
    let before = between.before in
    let next = agrees.next n in
    let from = agrees.point n in
    let j = k - from in
    let le : j ≤ (agrees.stretch n).more = omega arith in
    let e : from + j ≡ k = omega arith in
    subst (X.moments (run A n a)) (sym (run_add B from j b) ∙ ap (λ i. run B i b) e) ((agrees.stretch n).moments j le)

-- at every step of B, its moment holds for some step of A
pub moment_of : {E F : Type 0} {A : System E} {B : System F} (X : Matching A B) (a : A.State) (b : B.State) → Agreement X a b → (k : ℕ) → (n : ℕ) × (n ≤ k) × X.moments (run A n a) (run B k b)
moment_of X a b agrees k =
    let passes : k < agrees.point (suc k) = let h = point_passes X a b agrees (suc k) in omega arith in
    let found = between_points X a b agrees k (suc k) passes in
    let le : found.0 ≤ k = let h = found.1 in omega arith in
    (found.0, le, moments_between X a b agrees k found.0 found.2)

-- what each moment tells of B alone holds for ever
pub always_below : {E F : Type 0} {A : System E} {B : System F} (X : Matching A B) (holds : B.State → Type 0) → ((a : A.State) (b : B.State) → X.moments a b → holds b) → (a : A.State) (b : B.State) → Agreement X a b → Always B holds b
always_below {A = A} {B = B} X holds tells a b agrees k =
    let found = moment_of X a b agrees k in
    tells (run A found.0 a) (run B k b) found.2

-- ---- the other direction: a run below that has ended is the end of a run above

pub end_is_above : {E F : Type 0} {A : System E} {B : System F} (X : Matching A B) (a : A.State) (b : B.State) → Agreement X a b → (m : ℕ) → Halted B (run B m b) → X.states (run A m a) (run B m b)
end_is_above {A = A} {B = B} X a b agrees m halted =
    subst (X.states (run A m a)) (run_past_end B m (agrees.point m) b halted (point_passes X a b agrees m)) (agrees.states m)

pub end_trace_is_above : {E F : Type 0} {A : System E} {B : System F} (X : Matching A B) (a : A.State) (b : B.State) → Agreement X a b → (m : ℕ) → Halted B (run B m b) → X.traces (trace A m a) (trace B m b)
end_trace_is_above {A = A} {B = B} X a b agrees m halted =
    subst (X.traces (trace A m a)) (trace_past_end B m (agrees.point m) b halted (point_passes X a b agrees m)) (agrees.traces m)
