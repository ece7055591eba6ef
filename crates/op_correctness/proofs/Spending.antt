-- What the steps between two points of an agreement show, and what they cost, where each stretch costs no more than so much for what the step above
-- costs. The costs may be others than those of the two machines.
use Rattle.std.proofs.Common.{◌≡◌, ◌≤◌, ℕ, zero, suc, ◌+◌, ◌*◌, ◌++◌, refl, sym, ap, ◌∙◌, subst₂, arith}
use Rattle.op_simulation.proofs.Runs.{run_add, spent_add, spent_last, trace_add, trace_last}
use Rattle.op_simulation.specs.Matching.{Agreement, Joins, Matching}
use Rattle.op_simulation.specs.System.{System, run, spent, trace}

-- the same machine, of which a step costs so much
abbrev pub with_cost : {E : Type 0} (A : System E) → (A.State → ℕ) → System E
with_cost A cost = record A { cost = cost }

pub same_run : {E : Type 0} (A : System E) (cost : A.State → ℕ) (n : ℕ) (a : A.State) → run (with_cost A cost) n a ≡ run A n a
unfolding run
same_run A cost zero a = refl
same_run A cost (suc n) a = same_run A cost n (A.step a)

pub spent_none : {E : Type 0} (A : System E) (a : A.State) → spent A 0 a ≡ 0
unfolding spent
spent_none A a = refl

-- so many steps below lie between the point n and the point k steps later
pub record Between {E F : Type 0} {A : System E} {B : System F} (X : Matching A B) (a : A.State) (b : B.State) (agrees : Agreement X a b) (above : A.State → ℕ) (below : B.State → ℕ) (factor n k : ℕ) : Type 0 where
  pub more : ℕ
  pub at : agrees.point (n + k) ≡ agrees.point n + more
  pub within : spent (with_cost B below) more (run B (agrees.point n) b) ≤ factor * spent (with_cost A above) k (run A n a)
  pub shown : X.traces (trace A k (run A n a)) (trace B more (run B (agrees.point n) b))

-- what each stretch costs
abbrev pub EachCosts : {E F : Type 0} {A : System E} {B : System F} (X : Matching A B) (a : A.State) (b : B.State) → Agreement X a b → (A.State → ℕ) → (B.State → ℕ) → ℕ → Type 0
EachCosts {A = A} {B = B} X a b agrees above below factor = (n : ℕ) → spent (with_cost B below) (suc (agrees.stretch n).more) (run B (agrees.point n) b) ≤ factor * above (run A n a)

sums : (first second factor a b all whole : ℕ) → first ≤ factor * a → second ≤ factor * b → all ≡ first + second → whole ≡ a + b → all ≤ factor * whole
sums first second factor a b all whole one other sum total =
    let product : factor * (a + b) ≡ factor * a + factor * b = omega arith in
    let same : factor * whole ≡ factor * (a + b) = ap (λ x. factor * x) total in
    omega arith

pub between : {E F : Type 0} {A : System E} {B : System F} (X : Matching A B) → Joins X.traces → (a : A.State) (b : B.State) (agrees : Agreement X a b) (above : A.State → ℕ) (below : B.State → ℕ) (factor : ℕ) → EachCosts X a b agrees above below factor → (n k : ℕ) → Between X a b agrees above below factor n k
unfolding trace
between {A = A} {B = B} X joins a b agrees above below factor each n zero =
    let e : n + 0 ≡ n = omega arith in
    let same = ap agrees.point e in
    let none = spent_none (with_cost B below) (run B (agrees.point n) b) in
    record { more = 0; at = omega arith; within = omega arith; shown = joins.none }
between {A = A} {B = B} X joins a b agrees above below factor each n (suc k) =
    let before = between X joins a b agrees above below factor each n k in
    let s = agrees.stretch (n + k) in
    let C = with_cost B below in
    let D = with_cost A above in
    let next = agrees.next (n + k) in
    let at_before = before.at in
    let e : n + suc k ≡ suc (n + k) = omega arith in
    let point_is = ap agrees.point e in
    let from = run B (agrees.point n) b in
    let there : run C before.more from ≡ run B (agrees.point (n + k)) b = same_run B below before.more from ∙ sym (run_add B (agrees.point n) before.more b) ∙ ap (λ i. run B i b) (sym at_before) in
    let split : spent C (before.more + suc s.more) from ≡ spent C before.more from + spent C (suc s.more) (run B (agrees.point (n + k)) b) = spent_add C before.more (suc s.more) from ∙ ap (λ x. spent C before.more from + spent C (suc s.more) x) there in
    let last : spent D (suc k) (run A n a) ≡ spent D k (run A n a) + above (run A (n + k) a) = spent_last D k (run A n a) ∙ ap (λ x. spent D k (run A n a) + above x) (same_run A above k (run A n a) ∙ sym (run_add A n k a)) in
    let above_is : trace A (suc k) (run A n a) ≡ trace A k (run A n a) ++ A.shows (run A (n + k) a) = trace_last A k (run A n a) ∙ ap (λ x. trace A k (run A n a) ++ A.shows x) (sym (run_add A n k a)) in
    let below_is : trace B (before.more + suc s.more) from ≡ trace B before.more from ++ trace B (suc s.more) (run B (agrees.point (n + k)) b) = trace_add B before.more (suc s.more) from ∙ ap (λ x. trace B before.more from ++ trace B (suc s.more) x) (sym (same_run B below before.more from) ∙ there) in
    record {
      more = before.more + suc s.more;
      at = omega arith;
      shown = subst₂ X.traces (sym above_is) (sym below_is) (joins.both (trace A k (run A n a)) (A.shows (run A (n + k) a)) (trace B before.more from) (trace B (suc s.more) (run B (agrees.point (n + k)) b)) before.shown s.traces);
      within = sums (spent C before.more from) (spent C (suc s.more) (run B (agrees.point (n + k)) b)) factor (spent D k (run A n a)) (above (run A (n + k) a)) (spent C (before.more + suc s.more) from) (spent D (suc k) (run A n a)) before.within (each (n + k)) split last;
    }
