-- Paths: one step, one path and another, and the stretch of a simulation from a path.
use Rattle.std.proofs.Common.{◌≡◌, ℕ, zero, suc, ◌+◌, ◌-◌, ◌*◌, ◌<◌, ◌≤◌, inl, inr, List, [], ◌++◌, refl, ap, ap₂, sym, ◌∙◌, append-nil, subst, arith}
use Rattle.std.proofs.lemmas.Bool.{cases_lt}
use Rattle.op_simulation.specs.System.{System, run, trace, spent}
use Rattle.op_simulation.specs.Matching.{Matching, Stretch}
use Rattle.op_simulation.specs.Path.{Path}
use Rattle.op_simulation.proofs.Runs.{run_add, trace_add, spent_add}

pub path_none : {Event : Type 0} (B : System Event) (holds : B.State → Type 0) (b : B.State) → Path B holds b b 0 [] 0
unfolding run trace spent
path_none B holds b = record { ends = refl; shows = refl; within = omega arith; moments = λ j less. absurd (omega arith) }

only_first : {Event : Type 0} (B : System Event) (holds : B.State → Type 0) (b : B.State) → holds b → (j : ℕ) → j < 1 → holds (run B j b)
unfolding run
only_first B holds b here zero less = here
only_first B holds b here (suc j) less = absurd (omega arith)

pub path_step : {Event : Type 0} (B : System Event) (holds : B.State → Type 0) (b : B.State) → holds b → Path B holds b (B.step b) 1 (B.shows b) (B.cost b)
unfolding run trace spent
path_step B holds b here = record { ends = refl; shows = append-nil (B.shows b); within = omega arith; moments = only_first B holds b here }

-- the two ends may be given by an equation each
pub path_join : {Event : Type 0} (B : System Event) (holds : B.State → Type 0) (b c d : B.State) (m n : ℕ) (xs ys : List Event) (p q : ℕ) → Path B holds b c m xs p → Path B holds c d n ys q → Path B holds b d (m + n) (xs ++ ys) (p + q)
path_join B holds b c d m n xs ys p q first second =
    let before = first.within in
    let after = second.within in
    let cost = spent_add B m n b in
    let same : spent B n (run B m b) ≡ spent B n c = ap (spent B n) first.ends in
    record {
      ends = run_add B m n b ∙ ap (run B n) first.ends ∙ second.ends;
      shows = trace_add B m n b ∙ ap₂ (λ us vs. us ++ vs) first.shows (ap (trace B n) first.ends ∙ second.shows);
      within = omega arith;
      moments = λ j less.
          elim (cases_lt j m) [
            | inl lower ↦ first.moments j lower
            | inr upper ↦
                let rest : j - m < n = omega arith in
                let whole : m + (j - m) ≡ j = omega arith in
                let there : run B (j - m) c ≡ run B j b = ap (run B (j - m)) (sym first.ends) ∙ sym (run_add B m (j - m) b) ∙ ap (λ k. run B k b) whole in
                subst holds there (second.moments (j - m) rest)
          ];
    }

-- a step of the machine above
pub stretch_of_path : {E F : Type 0} {A : System E} {B : System F} (X : Matching A B) (a : A.State) (b c : B.State) (more : ℕ) (events : List F) (most : ℕ) → Path B (X.moments a) b c (suc more) events most → X.states (A.step a) c → X.traces (A.shows a) events → most ≤ X.factor * A.cost a → Stretch X a b
stretch_of_path {A = A} {B = B} X a b c more events most path states traces within =
    let cost = path.within in
    record {
      more = more;
      states = subst (X.states (A.step a)) (sym path.ends) states;
      traces = subst (X.traces (A.shows a)) (sym path.shows) traces;
      within = omega arith;
      moments = λ j le. path.moments j (omega arith);
    }
