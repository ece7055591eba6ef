-- Where code goes along that leaves steps out: it is never bad where the other one is not, and what lies between two points costs no more.
use Rattle.std.proofs.Common.{◌≡◌, ◌≤◌, ℕ, zero, suc, ◌+◌, ◌*◌, ◌++◌, refl, sym, ap, ap₂, ◌∙◌, arith}
use Rattle.op_low.proofs.MachineLemmas.{stopped_halts}
use Rattle.op_low.specs.Machine.{NeverBad, cost, low_machine, shows}
use Rattle.op_low.specs.State.{Bad, Ended, Ending, Running, State, goes_on}
use Rattle.op_low.specs.declared.code.Low.{Low}
use Rattle.op_optimize.specs.Shortening.{Shortens}
use Rattle.op_simulation.proofs.Runs.{run_add, run_past_end, spent_add, spent_last, trace_add, trace_last}
use Rattle.op_simulation.specs.System.{run, spent, trace}
use Rattle.op_agreement.proofs.Going.{run_counted}
use Rattle.op_agreement.specs.Settings.{Setting}
use Rattle.op_agreement.specs.Steps.{cost_going, counted}
use Rattle.op_correctness.proofs.Spending.{spent_none}

module _ (g : Setting) (better : Low) (m n : State) (short : Shortens g.low better g.placement m n) where
  -- the better code in the place of the other
  abbrev pub improved : Setting
  improved = record g { low = better }

  abbrev low_at : ℕ → State
  low_at k = run (low_machine g.low g.placement) k m

  abbrev better_at : ℕ → State
  better_at k = run (low_machine better g.placement) k n

  -- ---- the points rise

  pub points_rise : (i k : ℕ) → short.point i ≤ short.point (i + k)
  points_rise i zero = let e : i + 0 ≡ i = omega arith in let same = ap short.point e in omega arith
  points_rise i (suc k) =
      let e : i + suc k ≡ suc (i + k) = omega arith in
      let same = ap short.point e in
      let next = short.next (i + k) in
      let before = points_rise i k in
      omega arith

  -- ---- it is never bad: what is bad stays so, up to a point behind it

  pub better_is_good : NeverBad g.low g.placement m → NeverBad better g.placement n
  better_is_good good k bad =
      let passed = short.passes k in
      let stays = run_past_end (low_machine better g.placement) k (short.point passed.steps) n (stopped_halts better g.placement (better_at k) (ap goes_on bad)) passed.passed in
      good passed.steps (sym (short.alike passed.steps).ending ∙ ap (λ (s : State). s.ending) stays ∙ bad)

  -- ---- what it costs

  -- a step, or none, costs no more than the step for which it stands
  step_less : (k : ℕ) → spent (counted improved) (short.moves k) (better_at (short.point k)) ≤ cost_going g (low_at k) (low_at k).ending
  unfolding spent
  step_less k = by (short.moves k) refl (short.few k)
    where
      least : (e : Ending) → (low_at k).ending ≡ e → short.moves k ≡ 1 → cost_going improved (better_at (short.point k)) e ≤ cost_going g (low_at k) e
      least Running is one =
          let there : (better_at (short.point k)).ending ≡ Running = (short.alike k).ending ∙ is in
          let costs = short.costs k in
          let below = ap (λ e. cost better g.placement e (better_at (short.point k))) there in
          let above = ap (λ e. cost g.low g.placement e (low_at k)) is in
          let alone = ap (λ x. x * cost better g.placement (better_at (short.point k)).ending (better_at (short.point k))) one in
          omega arith
      least (Ended status) is one = omega arith
      least Bad is one = omega arith

      by : (moves : ℕ) → short.moves k ≡ moves → moves ≤ 1 → spent (counted improved) (short.moves k) (better_at (short.point k)) ≤ cost_going g (low_at k) (low_at k).ending
      by zero is few = let none = ap (λ i. spent (counted improved) i (better_at (short.point k))) is in omega arith
      by (suc zero) is few =
          let same = (short.alike k).ending in
          let alone = ap (λ i. spent (counted improved) i (better_at (short.point k))) is in
          let here = ap (cost_going improved (better_at (short.point k))) same in
          let less = least (low_at k).ending refl is in
          omega arith
      by (suc (suc more)) is few = absurd (omega arith)

  -- so many steps lie between a point and the one so many steps later, show the same and cost no more
  pub record Less (i k : ℕ) : Type 0 where
    pub more : ℕ
    pub at : short.point (i + k) ≡ short.point i + more
    pub within : spent (counted improved) more (better_at (short.point i)) ≤ spent (counted g) k (low_at i)
    pub shown : trace (low_machine better g.placement) more (better_at (short.point i)) ≡ trace (low_machine g.low g.placement) k (low_at i)

  pub costs_less : (i k : ℕ) → Less i k
  unfolding trace
  costs_less i zero =
      let e : i + 0 ≡ i = omega arith in
      let same = ap short.point e in
      let none = spent_none (counted improved) (better_at (short.point i)) in
      record { more = 0; at = omega arith; within = omega arith; shown = refl }
  costs_less i (suc k) =
      let before = costs_less i k in
      let next = short.next (i + k) in
      let at_before = before.at in
      let within = before.within in
      let e : i + suc k ≡ suc (i + k) = omega arith in
      let point_is = ap short.point e in
      let moves = short.moves (i + k) in
      let there : run (counted improved) before.more (better_at (short.point i)) ≡ better_at (short.point (i + k)) =
      run_counted improved before.more (better_at (short.point i)) ∙ sym (run_add (low_machine better g.placement) (short.point i) before.more n) ∙ ap better_at (sym at_before) in
      let split : spent (counted improved) (before.more + moves) (better_at (short.point i)) ≡ spent (counted improved) before.more (better_at (short.point i)) + spent (counted improved) moves (better_at (short.point (i + k))) =
      spent_add (counted improved) before.more moves (better_at (short.point i)) ∙ ap (λ s. spent (counted improved) before.more (better_at (short.point i)) + spent (counted improved) moves s) there in
      let last : spent (counted g) (suc k) (low_at i) ≡ spent (counted g) k (low_at i) + cost_going g (low_at (i + k)) (low_at (i + k)).ending =
      spent_last (counted g) k (low_at i) ∙ ap (λ (s : State). spent (counted g) k (low_at i) + cost_going g s s.ending) (run_counted g k (low_at i) ∙ sym (run_add (low_machine g.low g.placement) i k m)) in
      let step = step_less (i + k) in
      let arrived : run (low_machine better g.placement) before.more (better_at (short.point i)) ≡ better_at (short.point (i + k)) = sym (run_counted improved before.more (better_at (short.point i))) ∙ there in
      record {
        more = before.more + moves;
        at = omega arith;
        within = omega arith;
        shown =
            trace_add (low_machine better g.placement) before.more moves (better_at (short.point i))
            ∙ ap₂ (λ xs s. xs ++ trace (low_machine better g.placement) moves s) before.shown arrived
            ∙ ap (λ ys. trace (low_machine g.low g.placement) k (low_at i) ++ ys) (short.shown (i + k) ∙ ap (λ (s : State). shows g.placement s.ending s) (run_add (low_machine g.low g.placement) i k m))
            ∙ sym (trace_last (low_machine g.low g.placement) k (low_at i));
      }
