-- Low code that goes along with managed code is never bad, from its beginning on, wherever it is placed.
use Rattle.std.proofs.Common.{◌≡◌, ◌≢◌, ◌≤◌, ◌<◌, ◌⊎◌, ℕ, ◌+◌, ◌-◌, List, refl, sym, ap, ◌∙◌, subst, arith, inl, inr}
use Rattle.std.proofs.lemmas.Bool.{cases_lt}
use Rattle.op_low.specs.Machine.{NeverBad, low_machine}
use Rattle.op_low.specs.State.{Bad, State}
use Rattle.op_mir.specs.Machine.{mir_start}
use Rattle.op_simulation.proofs.Runs.{run_add}
use Rattle.op_simulation.specs.Matching.{Agreement, Follows}
use Rattle.op_simulation.specs.System.{System, run}
use Rattle.op_agreement.proofs.Following.{agrees, fine_before, never_bad}
use Rattle.op_agreement.proofs.Starting.{starts}
use Rattle.op_agreement.specs.Claims.{lowered}
use Rattle.op_agreement.specs.Fitting.{IsFitting}
use Rattle.op_agreement.specs.Settings.{Setting}
use Rattle.op_agreement.specs.Starting.{IsLoaded, Starts, low_begins, program_in}

pub run_none : {Event : Type 0} (A : System Event) (a : A.State) → run A 0 a ≡ a
unfolding run
run_none A a = refl

module _ (g : Setting) (fit : IsFitting g) (loaded : IsLoaded g) (follows : Follows (lowered g)) (input : List ℕ) where
  started : Starts g input
  started = starts g fit loaded input

  middle : Agreement (lowered g) (mir_start (program_in g) input) started.to
  middle = agrees g follows (mir_start (program_in g) input) started.to started.stands

  abbrev low_at : ℕ → State
  low_at n = run (low_machine g.low g.placement) n (low_begins g input)

  there : low_at started.goes.steps ≡ started.to
  there = started.goes.ends

  -- not in the first steps, and not behind them
  pub low_is_good : NeverBad g.low g.placement (low_begins g input)
  low_is_good n = by (cases_lt n started.goes.steps)
    where
      by : (n < started.goes.steps) ⊎ (started.goes.steps ≤ n) → (low_at n).ending ≢ Bad
      by (inl before) = fine_before g n started.goes.steps (low_begins g input) started.to (omega arith) there (subst (λ (s : State). s.ending ≢ Bad) (run_none (low_machine g.low g.placement) started.to) (never_bad g (mir_start (program_in g) input) started.to middle 0))
      by (inr behind) =
          let e : started.goes.steps + (n - started.goes.steps) ≡ n = omega arith in
          let is : low_at n ≡ run (low_machine g.low g.placement) (n - started.goes.steps) started.to = ap low_at (sym e) ∙ run_add (low_machine g.low g.placement) started.goes.steps (n - started.goes.steps) (low_begins g input) ∙ ap (run (low_machine g.low g.placement) (n - started.goes.steps)) there in
          subst (λ (s : State). s.ending ≢ Bad) (sym is) (never_bad g (mir_start (program_in g) input) started.to middle (n - started.goes.steps))
