-- From steps of low code that lead to a state that stands for the next one of managed code to the simulation.
use Rattle.std.proofs.Common.{◌≡◌, ◌≢◌, ◌≤◌, inl, inr, ◌*◌, ℕ, zero, suc, List, [], ◌∷◌, ◌++◌, refl, sym, ap, ◌∙◌, subst, arith}
use Rattle.std.specs.List.{list_any}
use Rattle.op_low.proofs.MachineLemmas.{stopped_halts}
use Rattle.op_low.specs.Machine.{low_machine}
use Rattle.op_low.specs.State.{State, Ending, Running, Ended, Bad, goes_on}
use Rattle.op_meaning.specs.Frames.{Frame, walk, destruction, construction, closing, uncharged, calling}
use Rattle.op_meaning.specs.World.{Running as GoingOn, Ended as HasEnded, Ending as EndingAbove}
use Rattle.op_mir.specs.Machine.{MirState, looks_on, mir_cost, mir_step, mir_shows}
use Rattle.op_simulation.proofs.Points.{agreement, always_below}
use Rattle.op_simulation.proofs.Runs.{run_past_end}
use Rattle.op_simulation.specs.Matching.{Agreement, Follows, Stretch}
use Rattle.op_simulation.specs.System.{run, spent, trace}
use Rattle.op_agreement.proofs.Going.{run_counted}
use Rattle.op_agreement.proofs.Streams.{Grows, joins_bytes, run_grows, same_bytes}
use Rattle.op_agreement.specs.Claims.{NeverBecomesBad, SameBytes, lowered}
use Rattle.op_agreement.specs.Settings.{Setting, managed}
use Rattle.op_agreement.specs.Stands.{AreStillDue, Stands, StandsBy, StandsFor}
use Rattle.op_agreement.specs.Steps.{counted, is_read, most_for_one}
pub use Rattle.op_agreement.specs.Steps.{Comes}

-- ---- what is equal where states stand for one another, and that low code is not bad there

-- both go on, or have ended with the same status
abbrev pub EndsAs : EndingAbove → Ending → Type 0
EndsAs GoingOn e = e ≡ Running
EndsAs (HasEnded status) e = e ≡ Ended status

pub record Same (m : MirState) (l : State) : Type 0 where
  pub output : l.output ≡ m.world.output
  pub errors : l.errors ≡ m.world.errors
  pub input : l.input ≡ m.world.input
  pub ending : EndsAs m.world.ending l.ending
  pub fine : l.ending ≢ Bad

running_fine : (e : Ending) → e ≡ Running → e ≢ Bad
running_fine e is bad = let clash : Running ≡ Bad = sym is ∙ bad in cc

ended_fine : (e : Ending) (status : ℕ) → e ≡ Ended status → e ≢ Bad
ended_fine e status is bad = let clash : Ended status ≡ Bad = sym is ∙ bad in cc

module _ (g : Setting) where
  same_by : (e : EndingAbove) (frames : List Frame) (m : MirState) (l : State) → e ≡ m.world.ending → StandsBy g e frames m l → Same m l
  same_by (HasEnded status) frames m l is s = record { output = s.output; errors = s.errors; input = s.input; ending = subst (λ e. EndsAs e l.ending) is s.ending; fine = ended_fine l.ending status s.ending }
  same_by GoingOn [] m l is s = record { output = s.stays.output; errors = s.stays.errors; input = s.stays.input; ending = subst (λ e. EndsAs e l.ending) is s.stays.running; fine = running_fine l.ending s.stays.running }
  same_by GoingOn (closing status ∷ []) m l is (inl s) = record { output = s.output; errors = s.errors; input = s.input; ending = subst (λ e. EndsAs e l.ending) is s.running; fine = running_fine l.ending s.running }
  same_by GoingOn (closing status ∷ []) m l is (inr s) =
      let running : l.ending ≡ Running = ap (λ (x : State). x.ending) s.is in
      record {
        output = ap (λ (x : State). x.output) s.is ∙ s.stays.output;
        errors = ap (λ (x : State). x.errors) s.is ∙ s.stays.errors;
        input = ap (λ (x : State). x.input) s.is ∙ s.stays.input;
        ending = subst (λ e. EndsAs e l.ending) is running;
        fine = running_fine l.ending running;
      }
  same_by GoingOn (closing status ∷ frame ∷ frames) m l is s = absurd s
  same_by GoingOn (walk places lost waits ∷ frames) m l is s = absurd s
  same_by GoingOn (destruction i started entered places waits ∷ frames) m l is s = absurd s
  same_by GoingOn (uncharged frame ∷ frames) m l is s = absurd s
  same_by GoingOn (calling callee receiver given outs ∷ frames) m l is s = absurd s
  same_by GoingOn (construction i ∷ frames) m l is s = absurd s

  pub same_states : (m : MirState) (l : State) → Stands g m l → Same m l
  same_states m l s = same_by m.world.ending m.frames m l refl s

  -- ---- the machine that counts shows the same

  pub trace_counted : (n : ℕ) (l : State) → trace (counted g) n l ≡ trace (low_machine g.low g.placement) n l
  unfolding trace
  trace_counted zero l = refl
  trace_counted (suc n) l = ap (λ xs. (low_machine g.low g.placement).shows l ++ xs) (trace_counted n ((low_machine g.low g.placement).step l))

  -- what is bad stays so
  pub fine_before : (j n : ℕ) (l k : State) → j ≤ n → run (low_machine g.low g.placement) n l ≡ k → k.ending ≢ Bad → (run (low_machine g.low g.placement) j l).ending ≢ Bad
  fine_before j n l k less ends fine bad =
      let stays = run_past_end (low_machine g.low g.placement) j n l (stopped_halts g.low g.placement (run (low_machine g.low g.placement) j l) (ap goes_on bad)) less in
      fine (ap (λ (s : State). s.ending) (sym ends ∙ stays) ∙ bad)

  stretch_by : (m : MirState) (l : State) → Stands g m l → AreStillDue g (mir_step (managed g) m) → (c : Comes g m l) → (more : ℕ) → c.goes.steps ≡ suc more → Stretch (lowered g) m l
  unfolding mir_step
  stretch_by m l s due c more steps =
      let same = same_states m l s in
      let after = same_states (mir_step (managed g) m) c.to c.stands in
      let ends : run (low_machine g.low g.placement) (suc more) l ≡ c.to = ap (λ n. run (low_machine g.low g.placement) n l) (sym steps) ∙ c.goes.ends in
      record {
        more = more;
        states = subst (StandsFor g (mir_step (managed g) m)) (sym (run_counted g (suc more) l ∙ ends)) (due, c.stands);
        traces = subst (SameBytes (mir_shows (managed g) m)) (sym (trace_counted (suc more) l))
            (same_bytes g.core (looks_on m.work m.frames) m.world (mir_step (managed g) m).world l c.to (trace (low_machine g.low g.placement) (suc more) l) same.output same.errors after.output after.errors
            (subst (λ k. Grows l k (trace (low_machine g.low g.placement) (suc more) l)) ends (run_grows g.low g.placement (suc more) l)) (ap (λ n. list_any is_read (trace (low_machine g.low g.placement) n l)) (sym steps) ∙ c.goes.unread));
        within = subst (λ n. spent (counted g) n l ≤ most_for_one * mir_cost (managed g) m) steps c.goes.within;
        moments = λ j less. subst (λ (k : State). k.ending ≢ Bad) (sym (run_counted g j l)) (fine_before j (suc more) l c.to (omega arith) ends after.fine);
      }

  stretch_some : (m : MirState) (l : State) → Stands g m l → AreStillDue g (mir_step (managed g) m) → (c : Comes g m l) → (n : ℕ) → c.goes.steps ≡ n → Stretch (lowered g) m l
  stretch_some m l s due c zero steps = let some = c.goes.enough in absurd (omega arith)
  stretch_some m l s due c (suc more) steps = stretch_by m l s due c more steps

  -- where low code comes along with each step, it follows
  pub follows_by : ((m : MirState) (l : State) → StandsFor g m l → Comes g m l × AreStillDue g (mir_step (managed g) m)) → Follows (lowered g)
  follows_by comes = record { go = λ m l s. stretch_some m l s.1 (comes m l s).1 (comes m l s).0 (comes m l s).0.goes.steps refl }

-- ---- and so for ever

pub agrees : (g : Setting) → Follows (lowered g) → (m : MirState) (l : State) → StandsFor g m l → Agreement (lowered g) m l
agrees g follows m l stands = agreement (lowered g) follows joins_bytes m l stands

pub never_bad : NeverBecomesBad
never_bad g m l agrees n =
    subst (λ (k : State). k.ending ≢ Bad) (run_counted g n l) (always_below (lowered g) (λ (k : State). k.ending ≢ Bad) (λ a b fine. fine) m l agrees n)
