-- Runs of the emulator.
use Rattle.std.proofs.Common.{◌≡◌, ◌≢◌, ℕ, suc, ◌+◌, ◌-◌, ◌^◌, ◌<◌, ◌≤◌, if◌then◌else◌, Option, List, ◌++◌, zero, append_assoc, refl, ap, sym, ◌∙◌, subst, arith, inl, inr, subst₂}
use Rattle.op_base.proofs.Tests.{rose_since}
use Rattle.op_emu.proofs.ActsLemmas.{Acts-quiet, Acts-same, Acts-then, after-step, after-step_in_part, may_follow, ActsInPart, begins_to_write}
use Rattle.op_emu.proofs.Gliding.{Acts-glide}
use Rattle.op_emu.specs.Acts.{Moment, moment, state_of, ending_of, Streams, streams, faults, Faults, Acts, Leads, StepIs, FailsToWrite, WritesInPart, handed_bytes}
use Rattle.op_emu.specs.Registers.{value_of}
use Rattle.op_emu.specs.Runs.{moment_of, one_more, is_done, stop_of, GoesOnBefore, DoesSteps, RunIs, FailsAfter}
use Rattle.op_emu.specs.declared.hart.Hart.{Hart}
use Rattle.op_emu.specs.declared.machine.Machine.{Machine}
use Rattle.op_emu.specs.declared.stop.Stepped.{Stepped}
use Rattle.op_emu.specs.declared.stop.Stepped.TheVariants as stepped
use Rattle.op_emu.specs.declared.stop.Stop.{Stop}
use Rattle.op_rv.specs.State.{State, Ending, Running, Ended, Faulted}
use Rattle.op_rv.specs.Step.{step, step_by_ending, after}

-- a machine that has ended or faulted stays
stays : (m : ℕ) (s : State) → step s ≡ s → after m s ≡ s
unfolding after
stays zero s same = refl
stays (suc m) s same = ap (after m) same ∙ stays m s same

went_on_by : (m : ℕ) (s : State) (ending : Ending) → s.ending ≡ ending → (after m s).ending ≡ Running → s.ending ≡ Running
unfolding step step_by_ending
went_on_by m s Running is goes = is
went_on_by m s (Ended status) is goes =
    absurd (not_ended status (sym is ∙ ap (λ s. s.ending) (sym (stays m s (ap (λ ending. step_by_ending ending s) is))) ∙ goes))
  where
    not_ended : (status : ℕ) → Ended status ≡ Running → ⊥
    not_ended status e = cc
went_on_by m s (Faulted kind pc) is goes =
    absurd (not_faulted (sym is ∙ ap (λ s. s.ending) (sym (stays m s (ap (λ ending. step_by_ending ending s) is))) ∙ goes))
  where
    not_faulted : Faulted kind pc ≡ Running → ⊥
    not_faulted e = cc

-- a machine that goes on after some steps went on before each of them
went_on : (k m : ℕ) (s : State) → k ≤ m → (after m s).ending ≡ Running → (after k s).ending ≡ Running
unfolding after
went_on zero m s le goes = went_on_by m s s.ending refl goes
went_on (suc k) zero s le goes = absurd (omega arith)
went_on (suc k) (suc m) s le goes = went_on k m (step s) (omega arith) goes

-- so many steps, before each of which the machine went on
abbrev Runs : ℕ → Moment → Moment → Streams → Type 0
Runs m old new told = (acts : Acts (after m) old new told) × GoesOnBefore m acts.taken old new.hart

runs_on : (m : ℕ) (old : Moment) (hart : Hart) (told : Streams) → Acts (after m) old (moment hart Running) told → Runs m old (moment hart Running) told
runs_on m old hart told acts = (
  acts,
  λ k less x o e may. went_on k m (state_of old (acts.taken ++ x) o e) (omega arith) (ap (λ s. s.ending) (acts.leads x o e may)),
)

-- a run that goes on, and one more step
runs_then : (m : ℕ) (old : Moment) (hart : Hart) (new : Moment) (i i' i'' o o' o'' e e' e'' : Option (List ℕ)) → Acts (after m) old (moment hart Running) (streams i i' o o' e e') → Acts step (moment hart Running) new (streams i' i'' o' o'' e' e'') → Runs (suc m) old new (streams i i'' o o'' e e'')
unfolding after-step Acts-same Acts-then
runs_then m old hart new i i' i'' o o' o'' e e' e'' first next = (
  after-step m old (moment hart Running) i i' i'' o o' o'' e e' e'' new first next,
  λ k less x out err may.
      ap (λ input. (after k (state_of old input out err)).ending) (append_assoc first.taken next.taken x)
      ∙ went_on k m (state_of old (first.taken ++ (next.taken ++ x)) out err) (omega arith) (ap (λ s. s.ending) (first.leads (next.taken ++ x) out err (may_follow old.hart hart i i' i'' first.taken next.taken first.input new.hart x next.input may))),
)

does_of : (m : ℕ) (old new : Machine) (told : Streams) → Runs m (moment_of old) (moment_of new) told → new.steps ≡ old.steps + m → DoesSteps m old new told
does_of m old new told runs counted = record { acts = runs.0; goes_on = runs.1; counted = counted }

-- no step
pub does_nothing : (m : Machine) (i o e : Option (List ℕ)) → DoesSteps 0 m m (streams i i o o e e)
unfolding after
does_nothing m i o e =
    record {
      acts = Acts-quiet (after 0) (moment_of m) (moment_of m) i o e refl (λ x o e. refl);
      goes_on = λ k less x o e may. absurd (omega arith);
      counted = omega arith;
    }

moment_of-is : (m : Machine) (r : Stepped) → m.last ≡ r → moment_of m ≡ moment m.hart (ending_of r)
moment_of-is m r is = ap (λ r. moment m.hart (ending_of r)) is

-- what the outputs tell, where nothing more was written
no_output : (i i' o o' o'' e e' e'' : Option (List ℕ)) → o'' ≡ o' → e'' ≡ e' → streams i i' o o' e e' ≡ streams i i' o o'' e e''
no_output i i' o o' o'' e e' e'' output errors =
    ap (λ o'. streams i i' o o' e e') (sym output) ∙ ap (λ e'. streams i i' o o'' e e') (sym errors)

-- steps that touch no stream, within a run that goes on
pub glides : (m n : ℕ) (old mid new : Machine) (i i' o o' e e' : Option (List ℕ)) → DoesSteps m old mid (streams i i' o o' e e') → mid.last ≡ stepped.Went → new.last ≡ stepped.Went → new.steps ≡ mid.steps + n → Leads (after n) mid.hart (moment new.hart Running) → DoesSteps (m + n) old new (streams i i' o o' e e')
glides m n old mid new i i' o o' e e' does goes last counted leads =
    let from : Acts (after m) (moment_of old) (moment mid.hart Running) (streams i i' o o' e e') =
    subst (λ b. Acts (after m) (moment_of old) b (streams i i' o o' e e')) (moment_of-is mid stepped.Went goes) does.acts
    in
    does_of (m + n) old new (streams i i' o o' e e') (subst (λ b. Runs (m + n) (moment_of old) b (streams i i' o o' e e')) (sym (moment_of-is new stepped.Went last)) (runs_on (m + n) (moment_of old) new.hart _ (Acts-glide m n (moment_of old) mid.hart new.hart i i' o o' e e' from leads))) (omega (arith, does.counted))

module _ (m : ℕ) (old mid new : Machine) (i i' i'' o o' o'' e e' e'' : Option (List ℕ)) (does : DoesSteps m old mid (streams i i' o o' e e')) (goes : mid.last ≡ stepped.Went) (below : mid.steps < 2 ^ 64 - 1) where
  first : Acts (after m) (moment_of old) (moment mid.hart Running) (streams i i' o o' e e')
  first =
      subst (λ b. Acts (after m) (moment_of old) b (streams i i' o o' e e')) (moment_of-is mid stepped.Went goes) does.acts

  goes_on_by : new.last ≡ stepped.Went → new.steps ≡ one_more mid.steps → Acts step (moment mid.hart Running) (moment new.hart Running) (streams i' i'' o' o'' e' e'') → DoesSteps (suc m) old new (streams i i'' o o'' e e'')
  goes_on_by last counted next =
      does_of (suc m) old new (streams i i'' o o'' e e'') (subst (λ c. Runs (suc m) (moment_of old) c (streams i i'' o o'' e e'')) (sym (moment_of-is new stepped.Went last)) (runs_then m (moment_of old) mid.hart (moment new.hart Running) i i' i'' o o' o'' e e' e'' first next)) (omega (arith, does.counted))

  -- a step of a run that goes on
  pub goes_on : (r : Stepped) (k : ℕ) (counts : Faults) → k ≡ suc m → r ≡ stepped.Went → new.last ≡ r → new.steps ≡ (if is_done r then one_more mid.steps else mid.steps) → StepIs step r mid.hart new.hart (streams i' i'' o' o'' e' e'') counts → DoesSteps k old new (streams i i'' o o'' e e'')
  goes_on stepped.Went k counts at went last counted is =
      subst (λ k. DoesSteps k old new (streams i i'' o o'' e e'')) (sym at) (goes_on_by last counted is)
  goes_on (stepped.Ended status) k counts at went last counted is = cc
  goes_on (stepped.Fault kind pc) k counts at went last counted is = cc
  goes_on stepped.ReadFault k counts at went last counted is = cc
  goes_on stepped.WriteFault k counts at went last counted is = cc

  stops_by : (n : ℕ) (r : Stepped) (d d' d'' f f' f'' h h' h'' : ℕ) → m < n → d ≤ d' → f ≤ f' → h ≤ h' → r ≢ stepped.Went → new.last ≡ r → new.steps ≡ (if is_done r then one_more mid.steps else mid.steps) → StepIs step r mid.hart new.hart (streams i' i'' o' o'' e' e'') (faults d' d'' f' f'' h' h'') → RunIs n (stop_of r) old new (streams i i'' o o'' e e'') (faults d d'' f f'' h h'')
  stops_by n stepped.Went d d' d'' f f' f'' h h' h'' more b p q goes_not last counted is = absurd (goes_not refl)
  stops_by n (stepped.Ended k) d d' d'' f f' f'' h h' h'' more b p q goes_not last counted is = (
    suc m,
    omega arith,
    does_of (suc m) old new (streams i i'' o o'' e e'') (subst (λ c. Runs (suc m) (moment_of old) c (streams i i'' o o'' e e'')) (sym (moment_of-is new (stepped.Ended k) last)) (runs_then m (moment_of old) mid.hart (moment new.hart (Ended k)) i i' i'' o o' o'' e e' e'' first is)) (omega (arith, does.counted)),
  )
  stops_by n (stepped.Fault kind pc) d d' d'' f f' f'' h h' h'' more b p q goes_not last counted is =
      let runs : Runs (suc m) (moment_of old) (moment_of new) (streams i i'' o o'' e e'') =
      subst (λ c. Runs (suc m) (moment_of old) c (streams i i'' o o'' e e'')) (sym (moment_of-is new (stepped.Fault kind pc) last)) (runs_then m (moment_of old) mid.hart (moment new.hart (Faulted kind pc)) i i' i'' o o' o'' e e' e'' first is)
      in
      (m, more, record { acts = runs.0; goes_on = runs.1; counted = counted ∙ does.counted })
  stops_by n stepped.ReadFault d d' d'' f f' f'' h h' h'' more b p q goes_not last counted is = (
    m,
    more,
    record {
      hart = mid.hart;
      left = i';
      acts = subst (λ told. Acts (after m) (moment_of old) (moment mid.hart Running) told) (no_output i i' o o' o'' e e' e'' is.0.output is.0.errors) first;
      reads = record {
        taken = is.0.taken;
        reads = is.0.reads;
        wants = is.0.wants;
        bounded = is.0.bounded;
        input = is.0.input;
        output = refl;
        errors = refl;
      };
      counted = counted ∙ does.counted;
    },
    rose_since d d' d'' b is.1,
  )
  stops_by n stepped.WriteFault d d' d'' f f' f'' h h' h'' more b p q goes_not last counted is =
      let stands : GoesOn new.hart i'' = subst₂ GoesOn (sym is.stays) (sym is.input) (first, λ k less x out err may. went_on k m (state_of (moment_of old) (first.taken ++ x) out err) (omega arith) (ap (λ s. s.ending) (first.leads x out err may))) in (
        m,
        more,
        record {
          output = o';
          errors = e';
          acts = stands.0;
          goes_on = stands.1;
          writes = subst (λ hart. WritesInPart step hart hart (streams i'' i'' o' o'' e' e'') (faults d d'' f f'' h h'')) (sym is.stays) (record {
            writes = is.writes;
            may = is.may;
            stays = refl;
            input = refl;
            fails = fails_from is.fails;
          });
          counted = counted ∙ does.counted;
        },
      )
    where
      GoesOn : Hart → Option (List ℕ) → Type 0
      GoesOn hart input = (acts : Acts (after m) (moment_of old) (moment hart Running) (streams i input o o' e e')) × GoesOnBefore (suc m) acts.taken (moment_of old) hart

      fails_from : FailsToWrite (value_of mid.hart.registers.words 10) (handed_bytes mid.hart) (streams i' i'' o' o'' e' e'') (faults d' d'' f' f'' h' h'') → FailsToWrite (value_of mid.hart.registers.words 10) (handed_bytes mid.hart) (streams i'' i'' o' o'' e' e'') (faults d d'' f f'' h h'')
      fails_from (inl (to, front, same, rose)) = inl (to, front, same, rose_since f f' f'' p rose)
      fails_from (inr (to, front, same, rose)) = inr (to, front, same, rose_since h h' h'' q rose)

  -- the step that stops a run
  pub stops : (n : ℕ) (r : Stepped) (s : Stop) (d d' d'' f f' f'' h h' h'' : ℕ) → s ≡ stop_of r → m < n → d ≤ d' → f ≤ f' → h ≤ h' → r ≢ stepped.Went → new.last ≡ r → new.steps ≡ (if is_done r then one_more mid.steps else mid.steps) → StepIs step r mid.hart new.hart (streams i' i'' o' o'' e' e'') (faults d' d'' f' f'' h' h'') → RunIs n s old new (streams i i'' o o'' e e'') (faults d d'' f f'' h h'')
  stops n r s d d' d'' f f' f'' h h' h'' is more b p q goes_not last counted step_is =
      subst (λ s. RunIs n s old new (streams i i'' o o'' e e'') (faults d d'' f f'' h h'')) (sym is) (stops_by n r d d' d'' f f' f'' h h' h'' more b p q goes_not last counted step_is)

-- what a run did that an output cut off: it began one step more
pub begins_step : (m : ℕ) (old new : Machine) (told : Streams) (counts : Faults) → FailsAfter m old new told counts → ActsInPart (after (suc m)) (moment_of old) new.hart told
begins_step m old new told counts fails =
    let writes = begins_to_write step new.hart _ counts fails.writes in
    let whole = after-step_in_part m (moment_of old) (moment new.hart Running) told.input_before told.input_after told.input_after told.output_before fails.output told.output_after told.errors_before fails.errors told.errors_after new.hart fails.acts writes in
    record {
      taken = whole.taken;
      written = whole.written;
      reported = whole.reported;
      writes = whole.writes;
      reports = whole.reports;
      leaves = whole.leaves;
      input = whole.input;
      output = whole.output;
      errors = whole.errors;
    }
