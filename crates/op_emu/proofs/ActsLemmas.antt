-- Steps of the code as steps of the definition.
use Rattle.std.proofs.Common.{◌≡◌, ◌≢◌, ℕ, ◌+◌, ◌%◌, ◌^◌, rules, Bool, true, false, nat_eq, if◌then◌else◌, Option, Some, None, List, [], ◌++◌, refl, ap, sym, ◌∙◌, subst, inl, inr, append_assoc, zero, suc}
use Rattle.std.proofs.lemmas.Bool.{ne_eqb}
use Rattle.std.proofs.lemmas.List.{append-nil}
use Rattle.op_base.specs.Outside.{appended, preceded, AppendsFront}
use Rattle.op_rv.specs.declared.fault.FaultKind.{FaultKind}
use Rattle.op_rv.specs.declared.fault.FaultKind.TheVariants.{Fetch, Illegal, Load, Store, Call}
use Rattle.op_rv.specs.declared.instruction.Instr.{Instr}
use Rattle.op_rv.specs.declared.instruction.Instr.TheVariants.{Ecall}
use Rattle.op_rv.specs.State.{State, Running, Ended, Faulted, register, faulted, word_at, bytes_from}
use Rattle.op_rv.specs.Decoding.{instr_at}
use Rattle.op_rv.specs.Environment.{environment_call, read_call, write_call, is_readable, is_writable, returned}
use Rattle.op_rv.specs.Step.{act, running_step, step, step_by_ending, after, performed, can_fetch}
use Rattle.op_emu.specs.declared.hart.Hart.{Hart}
use Rattle.op_emu.specs.declared.stop.Stepped.{Stepped}
use Rattle.op_emu.specs.declared.stop.Stepped.TheVariants.{Went, Fault, ReadFault, WriteFault}
use Rattle.op_emu.specs.declared.stop.Stepped.TheVariants as stepped
use Rattle.op_emu.specs.Registers.{value_of, with_value}
use Rattle.op_emu.specs.Acts.{Moment, moment, state_of, sets, Streams, Faults, MayFollow, Takes, Acts, ReadsInPart, WritesInPart, StepIs, FailsToWrite, Leads, RowIs, WriteIs, handed_bytes, streams}
use Rattle.op_emu.proofs.FillingLemmas.{bytes_append, no_bytes, nothing_preceded, preceded-append}
use Rattle.op_emu.proofs.Stretches.{appended-nil, appended-append, AppendsFront-after}

-- an output to which nothing was written
nothing_appended : (o o' : Option (List ℕ)) → o' ≡ o → o' ≡ appended o []
nothing_appended o o' is = is ∙ sym (appended-nil o)

pub nothing_in_front : (o : Option (List ℕ)) → AppendsFront o [] o
nothing_in_front o = record { front = []; rest = []; parts = refl; appends = sym (appended-nil o) }

-- no byte was taken
pub Takes-none : (old new : Hart) (i : Option (List ℕ)) → new.input_ended ≡ old.input_ended → Takes [] old new i i
Takes-none old new i same =
    record {
      parts = nothing_preceded i;
      bounded = no_bytes;
      stays_ended = λ ended. (refl, same ∙ ended);
      exhausted = λ before ended. before (sym same ∙ ended);
    }

-- a step that touches no stream
pub Acts-quiet : (f : State → State) (old new : Moment) (i o e : Option (List ℕ)) → new.hart.input_ended ≡ old.hart.input_ended → ((x o e : List ℕ) → f (state_of old x o e) ≡ state_of new x o e) → Acts f old new (streams i i o o e e)
Acts-quiet f old new i o e same leads =
    record {
      taken = [];
      written = [];
      reported = [];
      leads = λ x o e _.
          leads x o e
          ∙ ap (λ o. state_of new x o e) (sym (append-nil o))
          ∙ ap (λ e. state_of new x (o ++ []) e) (sym (append-nil e));
      input = Takes-none old.hart new.hart i same;
      output = sym (appended-nil o);
      errors = sym (appended-nil e);
    }

unfoldable pub Acts-same : (f g : State → State) (old new : Moment) (told : Streams) → ((x o e : List ℕ) → g (state_of old x o e) ≡ f (state_of old x o e)) → Acts f old new told → Acts g old new told
Acts-same f g old new told same acts =
    record {
      taken = acts.taken;
      written = acts.written;
      reported = acts.reported;
      leads = λ x o e may. same (acts.taken ++ x) o e ∙ acts.leads x o e may;
      input = acts.input;
      output = acts.output;
      errors = acts.errors;
    }

-- the call began to do this, each output got a front of what it would have got, and this is left of the input
pub record ActsInPart (f : State → State) (old : Moment) (new : Hart) (told : Streams) : Type 0 where
  pub taken : List ℕ
  pub written : List ℕ
  pub reported : List ℕ
  pub writes : (x o e : List ℕ) → MayFollow new x → (f (state_of old (taken ++ x) o e)).output ≡ o ++ written
  pub reports : (x o e : List ℕ) → MayFollow new x → (f (state_of old (taken ++ x) o e)).errors ≡ e ++ reported
  pub leaves : (x o e : List ℕ) → MayFollow new x → (f (state_of old (taken ++ x) o e)).input ≡ x
  pub input : Takes taken old.hart new told.input_before told.input_after
  pub output : AppendsFront told.output_before written told.output_after
  pub errors : AppendsFront told.errors_before reported told.errors_after

ActsInPart-same : (f g : State → State) (old : Moment) (new : Hart) (told : Streams) → ((x o e : List ℕ) → g (state_of old x o e) ≡ f (state_of old x o e)) → ActsInPart f old new told → ActsInPart g old new told
ActsInPart-same f g old new told same acts =
    record {
      taken = acts.taken;
      written = acts.written;
      reported = acts.reported;
      writes = λ x o e may. ap (λ s. s.output) (same (acts.taken ++ x) o e) ∙ acts.writes x o e may;
      reports = λ x o e may. ap (λ s. s.errors) (same (acts.taken ++ x) o e) ∙ acts.reports x o e may;
      leaves = λ x o e may. ap (λ s. s.input) (same (acts.taken ++ x) o e) ∙ acts.leaves x o e may;
      input = acts.input;
      output = acts.output;
      errors = acts.errors;
    }

ReadsInPart-same : (f g : State → State) (old : Hart) (told : Streams) → ((x o e : List ℕ) → g (state_of (moment old Running) x o e) ≡ f (state_of (moment old Running) x o e)) → ReadsInPart f old told → ReadsInPart g old told
ReadsInPart-same f g old told same acts =
    record {
      taken = acts.taken;
      reads = λ x o e. same x o e ∙ acts.reads x o e;
      wants = acts.wants;
      bounded = acts.bounded;
      input = acts.input;
      output = acts.output;
      errors = acts.errors;
    }

WritesInPart-same : (f g : State → State) (old new : Hart) (told : Streams) (counts : Faults) → ((x o e : List ℕ) → g (state_of (moment old Running) x o e) ≡ f (state_of (moment old Running) x o e)) → WritesInPart f old new told counts → WritesInPart g old new told counts
WritesInPart-same f g old new told counts same acts =
    record {
      writes = λ x o e. same x o e ∙ acts.writes x o e;
      may = acts.may;
      stays = acts.stays;
      input = acts.input;
      fails = acts.fails;
    }

-- one function of states for another that does the same here
pub StepIs-same : (f g : State → State) (r : Stepped) (old new : Hart) (told : Streams) (counts : Faults) → ((x o e : List ℕ) → g (state_of (moment old Running) x o e) ≡ f (state_of (moment old Running) x o e)) → StepIs f r old new told counts → StepIs g r old new told counts
StepIs-same f g Went old new told counts same is = Acts-same f g (moment old Running) (moment new Running) told same is
StepIs-same f g (stepped.Ended k) old new told counts same is = Acts-same f g (moment old Running) (moment new (Ended k)) told same is
StepIs-same f g (Fault kind pc) old new told counts same is = Acts-same f g (moment old Running) (moment new (Faulted kind pc)) told same is
StepIs-same f g ReadFault old new told counts same is = (ReadsInPart-same f g old told same is.0, is.1)
StepIs-same f g WriteFault old new told counts same is = WritesInPart-same f g old new told counts same is

-- a step that touches no stream
pub StepIs-row : (f : State → State) (r : Stepped) (old new : Hart) (i o e : Option (List ℕ)) (counts : Faults) → RowIs f r old new → StepIs f r old new (streams i i o o e e) counts
StepIs-row f Went old new i o e counts is = Acts-quiet f (moment old Running) (moment new Running) i o e is.input is.leads
StepIs-row f (stepped.Ended k) old new i o e counts is = Acts-quiet f (moment old Running) (moment new (Ended k)) i o e is.input is.leads
StepIs-row f (Fault kind pc) old new i o e counts is = Acts-quiet f (moment old Running) (moment new (Faulted kind pc)) i o e is.input is.leads
StepIs-row f ReadFault old new i o e counts is = absurd is
StepIs-row f WriteFault old new i o e counts is = absurd is

set_state : (old new : Hart) (rd value : ℕ) → new.registers.words ≡ with_value old.registers.words rd value → new.pc ≡ (old.pc + 4) % 2 ^ 32 → new.memory ≡ old.memory → (x o e : List ℕ) → sets rd value (state_of (moment old Running) x o e) ≡ state_of (moment new Running) x o e
set_state old new rd value words pc memory x o e = search rules

-- a register was set, and the hart went on
pub Leads-sets : (old new : Hart) (rd value : ℕ) → new.registers.words ≡ with_value old.registers.words rd value → new.pc ≡ (old.pc + 4) % 2 ^ 32 → new.memory ≡ old.memory → new.input_ended ≡ old.input_ended → Leads (sets rd value) old (moment new Running)
Leads-sets old new rd value words pc memory input =
    record { leads = λ x o e. set_state old new rd value words pc memory x o e; input = input }

-- the row of an instruction
pub StepIs-act : (i j : Instr) (r : Stepped) (old new : Hart) (x o e : Option (List ℕ)) (counts : Faults) → i ≡ j → RowIs (act j) r old new → StepIs (act i) r old new (streams x x o o e e) counts
StepIs-act i j r old new x o e counts is row =
    subst (λ i. StepIs (act i) r old new (streams x x o o e e) counts) (sym is) (StepIs-row (act j) r old new x o e counts row)

-- a fault changes nothing
pub Acts-fault : (f : State → State) (old : Hart) (kind : FaultKind) (i o e : Option (List ℕ)) → ((x o e : List ℕ) → f (state_of (moment old Running) x o e) ≡ faulted kind (state_of (moment old Running) x o e)) → Acts f (moment old Running) (moment old (Faulted kind old.pc)) (streams i i o o e e)
Acts-fault f old kind i o e leads = Acts-quiet f (moment old Running) (moment old (Faulted kind old.pc)) i o e refl leads

-- the rows of environment calls
by_false : {X : Type 0} (b : Bool) (x y : X) → b ≡ false → (if b then x else y) ≡ y
by_false b x y is = ap (λ b. if b then x else y) is

pub by_true : {X : Type 0} (b : Bool) (x y : X) → b ≡ true → (if b then x else y) ≡ x
by_true b x y is = ap (λ b. if b then x else y) is

pub environment_call-other : (s : State) → register s 17 ≢ 63 → register s 17 ≢ 64 → register s 17 ≢ 93 → environment_call s ≡ faulted Call s
unfolding environment_call
environment_call-other s no_read no_write no_exit =
    by_false _ _ _ (ne_eqb _ 63 no_read)
    ∙ (by_false _ _ _ (ne_eqb _ 64 no_write) ∙ by_false _ _ _ (ne_eqb _ 93 no_exit))

pub read_call-other : (s : State) → register s 10 ≢ 0 → read_call s ≡ faulted Call s
unfolding read_call
read_call-other s no_input = by_false _ _ _ (ne_eqb _ 0 no_input)

pub read_call-unwritable : (s : State) → register s 10 ≡ 0 → is_writable s ≡ false → read_call s ≡ faulted Store s
unfolding read_call
read_call-unwritable s is may = by_true _ _ _ (ap (λ v. nat_eq v 0) is) ∙ by_false _ _ _ may

pub write_call-other : (s : State) → register s 10 ≢ 1 → register s 10 ≢ 2 → write_call s ≡ faulted Call s
unfolding write_call
write_call-other s no_out no_err = by_false _ _ _ (ne_eqb _ 1 no_out) ∙ by_false _ _ _ (ne_eqb _ 2 no_err)

pub write_call-out : (s : State) → register s 10 ≡ 1 → is_readable s ≡ true → write_call s ≡ record (returned (register s 12) s) { output = s.output ++ bytes_from s.memory (register s 11) (register s 12) }
unfolding write_call
write_call-out s is may = by_true _ _ _ (ap (λ v. nat_eq v 1) is) ∙ by_true _ _ _ may

pub write_call-err : (s : State) → register s 10 ≡ 2 → is_readable s ≡ true → write_call s ≡ record (returned (register s 12) s) { errors = s.errors ++ bytes_from s.memory (register s 11) (register s 12) }
unfolding write_call
write_call-err s is may =
    by_false _ _ _ (ap (λ v. nat_eq v 1) is) ∙ (by_true _ _ _ (ap (λ v. nat_eq v 2) is) ∙ by_true _ _ _ may)

pub write_call-out_unreadable : (s : State) → register s 10 ≡ 1 → is_readable s ≡ false → write_call s ≡ faulted Load s
unfolding write_call
write_call-out_unreadable s is may = by_true _ _ _ (ap (λ v. nat_eq v 1) is) ∙ by_false _ _ _ may

pub write_call-err_unreadable : (s : State) → register s 10 ≡ 2 → is_readable s ≡ false → write_call s ≡ faulted Load s
unfolding write_call
write_call-err_unreadable s is may =
    by_false _ _ _ (ap (λ v. nat_eq v 1) is) ∙ (by_true _ _ _ (ap (λ v. nat_eq v 2) is) ∙ by_false _ _ _ may)

same_fault : (kind kind' : FaultKind) (pc pc' : ℕ) → kind ≡ kind' → pc ≡ pc' → Fault kind pc ≡ Fault kind' pc'
same_fault kind kind' pc pc' k p = ap (λ kind. Fault kind pc) k ∙ ap (λ pc. Fault kind' pc) p

kept : (old new : Hart) → new ≡ old → new.input_ended ≡ old.input_ended
kept old new same = ap (λ hart. hart.input_ended) same

-- a write to the output, as a step
pub StepIs-out : (r : Stepped) (old new : Hart) (i o o' e : Option (List ℕ)) (counts : Faults) → value_of old.registers.words 10 ≡ 1 → WriteIs r old new o o' counts.output_before counts.output_after → StepIs write_call r old new (streams i i o o' e e) counts
StepIs-out Went old new i o o' e counts is (may, appends, sets) =
    record {
      taken = [];
      written = handed_bytes old;
      reported = [];
      leads = λ x out err _.
          write_call-out (state_of (moment old Running) x out err) is may
          ∙ sets.leads x (out ++ handed_bytes old) err
          ∙ ap (λ err. state_of (moment new Running) x (out ++ handed_bytes old) err) (sym (append-nil err));
      input = Takes-none old new i sets.input;
      output = appends;
      errors = sym (appended-nil e);
    }
StepIs-out (stepped.Ended k) old new i o o' e counts is h = absurd h
StepIs-out (Fault kind pc) old new i o o' e counts is (may, load, at, same, told) =
    let here : StepIs write_call (Fault Load old.pc) old old (streams i i o o e e) counts =
    Acts-fault write_call old Load i o e (λ x out err. write_call-out_unreadable (state_of (moment old Running) x out err) is may)
    in
    subst (λ r. StepIs write_call r old new (streams i i o o' e e) counts) (sym (same_fault kind Load pc old.pc load at)) (subst (λ new. StepIs write_call (Fault Load old.pc) old new (streams i i o o' e e) counts) (sym same) (subst (λ o'. StepIs write_call (Fault Load old.pc) old old (streams i i o o' e e) counts) (sym told) here))
StepIs-out ReadFault old new i o o' e counts is h = absurd h
StepIs-out WriteFault old new i o o' e counts is (may, front, rose, same) = record { writes = λ x out err. refl; may = may; stays = same; input = refl; fails = inl (is, front, refl, rose) }

-- a write to the errors, as a step
pub StepIs-err : (r : Stepped) (old new : Hart) (i o e e' : Option (List ℕ)) (counts : Faults) → value_of old.registers.words 10 ≡ 2 → WriteIs r old new e e' counts.errors_before counts.errors_after → StepIs write_call r old new (streams i i o o e e') counts
StepIs-err Went old new i o e e' counts is (may, appends, sets) =
    record {
      taken = [];
      written = [];
      reported = handed_bytes old;
      leads = λ x out err _.
          write_call-err (state_of (moment old Running) x out err) is may
          ∙ sets.leads x out (err ++ handed_bytes old)
          ∙ ap (λ out. state_of (moment new Running) x out (err ++ handed_bytes old)) (sym (append-nil out));
      input = Takes-none old new i sets.input;
      output = sym (appended-nil o);
      errors = appends;
    }
StepIs-err (stepped.Ended k) old new i o e e' counts is h = absurd h
StepIs-err (Fault kind pc) old new i o e e' counts is (may, load, at, same, told) =
    let here : StepIs write_call (Fault Load old.pc) old old (streams i i o o e e) counts =
    Acts-fault write_call old Load i o e (λ x out err. write_call-err_unreadable (state_of (moment old Running) x out err) is may)
    in
    subst (λ r. StepIs write_call r old new (streams i i o o e e') counts) (sym (same_fault kind Load pc old.pc load at)) (subst (λ new. StepIs write_call (Fault Load old.pc) old new (streams i i o o e e') counts) (sym same) (subst (λ e'. StepIs write_call (Fault Load old.pc) old old (streams i i o o e e') counts) (sym told) here))
StepIs-err ReadFault old new i o e e' counts is h = absurd h
StepIs-err WriteFault old new i o e e' counts is (may, front, rose, same) = record { writes = λ x out err. refl; may = may; stays = same; input = refl; fails = inr (is, front, refl, rose) }

-- the step of a word with a row
pub running_step-row : (s : State) (i : Instr) (word : ℕ) → can_fetch s ≡ true → word ≡ word_at s.memory s.pc → instr_at word ≡ Some i → running_step s ≡ act i s
unfolding running_step performed
running_step-row s i word may at is =
    by_true _ _ _ may ∙ ap (λ row. performed row s) (ap instr_at (sym at) ∙ is)

pub running_step-illegal : (s : State) (word : ℕ) → can_fetch s ≡ true → word ≡ word_at s.memory s.pc → instr_at word ≡ None → running_step s ≡ faulted Illegal s
unfolding running_step performed
running_step-illegal s word may at is =
    by_true _ _ _ may ∙ ap (λ row. performed row s) (ap instr_at (sym at) ∙ is)

pub running_step-fetch : (s : State) → can_fetch s ≡ false → running_step s ≡ faulted Fetch s
unfolding running_step
running_step-fetch s may = by_false _ _ _ may

pub act-Ecall : (i : Instr) (s : State) → i ≡ Ecall → act i s ≡ environment_call s
unfolding act
act-Ecall i s is = ap (λ i. act i s) is

-- a step of a machine that goes on, whose definition also has those that stay
pub StepIs-running : (r : Stepped) (old new : Hart) (told : Streams) (counts : Faults) → StepIs running_step r old new told counts → StepIs step r old new told counts
unfolding step step_by_ending
StepIs-running r old new told counts is = StepIs-same running_step step r old new told counts (λ x o e. refl) is

-- what is taken by one after the other
module _ (a b : Hart) (i i' i'' : Option (List ℕ)) (taken taken' : List ℕ) (first : Takes taken a b i i') where
  pub Takes-then : (c : Hart) → Takes taken' b c i' i'' → Takes (taken ++ taken') a c i i''
  Takes-then c next =
      record {
        parts = first.parts ∙ ap (preceded taken) next.parts ∙ sym (preceded-append taken taken' i'');
        bounded = bytes_append taken taken' first.bounded next.bounded;
        stays_ended = λ ended.
            let now = first.stays_ended ended in
            let later = next.stays_ended now.1 in
            (ap (λ xs. xs ++ taken') now.0 ∙ later.0, later.1);
        exhausted = λ before. next.exhausted (first.exhausted before);
      }

  -- what may follow after both, with what the second takes, may follow after the first
  pub may_follow : (c : Hart) (x : List ℕ) → Takes taken' b c i' i'' → MayFollow c x → MayFollow b (taken' ++ x)
  may_follow c x next may = λ ended.
      let later = next.stays_ended ended in
      ap (λ xs. xs ++ x) later.0 ∙ may later.1

-- a write that fails has begun
pub begins_to_write : (f : State → State) (hart : Hart) (told : Streams) (counts : Faults) → WritesInPart f hart hart told counts → ActsInPart f (moment hart Running) hart told
begins_to_write f hart told counts w = by w.fails
  where
    nothing_read : Takes [] hart hart told.input_before told.input_after
    nothing_read = subst (λ i. Takes [] hart hart told.input_before i) (sym w.input) (Takes-none hart hart told.input_before refl)

    by : FailsToWrite (value_of hart.registers.words 10) (handed_bytes hart) told counts → ActsInPart f (moment hart Running) hart told
    by (inl (is, front, same, rose)) = record {
      taken = [];
      written = handed_bytes hart;
      reported = [];
      writes = λ x o e _. ap (λ s. s.output) (w.writes x o e ∙ write_call-out (state_of (moment hart Running) x o e) is w.may);
      reports = λ x o e _. ap (λ s. s.errors) (w.writes x o e ∙ write_call-out (state_of (moment hart Running) x o e) is w.may) ∙ sym (append-nil e);
      leaves = λ x o e _. ap (λ s. s.input) (w.writes x o e ∙ write_call-out (state_of (moment hart Running) x o e) is w.may);
      input = nothing_read;
      output = front;
      errors = subst (λ e. AppendsFront told.errors_before [] e) (sym same) (nothing_in_front told.errors_before);
    }
    by (inr (is, front, same, rose)) = record {
      taken = [];
      written = [];
      reported = handed_bytes hart;
      writes = λ x o e _. ap (λ s. s.output) (w.writes x o e ∙ write_call-err (state_of (moment hart Running) x o e) is w.may) ∙ sym (append-nil o);
      reports = λ x o e _. ap (λ s. s.errors) (w.writes x o e ∙ write_call-err (state_of (moment hart Running) x o e) is w.may);
      leaves = λ x o e _. ap (λ s. s.input) (w.writes x o e ∙ write_call-err (state_of (moment hart Running) x o e) is w.may);
      input = nothing_read;
      output = subst (λ o. AppendsFront told.output_before [] o) (sym same) (nothing_in_front told.output_before);
      errors = front;
    }

-- one after the other
module _ (f g : State → State) (a b : Moment) (i i' i'' o o' o'' e e' e'' : Option (List ℕ)) where
  unfoldable pub Acts-then : (c : Moment) → Acts f a b (streams i i' o o' e e') → Acts g b c (streams i' i'' o' o'' e' e'') → Acts (λ s. g (f s)) a c (streams i i'' o o'' e e'')
  Acts-then c first next =
      record {
        taken = first.taken ++ next.taken;
        written = first.written ++ next.written;
        reported = first.reported ++ next.reported;
        leads = λ x out err may.
            ap (λ input. g (f (state_of a input out err))) (append_assoc first.taken next.taken x)
            ∙ ap g (first.leads (next.taken ++ x) out err (may_follow a.hart b.hart i i' i'' first.taken next.taken first.input c.hart x next.input may))
            ∙ next.leads x (out ++ first.written) (err ++ first.reported) may
            ∙ ap (λ out. state_of c x out ((err ++ first.reported) ++ next.reported)) (append_assoc out first.written next.written)
            ∙ ap (state_of c x (out ++ (first.written ++ next.written))) (append_assoc err first.reported next.reported);
        input = Takes-then a.hart b.hart i i' i'' first.taken next.taken first.input c.hart next.input;
        output = next.output ∙ ap (λ o. appended o next.written) first.output ∙ sym (appended-append o first.written next.written);
        errors = next.errors ∙ ap (λ o. appended o next.reported) first.errors ∙ sym (appended-append e first.reported next.reported);
      }

  pub ActsInPart-then : (c : Hart) → Acts f a b (streams i i' o o' e e') → ActsInPart g b c (streams i' i'' o' o'' e' e'') → ActsInPart (λ s. g (f s)) a c (streams i i'' o o'' e e'')
  ActsInPart-then c first next =
      record {
        taken = first.taken ++ next.taken;
        written = first.written ++ next.written;
        reported = first.reported ++ next.reported;
        writes = λ x out err may.
            ap (λ input. (g (f (state_of a input out err))).output) (append_assoc first.taken next.taken x)
            ∙ ap (λ s. (g s).output) (first.leads (next.taken ++ x) out err (may_follow a.hart b.hart i i' i'' first.taken next.taken first.input c x next.input may))
            ∙ next.writes x (out ++ first.written) (err ++ first.reported) may
            ∙ append_assoc out first.written next.written;
        reports = λ x out err may.
            ap (λ input. (g (f (state_of a input out err))).errors) (append_assoc first.taken next.taken x)
            ∙ ap (λ s. (g s).errors) (first.leads (next.taken ++ x) out err (may_follow a.hart b.hart i i' i'' first.taken next.taken first.input c x next.input may))
            ∙ next.reports x (out ++ first.written) (err ++ first.reported) may
            ∙ append_assoc err first.reported next.reported;
        leaves = λ x out err may.
            ap (λ input. (g (f (state_of a input out err))).input) (append_assoc first.taken next.taken x)
            ∙ ap (λ s. (g s).input) (first.leads (next.taken ++ x) out err (may_follow a.hart b.hart i i' i'' first.taken next.taken first.input c x next.input may))
            ∙ next.leaves x (out ++ first.written) (err ++ first.reported) may;
        input = Takes-then a.hart b.hart i i' i'' first.taken next.taken first.input c next.input;
        output = AppendsFront-after o o' o'' first.written next.written first.output next.output;
        errors = AppendsFront-after e e' e'' first.reported next.reported first.errors next.errors;
      }

pub after-suc : (n : ℕ) (s : State) → step (after n s) ≡ after (suc n) s
unfolding after
after-suc zero s = refl
after-suc (suc n) s = after-suc n (step s)

-- a run and one more step
module _ (n : ℕ) (a b : Moment) (i i' i'' o o' o'' e e' e'' : Option (List ℕ)) where
  unfoldable pub after-step : (c : Moment) → Acts (after n) a b (streams i i' o o' e e') → Acts step b c (streams i' i'' o' o'' e' e'') → Acts (after (suc n)) a c (streams i i'' o o'' e e'')
  after-step c first next =
      Acts-same (λ s. step (after n s)) (after (suc n)) a c _ (λ x out err. sym (after-suc n (state_of a x out err))) (Acts-then (after n) step a b i i' i'' o o' o'' e e' e'' c first next)

  pub after-step_in_part : (c : Hart) → Acts (after n) a b (streams i i' o o' e e') → ActsInPart step b c (streams i' i'' o' o'' e' e'') → ActsInPart (after (suc n)) a c (streams i i'' o o'' e e'')
  after-step_in_part c first next =
      ActsInPart-same (λ s. step (after n s)) (after (suc n)) a c _ (λ x out err. sym (after-suc n (state_of a x out err))) (ActsInPart-then (after n) step a b i i' i'' o o' o'' e e' e'' c first next)
