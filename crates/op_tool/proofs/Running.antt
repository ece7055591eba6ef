-- The run of an image, and what each of its answers owes.
use Rattle.std.proofs.Common.{◌≡◌, ℕ, suc, ◌+◌, ◌-◌, ◌^◌, ◌<◌, ◌≤◌, ◌⊎◌, inl, inr, false, Option, Some, None, List, [], ◌++◌, codes, length, refl, ap, sym, ◌∙◌, subst, arith, append_assoc}
use Rattle.std.proofs.lemmas.Bool.{both_ways}
use Rattle.std.proofs.lemmas.List.{append-nil}
use Rattle.op_base.specs.Outside.{preceded}
use Rattle.op_correctness.proofs.Grows.{grows_from}
use Rattle.op_emu.proofs.FillingLemmas.{bytes_append}
use Rattle.op_emu.proofs.Gliding.{after-add}
use Rattle.op_emu.proofs.RunsLemmas.{begins_step}
use Rattle.op_emu.specs.Acts.{Acts, MayFollow, Streams, Faults, Takes, streams, faults, state_of, moment, ending_of, FailsToWrite, OutputFailed, WritesInPart, handed_bytes}
use Rattle.op_emu.specs.Registers.{value_of}
use Rattle.op_emu.specs.Runs.{moment_of, stop_of, DoesSteps, RunIs, IsLoaded}
use Rattle.op_emu.specs.declared.hart.Hart.{Hart}
use Rattle.op_emu.specs.declared.machine.Machine.{Machine}
use Rattle.op_emu.specs.declared.stop.Stepped.{Stepped}
use Rattle.op_emu.specs.declared.stop.Stepped.TheVariants as stepped
use Rattle.op_emu.specs.declared.stop.Stop.TheVariants as stop
use Rattle.op_link.specs.Image.{first_failing, start}
use Rattle.op_rv.specs.Environment.{is_writable}
use Rattle.op_rv.specs.State.{State, Ending, Running, register}
use Rattle.op_rv.specs.State as state
use Rattle.op_rv.specs.Step.{step, after, CallsRead}
use Rattle.op_rv.specs.declared.fault.FaultKind.{FaultKind}
use Rattle.op_tool.proofs.Calling.{wants_calls}
use Rattle.op_tool.proofs.Saying.{front_of_front, reporting, says_behind}
use Rattle.op_tool.specs.Effects.{Effect, effect, Intake, ReportIs, Says, WritesAll, line}
use Rattle.op_tool.specs.ImageRun.{ComesTo, OwesImage, fault_line}
use Rattle.op_tool.specs.declared.finish.Finish.{Finish}
use Rattle.op_tool.specs.declared.finish.Finish.TheVariants as finish

pub ended_last : (last : Stepped) (status : ℕ) → stop.Ended status ≡ stop_of last → last ≡ stepped.Ended status
ended_last stepped.Went status e = cc
ended_last (stepped.Ended k) status e = cc
ended_last (stepped.Fault kind pc) status e = cc
ended_last stepped.ReadFault status e = cc
ended_last stepped.WriteFault status e = cc

pub went_last : (last : Stepped) → stop.Spent ≡ stop_of last → last ≡ stepped.Went
went_last stepped.Went e = refl
went_last (stepped.Ended k) e = cc
went_last (stepped.Fault kind pc) e = cc
went_last stepped.ReadFault e = cc
went_last stepped.WriteFault e = cc

pub faulted_last : (last : Stepped) (kind : FaultKind) (pc : ℕ) → stop.Fault kind pc ≡ stop_of last → last ≡ stepped.Fault kind pc
faulted_last stepped.Went kind pc e = cc
faulted_last (stepped.Ended k) kind pc e = cc
faulted_last (stepped.Fault other at) kind pc e = cc
faulted_last stepped.ReadFault kind pc e = cc
faulted_last stepped.WriteFault kind pc e = cc

preceded_twice : (first more : List ℕ) (i : Option (List ℕ)) → preceded first (preceded more i) ≡ preceded (first ++ more) i
preceded_twice first more None = refl
preceded_twice first more (Some rest) = ap Some (sym (append_assoc first more rest))

-- one of the outputs failed
write_failed : (hart : Hart) (told : Streams) (counts : Faults) → WritesInPart step hart hart told counts → OutputFailed counts
write_failed hart told counts w = by w.fails
  where
    by : FailsToWrite (value_of hart.registers.words 10) (handed_bytes hart) told counts → OutputFailed counts
    by (inl (is, front, same, rose)) = inl rose
    by (inr (is, front, same, rose)) = inr rose

-- how a call answers over an image that stands so after the last step that was allowed, and its last line
abbrev pub answer_at : Ending → Finish
answer_at Running = finish.Spent
answer_at (state.Ended status) = finish.Ended status
answer_at (state.Faulted kind pc) = finish.Faulted kind pc

abbrev pub last_line : Ending → List ℕ
last_line Running = line (codes "opc: step limit reached")
last_line (state.Ended status) = []
last_line (state.Faulted kind pc) = fault_line kind pc

abbrev pub effect_at : ℕ → List ℕ → State → List ℕ → Effect
effect_at steps input s last = effect steps input s.input s.output (s.errors ++ last)

pub owes_at : (image : List ℕ) (most before now : ℕ) (steps : ℕ) (input : List ℕ) (ending : Ending) → first_failing image ≡ None → steps ≡ most → (after steps (start image input)).ending ≡ ending → OwesImage image most before now (answer_at ending) (effect_at steps input (after steps (start image input)) (last_line ending))
owes_at image most before now steps input Running meets limit is = (limit, (meets, (is, refl, (refl, refl))))
owes_at image most before now steps input (state.Ended status) meets limit is = (omega arith, (meets, (is, refl, (refl, refl))))
owes_at image most before now steps input (state.Faulted kind pc) meets limit is = (omega arith, (meets, (is, refl, (refl, refl))))

module _ (image : List ℕ) (most : ℕ) (old : Machine) (loaded : IsLoaded image old) where
  begins : (input : List ℕ) → state_of (moment_of old) input [] [] ≡ start image input
  begins input = ap (λ last. state_of (moment old.hart (ending_of last)) input [] []) loaded.fresh ∙ loaded.begins.begins input

  intake_of : (taken : List ℕ) (hart : Hart) (told : Streams) → Takes taken old.hart hart told.input_before told.input_after → Intake told
  intake_of taken hart told takes =
      record {
        taken = taken;
        ended = hart.input_ended;
        bounded = takes.bounded;
        parts = takes.parts;
        exhausted = takes.exhausted (λ ended. absurd (both_ways old.hart.input_ended loaded.begins.asks ended));
      }

  -- the state of the image, whatever is left of its input
  state_at : (m : ℕ) (hart : Hart) (ending : Ending) (told : Streams) (acts : Acts (after m) (moment_of old) (moment hart ending) told) (left : List ℕ) → MayFollow hart left → after m (start image (acts.taken ++ left)) ≡ state_of (moment hart ending) left acts.written acts.reported
  state_at m hart ending told acts left may = ap (after m) (sym (begins (acts.taken ++ left))) ∙ acts.leads left [] [] may

  -- what the image has come to and written, before a last line
  comes_to : (m : ℕ) (hart : Hart) (ending : Ending) (told : Streams) (acts : Acts (after m) (moment_of old) (moment hart ending) told) (last left : List ℕ) → MayFollow hart left → ComesTo image ending last (effect m (acts.taken ++ left) left acts.written (acts.reported ++ last))
  comes_to m hart ending told acts last left may =
      let at = state_at m hart ending told acts left may in (
        loaded.meets,
        (ap (λ s. s.ending) at, sym (ap (λ s. s.input) at), (sym (ap (λ s. s.output) at), sym (ap (λ s. s.errors ++ last) at))),
      )

  writes_all : (owed : Effect → Type 0) (m : ℕ) (hart : Hart) (ending : Ending) (told : Streams) (acts : Acts (after m) (moment_of old) (moment hart ending) told) → ((left : List ℕ) → MayFollow hart left → owed (effect m (acts.taken ++ left) left acts.written acts.reported)) → WritesAll owed told
  unfolding intake_of
  writes_all owed m hart ending told acts owes =
      record {
        intake = intake_of acts.taken hart told acts.input;
        steps = m;
        out = acts.written;
        err = acts.reported;
        is_owed = λ left may. owes left may.1;
        output = acts.output;
        errors = acts.errors;
      }

  pub run_ended : (status : ℕ) (new : Machine) (told : Streams) (counts : Faults) → stop.Ended status ≡ stop_of new.last → RunIs most (stop.Ended status) old new told counts → Says (OwesImage image most counts.input_before counts.input_after) (finish.Ended status) told counts
  unfolding Says
  run_ended status new told counts stands (m, le, does) =
      let acts = subst (λ e. Acts (after m) (moment_of old) (moment new.hart e) told) (ap ending_of (ended_last new.last status stands)) does.acts in
      writes_all (OwesImage image most counts.input_before counts.input_after (finish.Ended status)) m new.hart (state.Ended status) told acts (λ left may. (
        le,
        subst (λ err. ComesTo image (state.Ended status) [] (effect m (acts.taken ++ left) left acts.written err)) (append-nil acts.reported) (comes_to m new.hart (state.Ended status) told acts [] left may),
      ))

  all_steps : most < 2 ^ 64 → (m : ℕ) (new : Machine) (told : Streams) → DoesSteps m old new told → ((m ≡ most) ⊎ (m ≤ most) × (new.steps ≡ 2 ^ 64 - 1)) → m ≡ most
  all_steps small m new told does (inl all) = all
  all_steps small m new told does (inr (le, full)) =
      let counted = does.counted in
      let fresh = loaded.uncounted in
      omega arith

  pub run_spent : most < 2 ^ 64 → (new : Machine) (answer : Finish) (i i' o o' e e' e'' : Option (List ℕ)) (r r' n n' c c' c'' : ℕ) → stop.Spent ≡ stop_of new.last → c ≤ c' → RunIs most stop.Spent old new (streams i i' o o' e e') (faults r r' n n' c c') → ReportIs finish.Spent (line (codes "opc: step limit reached")) answer e' e'' c' c'' → Says (OwesImage image most r r') answer (streams i i' o o' e e'') (faults r r' n n' c c'')
  run_spent small new answer i i' o o' e e' e'' r r' n n' c c' c'' stands le (m, does, why) is =
      let told = streams i i' o o' e e' in
      let acts = subst (λ e. Acts (after m) (moment_of old) (moment new.hart e) told) (ap ending_of (went_last new.last stands)) does.acts in
      let all = all_steps small m new told does why in
      let last = line (codes "opc: step limit reached") in
      says_behind (OwesImage image most r r') finish.Spent answer last i i' o o' e e' e'' r r' n n' c c' c'' (λ same. cc) le (writes_all (λ done. OwesImage image most r r' finish.Spent (reporting last done)) m new.hart Running told acts (λ left may. (all, comes_to m new.hart Running told acts last left may))) is

  pub run_faulted : (kind : FaultKind) (pc : ℕ) (new : Machine) (answer : Finish) (i i' o o' e e' e'' : Option (List ℕ)) (r r' n n' c c' c'' : ℕ) → stop.Fault kind pc ≡ stop_of new.last → c ≤ c' → RunIs most (stop.Fault kind pc) old new (streams i i' o o' e e') (faults r r' n n' c c') → ReportIs (finish.Faulted kind pc) (fault_line kind pc) answer e' e'' c' c'' → Says (OwesImage image most r r') answer (streams i i' o o' e e'') (faults r r' n n' c c'')
  run_faulted kind pc new answer i i' o o' e e' e'' r r' n n' c c' c'' stands le (m, lt, does) is =
      let told = streams i i' o o' e e' in
      let acts = subst (λ e. Acts (after (suc m)) (moment_of old) (moment new.hart e) told) (ap ending_of (faulted_last new.last kind pc stands)) does.acts in
      let last = fault_line kind pc in
      says_behind (OwesImage image most r r') (finish.Faulted kind pc) answer last i i' o o' e e' e'' r r' n n' c c' c'' (λ same. cc) le (writes_all (λ done. OwesImage image most r r' (finish.Faulted kind pc) (reporting last done)) (suc m) new.hart (state.Faulted kind pc) told acts (λ left may. (omega arith, comes_to (suc m) new.hart (state.Faulted kind pc) told acts last left may))) is

  pub run_not_read : (new : Machine) (answer : Finish) (i i' o o' e e' e'' : Option (List ℕ)) (r r' n n' c c' c'' : ℕ) → c ≤ c' → RunIs most stop.ReadFault old new (streams i i' o o' e e') (faults r r' n n' c c') → ReportIs finish.ReadFault (line (codes "opc: read fault")) answer e' e'' c' c'' → Says (OwesImage image most r r') answer (streams i i' o o' e e'') (faults r r' n n' c c'')
  run_not_read new answer i i' o o' e e' e'' r r' n n' c c' c'' le (m, lt, does, failed) is =
      let acts = does.acts in
      let reads = does.reads in
      let last = line (codes "opc: read fault") in
      let all = acts.taken ++ reads.taken in
      let at : (left : List ℕ) → after m (start image (all ++ left)) ≡ state_of (moment does.hart Running) (reads.taken ++ left) acts.written acts.reported =
      λ left. ap (λ bytes. after m (start image bytes)) (append_assoc acts.taken reads.taken left) ∙ state_at m does.hart Running _ acts (reads.taken ++ left) (λ ended. absurd (both_ways does.hart.input_ended reads.wants.asks ended))
      in
      says_behind (OwesImage image most r r') finish.ReadFault answer last i i' o o' e e' e'' r r' n n' c c' c'' (λ same. cc) le (record {
        intake = record {
          taken = all;
          ended = false;
          bounded = bytes_append acts.taken reads.taken acts.input.bounded reads.bounded;
          parts = acts.input.parts ∙ ap (preceded acts.taken) reads.input ∙ preceded_twice acts.taken reads.taken i';
          exhausted = λ ended. cc;
        };
        steps = m;
        out = acts.written;
        err = acts.reported;
        is_owed = λ left may. (
          failed,
          lt,
          loaded.meets,
          all,
          refl,
          λ rest bytes. (
            record {
              calls = subst CallsRead (sym (at rest)) (wants_calls does.hart _ reads (reads.taken ++ rest) acts.written acts.reported);
              from_input = ap (λ s. register s 10) (at rest) ∙ reads.wants.from_input;
              may = ap is_writable (at rest) ∙ reads.wants.may;
              taken = reads.taken;
              parts = ap (λ s. s.input) (at rest);
              more = subst (λ s. length reads.taken < register s 12) (sym (at rest)) reads.wants.more;
            },
            (sym (ap (λ s. s.output) (at rest)), sym (ap (λ s. s.errors ++ last) (at rest))),
          ),
        );
        output = acts.output;
        errors = acts.errors;
      }) is

  -- an output that failed cut off one step
  pub run_failed : (new : Machine) (told : Streams) (counts : Faults) → RunIs most stop.WriteFault old new told counts → Says (OwesImage image most counts.input_before counts.input_after) finish.WriteFault told counts
  unfolding Says intake_of
  run_failed new told counts (m, lt, does) =
      let acts = begins_step m old new told counts does in
      record {
        intake = intake_of acts.taken new.hart told acts.input;
        would = λ left may. (
            let input = acts.taken ++ left in
            let s = start image input in
            let last = after most s in
            let grows = grows_from (suc m) most s (omega arith) in
            let begun = ap (after (suc m)) (sym (begins input)) in
            let out : last.output ≡ acts.written ++ grows.written =
            grows.output ∙ ap (λ xs. xs ++ grows.written) (ap (λ t. t.output) begun ∙ acts.writes left [] [] may.1)
            in
            let err : last.errors ++ last_line last.ending ≡ acts.reported ++ (grows.reported ++ last_line last.ending) =
            ap (λ xs. xs ++ last_line last.ending) (grows.errors ∙ ap (λ xs. xs ++ grows.reported) (ap (λ t. t.errors) begun ∙ acts.reports left [] [] may.1)) ∙ append_assoc acts.reported grows.reported (last_line last.ending)
            in
            record {
              finish = answer_at last.ending;
              done = effect_at most input last (last_line last.ending);
              is_owed = owes_at image most counts.input_before counts.input_after most input last.ending loaded.meets refl refl;
              over = refl;
              more = grows.taken;
              leaves = sym (ap (λ t. t.input) begun ∙ acts.leaves left [] [] may.1) ∙ grows.input;
              output = front_of_front told.output_before told.output_after acts.written grows.written last.output out acts.output;
              errors = front_of_front told.errors_before told.errors_after acts.reported (grows.reported ++ last_line last.ending) (last.errors ++ last_line last.ending) err acts.errors;
            }
            );
        failed = write_failed new.hart _ counts does.writes;
      }
