-- A call for input is shown, so it lies where the steps of the program that look at the input do.
use Rattle.std.proofs.Common.{◌≡◌, ◌<◌, ℕ, zero, suc, Bool, true, false, ◌&&◌, nat_eq, if◌then◌else◌, [], refl, ap, ◌∙◌, subst, take, arith}
use Rattle.std.specs.List.{list_any}
use Rattle.std.specs.Prelude.{IsTrue}
use Rattle.std.proofs.lemmas.Bool.{or_left, or_right}
use Rattle.std.proofs.lemmas.List.Folds.{list_any-append}
use Rattle.op_low.specs.Machine.{Taken}
use Rattle.op_rv.specs.Decoding.{instr_at}
use Rattle.op_rv.specs.Environment.{environment_call, exit_call, filled, is_writable, read_call, write_call}
use Rattle.op_rv.specs.State.{State, faulted, register, word_at}
use Rattle.op_rv.specs.Step.{CallsRead, act, performed, running_step, step, step_by_ending}
use Rattle.op_rv.specs.declared.fault.FaultKind.TheVariants.{Call, Fetch, Store}
use Rattle.op_select.specs.Going.{IsSafe}
use Rattle.op_select.specs.RiscvMachine.{call_event, event_if, instr_shows, read_event, riscv_machine, riscv_shows, write_event}
use Rattle.op_simulation.specs.System.{System, run, trace}
use Rattle.op_agreement.specs.Steps.{is_read}

-- what a step shows is among what the run shows
pub among : {E : Type 0} (A : System E) (p : E → Bool) (j k : ℕ) (a : A.State) → j < k → IsTrue (list_any p (A.shows (run A j a))) → IsTrue (list_any p (trace A k a))
unfolding run trace
among A p j zero a less is = absurd (omega arith)
among A p zero (suc k) a less is = list_any-append p (A.shows a) (trace A k (A.step a)) ∙ or_left (list_any p (A.shows a)) (list_any p (trace A k (A.step a))) is
among A p (suc j) (suc k) a less is = list_any-append p (A.shows a) (trace A k (A.step a)) ∙ or_right (list_any p (A.shows a)) (list_any p (trace A k (A.step a))) (among A p j k (A.step a) (omega arith) is)

module _ (b : State) (calls : CallsRead b) where
  step_reads : step b ≡ read_call b
  unfolding step step_by_ending running_step performed act environment_call
  step_reads =
      ap (λ e. step_by_ending e b) calls.runs ∙ ap (λ t. if t then performed (instr_at (word_at b.memory b.pc)) b else faulted Fetch b) calls.fetched
      ∙ ap (λ i. performed i b) calls.call
      ∙ ap (λ n. if nat_eq n 63 then read_call b else (if nat_eq n 64 then write_call b else (if nat_eq n 93 then exit_call b else faulted Call b))) calls.number

  shows_read : riscv_shows b.ending b ≡ read_event b
  unfolding riscv_shows instr_shows call_event
  shows_read =
      ap (λ e. riscv_shows e b) calls.runs ∙ ap (λ t. if t then instr_shows (instr_at (word_at b.memory b.pc)) b else []) calls.fetched
      ∙ ap (λ i. instr_shows i b) calls.call
      ∙ ap (λ n. if nat_eq n 63 then read_event b else (if nat_eq n 64 then write_event b else [])) calls.number

  -- it may be done, or it is a fault
  unfaulted : (input may : Bool) → IsSafe (if input then (if may then filled (take (register b 12) b.input) b else faulted Store b) else faulted Call b).ending → IsTrue (list_any is_read (event_if (input && may) (Taken (take (register b 12) b.input))))
  unfolding IsSafe
  unfaulted true true safe = refl
  unfaulted true false safe = absurd safe
  unfaulted false may safe = absurd safe

  pub call_is_shown : IsSafe (step b).ending → IsTrue (list_any is_read (riscv_machine.shows b))
  unfolding read_call
  call_is_shown safe = ap (list_any is_read) shows_read ∙ unfaulted (nat_eq (register b 10) 0) (is_writable b) (subst (λ (s : State). IsSafe s.ending) step_reads safe)
