-- The steps of an image are counted until it has ended.
use Rattle.std.proofs.Common.{◌≡◌, ◌≤◌, ℕ, zero, suc, ◌+◌, refl, sym, ap, ◌∙◌, arith}
use Rattle.op_rv.specs.State.{State, Ending, Running, Ended, Faulted}
use Rattle.op_rv.specs.Step.{step, step_by_ending}
use Rattle.op_select.specs.RiscvMachine.{riscv_machine, riscv_shows}
use Rattle.op_simulation.proofs.Runs.{run_last, spent_last}
use Rattle.op_simulation.specs.System.{Halted, System, run, spent}
use Rattle.op_low.specs.Machine.{Event}
use Rattle.op_correctness.proofs.Spending.{same_run, spent_none, with_cost}

-- a step costs one until the image has ended
abbrev pub while_running : Ending → ℕ
while_running Running = 1
while_running (Ended status) = 0
while_running (Faulted kind pc) = 0

abbrev pub going : State → ℕ
going b = while_running b.ending

-- the machine whose steps are counted
abbrev pub settling : System Event
settling = with_cost riscv_machine going

-- what does not go on stays
stopped_stays : (e : Ending) (b : State) → b.ending ≡ e → while_running e ≡ 0 → Halted riscv_machine b
unfolding step step_by_ending riscv_shows
stopped_stays Running b is none = absurd (omega arith)
stopped_stays (Ended status) b is none = record { stays = ap (λ e. step_by_ending e b) is; silent = ap (λ e. riscv_shows e b) is }
stopped_stays (Faulted kind pc) b is none = record { stays = ap (λ e. step_by_ending e b) is; silent = ap (λ e. riscv_shows e b) is }

pub stays : (b : State) → going b ≡ 0 → Halted riscv_machine b
stays b none = stopped_stays b.ending b refl none

-- it costs one or nothing
pub one_or_none : (e : Ending) → while_running e ≤ 1
one_or_none Running = omega arith
one_or_none (Ended status) = omega arith
one_or_none (Faulted kind pc) = omega arith

module _ (b : State) where
  -- the steps until the end, of so many
  abbrev pub counted_steps : ℕ → ℕ
  counted_steps n = spent settling n b

  last_counted : (n : ℕ) → counted_steps (suc n) ≡ counted_steps n + going (run riscv_machine n b)
  last_counted n = spent_last settling n b ∙ ap (λ x. counted_steps n + going x) (same_run riscv_machine going n b)

  -- they are no more, lead to the same state, and are as many where that goes on
  pub record Settles (n : ℕ) : Type 0 where
    pub few : counted_steps n ≤ n
    pub same : run riscv_machine (counted_steps n) b ≡ run riscv_machine n b
    pub all : going (run riscv_machine n b) ≡ 1 → counted_steps n ≡ n

  pub settles : (n : ℕ) → Settles n
  settles zero = let none = spent_none settling b in record { few = omega arith; same = ap (λ i. run riscv_machine i b) none; all = λ goes. none }
  settles (suc n) = by (going (run riscv_machine n b)) refl (one_or_none (run riscv_machine n b).ending) (settles n)
    where
      by : (k : ℕ) → going (run riscv_machine n b) ≡ k → going (run riscv_machine n b) ≤ 1 → Settles n → Settles (suc n)
      by zero is few before =
          let last = last_counted n in
          let halted = stays (run riscv_machine n b) is in
          let stayed : run riscv_machine (suc n) b ≡ run riscv_machine n b = run_last riscv_machine n b ∙ halted.stays in
          let here : counted_steps (suc n) ≡ counted_steps n = omega arith in
          let less = before.few in
          let ends : going (run riscv_machine (suc n) b) ≡ going (run riscv_machine n b) = ap going stayed in
          record { few = omega arith; same = ap (λ i. run riscv_machine i b) here ∙ before.same ∙ sym stayed; all = λ goes. absurd (omega arith) }
      by (suc zero) is few before =
          let last = last_counted n in
          let here = before.all is in
          let next : counted_steps (suc n) ≡ suc n = omega arith in
          record { few = omega arith; same = ap (λ i. run riscv_machine i b) next; all = λ goes. next }
      by (suc (suc k)) is few before = absurd (omega arith)

-- nothing is counted where nothing goes on
pub counts_nothing : (n : ℕ) (b : State) → going b ≡ 0 → spent settling n b ≡ 0
unfolding spent
counts_nothing zero b none = refl
counts_nothing (suc n) b none =
    let halted = stays b none in
    let rest : spent settling n (riscv_machine.step b) ≡ 0 = ap (spent settling n) halted.stays ∙ counts_nothing n b none in
    omega arith

-- and no more than each step
pub counts_less : (n : ℕ) (b : State) → spent settling n b ≤ spent riscv_machine n b
unfolding spent
counts_less zero b = omega arith
counts_less (suc n) b =
    let first = one_or_none b.ending in
    let rest = counts_less n (riscv_machine.step b) in
    omega arith
