-- Over code that never writes the control region or the heap, the machine does not either.
use Rattle.std.proofs.Common.{◌≡◌, ℕ, ◌+◌, ◌-◌, ◌≤◌, inl, inr, Bool, true, false, not, ◌&&◌, nat_le, nat_lt, List, refl, ap, sym, subst, ◌∙◌, arith}
use Rattle.std.proofs.lemmas.Bool.{and_from, and_parts, cases_lt}
use Rattle.std.proofs.lemmas.Bool.Decides.{nat_tests}
use Rattle.op_link.specs.Memory.{control_address, heap_address, heap_size}
use Rattle.op_link.specs.declared.memory_map.Settings.{Settings}
use Rattle.op_low.specs.Machine.{NeverBad}
use Rattle.op_rv.specs.State.{Rights, State}
use Rattle.op_select.proofs.Beginning.{begins}
use Rattle.op_select.proofs.Following.{selected_follows}
use Rattle.op_select.specs.Going.{IsSafe, IsSetting, Setting, placement_of}
use Rattle.op_select.specs.RiscvMachine.{riscv_machine}
use Rattle.op_select.specs.Selected.{selected}
use Rattle.op_select.specs.Starting.{Starts}
use Rattle.op_simulation.proofs.Composition.{joins_equal}
use Rattle.op_simulation.proofs.Points.{agreement, always_below}
use Rattle.op_simulation.proofs.Runs.{run_add}
use Rattle.op_simulation.specs.System.{run}
use Rattle.op_image.proofs.Narrowing.{narrow, run_narrowed}
use Rattle.op_image.specs.Means.{guarded, is_of_heap, low_start}

and_none : (b : Bool) → (b && false) ≡ false
and_none true = refl
and_none false = refl

module _ (w : Setting) (law : IsSetting w) (settings : Settings) (below : heap_address + heap_size settings ≤ w.bottom) where
  abbrev v : Setting
  v = guarded w settings

  abbrev may : ℕ → Bool
  may = (guarded w settings).rights.writable

  pub stack_apart : (x : ℕ) → w.bottom ≤ x → is_of_heap settings x ≡ false
  stack_apart x from =
      let control : nat_lt x (control_address + 524312) ≡ false = grind (arith, nat_tests) in
      let heap : nat_lt x (heap_address + heap_size settings) ≡ false = grind (arith, nat_tests) in
      rw control (rw heap (rw (and_none (nat_le control_address x)) (and_none (nat_le heap_address x))))

  pub guarded_law : IsSetting (guarded w settings)
  guarded_law =
      record {
        valid = law.valid;
        numbered = law.numbered;
        objects = law.objects;
        executable = law.executable;
        fixed = λ at i is x from before. ap (λ b. b && not (is_of_heap settings x)) (law.fixed at i is x from before);
        readable = law.readable;
        writable = λ x from before. and_from (w.rights.writable x) (not (is_of_heap settings x)) (law.writable x from before) (ap not (stack_apart x from));
        low_top = law.low_top;
        finds = law.finds;
      }

  module _ (memory : ℕ → ℕ) (input : List ℕ) (c : State) (starts : Starts w memory input c) (good : NeverBad v.low (placement_of v) (low_start v memory input)) where
    starts_guarded : Starts v memory input (narrow may c)
    starts_guarded =
        let s = starts.sound in
        record {
          sound = record { running = s.running; rights = ap (λ (r : Rights). record r { writable = may }) s.rights; size = s.size; bytes = s.bytes; code = s.code };
          pc = starts.pc;
          limit = starts.limit;
          sp = starts.sp;
          word = starts.word;
          memory_below = starts.memory_below;
          input_is = starts.input_is;
          input_bytes = starts.input_bytes;
          output = starts.output;
          errors = starts.errors;
          bottom_aligned = starts.bottom_aligned;
          top_aligned = starts.top_aligned;
          room = starts.room;
        }

    -- without leave to write there it never faults
    never_faults : (k : ℕ) → IsSafe (run riscv_machine k (narrow may c)).ending
    never_faults k =
        let entered = begins v guarded_law memory input (narrow may c) starts_guarded in
        let m = low_start v memory input in
        let agrees = agreement (selected v) (selected_follows v guarded_law) joins_equal m entered.after (entered.matches good) in
        let always = always_below (selected v) (λ s. IsSafe s.ending) (λ a b moment. moment) m entered.after agrees in
        elim (cases_lt k entered.steps) [
          | inl early ↦ entered.path.moments k early
          | inr late ↦
              let whole : entered.steps + (k - entered.steps) ≡ k = omega arith in
              let there : run riscv_machine k (narrow may c) ≡ run riscv_machine (k - entered.steps) entered.after =
              ap (λ n. run riscv_machine n (narrow may c)) (sym whole) ∙ run_add riscv_machine entered.steps (k - entered.steps) (narrow may c) ∙ ap (run riscv_machine (k - entered.steps)) entered.path.ends in
              subst (λ (s : State). IsSafe s.ending) (sym there) (always (k - entered.steps))
        ]

    less : (x : ℕ) → may x ≡ true → c.rights.writable x ≡ true
    less x is = subst (λ rights. rights.writable x ≡ true) (sym starts.sound.rights) (and_parts (w.rights.writable x) (not (is_of_heap settings x)) is).0

    pub heap_left : (k x : ℕ) → is_of_heap settings x ≡ true → (run riscv_machine k c).memory x ≡ c.memory x
    heap_left k x is = run_narrowed k may c less never_faults x (ap (λ b. w.rights.writable x && not b) is ∙ and_none (w.rights.writable x))
