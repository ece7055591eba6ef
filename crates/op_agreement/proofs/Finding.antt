-- The closing is called, and finds the last finalization part that is due.
use Rattle.std.proofs.Common.{◌≡◌, ◌≤◌, ◌⊎◌, inl, inr, ℕ, zero, suc, ◌+◌, ◌-◌, ◌*◌, List, [], ◌∷◌, ◌++◌, length, None, refl, sym, ap, ap₂, ◌∙◌, subst, arith, replicate, slice_get}
use Rattle.std.specs.Prelude.{Bool, true, false, ◌&&◌, pos, nat_eq, nat_le, nat_lt, slice_index, if◌then◌else◌}
use Rattle.std.proofs.Math.Path.{fun_ext}
use Rattle.std.proofs.lemmas.Bool.{cases_eq}
use Rattle.std.proofs.lemmas.Bool.Decides.{nat_tests}
use Rattle.op_compute.proofs.Registers.{put_lower, put_same}
use Rattle.op_compute.specs.Straight.{Away, Behind, at, outcome, put, takes}
use Rattle.op_expand.specs.Calls.{closing_call, closing_number, finalizations, has_closing, left}
use Rattle.op_expand.specs.Closing.{closing_routine, due, due_for, find_code, finding_code, number}
use Rattle.op_expand.specs.Routines.{most_charge}
use Rattle.op_low.specs.Machine.{act, call as call_below, can_enter}
use Rattle.op_low.specs.State.{Caller, State, Running, bad, block_of, code_or, routine_of, space}
use Rattle.op_low.specs.declared.code.Routine.{Routine as LowRoutine}
use Rattle.op_low.specs.declared.ids.VirtualRegister.{VirtualRegister}
use Rattle.op_low.specs.declared.instruction.Instruction.TheVariants.{Branch, Const, Load}
use Rattle.op_low.specs.declared.instruction.Instruction.{Instruction as LowInstruction}
use Rattle.op_rt_text.specs.Names.{block_id}
use Rattle.op_rv.proofs.Memory.{with_bytes-outside}
use Rattle.op_rv.specs.State.{with_bytes}
use Rattle.op_rv.specs.declared.instruction.BranchOp.TheVariants.{Beq}
use Rattle.op_rv.specs.declared.instruction.LoadOp.TheVariants.{Lw}
use Rattle.op_agreement.proofs.DueWord.{due_addressed, due_loads}
use Rattle.op_agreement.proofs.Going.{Goes, GoesTo, goes_fewer, goes_none, goes_one, goes_straight, goes_then, goes_to, goes_within}
use Rattle.op_agreement.specs.Fitting.{IsFitting, closing_space}
use Rattle.op_agreement.specs.Settings.{Setting, due_address}
use Rattle.op_agreement.specs.Stands.{IsCounted, closing_code}

-- ---- what the code of the closing does

-- the test of one number
tests : (k n : ℕ) (f : ℕ → ℕ) → f 2 ≡ k → takes Beq (put f number n 2) (put f number n 3) ≡ nat_eq k n
unfolding takes
tests k n f is = ap₂ nat_eq (put_lower f number n 2 (omega arith) ∙ is) (put_same f number n)

abbrev test_code : (stack n : ℕ) → List LowInstruction
test_code stack n = Const number (due_for stack n) ∷ Branch Beq due number (block_id n) ∷ []

tested : (stack k n : ℕ) (f : ℕ → ℕ) (b : Bool) → f 2 ≡ stack + k → due_for stack n ≡ stack + n → nat_eq (stack + k) (stack + n) ≡ b → outcome (test_code stack n) f ≡ (if b then Away (block_id n) (put f number (due_for stack n)) else Behind (put f number (due_for stack n)))
unfolding outcome
tested stack k n f b is exact e = ap (λ t. if t then Away (block_id n) (put f number (due_for stack n)) else Behind (put f number (due_for stack n))) (tests (stack + k) (due_for stack n) f is ∙ ap (nat_eq (stack + k)) exact ∙ e)

-- registers in front of that of the number are as they were, and the code of the part stands next, or the end
pub record Found (g : Setting) (l : State) (f : ℕ → ℕ) (k most : ℕ) (from : State) : Type 0 where
  pub registers : ℕ → ℕ
  pub goes : Goes g 0 most from (at l registers (closing_code g k))
  pub left : registers 0 ≡ f 0
  pub status : registers 1 ≡ f 1

module _ (g : Setting) (few : g.stack ≤ most_charge) (l : State) (routine : l.top.routine ≡ closing_number g.core) where
  exact : (n : ℕ) → n ≤ 1024 → due_for g.stack n ≡ g.stack + n
  exact n less = omega arith

  -- the last one of so many is found at once
  find_last : (n : ℕ) (f : ℕ → ℕ) → n ≤ 1024 → f 2 ≡ g.stack + n → Found g l f n 2 (at l f (find_code g.stack n))
  find_last zero f small is = record { registers = f; goes = goes_within g 0 2 (at l f (find_code g.stack 0)) (at l f (find_code g.stack 0)) (goes_none g (at l f (find_code g.stack 0))) (omega arith); left = refl; status = refl }
  find_last (suc n) f small is =
      let h = put f number (due_for g.stack (suc n)) in
      let e : nat_eq (g.stack + suc n) (g.stack + suc n) ≡ true = grind (arith, nat_tests) in
      let away : Goes g 1 2 (at l f (test_code g.stack (suc n) ++ find_code g.stack n)) (at l h (block_of g.low l.top.routine (suc n))) = subst (GoesTo g 1 2 l (at l f (test_code g.stack (suc n) ++ find_code g.stack n)) (find_code g.stack n)) (tested g.stack (suc n) (suc n) f true is (exact (suc n) small) e) (goes_straight g l (test_code g.stack (suc n)) (find_code g.stack n) f) in
      record {
        registers = h;
        goes = goes_fewer g 1 0 (at l f (find_code g.stack (suc n))) (at l h (closing_code g (suc n))) (omega arith)
            (goes_to g 1 (at l f (find_code g.stack (suc n))) (at l h (block_of g.low l.top.routine (suc n))) (at l h (closing_code g (suc n))) (ap (λ r. at l h (block_of g.low r (suc n))) routine) away);
        left = put_lower f number (due_for g.stack (suc n)) 0 (omega arith);
        status = put_lower f number (due_for g.stack (suc n)) 1 (omega arith);
      }

  -- any other one by the tests in front of its own
  find : (n k : ℕ) (f : ℕ → ℕ) → n ≤ 1024 → k ≤ n → f 2 ≡ g.stack + k → Found g l f k (2 * n + 2) (at l f (find_code g.stack n))
  find zero k f small less is =
      let none : 0 ≡ k = omega arith in
      let last = find_last 0 f (omega arith) (is ∙ ap (λ j. g.stack + j) (sym none)) in
      record { registers = last.registers; goes = subst (λ j. Goes g 0 2 (at l f (find_code g.stack 0)) (at l last.registers (closing_code g j))) none last.goes; left = last.left; status = last.status }
  find (suc n) k f small less is = by (λ h below there. find n k h (omega arith) below there) (cases_eq k (suc n))
    where
      by : ((h : ℕ → ℕ) → k ≤ n → h 2 ≡ g.stack + k → Found g l h k (2 * n + 2) (at l h (find_code g.stack n))) → (k ≡ suc n) ⊎ (k ≡ suc n → ⊥) → Found g l f k (2 * suc n + 2) (at l f (find_code g.stack (suc n)))
      by others (inl same) =
          let last = find_last (suc n) f small (is ∙ ap (λ j. g.stack + j) same) in
          record {
            registers = last.registers;
            goes = subst (λ j. Goes g 0 (2 * suc n + 2) (at l f (find_code g.stack (suc n))) (at l last.registers (closing_code g j))) (sym same) (goes_within g 0 (2 * suc n + 2) (at l f (find_code g.stack (suc n))) (at l last.registers (closing_code g (suc n))) last.goes (omega arith));
            left = last.left;
            status = last.status;
          }
      by others (inr other) =
          let h = put f number (due_for g.stack (suc n)) in
          let e : nat_eq (g.stack + k) (g.stack + suc n) ≡ false = grind (arith, nat_tests) in
          let on : Goes g 1 2 (at l f (test_code g.stack (suc n) ++ find_code g.stack n)) (at l h (find_code g.stack n)) = subst (GoesTo g 1 2 l (at l f (test_code g.stack (suc n) ++ find_code g.stack n)) (find_code g.stack n)) (tested g.stack k (suc n) f false is (exact (suc n) small) e) (goes_straight g l (test_code g.stack (suc n)) (find_code g.stack n) f) in
          let rest = others h (omega (arith, less, other)) (put_lower f number (due_for g.stack (suc n)) 2 (omega arith) ∙ is) in
          record {
            registers = rest.registers;
            goes = goes_within g 0 (2 * suc n + 2) (at l f (find_code g.stack (suc n))) (at l rest.registers (closing_code g k)) (goes_then g 1 0 0 (at l f (find_code g.stack (suc n))) (at l h (find_code g.stack n)) (at l rest.registers (closing_code g k)) (omega arith) on rest.goes) (omega arith);
            left = rest.left ∙ put_lower f number (due_for g.stack (suc n)) 0 (omega arith);
            status = rest.status ∙ put_lower f number (due_for g.stack (suc n)) 1 (omega arith);
          }

module _ (g : Setting) (fit : IsFitting g) (closes : has_closing g.core ≡ true) (l : State) (routine : l.top.routine ≡ closing_number g.core) (above : g.bottom ≤ l.limit) where
  -- the code in front of the tests reads the word that counts them
  reads : (n most : ℕ) (f : ℕ → ℕ) → IsCounted g n l.memory → ((h : ℕ → ℕ) → h 2 ≡ g.stack + n → Found g l h n most (at l h (find_code g.stack (length (finalizations g.core))))) → Found g l f n (1 + (1 + most)) (at l f (finding_code g.core g.stack (length (finalizations g.core))))
  reads n most f counted finding =
      let code = find_code g.stack (length (finalizations g.core)) in
      let a = λ (r : ℕ). if nat_eq r 2 then due_address g else f r in
      let h = λ (r : ℕ). if nat_eq r 2 then g.stack + n else (if nat_eq r 2 then due_address g else f r) in
      let addressed = due_addressed g fit l above f due (Load Lw due due (pos 0) ∷ code) in
      let loads = due_loads g fit l above a due due code (g.stack + n) refl (counted closes) in
      let found = finding h refl in
      record {
        registers = found.registers;
        goes = goes_then g 1 0 0 (at l f (finding_code g.core g.stack (length (finalizations g.core)))) (at l a (Load Lw due due (pos 0) ∷ code)) (at l found.registers (closing_code g n)) (omega arith) addressed
            (goes_then g 1 0 0 (at l a (Load Lw due due (pos 0) ∷ code)) (at l h code) (at l found.registers (closing_code g n)) (omega arith) loads found.goes);
        left = found.left;
        status = found.status;
      }

  pub finds : (n : ℕ) (f : ℕ → ℕ) → n ≤ length (finalizations g.core) → IsCounted g n l.memory → Found g l f n (4 + 2 * length (finalizations g.core)) (at l f (finding_code g.core g.stack (length (finalizations g.core))))
  finds n f few counted =
      let found = reads n (2 * length (finalizations g.core) + 2) f counted (λ h is. find g fit.program.stack l routine (length (finalizations g.core)) n h (fit.closing closes).few few is) in
      record { registers = found.registers; goes = goes_within g 0 (4 + 2 * length (finalizations g.core)) (at l f (finding_code g.core g.stack (length (finalizations g.core)))) (at l found.registers (closing_code g n)) found.goes (omega arith); left = found.left; status = found.status }

  -- where all are due, at once
  pub finds_all : (n : ℕ) (f : ℕ → ℕ) → n ≡ length (finalizations g.core) → IsCounted g n l.memory → Found g l f n 4 (at l f (finding_code g.core g.stack (length (finalizations g.core))))
  finds_all n f all counted =
      let found = reads n 2 f counted (λ h is. subst (λ j. Found g l h j 2 (at l h (find_code g.stack (length (finalizations g.core))))) (sym all) (find_last g fit.program.stack l routine (length (finalizations g.core)) h (fit.closing closes).few (is ∙ ap (λ j. g.stack + j) all))) in
      record { registers = found.registers; goes = goes_within g 0 4 (at l f (finding_code g.core g.stack (length (finalizations g.core)))) (at l found.registers (closing_code g n)) found.goes (omega arith); left = found.left; status = found.status }

-- ---- the call

with_nothing : (memory : ℕ → ℕ) (a : ℕ) → with_bytes memory a [] ≡ memory
with_nothing memory a = fun_ext (λ x. with_bytes-outside memory a [] x (λ from to. omega arith))

-- the state in which the closing begins, with what is left of the stack and the status
abbrev pub closing_begun : Setting → State → Caller → (ℕ → ℕ) → List LowInstruction → State
closing_begun g l ended registers now = record l {
  top = record { routine = closing_number g.core; registers = registers; now = now };
  callers = ended ∷ l.callers;
  room = l.room - closing_space g;
  ending = Running;
}

abbrev pub ends_at : State → (ℕ → ℕ) → List LowInstruction → Caller
ends_at l f rest = record { activation = record l.top { registers = f; now = rest }; to = left; landing = None }

module _ (g : Setting) (fit : IsFitting g) (closes : has_closing g.core ≡ true) (l : State) (room : closing_space g ≤ l.room) where
  the_routine : routine_of g.low (closing_number g.core) ≡ closing_routine g.core g.mir g.stack
  the_routine = (fit.closing closes).routine

  may_enter : can_enter g.low g.placement (closing_number g.core) 2 l ≡ true
  may_enter =
      let exists = (fit.closing closes).exists in
      let first : nat_lt (closing_number g.core) (length g.low.routines) ≡ true = grind (arith, nat_tests) in
      let second : nat_eq 2 (routine_of g.low (closing_number g.core)).parameters ≡ true = ap (λ (r : LowRoutine). nat_eq 2 r.parameters) the_routine in
      let third : nat_le (space g.low g.placement (closing_number g.core)) l.room ≡ true = grind (arith, nat_tests) in
      all_three (nat_lt (closing_number g.core) (length g.low.routines)) (nat_eq 2 (routine_of g.low (closing_number g.core)).parameters) (nat_le (space g.low g.placement (closing_number g.core)) l.room) first second third
    where
      all_three : (a b c : Bool) → a ≡ true → b ≡ true → c ≡ true → (a && b && c) ≡ true
      all_three a b c p q r = rw (p, q, r) refl

  abbrev begun_with : (ℕ → ℕ) → (status : VirtualRegister) → List LowInstruction → LowRoutine → State
  begun_with f status rest r = record l {
    top = record { routine = closing_number g.core; registers = slice_index (f 0 ∷ f status.0 ∷ []); now = code_or (slice_get r.blocks 0) };
    callers = ends_at l f rest ∷ l.callers;
    limit = l.limit + r.locals;
    room = l.room - closing_space g;
    memory = with_bytes l.memory l.limit (replicate r.locals 0);
    ending = Running;
  }

  pub closing_enters : (f : ℕ → ℕ) (status : VirtualRegister) (rest : List LowInstruction) → Goes g 1 (3 + closing_space g) (at l f (closing_call g.core status ∷ rest)) (closing_begun g l (ends_at l f rest) (slice_index (f 0 ∷ f status.0 ∷ [])) (finding_code g.core g.stack (length (finalizations g.core))))
  unfolding act call_below
  closing_enters f status rest =
      let plain : l.limit + 0 ≡ l.limit = omega arith in
      goes_within g 1 (3 + closing_space g) (at l f (closing_call g.core status ∷ rest)) (closing_begun g l (ends_at l f rest) (slice_index (f 0 ∷ f status.0 ∷ [])) (finding_code g.core g.stack (length (finalizations g.core))))
      (goes_to g 1 (at l f (closing_call g.core status ∷ rest)) (act g.low g.placement (closing_call g.core status) (at l f rest)) (closing_begun g l (ends_at l f rest) (slice_index (f 0 ∷ f status.0 ∷ [])) (finding_code g.core g.stack (length (finalizations g.core))))
      (ap (λ b. if b then begun_with f status rest (routine_of g.low (closing_number g.core)) else bad (at l f rest)) may_enter
      ∙ ap (begun_with f status rest) the_routine
      ∙ ap₂ (λ limit memory. let x : State = record (closing_begun g l (ends_at l f rest) (slice_index (f 0 ∷ f status.0 ∷ [])) (finding_code g.core g.stack (length (finalizations g.core)))) { limit = limit; memory = memory } in x) plain (with_nothing l.memory l.limit))
      (goes_one g l f (closing_call g.core status) rest refl)) (omega arith)
