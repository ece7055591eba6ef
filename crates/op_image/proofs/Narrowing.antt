-- A run that needs no leave to write some bytes is the same with it, and leaves them as they are.
use Rattle.std.proofs.Common.{◌≡◌, ℕ, zero, suc, ◌+◌, ◌%◌, ◌<◌, ◌≤◌, inl, inr, Bool, true, false, cond, nat_eq, Option, Some, None, List, ◌++◌, length, take, refl, sym, subst, ◌∙◌, arith, length-take}
use Rattle.std.proofs.lemmas.Bool.{and_from, and_parts, cases_lt, cond-true}
use Rattle.std.specs.Int.{bytes_low_first}
use Rattle.op_rv.proofs.Memory.{all_of, with_bytes-outside}
use Rattle.op_rv.specs.Decoding.{instr_at}
use Rattle.op_rv.specs.Environment.{environment_call, exit_call, filled, is_readable, is_writable, read_call, returned, write_call}
use Rattle.op_rv.specs.Operation.{branch_taken}
use Rattle.op_rv.specs.State.{Ended, Ending, Faulted, Running, State, advanced, all_from, bytes_from, faulted, register, with_bytes, with_register, word_at}
use Rattle.op_rv.specs.Step.{act, can_access, can_fetch, load, load_size_of, load_value, offset_from, performed, running_step, step, step_by_ending, store, store_size_of}
use Rattle.op_rv.specs.declared.fault.FaultKind.TheVariants.{Call, Fetch, Illegal}
use Rattle.op_rv.specs.declared.fault.FaultKind.TheVariants.{Load as LoadFault, Store as StoreFault}
use Rattle.op_rv.specs.declared.instruction.Instr.{Instr}
use Rattle.op_rv.specs.declared.instruction.Instr.TheVariants.{Alu, Auipc, Branch, Ebreak, Ecall, Fence, Imm, Jal, Jalr, Load, Lui, Shift, Store}
use Rattle.op_rv.specs.declared.instruction.StoreOp.{StoreOp}
use Rattle.op_rv.specs.declared.instruction.StoreOp.TheVariants.{Sb, Sh, Sw}
use Rattle.op_select.specs.Going.{IsSafe}
use Rattle.op_select.specs.RiscvMachine.{riscv_machine}
use Rattle.op_simulation.specs.System.{run}

-- all of these bytes have the right
pub each_from : (right : ℕ → Bool) (a n : ℕ) → all_from right a n ≡ true → (x : ℕ) → a ≤ x → x < a + n → right x ≡ true
unfolding all_from
each_from right a zero all x from before = absurd (omega arith)
each_from right a (suc n) all x from before =
    let parts = and_parts (right a) (all_from right (a + 1) n) all in
    elim (cases_lt a x) [
      | inl later ↦ each_from right (a + 1) n parts.1 x (omega arith) (omega arith)
      | inr here ↦ let same : a ≡ x = omega arith in subst (λ y. right y ≡ true) same parts.0
    ]

-- the state, where only these bytes may be written
abbrev pub narrow : (may : ℕ → Bool) → State → State
narrow may s = record s { rights = record s.rights { writable = may } }

-- a step of the narrow state is one of the state, and what may not be written is as it was
pub record Narrowed (may : ℕ → Bool) (s narrowed full : State) : Type 0 where
  pub same : narrowed ≡ narrow may full
  pub rights : full.rights ≡ s.rights
  pub kept : (x : ℕ) → may x ≡ false → full.memory x ≡ s.memory x

module _ (may : ℕ → Bool) (s : State) (less : (x : ℕ) → may x ≡ true → s.rights.writable x ≡ true) where
  abbrev n : State
  n = narrow may s

  by_test : (b : Bool) (then_narrow else_narrow then_full else_full : State) → (b ≡ true → Narrowed may s then_narrow then_full) → (b ≡ false → Narrowed may s else_narrow else_full) → Narrowed may s (cond b then_narrow else_narrow) (cond b then_full else_full)
  by_test true then_narrow else_narrow then_full else_full holds fails = holds refl
  by_test false then_narrow else_narrow then_full else_full holds fails = fails refl

  -- what touches neither rights nor memory
  plainly : (full : State) → full.rights ≡ s.rights → ((x : ℕ) → full.memory x ≡ s.memory x) → Narrowed may s (narrow may full) full
  plainly full rights memory = record { same = refl; rights = rights; kept = λ x none. memory x }

  -- a byte that may not be written is none of those that may
  apart_from : (a size x : ℕ) → all_from may a size ≡ true → may x ≡ false → a ≤ x → x < a + size → ⊥
  apart_from a size x all none from before = let some : true ≡ false = sym (each_from may a size all x from before) ∙ none in absurd cc

  all_wide : (a size : ℕ) → all_from may a size ≡ true → all_from s.rights.writable a size ≡ true
  all_wide a size all = all_of s.rights.writable a size (λ x from before. less x (each_from may a size all x from before))

  unsafe : (to : State) → IsSafe (faulted StoreFault to).ending → ⊥
  unfolding IsSafe
  unsafe to safe = safe

  stored_size : (op : StoreOp) (v : ℕ) → length (bytes_low_first 0 (store_size_of op) v) ≡ store_size_of op
  stored_size Sb v = refl
  stored_size Sh v = refl
  stored_size Sw v = refl

  store_narrowed : (op : StoreOp) (v a : ℕ) → IsSafe (store op v a n).ending → Narrowed may s (store op v a n) (store op v a s)
  unfolding store
  store_narrowed op v a safe = by (can_access may a (store_size_of op)) refl safe
    where
      size : ℕ
      size = store_size_of op

      memory : ℕ → ℕ
      memory = with_bytes s.memory a (bytes_low_first 0 size v)

      by : (b : Bool) → can_access may a size ≡ b → IsSafe (cond b (advanced (record n { memory = memory })) (faulted StoreFault n)).ending → Narrowed may s (cond b (advanced (record n { memory = memory })) (faulted StoreFault n)) (store op v a s)
      by true can fine =
          let parts = and_parts (nat_eq (a % size) 0) (all_from may a size) can in
          let wide : can_access s.rights.writable a size ≡ true = and_from (nat_eq (a % size) 0) (all_from s.rights.writable a size) parts.0 (all_wide a size parts.1) in
          let full : store op v a s ≡ advanced (record s { memory = memory }) = cond-true (can_access s.rights.writable a size) (advanced (record s { memory = memory })) (faulted StoreFault s) wide in
          subst (Narrowed may s (advanced (record n { memory = memory }))) (sym full) (record {
            same = refl;
            rights = refl;
            kept = λ x none. with_bytes-outside s.memory a (bytes_low_first 0 size v) x (λ from before. let long = stored_size op v in apart_from a size x parts.1 none from (omega arith));
          })
      by false can fine = absurd (unsafe n fine)

  read_narrowed : IsSafe (read_call n).ending → Narrowed may s (read_call n) (read_call s)
  unfolding read_call
  read_narrowed safe = by_descriptor (nat_eq (register s 10) 0) safe
    where
      bytes : List ℕ
      bytes = take (register s 12) s.input

      by_right : (b : Bool) → is_writable n ≡ b → IsSafe (cond b (filled bytes n) (faulted StoreFault n)).ending → Narrowed may s (cond b (filled bytes n) (faulted StoreFault n)) (cond (is_writable s) (filled bytes s) (faulted StoreFault s))
      by_right true all fine =
          let full : cond (is_writable s) (filled bytes s) (faulted StoreFault s) ≡ filled bytes s = cond-true (is_writable s) (filled bytes s) (faulted StoreFault s) (all_wide (register s 11) (register s 12) all) in
          subst (Narrowed may s (filled bytes n)) (sym full) (record {
            same = refl;
            rights = refl;
            kept = λ x none. with_bytes-outside s.memory (register s 11) bytes x (λ from before. let long = length-take (register s 12) s.input in apart_from (register s 11) (register s 12) x all none from (omega arith));
          })
      by_right false all fine = absurd (unsafe n fine)

      by_descriptor : (b : Bool) → IsSafe (cond b (cond (is_writable n) (filled bytes n) (faulted StoreFault n)) (faulted Call n)).ending → Narrowed may s (cond b (cond (is_writable n) (filled bytes n) (faulted StoreFault n)) (faulted Call n)) (cond b (cond (is_writable s) (filled bytes s) (faulted StoreFault s)) (faulted Call s))
      by_descriptor true fine = by_right (is_writable n) refl fine
      by_descriptor false fine = plainly (faulted Call s) refl (λ x. refl)

  write_narrowed : Narrowed may s (write_call n) (write_call s)
  unfolding write_call
  write_narrowed =
      let bytes = bytes_from s.memory (register s 11) (register s 12) in
      let to_output = record (returned (register s 12) s) { output = s.output ++ bytes } in
      let to_errors = record (returned (register s 12) s) { errors = s.errors ++ bytes } in
      by_test (nat_eq (register s 10) 1) _ _ _ _
      (λ is. by_test (is_readable s) (narrow may to_output) (narrow may (faulted LoadFault s)) to_output (faulted LoadFault s) (λ can. plainly to_output refl (λ x. refl)) (λ can. plainly (faulted LoadFault s) refl (λ x. refl)))
      (λ is. by_test (nat_eq (register s 10) 2) _ _ _ _
      (λ also. by_test (is_readable s) (narrow may to_errors) (narrow may (faulted LoadFault s)) to_errors (faulted LoadFault s) (λ can. plainly to_errors refl (λ x. refl)) (λ can. plainly (faulted LoadFault s) refl (λ x. refl)))
      (λ also. plainly (faulted Call s) refl (λ x. refl)))

  call_narrowed : IsSafe (environment_call n).ending → Narrowed may s (environment_call n) (environment_call s)
  unfolding environment_call exit_call
  call_narrowed safe = by (nat_eq (register s 17) 63) safe
    where
      others : State → State
      others t = cond (nat_eq (register t 17) 64) (write_call t) (cond (nat_eq (register t 17) 93) (exit_call t) (faulted Call t))

      by : (b : Bool) → IsSafe (cond b (read_call n) (others n)).ending → Narrowed may s (cond b (read_call n) (others n)) (cond b (read_call s) (others s))
      by true fine = read_narrowed fine
      by false fine =
          by_test (nat_eq (register s 17) 64) (write_call n) _ (write_call s) _ (λ is. write_narrowed)
          (λ is. by_test (nat_eq (register s 17) 93) (exit_call n) (faulted Call n) (exit_call s) (faulted Call s) (λ also. plainly (exit_call s) refl (λ x. refl)) (λ also. plainly (faulted Call s) refl (λ x. refl)))

  act_narrowed : (i : Instr) → IsSafe (act i n).ending → Narrowed may s (act i n) (act i s)
  unfolding act load
  act_narrowed (Lui rd upper) safe = plainly (act (Lui rd upper) s) refl (λ x. refl)
  act_narrowed (Auipc rd upper) safe = plainly (act (Auipc rd upper) s) refl (λ x. refl)
  act_narrowed (Jal rd offset) safe = plainly (act (Jal rd offset) s) refl (λ x. refl)
  act_narrowed (Jalr rd rs1 offset) safe = plainly (act (Jalr rd rs1 offset) s) refl (λ x. refl)
  act_narrowed (Branch op rs1 rs2 offset) safe =
      let there = record s { pc = offset_from s.pc offset } in
      by_test (branch_taken op (register s rs1) (register s rs2)) (narrow may there) (narrow may (advanced s)) there (advanced s) (λ taken. plainly there refl (λ x. refl)) (λ taken. plainly (advanced s) refl (λ x. refl))
  act_narrowed (Load op rd rs1 offset) safe =
      let a = offset_from (register s rs1) offset in
      let loaded = advanced (with_register s rd (load_value op s.memory a)) in
      by_test (can_access s.rights.readable a (load_size_of op)) (narrow may loaded) (narrow may (faulted LoadFault s)) loaded (faulted LoadFault s) (λ can. plainly loaded refl (λ x. refl)) (λ can. plainly (faulted LoadFault s) refl (λ x. refl))
  act_narrowed (Store op rs1 rs2 offset) safe = store_narrowed op (register s rs2) (offset_from (register s rs1) offset) safe
  act_narrowed (Imm op rd rs1 imm) safe = plainly (act (Imm op rd rs1 imm) s) refl (λ x. refl)
  act_narrowed (Shift op rd rs1 amount) safe = plainly (act (Shift op rd rs1 amount) s) refl (λ x. refl)
  act_narrowed (Alu op rd rs1 rs2) safe = plainly (act (Alu op rd rs1 rs2) s) refl (λ x. refl)
  act_narrowed (Fence rd rs1 bits) safe = plainly (act (Fence rd rs1 bits) s) refl (λ x. refl)
  act_narrowed Ecall safe = call_narrowed safe
  act_narrowed Ebreak safe = plainly (act Ebreak s) refl (λ x. refl)

  performed_narrowed : (row : Option Instr) → IsSafe (performed row n).ending → Narrowed may s (performed row n) (performed row s)
  unfolding performed
  performed_narrowed None safe = plainly (faulted Illegal s) refl (λ x. refl)
  performed_narrowed (Some i) safe = act_narrowed i safe

  running_narrowed : IsSafe (running_step n).ending → Narrowed may s (running_step n) (running_step s)
  unfolding running_step
  running_narrowed safe = by (can_fetch s) safe
    where
      row : Option Instr
      row = instr_at (word_at s.memory s.pc)

      by : (b : Bool) → IsSafe (cond b (performed row n) (faulted Fetch n)).ending → Narrowed may s (cond b (performed row n) (faulted Fetch n)) (cond b (performed row s) (faulted Fetch s))
      by true fine = performed_narrowed row fine
      by false fine = plainly (faulted Fetch s) refl (λ x. refl)

  by_ending : (e : Ending) → IsSafe (step_by_ending e n).ending → Narrowed may s (step_by_ending e n) (step_by_ending e s)
  unfolding step_by_ending
  by_ending Running safe = running_narrowed safe
  by_ending (Ended status) safe = plainly s refl (λ x. refl)
  by_ending (Faulted kind pc) safe = plainly s refl (λ x. refl)

  step_narrowed : IsSafe (step n).ending → Narrowed may s (step n) (step s)
  unfolding step
  step_narrowed safe = by_ending s.ending safe

-- so many steps
pub run_narrowed : (k : ℕ) (may : ℕ → Bool) (s : State) → ((x : ℕ) → may x ≡ true → s.rights.writable x ≡ true) → ((j : ℕ) → IsSafe (run riscv_machine j (narrow may s)).ending) → (x : ℕ) → may x ≡ false → (run riscv_machine k s).memory x ≡ s.memory x
unfolding run
run_narrowed zero may s less safe x none = refl
run_narrowed (suc k) may s less safe x none =
    let one = step_narrowed may s less (safe 1) in
    run_narrowed k may (step s)
    (λ y some. subst (λ rights. rights.writable y ≡ true) (sym one.rights) (less y some))
    (λ j. subst (λ t. IsSafe (run riscv_machine j t).ending) one.same (safe (suc j)))
    x none
    ∙ one.kept x none
