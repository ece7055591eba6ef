-- A step that takes from the input is the call that reads.
use Rattle.std.proofs.Common.{◌≡◌, ◌≢◌, ◌⊎◌, inl, inr, ℕ, ◌+◌, ◌-◌, Bool, true, false, nat_eq, if◌then◌else◌, Option, Some, None, List, [], ◌∷◌, ◌++◌, length, take, drop, refl, ap, sym, ◌∙◌, arith, length-drop, length-append, length-take}
use Rattle.std.specs.Int.{bytes_low_first}
use Rattle.std.proofs.lemmas.Bool.{eqb-true}
use Rattle.op_rv.specs.Decoding.{instr_at}
use Rattle.op_rv.specs.Environment.{environment_call, exit_call, filled, is_readable, read_call, returned, write_call}
use Rattle.op_rv.specs.Operation.{branch_taken}
use Rattle.op_rv.specs.State.{State, Running, advanced, bytes_from, faulted, register, with_bytes, with_register, word_at}
use Rattle.op_rv.specs.Step.{CallsRead, act, can_access, can_fetch, load, load_size_of, load_value, offset_from, running_step, step, step_by_ending, store, store_size_of}
use Rattle.op_rv.specs.declared.fault.FaultKind.TheVariants.{Call}
use Rattle.op_rv.specs.declared.fault.FaultKind.TheVariants.{Load as LoadFault, Store as StoreFault}
use Rattle.op_rv.specs.declared.instruction.Instr.{Instr}
use Rattle.op_rv.specs.declared.instruction.Instr.TheVariants.{Lui, Auipc, Jal, Jalr, Branch, Load, Store, Imm, Shift, Alu, Fence, Ecall, Ebreak}
use Rattle.op_emu.proofs.ActsLemmas.{act-Ecall, by_true, running_step-fetch, running_step-illegal, running_step-row}
use Rattle.op_emu.specs.Acts.{ReadsInPart, Streams, moment, state_of}
use Rattle.op_emu.specs.declared.hart.Hart.{Hart}

same_if : (b : Bool) (t f : State) (input : List ℕ) → t.input ≡ input → f.input ≡ input → (if b then t else f).input ≡ input
same_if true t f input yes_same no_same = yes_same
same_if false t f input yes_same no_same = no_same

-- every other instruction leaves the input as it is
act_keeps : (i : Instr) (s : State) → ((act i s).input ≡ s.input) ⊎ (i ≡ Ecall)
unfolding act load store
act_keeps (Lui rd upper) s = inl refl
act_keeps (Auipc rd upper) s = inl refl
act_keeps (Jal rd offset) s = inl refl
act_keeps (Jalr rd rs1 offset) s = inl refl
act_keeps (Branch op rs1 rs2 offset) s = inl (same_if (branch_taken op (register s rs1) (register s rs2)) (record s { pc = offset_from s.pc offset }) (advanced s) s.input refl refl)
act_keeps (Load op rd rs1 offset) s =
    let a = offset_from (register s rs1) offset in
    inl (same_if (can_access s.rights.readable a (load_size_of op)) (advanced (with_register s rd (load_value op s.memory a))) (faulted LoadFault s) s.input refl refl)
act_keeps (Store op rs1 rs2 offset) s =
    let a = offset_from (register s rs1) offset in
    inl (same_if (can_access s.rights.writable a (store_size_of op)) (advanced (record s { memory = with_bytes s.memory a (bytes_low_first 0 (store_size_of op) (register s rs2)) })) (faulted StoreFault s) s.input refl refl)
act_keeps (Imm op rd rs1 imm) s = inl refl
act_keeps (Shift op rd rs1 amount) s = inl refl
act_keeps (Alu op rd rs1 rs2) s = inl refl
act_keeps (Fence rd rs1 bits) s = inl refl
act_keeps Ecall s = inr refl
act_keeps Ebreak s = inl refl

-- and so does every other call
write_keeps : (s : State) → (write_call s).input ≡ s.input
unfolding write_call
write_keeps s =
    let bytes = bytes_from s.memory (register s 11) (register s 12) in
    same_if (nat_eq (register s 10) 1) _ _ s.input (same_if (is_readable s) (record (returned (register s 12) s) { output = s.output ++ bytes }) (faulted LoadFault s) s.input refl refl)
    (same_if (nat_eq (register s 10) 2) _ _ s.input (same_if (is_readable s) (record (returned (register s 12) s) { errors = s.errors ++ bytes }) (faulted LoadFault s) s.input refl refl) refl)

call_keeps : (s : State) (read : Bool) → (if read then read_call s else (if nat_eq (register s 17) 64 then write_call s else (if nat_eq (register s 17) 93 then exit_call s else faulted Call s))).input ≢ s.input → read ≡ true
unfolding exit_call
call_keeps s true takes = refl
call_keeps s false takes = absurd (takes (same_if (nat_eq (register s 17) 64) (write_call s) (if nat_eq (register s 17) 93 then exit_call s else faulted Call s) s.input (write_keeps s) (same_if (nat_eq (register s 17) 93) (exit_call s) (faulted Call s) s.input refl refl)))

module _ (s : State) (runs : s.ending ≡ Running) (takes : (step s).input ≢ s.input) where
  step_is : step s ≡ running_step s
  unfolding step step_by_ending
  step_is = ap (λ e. step_by_ending e s) runs

  fetched : can_fetch s ≡ true
  fetched = by (can_fetch s) refl
    where
      by : (t : Bool) → can_fetch s ≡ t → can_fetch s ≡ true
      by true e = e
      by false e = absurd (takes (ap (λ (t : State). t.input) (step_is ∙ running_step-fetch s e)))

  called : instr_at (word_at s.memory s.pc) ≡ Some Ecall
  called = by (instr_at (word_at s.memory s.pc)) refl
    where
      by_row : (i : Instr) → instr_at (word_at s.memory s.pc) ≡ Some i → ((act i s).input ≡ s.input) ⊎ (i ≡ Ecall) → instr_at (word_at s.memory s.pc) ≡ Some Ecall
      by_row i e (inl same) = absurd (takes (ap (λ (t : State). t.input) (step_is ∙ running_step-row s i (word_at s.memory s.pc) fetched refl e) ∙ same))
      by_row i e (inr is) = e ∙ ap Some is

      by : (o : Option Instr) → instr_at (word_at s.memory s.pc) ≡ o → instr_at (word_at s.memory s.pc) ≡ Some Ecall
      by None e = absurd (takes (ap (λ (t : State). t.input) (step_is ∙ running_step-illegal s (word_at s.memory s.pc) fetched refl e)))
      by (Some i) e = by_row i e (act_keeps i s)

  call_is : step s ≡ environment_call s
  call_is = step_is ∙ running_step-row s Ecall (word_at s.memory s.pc) fetched refl called ∙ act-Ecall Ecall s refl

  number : register s 17 ≡ 63
  unfolding environment_call
  number = eqb-true (register s 17) 63 (call_keeps s (nat_eq (register s 17) 63) (λ same. takes (ap (λ (t : State). t.input) call_is ∙ same)))

  calls_by : CallsRead s
  calls_by = record { runs = runs; fetched = fetched; call = called; number = number }

-- a hart whose next step is said to read, and wants more than so many bytes, calls for input: it takes a byte more where there is one
module _ (hart : Hart) (told : Streams) (reads : ReadsInPart step hart told) where
  abbrev probe : State
  probe = state_of (moment hart Running) (reads.taken ++ 0 ∷ []) [] []

  takes_all : (step probe).input ≢ probe.input
  unfolding read_call
  takes_all same =
      let xs = reads.taken ++ 0 ∷ [] in
      let k = length (take (register probe 12) xs) in
      let read : step probe ≡ filled (take (register probe 12) xs) probe =
      reads.reads xs [] [] ∙ by_true _ _ _ (ap (λ v. nat_eq v 0) reads.wants.from_input) ∙ by_true _ _ _ reads.wants.may in
      let left : drop k xs ≡ xs = sym (ap (λ (t : State). t.input) read) ∙ same in
      let lengths = ap length left in
      let fewer = length-drop k xs in
      let many = length-take (register probe 12) xs in
      let more = length-append reads.taken (0 ∷ []) in
      let wants = reads.wants.more in
      absurd (omega arith)

  pub wants_calls : (x o e : List ℕ) → CallsRead (state_of (moment hart Running) x o e)
  wants_calls x o e = let calls = calls_by probe refl takes_all in record { runs = refl; fetched = calls.fetched; call = calls.call; number = calls.number }
