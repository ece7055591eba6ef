-- The output and the errors of a run only grow, and bytes are only taken off the front of its input.
use Rattle.std.proofs.Common.{◌≡◌, ℕ, ℤ, zero, suc, ◌+◌, ◌-◌, ◌≤◌, Bool, true, false, nat_eq, if◌then◌else◌, Option, Some, None, List, [], ◌∷◌, ◌++◌, length, take, drop, refl, ap, sym, ◌∙◌, subst, append_assoc, arith}
use Rattle.std.proofs.lemmas.List.{append-nil}
use Rattle.std.specs.Int.{bytes_low_first}
use Rattle.op_rv.specs.State.{State, Ending, Running, Ended, Faulted, register, with_register, advanced, word_at, with_bytes, bytes_from, faulted}
use Rattle.op_rv.specs.Decoding.{instr_at}
use Rattle.op_rv.specs.Environment.{environment_call, read_call, write_call, exit_call, is_readable, is_writable, filled, returned}
use Rattle.op_rv.specs.Operation.{branch_taken}
use Rattle.op_rv.specs.Step.{act, load, store, branched, offset_from, can_access, load_size_of, load_value, store_size_of, step, step_by_ending, running_step, performed, after, can_fetch}
use Rattle.op_rv.specs.declared.fault.FaultKind.{FaultKind}
use Rattle.op_rv.specs.declared.fault.FaultKind.TheVariants.{Fetch, Illegal, Call}
use Rattle.op_rv.specs.declared.fault.FaultKind.TheVariants.{Load as LoadFault, Store as StoreFault}
use Rattle.op_rv.specs.declared.instruction.Instr.{Instr}
use Rattle.op_rv.specs.declared.instruction.Instr.TheVariants.{Branch, Load, Store, Ecall}
use Rattle.op_rv.specs.declared.instruction.LoadOp.{LoadOp}
use Rattle.op_rv.specs.declared.instruction.StoreOp.{StoreOp}
use Rattle.op_emu.proofs.Gliding.{after-add}

-- the second has the output and the errors of the first, and more, and its input behind what was taken
pub record Grows (old new : State) : Type 0 where
  pub written : List ℕ
  pub output : new.output ≡ old.output ++ written
  pub reported : List ℕ
  pub errors : new.errors ≡ old.errors ++ reported
  pub taken : List ℕ
  pub input : old.input ≡ taken ++ new.input

grows_by : (old new : State) (taken : List ℕ) → new.output ≡ old.output → new.errors ≡ old.errors → old.input ≡ taken ++ new.input → Grows old new
grows_by old new taken output errors input =
    record {
      written = [];
      output = output ∙ sym (append-nil old.output);
      reported = [];
      errors = errors ∙ sym (append-nil old.errors);
      taken = taken;
      input = input;
    }

-- a step that touches no stream
pub grows_not : (old new : State) → new.output ≡ old.output → new.errors ≡ old.errors → new.input ≡ old.input → Grows old new
grows_not old new output errors input = grows_by old new [] output errors (sym input)

pub grows_twice : (a b c : State) → Grows a b → Grows b c → Grows a c
grows_twice a b c first second =
    record {
      written = first.written ++ second.written;
      output = second.output ∙ ap (λ xs. xs ++ second.written) first.output ∙ append_assoc a.output first.written second.written;
      reported = first.reported ++ second.reported;
      errors = second.errors ∙ ap (λ xs. xs ++ second.reported) first.errors ∙ append_assoc a.errors first.reported second.reported;
      taken = first.taken ++ second.taken;
      input = first.input ∙ ap (λ xs. first.taken ++ xs) second.input ∙ sym (append_assoc first.taken second.taken c.input);
    }

pub grows_if : (b : Bool) (s t f : State) → Grows s t → Grows s f → Grows s (if b then t else f)
grows_if true s t f then_grows else_grows = then_grows
grows_if false s t f then_grows else_grows = else_grows

faulted_grows : (s : State) (kind : FaultKind) → Grows s (faulted kind s)
faulted_grows s kind = grows_not s (faulted kind s) refl refl refl

to_output : (s : State) (bytes : List ℕ) → Grows s (record (returned (register s 12) s) { output = s.output ++ bytes })
to_output s bytes = record { written = bytes; output = refl; reported = []; errors = sym (append-nil s.errors); taken = []; input = refl }

to_errors : (s : State) (bytes : List ℕ) → Grows s (record (returned (register s 12) s) { errors = s.errors ++ bytes })
to_errors s bytes = record { written = []; output = sym (append-nil s.output); reported = bytes; errors = refl; taken = []; input = refl }

write_grows : (s : State) → Grows s (write_call s)
unfolding write_call
write_grows s =
    let bytes = bytes_from s.memory (register s 11) (register s 12) in
    let out = grows_if (is_readable s) s _ _ (to_output s bytes) (faulted_grows s LoadFault) in
    let err = grows_if (is_readable s) s _ _ (to_errors s bytes) (faulted_grows s LoadFault) in
    grows_if (nat_eq (register s 10) 1) s _ _ out (grows_if (nat_eq (register s 10) 2) s _ _ err (faulted_grows s Call))

-- so many bytes are taken off the front, or all that there are
front_taken : (n : ℕ) (xs : List ℕ) → xs ≡ take n xs ++ drop (length (take n xs)) xs
front_taken zero xs = refl
front_taken (suc n) [] = refl
front_taken (suc n) (x ∷ xs) = ap (λ ys. x ∷ ys) (front_taken n xs)

filled_grows : (n : ℕ) (s : State) → Grows s (filled (take n s.input) s)
filled_grows n s = grows_by s (filled (take n s.input) s) (take n s.input) refl refl (front_taken n s.input)

read_grows : (s : State) → Grows s (read_call s)
unfolding read_call
read_grows s =
    grows_if (nat_eq (register s 10) 0) s _ _ (grows_if (is_writable s) s _ _ (filled_grows (register s 12) s) (faulted_grows s StoreFault)) (faulted_grows s Call)

call_grows : (s : State) → Grows s (environment_call s)
unfolding environment_call exit_call
call_grows s =
    let exits = grows_if (nat_eq (register s 17) 93) s _ _ (grows_not s (exit_call s) refl refl refl) (faulted_grows s Call) in
    grows_if (nat_eq (register s 17) 63) s _ _ (read_grows s) (grows_if (nat_eq (register s 17) 64) s _ _ (write_grows s) exits)

load_grows : (op : LoadOp) (rd a : ℕ) (s : State) → Grows s (load op rd a s)
unfolding load
load_grows op rd a s =
    grows_if (can_access s.rights.readable a (load_size_of op)) s _ _ (grows_not s (advanced (with_register s rd (load_value op s.memory a))) refl refl refl) (faulted_grows s LoadFault)

store_grows : (op : StoreOp) (value a : ℕ) (s : State) → Grows s (store op value a s)
unfolding store
store_grows op value a s =
    grows_if (can_access s.rights.writable a (store_size_of op)) s _ _ (grows_not s (advanced (record s { memory = with_bytes s.memory a (bytes_low_first 0 (store_size_of op) value) })) refl refl refl) (faulted_grows s StoreFault)

branch_grows : (taken : Bool) (offset : ℤ) (s : State) → Grows s (branched taken offset s)
branch_grows taken offset s =
    grows_if taken s _ _ (grows_not s (record s { pc = offset_from s.pc offset }) refl refl refl) (grows_not s (advanced s) refl refl refl)

act_grows : (i : Instr) (s : State) → Grows s (act i s)
unfolding act
act_grows (Load op rd rs1 offset) s = load_grows op rd (offset_from (register s rs1) offset) s
act_grows (Store op rs1 rs2 offset) s = store_grows op (register s rs2) (offset_from (register s rs1) offset) s
act_grows (Branch op rs1 rs2 offset) s = branch_grows (branch_taken op (register s rs1) (register s rs2)) offset s
act_grows Ecall s = call_grows s
act_grows i s = grows_not s (act i s) refl refl refl

performed_grows : (row : Option Instr) (s : State) → Grows s (performed row s)
unfolding performed
performed_grows None s = faulted_grows s Illegal
performed_grows (Some i) s = act_grows i s

running_grows : (s : State) → Grows s (running_step s)
unfolding running_step
running_grows s = grows_if (can_fetch s) s _ _ (performed_grows (instr_at (word_at s.memory s.pc)) s) (faulted_grows s Fetch)

by_ending_grows : (ending : Ending) (s : State) → Grows s (step_by_ending ending s)
unfolding step_by_ending
by_ending_grows Running s = running_grows s
by_ending_grows (Ended status) s = grows_not s s refl refl refl
by_ending_grows (Faulted kind pc) s = grows_not s s refl refl refl

step_grows : (s : State) → Grows s (step s)
unfolding step
step_grows s = by_ending_grows s.ending s

pub after_grows : (n : ℕ) (s : State) → Grows s (after n s)
unfolding after
after_grows zero s = grows_not s s refl refl refl
after_grows (suc n) s = grows_twice s (step s) (after n (step s)) (step_grows s) (after_grows n (step s))

-- from one moment of a run to a later one
pub grows_from : (m n : ℕ) (s : State) → m ≤ n → Grows (after m s) (after n s)
grows_from m n s less =
    let e : n ≡ m + (n - m) = omega arith in
    subst (λ t. Grows (after m s) t) (sym (after-add m (n - m) s) ∙ ap (λ k. after k s) (sym e)) (after_grows (n - m) (after m s))
