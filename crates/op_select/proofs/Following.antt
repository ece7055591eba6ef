-- Selected code goes along with low code, whatever the instruction.
use Rattle.std.proofs.Common.{◌≡◌, ℕ, ℤ, suc, ◌+◌, ◌-◌, ◌*◌, ◌≤◌, Bool, true, false, if◌then◌else◌, Option, Some, None, List, [], ◌∷◌, ◌++◌, length, take, refl, ap, sym, subst, ◌∙◌, arith}
use Rattle.std.proofs.lemmas.Bool.{cond-true}
use Rattle.std.specs.Cmp.{first_so}
use Rattle.std.specs.List.{list_all}
use Rattle.op_simulation.specs.System.{run}
use Rattle.op_simulation.specs.Matching.{Stretch, Follows}
use Rattle.op_simulation.specs.Path.{Path}
use Rattle.op_simulation.proofs.Paths.{path_step, stretch_of_path}
use Rattle.op_simulation.proofs.Runs.{always_next}
use Rattle.op_low.specs.Machine.{Event, Written, Taken, low_machine, NeverBad, step, step_by_ending, done, act, load, store, call, call_found, read, write, return_to, raise_to, can_enter, written, shows, shown_by, shown_next, cost, cost_by, cost_next}
use Rattle.op_low.specs.Runs.{RunsValid}
use Rattle.op_low.specs.State.{Placement, State as LowState, Caller, Ending as LowEnding, Running, Ended, Bad, value, usable, bad, space}
use Rattle.op_low.specs.Valid.{is_valid_instruction}
use Rattle.op_low.specs.declared.instruction.Instruction.{Instruction}
use Rattle.op_low.specs.declared.instruction.Instruction.TheVariants.{Const, Address, Local, Move, Alu, AluImm, Shift, Load, Store, Call, CallAt, Branch, Jump, Return, Raise, Read, Write, Exit}
use Rattle.op_low.specs.declared.code.Low.{Low}
use Rattle.op_low.specs.declared.ids.VirtualRegister.{VirtualRegister}
use Rattle.op_low.specs.declared.instruction.Call.{Call as Operands}
use Rattle.op_low.specs.declared.instruction.Output.{Output}
use Rattle.op_low.specs.declared.instruction.Output.TheVariants.{Console, Errors}
use Rattle.op_rv.specs.Operation.{branch_taken}
use Rattle.op_rv.specs.declared.instruction.LoadOp.{LoadOp}
use Rattle.op_rv.specs.declared.instruction.StoreOp.{StoreOp}
use Rattle.op_rv.specs.declared.symbol.RoutineId.{RoutineId}
use Rattle.op_low.proofs.ValidRuns.{step_runs}
use Rattle.op_rv.specs.State.{State, Ending, Ended as HasEnded, bytes_from, all_from}
use Rattle.op_rv.specs.Step.{step as riscv_step, step_by_ending as riscv_step_by_ending, can_access, offset_from, load_size_of, store_size_of}
use Rattle.op_select.specs.Frames.{frame_of}
use Rattle.op_select.specs.Going.{Setting, IsSetting, routine_in, locals_in, placement_of, Stays, Goes, IsSafe}
use Rattle.op_select.specs.Placing.{Stands}
use Rattle.op_select.specs.RiscvMachine.{riscv_machine, riscv_shows}
use Rattle.op_select.specs.Selected.{Finished, MatchesBy, Matches, most_steps, selected}
use Rattle.op_select.specs.Selection.{items_of, code_items}
use Rattle.op_select.proofs.CallSteps.{call_steps, call_at_steps}
use Rattle.op_select.proofs.ControlSteps.{jump_steps, branch_steps, store_steps, exit_steps}
use Rattle.op_select.proofs.OutsideSteps.{read_steps, write_steps}
use Rattle.op_select.proofs.ReturnSteps.{stays_now, return_steps, raise_steps}
use Rattle.op_select.proofs.ValueSteps.{Steps, const_steps, move_steps, local_steps, alu_steps, shift_steps, imm_steps, address_steps, load_steps}
use Rattle.op_select.proofs.Walks.{Walk, walk_weaken}

-- what becomes of a step
pub record Outcome (w : Setting) (m : LowState) (b : State) (events : List Event) (price : ℕ) : Type 0 where
  pub after : State
  pub states : MatchesBy w m.ending m after
  pub walk : Walk b after 1 (most_steps * price) events

is_taken : (b : Bool) (s t : LowState) → ((if b then s else t).ending ≡ Bad → ⊥) → t.ending ≡ Bad → b ≡ true
is_taken true s t good bad = refl
is_taken false s t good bad = absurd (good bad)

safe_ended : (e : Ending) (status : ℕ) → e ≡ HasEnded status → IsSafe e
unfolding IsSafe
safe_ended e status is = subst IsSafe (sym is) tt

-- what is left of the block changes nothing of what the instruction shows and costs
same_shown : (p : Placement) (i : Instruction) (m : LowState) (is : List Instruction) → shown_by p i m ≡ shown_by p i (record m { top = record m.top { now = is } })
unfolding shown_by
same_shown p (Const to n) m is = refl
same_shown p (Address to symbol) m is = refl
same_shown p (Local to offset) m is = refl
same_shown p (Move to from) m is = refl
same_shown p (Alu op to left right) m is = refl
same_shown p (AluImm op to left imm) m is = refl
same_shown p (Shift op to left amount) m is = refl
same_shown p (Load op to base offset) m is = refl
same_shown p (Store op v base offset) m is = refl
same_shown p (Call id operands) m is = refl
same_shown p (CallAt address operands) m is = refl
same_shown p (Branch op left right block) m is = refl
same_shown p (Jump block) m is = refl
same_shown p (Return v) m is = refl
same_shown p Raise m is = refl
same_shown p (Read to buffer size) m is = refl
same_shown p (Write output buffer size) m is = refl
same_shown p (Exit status) m is = refl

same_cost : (low : Low) (p : Placement) (i : Instruction) (m : LowState) (is : List Instruction) → cost_by low p i m ≡ cost_by low p i (record m { top = record m.top { now = is } })
unfolding cost_by
same_cost low p (Const to n) m is = refl
same_cost low p (Address to symbol) m is = refl
same_cost low p (Local to offset) m is = refl
same_cost low p (Move to from) m is = refl
same_cost low p (Alu op to left right) m is = refl
same_cost low p (AluImm op to left imm) m is = refl
same_cost low p (Shift op to left amount) m is = refl
same_cost low p (Load op to base offset) m is = refl
same_cost low p (Store op v base offset) m is = refl
same_cost low p (Call id operands) m is = refl
same_cost low p (CallAt address operands) m is = refl
same_cost low p (Branch op left right block) m is = refl
same_cost low p (Jump block) m is = refl
same_cost low p (Return v) m is = refl
same_cost low p Raise m is = refl
same_cost low p (Read to buffer size) m is = refl
same_cost low p (Write output buffer size) m is = refl
same_cost low p (Exit status) m is = refl

running_if : (b : Bool) (s t : LowState) → b ≡ true → s.ending ≡ Running → (if b then s else t).ending ≡ Running
running_if b s t is running = ap (λ c. (if c then s else t).ending) is ∙ running

module _ (w : Setting) (law : IsSetting w) where
  going : (m : LowState) (b : State) (most price : ℕ) (events : List Event) → m.ending ≡ Running → most ≤ most_steps * price → Steps w m b most events → Outcome w m b events price
  going m b most price events running less steps =
      record {
        after = steps.after;
        states = subst (λ e. MatchesBy w e m steps.after) (sym running) steps.goes;
        walk = walk_weaken b steps.after 1 most 1 (most_steps * price) events (omega arith) less steps.walk;
      }

  does_call : (m : LowState) (b : State) (id : RoutineId) (operands : Operands) (end : ℕ) → m.ending ≡ Running → ((call w.low (placement_of w) id.0 operands m).ending ≡ Bad → ⊥) → is_valid_instruction w.low (routine_in w m.top.routine) (Call id operands) ≡ true → Stays w m b → Stands w.placing m.top.routine b.pc (items_of (routine_in w m.top.routine) (Call id operands) ++ code_items (routine_in w m.top.routine) m.top.now) end → Outcome w (call w.low (placement_of w) id.0 operands m) b [] (1 + space w.low (placement_of w) id.0 + length operands.arguments)
  unfolding act call frame_of
  does_call m b id operands end running good valid stays stands =
      let can = is_taken (can_enter w.low (placement_of w) id.0 (length operands.arguments) m) _ (bad m) good refl in
      let ran = running_if (can_enter w.low (placement_of w) id.0 (length operands.arguments) m) _ (bad m) can running in
      going _ b (6 * length operands.arguments + 2 + (12 + 3 * (routine_in w id.0).registers + locals_in w id.0)) (1 + space w.low (placement_of w) id.0 + length operands.arguments) [] ran (omega arith) (call_steps w law m b id operands end stays valid can stands)

  does_call_at : (m : LowState) (b : State) (address : VirtualRegister) (operands : Operands) (o : Option ℕ) (end : ℕ) → w.routine_at (value m address) ≡ o → m.ending ≡ Running → ((call_found w.low (placement_of w) o operands m).ending ≡ Bad → ⊥) → is_valid_instruction w.low (routine_in w m.top.routine) (CallAt address operands) ≡ true → Stays w m b → Stands w.placing m.top.routine b.pc (items_of (routine_in w m.top.routine) (CallAt address operands) ++ code_items (routine_in w m.top.routine) m.top.now) end → Outcome w (call_found w.low (placement_of w) o operands m) b [] (cost_by w.low (record (placement_of w) { routine_at = λ a. o }) (CallAt address operands) m)
  unfolding call cost_by frame_of
  does_call_at m b address operands None end found running good valid stays stands = absurd (good refl)
  does_call_at m b address operands (Some r) end found running good valid stays stands =
      let can = is_taken (can_enter w.low (placement_of w) r (length operands.arguments) m) _ (bad m) good refl in
      let ran = running_if (can_enter w.low (placement_of w) r (length operands.arguments) m) _ (bad m) can running in
      going _ b (6 * length operands.arguments + 4 + (12 + 3 * (routine_in w r).registers + locals_in w r)) (1 + space w.low (placement_of w) r + length operands.arguments) [] ran (omega arith) (call_at_steps w law m b address operands r end stays valid found can stands)

  does_return : (m : LowState) (b : State) (v : VirtualRegister) (cs : List Caller) (end : ℕ) → m.callers ≡ cs → m.ending ≡ Running → ((return_to w.low (placement_of w) (value m v) m.callers m).ending ≡ Bad → ⊥) → is_valid_instruction w.low (routine_in w m.top.routine) (Return v) ≡ true → Stays w m b → Stands w.placing m.top.routine b.pc (items_of (routine_in w m.top.routine) (Return v) ++ code_items (routine_in w m.top.routine) m.top.now) end → Outcome w (return_to w.low (placement_of w) (value m v) m.callers m) b [] 1
  unfolding act
  does_return m b v [] end is running good valid stays stands = absurd (good (ap (λ xs. (return_to w.low (placement_of w) (value m v) xs m).ending) is))
  does_return m b v (c ∷ cs) end is running good valid stays stands =
      going _ b 32 1 [] (ap (λ xs. (return_to w.low (placement_of w) (value m v) xs m).ending) is ∙ running) (omega arith) (return_steps w law m b v c cs end stays is valid stands)

  does_raise : (m : LowState) (b : State) (cs : List Caller) (end : ℕ) → m.callers ≡ cs → m.ending ≡ Running → ((raise_to w.low (placement_of w) m.callers m).ending ≡ Bad → ⊥) → Stays w m b → Stands w.placing m.top.routine b.pc (items_of (routine_in w m.top.routine) Raise ++ code_items (routine_in w m.top.routine) m.top.now) end → Outcome w (raise_to w.low (placement_of w) m.callers m) b [] 1
  unfolding act
  does_raise m b [] end is running good stays stands = absurd (good (ap (λ xs. (raise_to w.low (placement_of w) xs m).ending) is))
  does_raise m b (c ∷ cs) end is running good stays stands =
      going _ b 26 1 [] (ap (λ xs. (raise_to w.low (placement_of w) xs m).ending) is ∙ running) (omega arith) (raise_steps w law m b c cs end stays is stands)

  written_runs : (output : Output) (bytes : List ℕ) (m : LowState) → m.ending ≡ Running → (written output bytes m).ending ≡ Running
  written_runs Console bytes m running = running
  written_runs Errors bytes m running = running

  does_write : (m : LowState) (b : State) (output : Output) (buffer size : VirtualRegister) (end : ℕ) → m.ending ≡ Running → ((act w.low (placement_of w) (Write output buffer size) m).ending ≡ Bad → ⊥) → is_valid_instruction w.low (routine_in w m.top.routine) (Write output buffer size) ≡ true → Stays w m b → Stands w.placing m.top.routine b.pc (items_of (routine_in w m.top.routine) (Write output buffer size) ++ code_items (routine_in w m.top.routine) m.top.now) end → Outcome w (act w.low (placement_of w) (Write output buffer size) m) b (shown_by (placement_of w) (Write output buffer size) m) 1
  unfolding act write shown_by
  does_write m b output buffer size end running good valid stays stands =
      let test = all_from (usable w.rights.readable m) (value m buffer) (value m size) in
      let bytes = bytes_from m.memory (value m buffer) (value m size) in
      let can = is_taken test (written output bytes m) (bad m) good refl in
      let ran = running_if test (written output bytes m) (bad m) can (written_runs output bytes m running) in
      let shown : (if test then Written output bytes ∷ [] else []) ≡ Written output bytes ∷ [] = cond-true test (Written output bytes ∷ []) [] can in
      subst (λ es. Outcome w (act w.low (placement_of w) (Write output buffer size) m) b es 1) (sym shown) (going _ b 9 1 (Written output bytes ∷ []) ran (omega arith) (write_steps w law m b output buffer size end stays valid can stands))

  does_read : (m : LowState) (b : State) (to buffer size : VirtualRegister) (end : ℕ) → m.ending ≡ Running → ((act w.low (placement_of w) (Read to buffer size) m).ending ≡ Bad → ⊥) → is_valid_instruction w.low (routine_in w m.top.routine) (Read to buffer size) ≡ true → Stays w m b → Stands w.placing m.top.routine b.pc (items_of (routine_in w m.top.routine) (Read to buffer size) ++ code_items (routine_in w m.top.routine) m.top.now) end → Outcome w (act w.low (placement_of w) (Read to buffer size) m) b (shown_by (placement_of w) (Read to buffer size) m) 1
  unfolding act read shown_by
  does_read m b to buffer size end running good valid stays stands =
      let test = all_from (usable w.rights.writable m) (value m buffer) (value m size) in
      let bytes = take (value m size) m.input in
      let can = is_taken test _ (bad m) good refl in
      let ran = running_if test _ (bad m) can running in
      let shown : (if test then Taken bytes ∷ [] else []) ≡ Taken bytes ∷ [] = cond-true test (Taken bytes ∷ []) [] can in
      subst (λ es. Outcome w (act w.low (placement_of w) (Read to buffer size) m) b es 1) (sym shown) (going _ b 12 1 (Taken bytes ∷ []) ran (omega arith) (read_steps w law m b to buffer size end stays valid can stands))

  does_exit : (m : LowState) (b : State) (status : VirtualRegister) (end : ℕ) → is_valid_instruction w.low (routine_in w m.top.routine) (Exit status) ≡ true → Stays w m b → Stands w.placing m.top.routine b.pc (items_of (routine_in w m.top.routine) (Exit status) ++ code_items (routine_in w m.top.routine) m.top.now) end → Outcome w (act w.low (placement_of w) (Exit status) m) b [] 1
  unfolding act
  does_exit m b status end valid stays stands =
      let steps = exit_steps w law m b status end stays valid stands in
      record {
        after = steps.after;
        states = record { ending = steps.ended; output = steps.output; errors = steps.errors; input = steps.input };
        walk = walk_weaken b steps.after 1 5 1 (most_steps * 1) [] (omega arith) (omega arith) steps.walk;
      }

  does_load : (m : LowState) (b : State) (op : LoadOp) (to base : VirtualRegister) (offset : ℤ) (end : ℕ) → m.ending ≡ Running → ((act w.low (placement_of w) (Load op to base offset) m).ending ≡ Bad → ⊥) → is_valid_instruction w.low (routine_in w m.top.routine) (Load op to base offset) ≡ true → Stays w m b → Stands w.placing m.top.routine b.pc (items_of (routine_in w m.top.routine) (Load op to base offset) ++ code_items (routine_in w m.top.routine) m.top.now) end → Outcome w (act w.low (placement_of w) (Load op to base offset) m) b [] 1
  unfolding act load
  does_load m b op to base offset end running good valid stays stands =
      let test = can_access (usable w.rights.readable m) (offset_from (value m base) offset) (load_size_of op) in
      let can = is_taken test _ (bad m) good refl in
      let ran = running_if test _ (bad m) can running in
      going _ b 7 1 [] ran (omega arith) (load_steps w law m b op to base offset end stays valid can stands)

  does_store : (m : LowState) (b : State) (op : StoreOp) (v base : VirtualRegister) (offset : ℤ) (end : ℕ) → m.ending ≡ Running → ((act w.low (placement_of w) (Store op v base offset) m).ending ≡ Bad → ⊥) → is_valid_instruction w.low (routine_in w m.top.routine) (Store op v base offset) ≡ true → Stays w m b → Stands w.placing m.top.routine b.pc (items_of (routine_in w m.top.routine) (Store op v base offset) ++ code_items (routine_in w m.top.routine) m.top.now) end → Outcome w (act w.low (placement_of w) (Store op v base offset) m) b [] 1
  unfolding act store
  does_store m b op v base offset end running good valid stays stands =
      let test = can_access (usable w.rights.writable m) (offset_from (value m base) offset) (store_size_of op) in
      let can = is_taken test _ (bad m) good refl in
      let ran = running_if test _ (bad m) can running in
      going _ b 7 1 [] ran (omega arith) (store_steps w law m b op v base offset end stays valid can stands)

  branch_runs : (taken : Bool) (s t : LowState) → s.ending ≡ Running → t.ending ≡ Running → (if taken then s else t).ending ≡ Running
  branch_runs true s t first second = first
  branch_runs false s t first second = second

  -- an instruction, in a state that stands behind it
  does : (i : Instruction) (m : LowState) (b : State) (end : ℕ) → m.ending ≡ Running → ((act w.low (placement_of w) i m).ending ≡ Bad → ⊥) → is_valid_instruction w.low (routine_in w m.top.routine) i ≡ true → Stays w m b → Stands w.placing m.top.routine b.pc (items_of (routine_in w m.top.routine) i ++ code_items (routine_in w m.top.routine) m.top.now) end → Outcome w (act w.low (placement_of w) i m) b (shown_by (placement_of w) i m) (cost_by w.low (placement_of w) i m)
  unfolding act load store call read write shown_by cost_by frame_of
  does (Const to n) m b end running good valid stays stands = going _ b 5 1 [] running (omega arith) (const_steps w law m b to n end stays valid stands)
  does (Address to symbol) m b end running good valid stays stands = going _ b 5 1 [] running (omega arith) (address_steps w law m b to symbol end stays valid stands)
  does (Local to offset) m b end running good valid stays stands = going _ b 6 1 [] running (omega arith) (local_steps w law m b to offset end stays valid stands)
  does (Move to from) m b end running good valid stays stands = going _ b 6 1 [] running (omega arith) (move_steps w law m b to from end stays valid stands)
  does (Alu op to left right) m b end running good valid stays stands = going _ b 10 1 [] running (omega arith) (alu_steps w law m b op to left right end stays valid stands)
  does (AluImm op to left imm) m b end running good valid stays stands = going _ b 7 1 [] running (omega arith) (imm_steps w law m b op to left imm end stays valid stands)
  does (Shift op to left amount) m b end running good valid stays stands = going _ b 7 1 [] running (omega arith) (shift_steps w law m b op to left amount end stays valid stands)
  does (Load op to base offset) m b end running good valid stays stands = does_load m b op to base offset end running good valid stays stands
  does (Store op v base offset) m b end running good valid stays stands = does_store m b op v base offset end running good valid stays stands
  does (Call id operands) m b end running good valid stays stands = does_call m b id operands end running good valid stays stands
  does (CallAt address operands) m b end running good valid stays stands = does_call_at m b address operands (w.routine_at (value m address)) end refl running good valid stays stands
  does (Branch op left right block) m b end running good valid stays stands = going _ b 9 1 [] (branch_runs (branch_taken op (value m left) (value m right)) _ m running running) (omega arith) (branch_steps w law m b op left right block end stays valid stands)
  does (Jump block) m b end running good valid stays stands = going _ b 2 1 [] running (omega arith) (jump_steps w law m b block end stays stands)
  does (Return v) m b end running good valid stays stands = does_return m b v m.callers end refl running good valid stays stands
  does Raise m b end running good valid stays stands = does_raise m b m.callers end refl running good stays stands
  does (Read to buffer size) m b end running good valid stays stands = does_read m b to buffer size end running good valid stays stands
  does (Write output buffer size) m b end running good valid stays stands = does_write m b output buffer size end running good valid stays stands
  does (Exit status) m b end running good valid stays stands = does_exit m b status end valid stays stands

  -- ---- a step of low code

  path_of : (b c : State) (events : List Event) (most : ℕ) → (walk : Walk b c 1 most events) → Path riscv_machine (λ s. IsSafe s.ending) b c (suc (walk.steps - 1)) events walk.steps
  path_of b c events most walk =
      let from = walk.from in
      let one : walk.steps ≡ suc (walk.steps - 1) = omega arith in
      subst (λ n. Path riscv_machine (λ s. IsSafe s.ending) b c n events walk.steps) one walk.path

  stretch_of : (m m' : LowState) (b : State) (events : List Event) (price : ℕ) → Matches w m b → step w.low (placement_of w) m ≡ m' → shows (placement_of w) m.ending m ≡ events → cost w.low (placement_of w) m.ending m ≡ price → Outcome w m' b events price → Stretch (selected w) m b
  stretch_of m m' b events price matches steps shown costs outcome =
      let to = outcome.walk.to in
      let after : Matches w m' outcome.after = record {
        valid = subst (RunsValid w.low) steps (step_runs w.low (placement_of w) law.valid m matches.valid);
        good = subst (NeverBad w.low (placement_of w)) steps (always_next (low_machine w.low (placement_of w)) (λ s. s.ending ≡ Bad → ⊥) m matches.good);
        states = outcome.states;
      } in
      stretch_of_path (selected w) m b outcome.after (outcome.walk.steps - 1) events outcome.walk.steps (path_of b outcome.after events (most_steps * price) outcome.walk) (subst (λ s. Matches w s outcome.after) (sym steps) after) shown (omega arith)

  running_step_by : (m : LowState) (b : State) (now : List Instruction) → m.top.now ≡ now → m.ending ≡ Running → Matches w m b → Goes w m b → Stretch (selected w) m b
  unfolding step step_by_ending done shows cost code_items run
  running_step_by m b [] now running matches goes =
      let there : step w.low (placement_of w) m ≡ bad m = ap (λ e. step_by_ending w.low (placement_of w) e m) running ∙ ap (λ is. done w.low (placement_of w) is m) now in
      absurd (matches.good 1 (ap (λ s. s.ending) there))
  running_step_by m b (i ∷ is) now running matches goes =
      let m' = record m { top = record m.top { now = is } } in
      let there : step w.low (placement_of w) m ≡ act w.low (placement_of w) i m' = ap (λ e. step_by_ending w.low (placement_of w) e m) running ∙ ap (λ is. done w.low (placement_of w) is m) now in
      let shown : shows (placement_of w) m.ending m ≡ shown_by (placement_of w) i m = ap (λ e. shows (placement_of w) e m) running ∙ ap (λ is. shown_next (placement_of w) is m) now in
      let costs : cost w.low (placement_of w) m.ending m ≡ cost_by w.low (placement_of w) i m = ap (λ e. cost w.low (placement_of w) e m) running ∙ ap (λ is. cost_next w.low (placement_of w) is m) now in
      let good : (act w.low (placement_of w) i m').ending ≡ Bad → ⊥ = λ is_bad. matches.good 1 (ap (λ s. s.ending) there ∙ is_bad) in
      let all = subst (λ is. list_all (is_valid_instruction w.low (routine_in w m.top.routine)) is ≡ true) now matches.valid.top in
      let valid = first_so (is_valid_instruction w.low (routine_in w m.top.routine) i) _ all in
      let stands = subst (λ is. Stands w.placing m.top.routine b.pc (code_items (routine_in w m.top.routine) is) goes.ready.end) now goes.ready.stands in
      let outcome = does i m' b goes.ready.end running good valid (stays_now w law m b is goes.stays) stands in
      stretch_of m (act w.low (placement_of w) i m') b (shown_by (placement_of w) i m') (cost_by w.low (placement_of w) i m') matches there (shown ∙ same_shown (placement_of w) i m is) (costs ∙ same_cost w.low (placement_of w) i m is) outcome

  ended_step : (m : LowState) (b : State) (status : ℕ) → m.ending ≡ Ended status → Matches w m b → Finished status m b → Stretch (selected w) m b
  unfolding step step_by_ending shows cost riscv_step riscv_step_by_ending riscv_shows
  ended_step m b status ended matches finished =
      let there : step w.low (placement_of w) m ≡ m = ap (λ e. step_by_ending w.low (placement_of w) e m) ended in
      let shown : shows (placement_of w) m.ending m ≡ [] = ap (λ e. shows (placement_of w) e m) ended in
      let costs : cost w.low (placement_of w) m.ending m ≡ 1 = ap (λ e. cost w.low (placement_of w) e m) ended in
      let stays : riscv_step b ≡ b = ap (λ e. riscv_step_by_ending e b) finished.ending in
      let silent : riscv_shows b.ending b ≡ [] = ap (λ e. riscv_shows e b) finished.ending in
      let one = path_step riscv_machine (λ s. IsSafe s.ending) b (safe_ended b.ending status finished.ending) in
      let path = subst (λ c. Path riscv_machine (λ s. IsSafe s.ending) b c 1 [] 1) stays (subst (λ es. Path riscv_machine (λ s. IsSafe s.ending) b (riscv_step b) 1 es 1) silent one) in
      stretch_of_path (selected w) m b b 0 [] 1 path (subst (λ s. Matches w s b) (sym there) matches) shown (omega arith)

  step_by : (m : LowState) (b : State) (e : LowEnding) → m.ending ≡ e → Matches w m b → MatchesBy w e m b → Stretch (selected w) m b
  step_by m b Running is matches states = running_step_by m b m.top.now refl is matches states
  step_by m b (Ended status) is matches states = ended_step m b status is matches states
  step_by m b Bad is matches states = absurd states

  pub selected_follows : Follows (selected w)
  selected_follows = record { go = λ m b matches. step_by m b m.ending refl matches matches.states }
