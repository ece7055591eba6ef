-- Valid code comes to valid instructions alone.
use Rattle.std.proofs.Common.{◌≡◌, ℕ, zero, suc, Bool, true, false, if◌then◌else◌, Option, Some, None, List, [], ◌∷◌, slice_get, length, refl}
use Rattle.std.specs.Cmp.{first_so, second_so}
use Rattle.std.specs.List.{list_all}
use Rattle.op_simulation.specs.System.{run}
use Rattle.op_low.specs.Machine.{low_machine, start, step, step_by_ending, done, act, load, store, call, call_found, return_to, raise_to, read, write, written, can_enter}
use Rattle.op_low.specs.Runs.{IsValidRest, AreValidRests, RunsValid}
use Rattle.op_low.specs.State.{Placement, Activation, Caller, State, Ending, Running, Ended, Bad, routine_of, routine_or, block_of, code_or, landed, at_block, bad, keep, value}
use Rattle.op_low.specs.Valid.{is_valid, is_valid_routine, is_valid_block, is_valid_instruction}
use Rattle.op_low.specs.declared.code.Block.{Block}
use Rattle.op_low.specs.declared.code.Low.{Low}
use Rattle.op_low.specs.declared.code.Routine.{Routine}
use Rattle.op_rv.specs.declared.symbol.BlockId.{BlockId}
use Rattle.op_low.specs.declared.ids.VirtualRegister.{VirtualRegister}
use Rattle.op_low.specs.declared.instruction.Call.{Call as Operands}
use Rattle.op_low.specs.declared.instruction.Instruction.{Instruction}
use Rattle.op_low.specs.declared.instruction.Instruction.TheVariants.{Const, Address, Local, Move, Alu, AluImm, Shift, Load, Store, Call, CallAt, Branch, Jump, Return, Raise, Read, Write, Exit}
use Rattle.op_low.specs.declared.instruction.Output.{Output}
use Rattle.op_low.specs.declared.instruction.Output.TheVariants.{Console, Errors}

-- ---- the blocks

code_of_block : (low : Low) (routine : Routine) (blocks : List Block) (b : ℕ) → list_all (is_valid_block low routine) blocks ≡ true → list_all (is_valid_instruction low routine) (code_or (slice_get blocks b)) ≡ true
unfolding is_valid_block
code_of_block low routine [] b all = refl
code_of_block low routine (x ∷ xs) zero all = second_so _ _ (first_so _ _ all)
code_of_block low routine (x ∷ xs) (suc b) all = code_of_block low routine xs b (second_so _ _ all)

code_of_routine : (low : Low) (routines : List Routine) (r b : ℕ) → list_all (is_valid_routine low) routines ≡ true → list_all (is_valid_instruction low (routine_or (slice_get routines r))) (code_or (slice_get ((routine_or (slice_get routines r)).blocks) b)) ≡ true
unfolding is_valid_routine
code_of_routine low [] r b all = refl
code_of_routine low (x ∷ xs) zero b all = code_of_block low x x.blocks b (second_so _ _ (first_so _ _ all))
code_of_routine low (x ∷ xs) (suc r) b all = code_of_routine low xs r b (second_so _ _ all)

-- each block of valid code, of any numbers
pub block_of-valid : (low : Low) → is_valid low ≡ true → (r b : ℕ) → list_all (is_valid_instruction low (routine_of low r)) (block_of low r b) ≡ true
unfolding is_valid
block_of-valid low valid r b = code_of_routine low low.routines r b (second_so _ _ valid)

-- ---- a step

module _ (low : Low) (p : Placement) (valid : is_valid low ≡ true) where
  bad_runs : (m : State) → RunsValid low m → RunsValid low (bad m)
  bad_runs m h = record { top = h.top; callers = h.callers }

  keep_runs : (to : VirtualRegister) (v : ℕ) (m : State) → RunsValid low m → RunsValid low (keep to v m)
  keep_runs to v m h = record { top = h.top; callers = h.callers }

  if_runs : (b : Bool) (s t : State) → RunsValid low s → RunsValid low t → RunsValid low (if b then s else t)
  if_runs true s t taken otherwise = taken
  if_runs false s t taken otherwise = otherwise

  call_runs : (r : ℕ) (operands : Operands) (m : State) → RunsValid low m → RunsValid low (call low p r operands m)
  unfolding call
  call_runs r operands m h =
      if_runs (can_enter low p r (length operands.arguments) m) _ _
      (record { top = block_of-valid low valid r 0; callers = (h.top, h.callers) })
      (bad_runs m h)

  call_found_runs : (r : Option ℕ) (operands : Operands) (m : State) → RunsValid low m → RunsValid low (call_found low p r operands m)
  call_found_runs None operands m h = bad_runs m h
  call_found_runs (Some r) operands m h = call_runs r operands m h

  return_runs : (v : ℕ) (callers : List Caller) (m : State) → RunsValid low m → AreValidRests low callers → RunsValid low (return_to low p v callers m)
  return_runs v [] m h rests = bad_runs m h
  return_runs v (c ∷ cs) m h rests = record { top = rests.0; callers = rests.1 }

  landed_valid : (landing : Option BlockId) (a : Activation) → IsValidRest low (landed low landing a)
  unfolding is_valid_instruction
  landed_valid None a = refl
  landed_valid (Some block) a = block_of-valid low valid a.routine block.0

  raise_runs : (callers : List Caller) (m : State) → RunsValid low m → AreValidRests low callers → RunsValid low (raise_to low p callers m)
  raise_runs [] m h rests = bad_runs m h
  raise_runs (c ∷ cs) m h rests = record { top = landed_valid c.landing c.activation; callers = rests.1 }

  written_runs : (output : Output) (bytes : List ℕ) (m : State) → RunsValid low m → RunsValid low (written output bytes m)
  written_runs Console bytes m h = record { top = h.top; callers = h.callers }
  written_runs Errors bytes m h = record { top = h.top; callers = h.callers }

  jump_runs : (block : BlockId) (m : State) → RunsValid low m → RunsValid low (record m { top = at_block low block m.top })
  jump_runs block m h = record { top = block_of-valid low valid m.top.routine block.0; callers = h.callers }

  act_runs : (i : Instruction) (m : State) → RunsValid low m → RunsValid low (act low p i m)
  unfolding act load store read write
  act_runs (Const to n) m h = keep_runs to _ m h
  act_runs (Address to symbol) m h = keep_runs to _ m h
  act_runs (Local to offset) m h = keep_runs to _ m h
  act_runs (Move to from) m h = keep_runs to _ m h
  act_runs (Alu op to left right) m h = keep_runs to _ m h
  act_runs (AluImm op to left imm) m h = keep_runs to _ m h
  act_runs (Shift op to left amount) m h = keep_runs to _ m h
  act_runs (Load op to base offset) m h = if_runs _ _ _ (keep_runs to _ m h) (bad_runs m h)
  act_runs (Store op v base offset) m h = if_runs _ _ _ (record { top = h.top; callers = h.callers }) (bad_runs m h)
  act_runs (Call r operands) m h = call_runs r.0 operands m h
  act_runs (CallAt address operands) m h = call_found_runs (p.routine_at (value m address)) operands m h
  act_runs (Branch op left right block) m h = if_runs _ _ _ (jump_runs block m h) h
  act_runs (Jump block) m h = jump_runs block m h
  act_runs (Return v) m h = return_runs (value m v) m.callers m h h.callers
  act_runs Raise m h = raise_runs m.callers m h h.callers
  act_runs (Read to buffer size) m h = if_runs _ _ _ (record { top = h.top; callers = h.callers }) (bad_runs m h)
  act_runs (Write output buffer size) m h = if_runs _ _ _ (written_runs output _ m h) (bad_runs m h)
  act_runs (Exit status) m h = record { top = h.top; callers = h.callers }

  done_runs : (now : List Instruction) (m : State) → list_all (is_valid_instruction low (routine_of low m.top.routine)) now ≡ true → RunsValid low m → RunsValid low (done low p now m)
  unfolding done
  done_runs [] m all h = bad_runs m h
  done_runs (i ∷ is) m all h = act_runs i (record m { top = record m.top { now = is } }) (record { top = second_so _ _ all; callers = h.callers })

  step_by_ending_runs : (e : Ending) (m : State) → RunsValid low m → RunsValid low (step_by_ending low p e m)
  unfolding step_by_ending
  step_by_ending_runs Running m h = done_runs m.top.now m h.top h
  step_by_ending_runs (Ended status) m h = h
  step_by_ending_runs Bad m h = h

  pub step_runs : (m : State) → RunsValid low m → RunsValid low (step low p m)
  unfolding step
  step_runs m h = step_by_ending_runs m.ending m h

  pub start_runs : (bottom room : ℕ) (memory : ℕ → ℕ) (input : List ℕ) → RunsValid low (start low p bottom room memory input)
  unfolding start
  start_runs bottom room memory input = record { top = block_of-valid low valid low.entry.0 0; callers = tt }

  pub run_runs : (n : ℕ) (m : State) → RunsValid low m → RunsValid low (run (low_machine low p) n m)
  unfolding run
  run_runs zero m h = h
  run_runs (suc n) m h = run_runs n (step low p m) (step_runs m h)
