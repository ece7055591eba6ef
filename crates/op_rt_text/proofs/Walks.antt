-- Walks of the machine of low code: so many steps that write pieces and come to a state that goes on.
use Rattle.std.proofs.Common.{◌≡◌, ◌≢◌, ℕ, ℤ, ◌+◌, ◌≤◌, true, false, List, [], ◌∷◌, ◌++◌, refl, append-nil, ap, ap₂, sym, ◌∙◌, arith}
use Rattle.std.proofs.lemmas.Bool.{cond-false, cond-true}
use Rattle.std.proofs.lemmas.List.{map-append}
use Rattle.std.specs.Int.{bytes_low_first}
use Rattle.op_low.proofs.MachineLemmas.{stopped_halts}
use Rattle.op_low.specs.Machine.{Written, act, cost, cost_by, done, load, low_machine, shown_by, shows, step, step_by_ending, store, write}
use Rattle.op_low.specs.State.{Bad, Placement, Running, State, Ending, bad, goes_on, jump, keep, usable, value}
use Rattle.op_low.specs.declared.code.Low.{Low}
use Rattle.op_low.specs.declared.ids.VirtualRegister.{VirtualRegister}
use Rattle.op_low.specs.declared.instruction.Instruction.{Instruction}
use Rattle.op_low.specs.declared.instruction.Instruction.TheVariants.{Branch, Jump, Load, Store, Write}
use Rattle.op_low.specs.declared.instruction.Output.TheVariants.{Console}
use Rattle.op_rt_text.specs.Running.{all_written}
use Rattle.op_rv.specs.Operation.{branch_taken}
use Rattle.op_rv.specs.State.{all_from, bytes_from, with_bytes}
use Rattle.op_rv.specs.Step.{can_access, load_size_of, load_value, offset_from, store_size_of}
use Rattle.op_rv.specs.declared.instruction.BranchOp.{BranchOp}
use Rattle.op_rv.specs.declared.instruction.LoadOp.{LoadOp}
use Rattle.op_rv.specs.declared.instruction.StoreOp.{StoreOp}
use Rattle.op_rv.specs.declared.symbol.BlockId.{BlockId}
use Rattle.op_simulation.proofs.Runs.{run_add, run_past_end, spent_add, trace_add}
use Rattle.op_simulation.specs.Path.{Path}
use Rattle.op_simulation.specs.System.{run, spent, trace}

-- so many steps at most, at that cost, lead from one state to another and write these pieces
pub record Walk (low : Low) (p : Placement) (b c : State) (pieces : List (List ℕ)) (most : ℕ) : Type 0 where
  pub steps : ℕ
  pub few : steps ≤ most
  pub ends : run (low_machine low p) steps b ≡ c
  pub shown : trace (low_machine low p) steps b ≡ all_written pieces
  pub within : spent (low_machine low p) steps b ≤ most

-- a state that goes on with this code
abbrev pub standing : State → List Instruction → State
standing m now = record m { top = record m.top { now = now }; ending = Running }

-- two walks, one behind the other
pub walk_then : {low : Low} {p : Placement} {b c d : State} {xs ys : List (List ℕ)} {m n : ℕ} → Walk low p b c xs m → Walk low p c d ys n → Walk low p b d (xs ++ ys) (m + n)
walk_then {low = low} {p = p} {b = b} {c = c} {xs = xs} {ys = ys} first second =
    let few_first = first.few in
    let few_second = second.few in
    let before = first.within in
    let after = second.within in
    let cost = spent_add (low_machine low p) first.steps second.steps b in
    let same : spent (low_machine low p) second.steps (run (low_machine low p) first.steps b) ≡ spent (low_machine low p) second.steps c = ap (spent (low_machine low p) second.steps) first.ends in
    record {
      steps = first.steps + second.steps;
      few = omega arith;
      ends = run_add (low_machine low p) first.steps second.steps b ∙ ap (run (low_machine low p) second.steps) first.ends ∙ second.ends;
      shown =
          trace_add (low_machine low p) first.steps second.steps b
          ∙ ap₂ (λ us vs. us ++ vs) first.shown (ap (trace (low_machine low p) second.steps) first.ends ∙ second.shown)
          ∙ sym (map-append _ xs ys);
      within = omega arith;
    }

pub walk_longer : {low : Low} {p : Placement} {b c : State} {xs : List (List ℕ)} {m n : ℕ} → Walk low p b c xs m → m ≤ n → Walk low p b c xs n
walk_longer walk more =
    let few = walk.few in
    let within = walk.within in
    record { steps = walk.steps; few = omega arith; ends = walk.ends; shown = walk.shown; within = omega arith }

module _ (low : Low) (p : Placement) where
  -- no instruction
  pub walk_none : (m : State) → Walk low p m m [] 0
  unfolding run trace spent
  walk_none m = record { steps = 0; few = omega arith; ends = refl; shown = refl; within = omega arith }

  -- one instruction
  pub walk_act : (m c : State) (i : Instruction) (is : List Instruction) (pieces : List (List ℕ)) → act low p i (standing m is) ≡ c → shown_by p i (standing m (i ∷ is)) ≡ all_written pieces → (most : ℕ) → 1 ≤ most → cost_by low p i (standing m (i ∷ is)) ≤ most → Walk low p (standing m (i ∷ is)) c pieces most
  unfolding step step_by_ending done run trace spent shows cost
  walk_act m c i is pieces acts says most some within =
      record { steps = 1; few = some; ends = acts; shown = append-nil (shown_by p i (standing m (i ∷ is))) ∙ says; within = omega arith }

  pub walk_branch : (m : State) (op : BranchOp) (l r : VirtualRegister) (block : BlockId) (is : List Instruction) → branch_taken op (value m l) (value m r) ≡ true → Walk low p (standing m (Branch op l r block ∷ is)) (jump low block (standing m is)) [] 1
  unfolding act shown_by cost_by
  walk_branch m op l r block is taken =
      walk_act m (jump low block (standing m is)) (Branch op l r block) is []
      (cond-true (branch_taken op (value m l) (value m r)) (jump low block (standing m is)) (standing m is) taken)
      refl 1 (omega arith) (omega arith)

  pub walk_past : (m : State) (op : BranchOp) (l r : VirtualRegister) (block : BlockId) (is : List Instruction) → branch_taken op (value m l) (value m r) ≡ false → Walk low p (standing m (Branch op l r block ∷ is)) (standing m is) [] 1
  unfolding act shown_by cost_by
  walk_past m op l r block is passed =
      walk_act m (standing m is) (Branch op l r block) is []
      (cond-false (branch_taken op (value m l) (value m r)) (jump low block (standing m is)) (standing m is) passed)
      refl 1 (omega arith) (omega arith)

  pub walk_jump : (m : State) (block : BlockId) (is : List Instruction) → Walk low p (standing m (Jump block ∷ is)) (jump low block (standing m is)) [] 1
  unfolding act shown_by cost_by
  walk_jump m block is = walk_act m (jump low block (standing m is)) (Jump block) is [] refl refl 1 (omega arith) (omega arith)

  -- bytes that may be read
  pub walk_write : (m : State) (buffer length : VirtualRegister) (is : List Instruction) (bytes : List ℕ) → all_from (usable p.rights.readable m) (value m buffer) (value m length) ≡ true → bytes_from m.memory (value m buffer) (value m length) ≡ bytes → Walk low p (standing m (Write Console buffer length ∷ is)) (standing (record m { output = m.output ++ bytes }) is) (bytes ∷ []) 1
  unfolding act write shown_by cost_by
  walk_write m buffer length is bytes may are =
      walk_act m (standing (record m { output = m.output ++ bytes }) is) (Write Console buffer length) is (bytes ∷ [])
      (cond-true (all_from (usable p.rights.readable m) (value m buffer) (value m length)) (standing (record m { output = m.output ++ bytes_from m.memory (value m buffer) (value m length) }) is) (bad (standing m is)) may
      ∙ ap (λ bytes. standing (record m { output = m.output ++ bytes }) is) are)
      (cond-true (all_from (usable p.rights.readable m) (value m buffer) (value m length)) (Written Console (bytes_from m.memory (value m buffer) (value m length)) ∷ []) [] may
      ∙ ap (λ bytes. Written Console bytes ∷ []) are)
      1 (omega arith) (omega arith)

  -- to memory that may be written
  pub walk_store : (m : State) (op : StoreOp) (v base : VirtualRegister) (offset : ℤ) (is : List Instruction) → can_access (usable p.rights.writable m) (offset_from (value m base) offset) (store_size_of op) ≡ true → Walk low p (standing m (Store op v base offset ∷ is)) (standing (record m { memory = with_bytes m.memory (offset_from (value m base) offset) (bytes_low_first 0 (store_size_of op) (value m v)) }) is) [] 1
  unfolding act store shown_by cost_by
  walk_store m op v base offset is may =
      walk_act m (standing (record m { memory = with_bytes m.memory (offset_from (value m base) offset) (bytes_low_first 0 (store_size_of op) (value m v)) }) is) (Store op v base offset) is []
      (cond-true (can_access (usable p.rights.writable m) (offset_from (value m base) offset) (store_size_of op)) (standing (record m { memory = with_bytes m.memory (offset_from (value m base) offset) (bytes_low_first 0 (store_size_of op) (value m v)) }) is) (bad (standing m is)) may)
      refl 1 (omega arith) (omega arith)

  -- from memory that may be read
  pub walk_load : (m : State) (op : LoadOp) (to base : VirtualRegister) (offset : ℤ) (is : List Instruction) → can_access (usable p.rights.readable m) (offset_from (value m base) offset) (load_size_of op) ≡ true → Walk low p (standing m (Load op to base offset ∷ is)) (keep to (load_value op m.memory (offset_from (value m base) offset)) (standing m is)) [] 1
  unfolding act load shown_by cost_by
  walk_load m op to base offset is may =
      walk_act m (keep to (load_value op m.memory (offset_from (value m base) offset)) (standing m is)) (Load op to base offset) is []
      (cond-true (can_access (usable p.rights.readable m) (offset_from (value m base) offset) (load_size_of op)) (keep to (load_value op m.memory (offset_from (value m base) offset)) (standing m is)) (bad (standing m is)) may)
      refl 1 (omega arith) (omega arith)

  not_bad : (e : Ending) → e ≡ Running → e ≢ Bad
  not_bad e is bad = let clash : Running ≡ Bad = sym is ∙ bad in cc

  bad_stays : (e : Ending) → e ≡ Bad → goes_on e ≡ false
  bad_stays e is = ap goes_on is

  -- A walk to a state that goes on was never bad, since what is bad stays so.
  pub path_of_walk : (b c : State) (pieces : List (List ℕ)) (most : ℕ) (walk : Walk low p b c pieces most) → c.ending ≡ Running → Path (low_machine low p) (λ s. s.ending ≢ Bad) b c walk.steps (all_written pieces) most
  path_of_walk b c pieces most walk running =
      record {
        ends = walk.ends;
        shows = walk.shown;
        within = walk.within;
        moments = λ j before bad.
            let stays = run_past_end (low_machine low p) j walk.steps b (stopped_halts low p (run (low_machine low p) j b) (bad_stays _ bad)) (omega arith) in
            not_bad c.ending running (ap (λ (s : State). s.ending) (sym walk.ends ∙ stays) ∙ bad);
      }
