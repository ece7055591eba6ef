-- Walks of the machine of low code: so many steps that show events and come to a state.
use Rattle.std.proofs.Common.{◌≡◌, ℕ, ◌+◌, ◌-◌, ◌≤◌, true, false, List, [], ◌∷◌, ◌++◌, length, refl, ap, sym, ◌∙◌, arith, ap₂, ◌≢◌, replicate, slice_index, append-nil}
use Rattle.std.proofs.lemmas.Bool.{cond-true}
use Rattle.op_low.proofs.MachineLemmas.{stopped_halts}
use Rattle.op_low.specs.Machine.{Event, act, call, can_enter, cost, cost_by, done, low_machine, shown_by, shows, step, step_by_ending}
use Rattle.op_low.specs.State.{Bad, Ending, Placement, Running, State, bad, block_of, goes_on, routine_of, space, values}
use Rattle.op_low.specs.declared.code.Low.{Low}
use Rattle.op_low.specs.declared.ids.VirtualRegister.{VirtualRegister}
use Rattle.op_low.specs.declared.instruction.Call.{Call as Operands}
use Rattle.op_low.specs.declared.instruction.Instruction.{Instruction}
use Rattle.op_low.specs.declared.instruction.Instruction.TheVariants.{Call, Return}
use Rattle.op_rt_heap.specs.Names.{routine_id}
use Rattle.op_rt_heap.specs.Running.{behind}
use Rattle.op_rv.specs.State.{with_bytes}
use Rattle.op_simulation.proofs.Runs.{run_add, run_past_end, spent_add, trace_add}
use Rattle.op_simulation.specs.Path.{Path}
use Rattle.op_simulation.specs.System.{run, spent, trace}

-- so many steps at most, at that cost, lead from one state to another and show these events
pub record Walk (low : Low) (p : Placement) (b c : State) (events : List Event) (most : ℕ) : Type 0 where
  pub steps : ℕ
  pub few : steps ≤ most
  pub ends : run (low_machine low p) steps b ≡ c
  pub shown : trace (low_machine low p) steps b ≡ events
  pub within : spent (low_machine low p) steps b ≤ most

-- a state that goes on with this code
abbrev pub standing : State → List Instruction → State
standing m now = record m { top = record m.top { now = now }; ending = Running }

-- two walks, one behind the other
pub walk_then : {low : Low} {p : Placement} {b c d : State} {xs ys : List Event} {m n : ℕ} → Walk low p b c xs m → Walk low p c d ys n → Walk low p b d (xs ++ ys) (m + n)
walk_then {low = low} {p = p} {b = b} {c = c} {xs = xs} {ys = ys} first second =
    let few_first = first.few in
    let few_second = second.few in
    let before = first.within in
    let after = second.within in
    let cost = spent_add (low_machine low p) first.steps second.steps b in
    let same : spent (low_machine low p) second.steps (run (low_machine low p) first.steps b) ≡ spent (low_machine low p) second.steps c = ap (spent (low_machine low p) second.steps) first.ends in
    record {
      steps = first.steps + second.steps;
      few = omega arith;
      ends = run_add (low_machine low p) first.steps second.steps b ∙ ap (run (low_machine low p) second.steps) first.ends ∙ second.ends;
      shown = trace_add (low_machine low p) first.steps second.steps b ∙ ap₂ (λ us vs. us ++ vs) first.shown (ap (trace (low_machine low p) second.steps) first.ends ∙ second.shown);
      within = omega arith;
    }

pub walk_longer : {low : Low} {p : Placement} {b c : State} {xs : List Event} {m n : ℕ} → Walk low p b c xs m → m ≤ n → Walk low p b c xs n
walk_longer walk more =
    let few = walk.few in
    let within = walk.within in
    record { steps = walk.steps; few = omega arith; ends = walk.ends; shown = walk.shown; within = omega arith }

module _ (low : Low) (p : Placement) where
  -- one instruction
  pub walk_act : (m c : State) (i : Instruction) (is : List Instruction) (events : List Event) → act low p i (standing m is) ≡ c → shown_by p i (standing m (i ∷ is)) ≡ events → (most : ℕ) → 1 ≤ most → cost_by low p i (standing m (i ∷ is)) ≤ most → Walk low p (standing m (i ∷ is)) c events most
  unfolding step step_by_ending done run trace spent shows cost
  walk_act m c i is events acts says most some within =
      record { steps = 1; few = some; ends = acts; shown = append-nil (shown_by p i (standing m (i ∷ is))) ∙ says; within = omega arith }

  bad_stops : (e : Ending) → e ≡ Bad → goes_on e ≡ false
  bad_stops e is = ap goes_on is

  -- A walk to a state that is not bad was never bad, since what is bad stays so.
  pub path_of_walk : (b c : State) (events : List Event) (most : ℕ) (walk : Walk low p b c events most) → c.ending ≢ Bad → Path (low_machine low p) (λ s. s.ending ≢ Bad) b c walk.steps events most
  path_of_walk b c events most walk fine =
      record {
        ends = walk.ends;
        shows = walk.shown;
        within = walk.within;
        moments = λ j before bad.
            let stays = run_past_end (low_machine low p) j walk.steps b (stopped_halts low p (run (low_machine low p) j b) (bad_stops _ bad)) (omega arith) in
            fine (ap (λ (s : State). s.ending) (sym walk.ends ∙ stays) ∙ bad);
      }

-- within a routine that was called
abbrev pub inside : Low → Placement → State → ℕ → Operands → List Instruction → (registers : ℕ → ℕ) → (now : List Instruction) → (memory : ℕ → ℕ) → State
inside low p m r operands rest registers now memory =
    record m {
      top = record { routine = r; registers = registers; now = now };
      callers = record { activation = record m.top { now = rest }; to = operands.to; landing = operands.landing } ∷ m.callers;
      limit = m.limit + (routine_of low r).locals;
      room = m.room - space low p r;
      memory = memory;
      ending = Running;
    }

-- memory with the zeros of the locals
abbrev pub cleared : Low → State → ℕ → ℕ → ℕ
cleared low m r = with_bytes m.memory m.limit (replicate (routine_of low r).locals 0)

module _ (low : Low) (p : Placement) (m : State) (r : ℕ) (operands : Operands) (rest : List Instruction) where
  pub walk_enter : can_enter low p r (length operands.arguments) m ≡ true → Walk low p (standing m (Call (routine_id r) operands ∷ rest)) (inside low p m r operands rest (slice_index (values m operands.arguments)) (block_of low r 0) (cleared low m r)) [] (1 + space low p r + length operands.arguments)
  unfolding act call shown_by cost_by
  walk_enter can =
      walk_act low p m (inside low p m r operands rest (slice_index (values m operands.arguments)) (block_of low r 0) (cleared low m r)) (Call (routine_id r) operands) rest []
      (cond-true (can_enter low p r (length operands.arguments) m) (inside low p m r operands rest (slice_index (values m operands.arguments)) (block_of low r 0) (cleared low m r)) (bad (standing m rest)) can)
      refl (1 + space low p r + length operands.arguments) (omega arith) (omega arith)

  pub walk_leave : (registers : ℕ → ℕ) (v : VirtualRegister) (is : List Instruction) (memory : ℕ → ℕ) → space low p r ≤ m.room → Walk low p (inside low p m r operands rest registers (Return v ∷ is) memory) (standing (behind m operands rest (registers v.0) memory) rest) [] 1
  unfolding act shown_by cost_by
  walk_leave registers v is memory has =
      let limit : m.limit + (routine_of low r).locals - (routine_of low r).locals ≡ m.limit = omega arith in
      let room : m.room - space low p r + space low p r ≡ m.room = omega arith in
      walk_act low p (inside low p m r operands rest registers (Return v ∷ is) memory) (standing (behind m operands rest (registers v.0) memory) rest) (Return v) is []
      (ap₂ (λ l n. record (standing (behind m operands rest (registers v.0) memory) rest) { limit = l; room = n }) limit room)
      refl 1 (omega arith) (omega arith)
