-- A call and a return, as walks.
use Rattle.std.proofs.Common.{◌≡◌, ℕ, ◌+◌, ◌-◌, ◌≤◌, true, List, [], ◌∷◌, length, replicate, slice_index, refl, ap₂, arith}
use Rattle.std.proofs.lemmas.Bool.{cond-true}
use Rattle.op_low.specs.Machine.{act, call, can_enter, cost_by, shown_by}
use Rattle.op_low.specs.State.{Placement, Running, State, bad, block_of, routine_of, space, values}
use Rattle.op_low.specs.declared.code.Low.{Low}
use Rattle.op_low.specs.declared.ids.VirtualRegister.{VirtualRegister}
use Rattle.op_low.specs.declared.instruction.Call.{Call as Operands}
use Rattle.op_low.specs.declared.instruction.Instruction.{Instruction}
use Rattle.op_low.specs.declared.instruction.Instruction.TheVariants.{Call, Return}
use Rattle.op_rt_text.specs.Names.{routine_id}
use Rattle.op_rt_text.specs.Running.{behind}
use Rattle.op_rt_text.proofs.Walks.{Walk, standing, walk_act}
use Rattle.op_rv.specs.State.{with_bytes}

-- within a routine that was called
abbrev pub inside : Low → Placement → State → ℕ → Operands → List Instruction → (registers : ℕ → ℕ) → (now : List Instruction) → (memory : ℕ → ℕ) → (output : List ℕ) → State
inside low p m r operands rest registers now memory output =
    record m {
      top = record { routine = r; registers = registers; now = now };
      callers = record { activation = record m.top { now = rest }; to = operands.to; landing = operands.landing } ∷ m.callers;
      limit = m.limit + (routine_of low r).locals;
      room = m.room - space low p r;
      memory = memory;
      output = output;
      ending = Running;
    }

-- memory with the zeros of the locals
abbrev pub cleared : Low → State → ℕ → ℕ → ℕ
cleared low m r = with_bytes m.memory m.limit (replicate (routine_of low r).locals 0)

module _ (low : Low) (p : Placement) (m : State) (r : ℕ) (operands : Operands) (rest : List Instruction) where
  pub walk_enter : can_enter low p r (length operands.arguments) m ≡ true → Walk low p (standing m (Call (routine_id r) operands ∷ rest)) (inside low p m r operands rest (slice_index (values m operands.arguments)) (block_of low r 0) (cleared low m r) m.output) [] (1 + space low p r + length operands.arguments)
  unfolding act call shown_by cost_by
  walk_enter can =
      walk_act low p m (inside low p m r operands rest (slice_index (values m operands.arguments)) (block_of low r 0) (cleared low m r) m.output) (Call (routine_id r) operands) rest []
      (cond-true (can_enter low p r (length operands.arguments) m) (inside low p m r operands rest (slice_index (values m operands.arguments)) (block_of low r 0) (cleared low m r) m.output) (bad (standing m rest)) can)
      refl (1 + space low p r + length operands.arguments) (omega arith) (omega arith)

  pub walk_leave : (registers : ℕ → ℕ) (v : VirtualRegister) (is : List Instruction) (memory : ℕ → ℕ) (output : List ℕ) → space low p r ≤ m.room → Walk low p (inside low p m r operands rest registers (Return v ∷ is) memory output) (standing (behind m operands rest (registers v.0) memory output) rest) [] 1
  unfolding act shown_by cost_by
  walk_leave registers v is memory output has =
      let limit : m.limit + (routine_of low r).locals - (routine_of low r).locals ≡ m.limit = omega arith in
      let room : m.room - space low p r + space low p r ≡ m.room = omega arith in
      walk_act low p (inside low p m r operands rest registers (Return v ∷ is) memory output) (standing (behind m operands rest (registers v.0) memory output) rest) (Return v) is []
      (ap₂ (λ l n. record (standing (behind m operands rest (registers v.0) memory output) rest) { limit = l; room = n }) limit room)
      refl 1 (omega arith) (omega arith)
