-- A program that has the run-time routines in front, and calls of them.
use Rattle.std.proofs.Common.{◌≡◌, ℕ, ◌+◌, ◌<◌, ◌≤◌, true, nat_eq, nat_le, nat_lt, List, [], ◌∷◌, ◌++◌, length, slice_index, ap, sym, subst, ◌∙◌, arith, append_assoc, append-nil, ap₂, refl}
use Rattle.std.proofs.lemmas.Bool.{and_from}
use Rattle.std.proofs.lemmas.Bool.Decides.{nat_tests}
use Rattle.std.proofs.lemmas.List.{length-append, length-map}
use Rattle.std.proofs.lemmas.List.Folds.{concat-append}
use Rattle.std.specs.List.{concat}
use Rattle.op_low.specs.Machine.{can_enter}
use Rattle.op_low.specs.State.{Placement, State, block_of, routine_of, space, value, values}
use Rattle.op_low.specs.declared.code.Counts.{Counts}
use Rattle.op_low.specs.declared.code.Low.{Low}
use Rattle.op_low.specs.declared.code.Routine.{Routine}
use Rattle.op_low.specs.declared.ids.VirtualRegister.{VirtualRegister}
use Rattle.op_low.specs.declared.instruction.Call.{Call as Operands}
use Rattle.op_low.specs.declared.instruction.Instruction.{Instruction}
use Rattle.op_low.specs.declared.instruction.Instruction.TheVariants.{Call, Return}
use Rattle.op_rt_text.specs.Names.{routine_id}
use Rattle.op_rt_text.specs.Running.{behind}
use Rattle.op_rt_text.specs.Runtime.{runtime_routines}
use Rattle.op_rt_text.proofs.Calls.{cleared, inside, walk_enter, walk_leave}
use Rattle.op_rt_text.proofs.Walks.{Walk, standing, walk_longer, walk_then}
use Rattle.op_rv.specs.declared.objects.GlobalVariable.{GlobalVariable}
use Rattle.op_rv.specs.declared.symbol.RoutineId.{RoutineId}

-- the routines, and the rest of a program
abbrev pub program : List Routine → RoutineId → Counts → List GlobalVariable → Low
program others entry named globals = record { routines = runtime_routines ++ others; entry = entry; counts = named; globals = globals }

-- The call has come to the state behind it: these bytes are written, and memory below the limit is the same.
pub record Written (low : Low) (p : Placement) (m : State) (r : ℕ) (operands : Operands) (rest : List Instruction) (bytes : List ℕ) (most : ℕ) : Type 0 where
  pub value : ℕ
  pub memory : ℕ → ℕ
  pub kept : (x : ℕ) → x < m.limit → memory x ≡ m.memory x
  pub pieces : List (List ℕ)
  pub joined : concat pieces ≡ bytes
  pub walk : Walk low p (standing m (Call (routine_id r) operands ∷ rest)) (standing (behind m operands rest value memory (m.output ++ bytes)) rest) pieces most

-- The same for the code within the routine.
pub record WrittenInside (low : Low) (p : Placement) (m : State) (r : ℕ) (operands : Operands) (rest : List Instruction) (registers : ℕ → ℕ) (now : List Instruction) (before : ℕ → ℕ) (output bytes : List ℕ) (most : ℕ) : Type 0 where
  pub value : ℕ
  pub memory : ℕ → ℕ
  pub kept : (x : ℕ) → x < m.limit → memory x ≡ m.memory x
  pub pieces : List (List ℕ)
  pub joined : concat pieces ≡ bytes
  pub walk : Walk low p (inside low p m r operands rest registers now before output) (standing (behind m operands rest value memory (output ++ bytes)) rest) pieces most

-- some silent steps, and then the code that writes
pub then_written : {low : Low} {p : Placement} {m : State} {r : ℕ} {operands : Operands} {rest : List Instruction} {registers next : ℕ → ℕ} {now later : List Instruction} {before middle : ℕ → ℕ} {output bytes : List ℕ} {k most more : ℕ} → Walk low p (inside low p m r operands rest registers now before output) (inside low p m r operands rest next later middle output) [] k → WrittenInside low p m r operands rest next later middle output bytes most → k + most ≤ more → WrittenInside low p m r operands rest registers now before output bytes more
then_written first last enough =
    record {
      value = last.value;
      memory = last.memory;
      kept = last.kept;
      pieces = last.pieces;
      joined = last.joined;
      walk = walk_longer (walk_then first last.walk) enough;
    }

-- some steps that write, and then the code that writes the rest
pub then_more : {low : Low} {p : Placement} {m : State} {r : ℕ} {operands : Operands} {rest : List Instruction} {registers next : ℕ → ℕ} {now later : List Instruction} {before middle : ℕ → ℕ} {output text others bytes : List ℕ} {pieces : List (List ℕ)} {k most more : ℕ} → Walk low p (inside low p m r operands rest registers now before output) (inside low p m r operands rest next later middle (output ++ text)) pieces k → concat pieces ≡ text → WrittenInside low p m r operands rest next later middle (output ++ text) others most → text ++ others ≡ bytes → k + most ≤ more → WrittenInside low p m r operands rest registers now before output bytes more
then_more {low = low} {p = p} {m = m} {r = r} {operands = operands} {rest = rest} {next = next} {later = later} {middle = middle} {output = output} {text = text} {others = others} {pieces = pieces} {most = most} first written last whole enough =
    let same = append_assoc output text others ∙ ap (λ bytes. output ++ bytes) whole in
    record {
      value = last.value;
      memory = last.memory;
      kept = last.kept;
      pieces = pieces ++ last.pieces;
      joined = concat-append pieces last.pieces ∙ ap₂ (λ xs ys. xs ++ ys) written last.joined ∙ whole;
      walk = walk_longer (walk_then first (subst (λ out. Walk low p (inside low p m r operands rest next later middle (output ++ text)) (standing (behind m operands rest last.value last.memory out) rest) last.pieces most) same last.walk)) enough;
    }

-- the return
pub leaves_written : (low : Low) (p : Placement) (m : State) (r : ℕ) (operands : Operands) (rest : List Instruction) (registers : ℕ → ℕ) (v : VirtualRegister) (memory : ℕ → ℕ) (output : List ℕ) → ((x : ℕ) → x < m.limit → memory x ≡ m.memory x) → space low p r ≤ m.room → WrittenInside low p m r operands rest registers (Return v ∷ []) memory output [] 1
leaves_written low p m r operands rest registers v memory output kept has =
    record {
      value = registers v.0;
      memory = memory;
      kept = kept;
      pieces = [];
      joined = refl;
      walk =
          subst (λ out. Walk low p (inside low p m r operands rest registers (Return v ∷ []) memory output) (standing (behind m operands rest (registers v.0) memory out) rest) [] 1) (sym (append-nil output))
          (walk_leave low p m r operands rest registers v [] memory output has);
    }

pub longer_written : {low : Low} {p : Placement} {m : State} {r : ℕ} {operands : Operands} {rest : List Instruction} {registers : ℕ → ℕ} {now : List Instruction} {before : ℕ → ℕ} {output bytes : List ℕ} {most more : ℕ} → WrittenInside low p m r operands rest registers now before output bytes most → most ≤ more → WrittenInside low p m r operands rest registers now before output bytes more
longer_written it enough =
    record { value = it.value; memory = it.memory; kept = it.kept; pieces = it.pieces; joined = it.joined; walk = walk_longer it.walk enough }

module _ (others : List Routine) (entry : RoutineId) (named : Counts) (globals : List GlobalVariable) (p : Placement) where
  abbrev low : Low
  low = program others entry named globals

  pub may_enter : (r : ℕ) (m : State) (arguments : List VirtualRegister) (passed : List ℕ) → r < 9 → values m arguments ≡ passed → length passed ≡ (routine_of low r).parameters → space low p r ≤ m.room → can_enter low p r (length arguments) m ≡ true
  may_enter r m arguments passed there are same has =
      let number : length arguments ≡ (routine_of low r).parameters = sym (length-map arguments (value m)) ∙ ap (λ vs. length vs) are ∙ same in
      let all = length-append runtime_routines others in
      let first : nat_lt r (length low.routines) ≡ true = grind (arith, nat_tests, all) in
      let second : nat_eq (length arguments) (routine_of low r).parameters ≡ true = grind (arith, nat_tests, number) in
      let third : nat_le (space low p r) m.room ≡ true = grind (arith, nat_tests, has) in
      and_from _ _ (and_from _ _ first second) third

  -- a call of a routine that writes, from what its code does
  pub call_written : (m : State) (r : ℕ) (operands : Operands) (rest : List Instruction) (passed : List ℕ) → r < 9 → values m operands.arguments ≡ passed → length passed ≡ (routine_of low r).parameters → space low p r ≤ m.room → (bytes : List ℕ) (inner most : ℕ) → 1 + space low p r + length passed + inner ≤ most → WrittenInside low p m r operands rest (slice_index passed) (block_of low r 0) (cleared low m r) m.output bytes inner → Written low p m r operands rest bytes most
  call_written m r operands rest passed there are same has bytes inner most enough body =
      let number : length operands.arguments ≡ length passed = sym (length-map operands.arguments (value m)) ∙ ap (λ vs. length vs) are in
      let before = standing m (Call (routine_id r) operands ∷ rest) in
      let first = λ (vs : List ℕ). inside low p m r operands rest (slice_index vs) (block_of low r 0) (cleared low m r) m.output in
      let cost = 1 + space low p r + length operands.arguments in
      let enters = walk_enter low p m r operands rest (may_enter r m operands.arguments passed there are same has) in
      record {
        value = body.value;
        memory = body.memory;
        kept = body.kept;
        pieces = body.pieces;
        joined = body.joined;
        walk =
            walk_longer (walk_then (subst (λ vs. Walk low p before (first vs) [] cost) are enters) body.walk) (omega arith);
      }
