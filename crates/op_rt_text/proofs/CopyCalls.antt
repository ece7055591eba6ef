-- Calls of the routines that copy memory.
use Rattle.std.proofs.Common.{◌≡◌, ℕ, ◌+◌, ◌-◌, ◌*◌, ◌%◌, ◌^◌, ◌<◌, ◌≤◌, ◌&&◌, cond, nat_le, nat_lt, List, [], ◌∷◌, length, replicate, slice_index, refl, ap, sym, subst, ◌∙◌, arith}
use Rattle.std.proofs.lemmas.List.{length-map}
use Rattle.op_low.specs.State.{Placement, State, block_of, routine_of, space, value, values}
use Rattle.op_low.specs.declared.code.Counts.{Counts}
use Rattle.op_low.specs.declared.code.Low.{Low}
use Rattle.op_low.specs.declared.code.Routine.{Routine}
use Rattle.op_low.specs.declared.instruction.Call.{Call as Operands}
use Rattle.op_low.specs.declared.instruction.Instruction.{Instruction}
use Rattle.op_low.specs.declared.instruction.Instruction.TheVariants.{Call}
use Rattle.op_rt_text.specs.Names.{copy_bytes_number, copy_words_number, routine_id}
use Rattle.op_rt_text.specs.Running.{Copyable, HasRoom, behind}
use Rattle.op_rt_text.proofs.Calls.{cleared, inside, walk_enter}
use Rattle.op_rt_text.proofs.CopyRun.{CopiedInside, bytes_inside, moved_is, words_inside}
use Rattle.op_rt_text.proofs.Programs.{may_enter, program}
use Rattle.op_rt_text.proofs.Walks.{Walk, standing, walk_longer, walk_then}
use Rattle.op_rv.proofs.Memory.{bytes_from-same, with_bytes-below}
use Rattle.op_rv.specs.State.{bytes_from, with_bytes}
use Rattle.op_rv.specs.declared.objects.GlobalVariable.{GlobalVariable}
use Rattle.op_rv.specs.declared.symbol.RoutineId.{RoutineId}

-- The call has come to the state behind it: below the limit only the bytes at `to` have changed, to those that were at `from`.
pub record Copied (low : Low) (p : Placement) (m : State) (r : ℕ) (operands : Operands) (rest : List Instruction) (to from count most : ℕ) : Type 0 where
  pub value : ℕ
  pub memory : ℕ → ℕ
  pub copied : (x : ℕ) → x < m.limit → memory x ≡ with_bytes m.memory to (bytes_from m.memory from count) x
  pub walk : Walk low p (standing m (Call (routine_id r) operands ∷ rest)) (standing (behind m operands rest value memory m.output) rest) [] most

-- The same for the code within the routine.
pub record CopiedBelow (low : Low) (p : Placement) (m : State) (r : ℕ) (operands : Operands) (rest : List Instruction) (registers : ℕ → ℕ) (now : List Instruction) (memory : ℕ → ℕ) (to from count most : ℕ) : Type 0 where
  pub value : ℕ
  pub after : ℕ → ℕ
  pub copied : (x : ℕ) → x < m.limit → after x ≡ with_bytes memory to (bytes_from memory from count) x
  pub walk : Walk low p (inside low p m r operands rest registers now memory m.output) (standing (behind m operands rest value after m.output) rest) [] most

-- some silent steps that leave memory, and then the code that copies
pub then_copied : {low : Low} {p : Placement} {m : State} {r : ℕ} {operands : Operands} {rest : List Instruction} {registers next : ℕ → ℕ} {now later : List Instruction} {memory : ℕ → ℕ} {to from count k most more : ℕ} → Walk low p (inside low p m r operands rest registers now memory m.output) (inside low p m r operands rest next later memory m.output) [] k → CopiedBelow low p m r operands rest next later memory to from count most → k + most ≤ more → CopiedBelow low p m r operands rest registers now memory to from count more
then_copied first last enough = record { value = last.value; after = last.after; copied = last.copied; walk = walk_longer (walk_then first last.walk) enough }

below_of : (low : Low) (p : Placement) (m : State) (r : ℕ) (operands : Operands) (rest : List Instruction) (registers : ℕ → ℕ) (now : List Instruction) (memory : ℕ → ℕ) (to from count most : ℕ) → CopiedInside low p m r operands rest registers now memory to from count most → CopiedBelow low p m r operands rest registers now memory to from count most
below_of low p m r operands rest registers now memory to from count most it =
    record { value = it.value; after = it.after; copied = λ x lower. moved_is memory it.after to from count it.moved x; walk = it.walk }

module _ (others : List Routine) (entry : RoutineId) (named : Counts) (globals : List GlobalVariable) (p : Placement) where
  abbrev low : Low
  low = program others entry named globals

  pub call_copied : (m : State) (r : ℕ) (operands : Operands) (rest : List Instruction) (passed : List ℕ) → r < 9 → values m operands.arguments ≡ passed → length passed ≡ (routine_of low r).parameters → space low p r ≤ m.room → (to from count inner most : ℕ) → from + count ≤ m.limit → 1 + space low p r + length passed + inner ≤ most → CopiedBelow low p m r operands rest (slice_index passed) (block_of low r 0) (cleared low m r) to from count inner → Copied low p m r operands rest to from count most
  call_copied m r operands rest passed there are same has to from count inner most below enough body =
      let number : length operands.arguments ≡ length passed = sym (length-map operands.arguments (value m)) ∙ ap (λ vs. length vs) are in
      let before = standing m (Call (routine_id r) operands ∷ rest) in
      let start = cleared low m r in
      let first = λ (vs : List ℕ). inside low p m r operands rest (slice_index vs) (block_of low r 0) start m.output in
      let cost = 1 + space low p r + length operands.arguments in
      let enters = walk_enter low p m r operands rest (may_enter others entry named globals p r m operands.arguments passed there are same has) in
      let kept = λ (x : ℕ) (lower : x < m.limit). with_bytes-below m.memory m.limit (replicate {A = ℕ} (routine_of low r).locals 0) x lower in
      let source = bytes_from-same m.memory start from count (λ x at under. kept x (omega arith)) in
      let bytes = bytes_from m.memory from count in
      record {
        value = body.value;
        memory = body.after;
        copied = λ x lower.
            body.copied x lower
            ∙ ap (λ text. with_bytes start to text x) source
            ∙ ap (λ y. cond (nat_le to x && nat_lt x (to + length bytes)) (slice_index bytes (x - to)) y) (kept x lower);
        walk =
            walk_longer (walk_then (subst (λ vs. Walk low p before (first vs) [] cost) are enters) body.walk) (omega arith);
      }

  -- what may be copied may be where the routine begins
  begun_copyable : (m : State) (r to from count : ℕ) → Copyable p m to from count → Copyable p (record m { memory = cleared low m r }) to from count
  begun_copyable m r to from count can =
      let below = can.source.below in
      record {
        target = can.target;
        source = can.source;
        bytes = λ x at before. subst (λ b. b < 2 ^ 8) (sym (with_bytes-below m.memory m.limit (replicate {A = ℕ} (routine_of low r).locals 0) x (omega arith))) (can.bytes x at before);
        apart = can.apart;
      }

  pub words_called : (m : State) (operands : Operands) (rest : List Instruction) (to from count : ℕ) → values m operands.arguments ≡ to ∷ from ∷ count ∷ [] → p.frame copy_words_number ≤ 64 → HasRoom p m 64 → Copyable p m to from count → to % 4 ≡ 0 → from % 4 ≡ 0 → count % 4 ≡ 0 → Copied low p m copy_words_number operands rest to from count (78 + 2 * count)
  words_called m operands rest to from count passed small room can to_whole from_whole whole =
      let least = room.room in
      let has : space low p copy_words_number ≤ m.room = omega arith in
      let arguments = to ∷ from ∷ count ∷ [] in
      let memory = cleared low m copy_words_number in
      let body = words_inside low p copy_words_number m operands rest room has refl refl refl refl to from count memory (begun_copyable m copy_words_number to from count can) to_whole from_whole whole in
      call_copied m copy_words_number operands rest arguments (omega arith) passed refl has to from count (10 + 2 * count) (78 + 2 * count) can.source.below (omega arith)
      (below_of low p m copy_words_number operands rest (slice_index arguments) (block_of low copy_words_number 0) memory to from count (10 + 2 * count) body)

  pub bytes_copied : (m : State) (operands : Operands) (rest : List Instruction) (to from count : ℕ) → values m operands.arguments ≡ to ∷ from ∷ count ∷ [] → p.frame copy_bytes_number ≤ 64 → HasRoom p m 64 → Copyable p m to from count → Copied low p m copy_bytes_number operands rest to from count (82 + 5 * count)
  bytes_copied m operands rest to from count passed small room can =
      let least = room.room in
      let has : space low p copy_bytes_number ≤ m.room = omega arith in
      let arguments = to ∷ from ∷ count ∷ [] in
      let memory = cleared low m copy_bytes_number in
      let body = bytes_inside low p copy_bytes_number m operands rest room has refl refl refl refl to from count memory (begun_copyable m copy_bytes_number to from count can) in
      call_copied m copy_bytes_number operands rest arguments (omega arith) passed refl has to from count (14 + 5 * count) (82 + 5 * count) can.source.below (omega arith)
      (below_of low p m copy_bytes_number operands rest (slice_index arguments) (block_of low copy_bytes_number 0) memory to from count (14 + 5 * count) body)
