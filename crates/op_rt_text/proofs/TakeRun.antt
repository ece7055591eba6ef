-- The routine that takes a value does it.
use Rattle.std.proofs.Common.{◌≡◌, ℕ, pos, ◌+◌, ◌*◌, ◌%◌, ◌^◌, ◌<◌, ◌≤◌, inl, inr, true, false, cond, not, nat_eq, nat_lt, None, List, [], ◌∷◌, drop, replicate, slice_index, refl, ap, ap₂, sym, subst, ◌∙◌, arith}
use Rattle.std.proofs.lemmas.Bool.{and_from, cases_lt}
use Rattle.std.proofs.lemmas.Bool.Decides.{nat_tests}
use Rattle.std.proofs.lemmas.Nat.{and_mask}
use Rattle.op_low.specs.Machine.{act, cost, cost_by, done, shown_by, shows, step, step_by_ending}
use Rattle.op_low.specs.State.{Placement, State, usable, values}
use Rattle.op_low.specs.declared.code.Counts.{Counts}
use Rattle.op_low.specs.declared.code.Low.{Low}
use Rattle.op_low.specs.declared.code.Routine.{Routine}
use Rattle.op_low.specs.declared.instruction.Call.{Call as Operands}
use Rattle.op_low.specs.declared.instruction.Instruction.{Instruction}
use Rattle.op_low.specs.declared.instruction.Instruction.TheVariants.{Return}
use Rattle.op_rt_text.specs.Names.{block_id, call, copy_bytes_number, copy_words_number, register, take_number}
use Rattle.op_rt_text.specs.Running.{Allowed, Copyable, HasRoom}
use Rattle.op_rt_text.specs.Take.{begins}
use Rattle.op_rt_text.proofs.Calls.{cleared, inside, walk_leave}
use Rattle.op_rt_text.proofs.CopyCalls.{Copied, CopiedBelow, bytes_copied, call_copied, then_copied, words_called}
use Rattle.op_rt_text.proofs.Programs.{program}
use Rattle.op_rt_text.proofs.Walks.{Walk, walk_branch, walk_load, walk_past, walk_then}
use Rattle.op_rv.proofs.Memory.{can_access_word, with_bytes-below, word_at-same}
use Rattle.op_rv.specs.Operation.{branch_taken, imm_value, word_from}
use Rattle.op_rv.specs.State.{word_at}
use Rattle.op_rv.specs.Step.{can_access, offset_from}
use Rattle.op_rv.specs.declared.instruction.BranchOp.TheVariants.{Bne}
use Rattle.op_rv.specs.declared.instruction.ImmOp.TheVariants.{Andi}
use Rattle.op_rv.specs.declared.instruction.LoadOp.TheVariants.{Lw}
use Rattle.op_rv.specs.declared.objects.GlobalVariable.{GlobalVariable}
use Rattle.op_rv.specs.declared.symbol.RoutineId.{RoutineId}
use Rattle.op_simulation.specs.System.{run, spent, trace}

low_bits : (a : ℕ) → imm_value Andi a (word_from (pos 3)) ≡ a % 4
low_bits a = and_mask a 2

-- the copy by the routine of this number
abbrev copies : ℕ → List Instruction
copies r = call r (register 0 ∷ register 2 ∷ register 1 ∷ []) (register 3) ∷ Return (register 3) ∷ []

module _ (others : List Routine) (entry : RoutineId) (named : Counts) (globals : List GlobalVariable) (p : Placement) (small_words : p.frame copy_words_number ≤ 64) (small_bytes : p.frame copy_bytes_number ≤ 64) (small : p.frame take_number ≤ 64) where
  abbrev low : Low
  low = program others entry named globals

  module _ (m : State) (operands : Operands) (rest : List Instruction) (to from size : ℕ) (room : HasRoom p m 128) (can : Copyable p m to from size) (whole : to % 4 ≡ 0) (memory : ℕ → ℕ) (kept : (x : ℕ) → x < m.limit → memory x ≡ m.memory x) (word : Allowed p.rights.readable m.limit to 4) (is : word_at m.memory to ≡ from) where
    abbrev here : (ℕ → ℕ) → List Instruction → (ℕ → ℕ) → State
    here registers now memory = inside low p m take_number operands rest registers now memory m.output

    abbrev given : ℕ → ℕ
    given = slice_index (to ∷ size ∷ [])

    abbrev with_from : ℕ → ℕ
    with_from r = cond (nat_eq r 2) from (given r)

    abbrev with_left : (ℕ → ℕ) → ℕ → ℕ → ℕ
    with_left registers a r = cond (nat_eq r 3) (imm_value Andi a (word_from (pos 3))) (registers r)

    load_step : Walk low p (here given begins memory) (here with_from (drop 1 begins) memory) [] 1
    load_step =
        let words = room.words in
        let least = room.room in
        let below = word.below in
        let state = here given (drop 1 begins) memory in
        let there : offset_from to (pos 0) ≡ to = omega arith in
        let may : can_access (usable p.rights.readable state) to 4 ≡ true =
        can_access_word (usable p.rights.readable state) to whole
        (λ x at before. and_from (p.rights.readable x) (nat_lt x state.limit) (word.may x at before) (grind (arith, nat_tests))) in
        let found : word_at memory (offset_from to (pos 0)) ≡ from = ap (word_at memory) there ∙ word_at-same m.memory memory to (λ x at before. kept x (omega arith)) ∙ is in
        subst (λ v. Walk low p (here given begins memory) (here (λ r. cond (nat_eq r 2) v (given r)) (drop 1 begins) memory) [] 1) found
        (walk_load low p state Lw (register 2) (register 0) (pos 0) (drop 1 begins) (ap (λ a. can_access (usable p.rights.readable state) a 4) there ∙ may))

    from_step : Walk low p (here with_from (drop 1 begins) memory) (here (with_left with_from from) (drop 2 begins) memory) [] 1
    unfolding step step_by_ending done act run trace spent shows shown_by cost cost_by
    from_step = record { steps = 1; few = omega arith; ends = refl; shown = refl; within = omega arith }

    size_step : (registers : ℕ → ℕ) → registers 1 ≡ size → Walk low p (here registers (drop 3 begins) memory) (here (with_left registers size) (drop 4 begins) memory) [] 1
    unfolding step step_by_ending done act run trace spent shows shown_by cost cost_by
    size_step registers is = subst (λ a. Walk low p (here registers (drop 3 begins) memory) (here (with_left registers a) (drop 4 begins) memory) [] 1) is (record { steps = 1; few = omega arith; ends = refl; shown = refl; within = omega arith })

    words_step : (registers : ℕ → ℕ) → Walk low p (here registers (drop 5 begins) memory) (here registers (copies copy_words_number) memory) [] 1
    unfolding step step_by_ending done act run trace spent shows shown_by cost cost_by
    words_step registers = record { steps = 1; few = omega arith; ends = refl; shown = refl; within = omega arith }

    -- behind a copy
    abbrev the_call : Operands
    the_call = record { arguments = register 0 ∷ register 2 ∷ register 1 ∷ []; to = register 3; landing = None }

    returned : (r : ℕ) (registers : ℕ → ℕ) (most : ℕ) → Copied low p (here registers [] memory) r the_call (Return (register 3) ∷ []) to from size most → CopiedBelow low p m take_number operands rest registers (copies r) memory to from size (most + 1)
    returned r registers most calls =
        let least = room.room in
        let after = λ (x : ℕ). cond (nat_eq x 3) calls.value (registers x) in
        record {
          value = after 3;
          after = calls.memory;
          copied = λ x lower. calls.copied x (omega arith);
          walk =
              walk_then
              calls.walk
              (walk_leave low p m take_number operands rest after (register 3) [] calls.memory m.output (omega arith));
        }

    inner_room : (registers : ℕ → ℕ) → HasRoom p (here registers [] memory) 64
    inner_room registers =
        let least = room.room in
        let words = room.words in
        record {
          room = omega arith;
          words = omega arith;
          readable = λ x at before. room.readable x (omega arith) (omega arith);
          writable = λ x at before. room.writable x (omega arith) (omega arith);
        }

    inner_can : (registers : ℕ → ℕ) → Copyable p (here registers [] memory) to from size
    inner_can registers =
        let target_below = can.target.below in
        let source_below = can.source.below in
        record {
          target = record { may = can.target.may; below = omega arith };
          source = record { may = can.source.may; below = omega arith };
          bytes = λ x at before. subst (λ b. b < 2 ^ 8) (sym (kept x (omega arith))) (can.bytes x at before);
          apart = can.apart;
        }

    by_words : (registers : ℕ → ℕ) → registers 0 ≡ to → registers 1 ≡ size → registers 2 ≡ from → from % 4 ≡ 0 → size % 4 ≡ 0 → CopiedBelow low p m take_number operands rest registers (copies copy_words_number) memory to from size (78 + 2 * size + 1)
    by_words registers to_is size_is from_is from_whole size_whole =
        returned copy_words_number registers (78 + 2 * size)
        (words_called others entry named globals p (here registers [] memory) the_call (Return (register 3) ∷ []) to from size (ap₂ (λ a vs. a ∷ vs) to_is (ap₂ (λ a b. a ∷ b ∷ []) from_is size_is)) small_words (inner_room registers) (inner_can registers) whole from_whole size_whole)

    by_bytes : (registers : ℕ → ℕ) → registers 0 ≡ to → registers 1 ≡ size → registers 2 ≡ from → CopiedBelow low p m take_number operands rest registers (copies copy_bytes_number) memory to from size (82 + 5 * size + 1)
    by_bytes registers to_is size_is from_is =
        returned copy_bytes_number registers (82 + 5 * size)
        (bytes_copied others entry named globals p (here registers [] memory) the_call (Return (register 3) ∷ []) to from size (ap₂ (λ a vs. a ∷ vs) to_is (ap₂ (λ a b. a ∷ b ∷ []) from_is size_is)) small_bytes (inner_room registers) (inner_can registers))

    abbrev from_left : ℕ → ℕ
    from_left = with_left with_from from

    abbrev size_left : ℕ → ℕ
    size_left = with_left from_left size

    left_is : (a : ℕ) (registers : ℕ → ℕ) → 0 < a % 4 → branch_taken Bne (with_left registers a 3) 0 ≡ true
    left_is a registers some =
        let left = low_bits a in
        let differ : nat_eq (with_left registers a 3) 0 ≡ false = grind (arith, nat_tests, left) in
        ap not differ

    none_left : (a : ℕ) (registers : ℕ → ℕ) → a % 4 ≡ 0 → branch_taken Bne (with_left registers a 3) 0 ≡ false
    none_left a registers none =
        let left = low_bits a in
        let same : nat_eq (with_left registers a 3) 0 ≡ true = grind (arith, nat_tests, left, none) in
        ap not same

    by_size : from % 4 ≡ 0 → CopiedBelow low p m take_number operands rest size_left (drop 4 begins) memory to from size (84 + 5 * size + 1)
    by_size from_whole =
        elim (cases_lt 0 (size % 4)) [
          | inl some ↦
              then_copied
              (walk_branch low p (here size_left (drop 5 begins) memory) Bne (register 3) (register 4) (block_id 2) (drop 5 begins) (left_is size from_left some))
              (by_bytes size_left refl refl refl)
              (omega arith)
          | inr none ↦
              then_copied
              (walk_then (walk_past low p (here size_left (drop 5 begins) memory) Bne (register 3) (register 4) (block_id 2) (drop 5 begins) (none_left size from_left (omega arith))) (words_step size_left))
              (by_words size_left refl refl refl from_whole (omega arith))
              (omega arith)
        ]

    by_from : CopiedBelow low p m take_number operands rest from_left (drop 2 begins) memory to from size (86 + 5 * size + 1)
    by_from =
        elim (cases_lt 0 (from % 4)) [
          | inl some ↦
              then_copied
              (walk_branch low p (here from_left (drop 3 begins) memory) Bne (register 3) (register 4) (block_id 2) (drop 3 begins) (left_is from with_from some))
              (by_bytes from_left refl refl refl)
              (omega arith)
          | inr none ↦
              then_copied
              (walk_then (walk_past low p (here from_left (drop 3 begins) memory) Bne (register 3) (register 4) (block_id 2) (drop 3 begins) (none_left from with_from (omega arith))) (size_step from_left refl))
              (by_size (omega arith))
              (omega arith)
        ]

    take_inside : CopiedBelow low p m take_number operands rest given begins memory to from size (88 + 5 * size + 1)
    take_inside = then_copied (walk_then load_step from_step) by_from (omega arith)

  -- a call of the routine
  pub take_called : (m : State) (operands : Operands) (rest : List Instruction) (to from size : ℕ) → values m operands.arguments ≡ to ∷ size ∷ [] → HasRoom p m 128 → Copyable p m to from size → to % 4 ≡ 0 → Allowed p.rights.readable m.limit to 4 → word_at m.memory to ≡ from → Copied low p m take_number operands rest to from size (156 + 5 * size)
  take_called m operands rest to from size passed room can whole word is =
      let least = room.room in
      call_copied others entry named globals p m take_number operands rest (to ∷ size ∷ []) (omega arith) passed refl (omega arith) to from size (88 + 5 * size + 1) (156 + 5 * size) can.source.below (omega arith)
      (take_inside m operands rest to from size room can whole (cleared low m take_number) (λ x lower. with_bytes-below m.memory m.limit (replicate {A = ℕ} 0 0) x lower) word is)
