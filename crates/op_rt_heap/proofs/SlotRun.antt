-- The code of the routines of slots.
use Rattle.std.proofs.Common.{◌≡◌, ℕ, ◌+◌, ◌*◌, ◌<◌, ◌≤◌, true, false, not, nat_eq, nat_lt, List, [], refl, ap, subst, ◌∙◌, arith, pos, drop, slice_get}
use Rattle.std.proofs.lemmas.Bool.Decides.{nat_tests}
use Rattle.op_heap.proofs.SlotRows.{row_memory}
use Rattle.op_heap.proofs.Words.{with_word}
use Rattle.op_heap.specs.Memory.{control_address, control_bytes, row_of}
use Rattle.op_heap.specs.Slots.{word_of}
use Rattle.op_low.specs.State.{Placement, State, block_of, code_or, routine_of, space}
use Rattle.op_low.specs.declared.code.Low.{Low}
use Rattle.op_low.specs.declared.instruction.Call.{Call as Operands}
use Rattle.op_low.specs.declared.instruction.Instruction.{Instruction}
use Rattle.op_rt_heap.proofs.Moves.{IsWordOpen, alu_goes, branch_goes, const_goes, here, imm_goes, jump_goes, load_goes, past_goes, set, shift_goes, store_goes, word_open}
use Rattle.op_rt_heap.proofs.Walks.{Walk, standing, walk_leave, walk_then}
use Rattle.op_rt_heap.specs.Fail.{fails}
use Rattle.op_rt_heap.specs.Names.{register}
use Rattle.op_rt_heap.specs.Running.{HasControl, behind}
use Rattle.op_rt_heap.specs.Slots.{begins_slot, ends_row, finds, free_slot, frees, issue_slot, issues, looks, test_slot, writes_row}
use Rattle.op_rv.specs.Operation.{alu_value, shift_value}
use Rattle.op_rv.specs.State.{word_at}
use Rattle.op_rv.specs.Step.{offset_from}
use Rattle.op_rv.specs.declared.instruction.AluOp.TheVariants.{Add}
use Rattle.op_rv.specs.declared.instruction.BranchOp.TheVariants.{Beq, Bltu, Bne}
use Rattle.op_rv.specs.declared.instruction.ImmOp.TheVariants.{Addi}
use Rattle.op_rv.specs.declared.instruction.ShiftOp.TheVariants.{Slli}

module _ (low : Low) (p : Placement) (m : State) (r : ℕ) (operands : Operands) (rest : List Instruction) (open_control : HasControl p m) (has : space low p r ≤ m.room) where
  abbrev now_at : (ℕ → ℕ) → List Instruction → (ℕ → ℕ) → State
  now_at registers now memory = here low p m r operands rest registers now memory

  -- 8 s behind the control region's address
  abbrev entry_of : ℕ → ℕ
  entry_of s = control_address + 8 * s

  in_row : (s a : ℕ) → s < 65536 → a ≡ entry_of s → offset_from a (pos 24) ≡ row_of s
  in_row s a small is = ap (λ a. offset_from a (pos 24)) is ∙ omega arith

  in_generation : (s a : ℕ) → s < 65536 → a ≡ entry_of s → offset_from a (pos 28) ≡ row_of s + 4
  in_generation s a small is = ap (λ a. offset_from a (pos 28)) is ∙ omega arith

  row_open : (s : ℕ) → 1 ≤ s → s < 65536 → IsWordOpen p m (row_of s)
  row_open s some small = word_open p m control_address control_bytes (row_of s) open_control (omega arith) (omega arith) (omega arith)

  generation_open : (s : ℕ) → 1 ≤ s → s < 65536 → IsWordOpen p m (row_of s + 4)
  generation_open s some small = word_open p m control_address control_bytes (row_of s + 4) open_control (omega arith) (omega arith) (omega arith)

  free_open : IsWordOpen p m (control_address + 4)
  free_open = word_open p m control_address control_bytes (control_address + 4) open_control (omega arith) (omega arith) refl

  unused_open : IsWordOpen p m (control_address + 16)
  unused_open = word_open p m control_address control_bytes (control_address + 16) open_control (omega arith) (omega arith) refl

  -- ---- it is tested that there is one

  module _ (is : routine_of low r ≡ test_slot) where
    test_code_is : (k : ℕ) → block_of low r k ≡ code_or (slice_get test_slot.blocks k)
    test_code_is k = ap (λ routine. code_or (slice_get routine.blocks k)) is

    answers : (registers memory : ℕ → ℕ) → registers 7 ≡ 0 → Walk low p (now_at registers finds memory) (standing (behind m operands rest 0 memory) rest) [] 1
    answers registers memory zero_is =
        subst (λ v. Walk low p (now_at registers finds memory) (standing (behind m operands rest v memory) rest) [] 1) zero_is
        (walk_leave low p m r operands rest registers (register 7) [] memory has)

    pub finds_free : (registers memory : ℕ → ℕ) (s : ℕ) → 1 ≤ s → registers 7 ≡ 0 → word_at memory (control_address + 4) ≡ s → Walk low p (now_at registers looks memory) (standing (behind m operands rest 0 memory) rest) [] 4
    finds_free registers memory s some zero_is first_is =
        let one = set 1 control_address registers in
        let two = set 2 s one in
        let differ : nat_eq s 0 ≡ false = grind (arith, nat_tests) in
        walk_then
        (const_goes low p m r operands rest registers memory 1 control_address (drop 1 looks))
        (walk_then
        (load_goes low p m r operands rest one memory 2 1 (pos 4) (control_address + 4) s (drop 2 looks) refl first_is free_open)
        (walk_then
        (branch_goes low p m r operands rest two memory Bne 2 7 1 finds (drop 3 looks) (test_code_is 1) (ap (λ z. not (nat_eq s z)) zero_is ∙ ap not differ))
        (answers two memory zero_is)))

    abbrev pub at_unused : (ℕ → ℕ) → ℕ → ℕ → ℕ
    at_unused registers s = set 6 65536 (set 2 s (set 2 0 (set 1 control_address registers)))

    pub looks_on : (registers memory : ℕ → ℕ) (s : ℕ) → registers 7 ≡ 0 → word_at memory (control_address + 4) ≡ 0 → word_at memory (control_address + 16) ≡ s → Walk low p (now_at registers looks memory) (now_at (at_unused registers s) (drop 5 looks) memory) [] 5
    looks_on registers memory s zero_is none_is unused_is =
        let one = set 1 control_address registers in
        let two = set 2 0 one in
        walk_then
        (const_goes low p m r operands rest registers memory 1 control_address (drop 1 looks))
        (walk_then
        (load_goes low p m r operands rest one memory 2 1 (pos 4) (control_address + 4) 0 (drop 2 looks) refl none_is free_open)
        (walk_then
        (past_goes low p m r operands rest two memory Bne 2 7 1 (drop 3 looks) (ap (λ z. not (nat_eq 0 z)) zero_is))
        (walk_then
        (load_goes low p m r operands rest two memory 2 1 (pos 16) (control_address + 16) s (drop 4 looks) refl unused_is unused_open)
        (const_goes low p m r operands rest (set 2 s two) memory 6 65536 (drop 5 looks)))))

    pub finds_unused : (registers memory : ℕ → ℕ) (s : ℕ) → s < 65536 → registers 7 ≡ 0 → word_at memory (control_address + 4) ≡ 0 → word_at memory (control_address + 16) ≡ s → Walk low p (now_at registers looks memory) (standing (behind m operands rest 0 memory) rest) [] 7
    finds_unused registers memory s less zero_is none_is unused_is =
        let below : nat_lt s 65536 ≡ true = grind (arith, nat_tests) in
        walk_then
        (looks_on registers memory s zero_is none_is unused_is)
        (walk_then
        (branch_goes low p m r operands rest (at_unused registers s) memory Bltu 2 6 1 finds (drop 6 looks) (test_code_is 1) below)
        (answers (at_unused registers s) memory zero_is))

    -- none is left
    pub finds_none : (registers memory : ℕ → ℕ) (s : ℕ) → 65536 ≤ s → registers 7 ≡ 0 → word_at memory (control_address + 4) ≡ 0 → word_at memory (control_address + 16) ≡ s → Walk low p (now_at registers looks memory) (now_at (at_unused registers s) fails memory) [] 7
    finds_none registers memory s more zero_is none_is unused_is =
        let above : nat_lt s 65536 ≡ false = grind (arith, nat_tests) in
        walk_then
        (looks_on registers memory s zero_is none_is unused_is)
        (walk_then
        (past_goes low p m r operands rest (at_unused registers s) memory Bltu 2 6 1 (drop 6 looks) above)
        (jump_goes low p m r operands rest (at_unused registers s) memory 2 fails [] (test_code_is 2)))

  -- ---- a slot is issued

  module _ (is : routine_of low r ≡ issue_slot) where
    code_is : (k : ℕ) → block_of low r k ≡ code_or (slice_get issue_slot.blocks k)
    code_is k = ap (λ routine. code_or (slice_get routine.blocks k)) is

    -- the row is written
    writes : (registers memory : ℕ → ℕ) (s a g : ℕ) → 1 ≤ s → s < 65536 → registers 0 ≡ a → registers 2 ≡ s → registers 3 ≡ entry_of s → word_at (with_word memory (row_of s) a) (row_of s + 4) ≡ g → g < 65535 → Walk low p (now_at registers writes_row memory) (standing (behind m operands rest (word_of (g + 1) s) (row_memory memory s a (g + 1))) rest) [] 7
    writes registers memory s a g some small address_is slot_is entry_is generation_is less =
        let first = with_word memory (row_of s) a in
        let after = row_memory memory s a (g + 1) in
        let one = set 5 g registers in
        let two = set 5 (g + 1) one in
        let three = set 5 ((g + 1) * 65536) two in
        let four = set 5 (word_of (g + 1) s) three in
        let up : shift_value Slli (g + 1) 16 ≡ (g + 1) * 65536 = omega arith in
        let sum : alu_value Add ((g + 1) * 65536) (registers 2) ≡ word_of (g + 1) s = ap (alu_value Add ((g + 1) * 65536)) slot_is ∙ omega arith in
        walk_then
        (store_goes low p m r operands rest registers memory 0 3 (pos 24) (row_of s) a (drop 1 writes_row) (in_row s (registers 3) small entry_is) address_is (row_open s some small))
        (walk_then
        (load_goes low p m r operands rest registers first 5 3 (pos 28) (row_of s + 4) g (drop 2 writes_row) (in_generation s (registers 3) small entry_is) generation_is (generation_open s some small))
        (walk_then
        (imm_goes low p m r operands rest one first Addi 5 5 (pos 1) (g + 1) (drop 3 writes_row) (omega arith))
        (walk_then
        (store_goes low p m r operands rest two first 5 3 (pos 28) (row_of s + 4) (g + 1) (drop 4 writes_row) (in_generation s (registers 3) small entry_is) refl (generation_open s some small))
        (walk_then
        (shift_goes low p m r operands rest two after Slli 5 5 16 ((g + 1) * 65536) (drop 5 writes_row) up)
        (walk_then
        (alu_goes low p m r operands rest three after Add 5 5 2 (word_of (g + 1) s) (drop 6 writes_row) sum)
        (walk_leave low p m r operands rest four (register 5) [] after has))))))

    -- a freed slot
    pub issues_free : (registers memory : ℕ → ℕ) (s a g next : ℕ) → 1 ≤ s → s < 65536 → registers 0 ≡ a → registers 7 ≡ 0 → word_at memory (control_address + 4) ≡ s → word_at memory (row_of s) ≡ next → word_at (with_word (with_word memory (control_address + 4) next) (row_of s) a) (row_of s + 4) ≡ g → g < 65535 → Walk low p (now_at registers issues memory) (standing (behind m operands rest (word_of (g + 1) s) (row_memory (with_word memory (control_address + 4) next) s a (g + 1))) rest) [] 15
    issues_free registers memory s a g next some small address_is zero_is first_is next_is generation_is less =
        let one = set 1 control_address registers in
        let two = set 2 s one in
        let three = set 3 (8 * s) two in
        let four = set 3 (entry_of s) three in
        let five = set 4 next four in
        let differ : nat_eq s 0 ≡ false = grind (arith, nat_tests) in
        let up : shift_value Slli s 3 ≡ 8 * s = omega arith in
        let sum : alu_value Add (8 * s) control_address ≡ entry_of s = omega arith in
        walk_then
        (const_goes low p m r operands rest registers memory 1 control_address (drop 1 issues))
        (walk_then
        (load_goes low p m r operands rest one memory 2 1 (pos 4) (control_address + 4) s (drop 2 issues) refl first_is free_open)
        (walk_then
        (past_goes low p m r operands rest two memory Beq 2 7 1 (drop 3 issues) (ap (nat_eq s) zero_is ∙ differ))
        (walk_then
        (shift_goes low p m r operands rest two memory Slli 3 2 3 (8 * s) (drop 4 issues) up)
        (walk_then
        (alu_goes low p m r operands rest three memory Add 3 3 1 (entry_of s) (drop 5 issues) sum)
        (walk_then
        (load_goes low p m r operands rest four memory 4 3 (pos 24) (row_of s) next (drop 6 issues) (in_row s (entry_of s) small refl) next_is (row_open s some small))
        (walk_then
        (store_goes low p m r operands rest five memory 4 1 (pos 4) (control_address + 4) next (drop 7 issues) refl refl free_open)
        (walk_then
        (jump_goes low p m r operands rest five (with_word memory (control_address + 4) next) 2 writes_row [] (code_is 2))
        (writes five (with_word memory (control_address + 4) next) s a g some small address_is refl refl generation_is less))))))))

    -- one that was never used
    pub issues_new : (registers memory : ℕ → ℕ) (s a g : ℕ) → 1 ≤ s → s < 65536 → registers 0 ≡ a → registers 7 ≡ 0 → word_at memory (control_address + 4) ≡ 0 → word_at memory (control_address + 16) ≡ s → word_at (with_word (with_word memory (control_address + 16) (s + 1)) (row_of s) a) (row_of s + 4) ≡ g → g < 65535 → Walk low p (now_at registers issues memory) (standing (behind m operands rest (word_of (g + 1) s) (row_memory (with_word memory (control_address + 16) (s + 1)) s a (g + 1))) rest) [] 16
    issues_new registers memory s a g some small address_is zero_is none_is unused_is generation_is less =
        let one = set 1 control_address registers in
        let two = set 2 0 one in
        let three = set 2 s two in
        let four = set 4 (s + 1) three in
        let five = set 3 (8 * s) four in
        let six = set 3 (entry_of s) five in
        let first = with_word memory (control_address + 16) (s + 1) in
        let up : shift_value Slli s 3 ≡ 8 * s = omega arith in
        let sum : alu_value Add (8 * s) control_address ≡ entry_of s = omega arith in
        walk_then
        (const_goes low p m r operands rest registers memory 1 control_address (drop 1 issues))
        (walk_then
        (load_goes low p m r operands rest one memory 2 1 (pos 4) (control_address + 4) 0 (drop 2 issues) refl none_is free_open)
        (walk_then
        (branch_goes low p m r operands rest two memory Beq 2 7 1 begins_slot (drop 3 issues) (code_is 1) (ap (nat_eq 0) zero_is))
        (walk_then
        (load_goes low p m r operands rest two memory 2 1 (pos 16) (control_address + 16) s (drop 1 begins_slot) refl unused_is unused_open)
        (walk_then
        (imm_goes low p m r operands rest three memory Addi 4 2 (pos 1) (s + 1) (drop 2 begins_slot) (omega arith))
        (walk_then
        (store_goes low p m r operands rest four memory 4 1 (pos 16) (control_address + 16) (s + 1) (drop 3 begins_slot) refl refl unused_open)
        (walk_then
        (shift_goes low p m r operands rest four first Slli 3 2 3 (8 * s) (drop 4 begins_slot) up)
        (walk_then
        (alu_goes low p m r operands rest five first Add 3 3 1 (entry_of s) (drop 5 begins_slot) sum)
        (walk_then
        (jump_goes low p m r operands rest six first 2 writes_row [] (code_is 2))
        (writes six first s a g some small address_is refl refl generation_is less)))))))))

  -- ---- a slot is given back

  module _ (is : routine_of low r ≡ free_slot) where
    free_code_is : (k : ℕ) → block_of low r k ≡ code_or (slice_get free_slot.blocks k)
    free_code_is k = ap (λ routine. code_or (slice_get routine.blocks k)) is

    abbrev looked : (ℕ → ℕ) → (s g : ℕ) → ℕ → ℕ
    looked registers s g = set 6 65535 (set 5 g (set 3 (entry_of s) (set 3 (8 * s) (set 1 control_address registers))))

    finds_row : (registers memory : ℕ → ℕ) (s g : ℕ) → 1 ≤ s → s < 65536 → registers 0 ≡ s → word_at memory (row_of s + 4) ≡ g → Walk low p (now_at registers frees memory) (now_at (looked registers s g) (drop 5 frees) memory) [] 5
    finds_row registers memory s g some small slot_is generation_is =
        let one = set 1 control_address registers in
        let two = set 3 (8 * s) one in
        let three = set 3 (entry_of s) two in
        let up : shift_value Slli (registers 0) 3 ≡ 8 * s = ap (λ s. shift_value Slli s 3) slot_is ∙ omega arith in
        let sum : alu_value Add (8 * s) control_address ≡ entry_of s = omega arith in
        walk_then
        (const_goes low p m r operands rest registers memory 1 control_address (drop 1 frees))
        (walk_then
        (shift_goes low p m r operands rest one memory Slli 3 0 3 (8 * s) (drop 2 frees) up)
        (walk_then
        (alu_goes low p m r operands rest two memory Add 3 3 1 (entry_of s) (drop 3 frees) sum)
        (walk_then
        (load_goes low p m r operands rest three memory 5 3 (pos 28) (row_of s + 4) g (drop 4 frees) (in_generation s (entry_of s) small refl) generation_is (generation_open s some small))
        (const_goes low p m r operands rest (set 5 g three) memory 6 65535 (drop 5 frees)))))

    ends : (registers memory : ℕ → ℕ) (s next : ℕ) → 1 ≤ s → s < 65536 → registers 3 ≡ entry_of s → registers 4 ≡ next → registers 7 ≡ 0 → Walk low p (now_at registers ends_row memory) (standing (behind m operands rest 0 (with_word memory (row_of s) next)) rest) [] 2
    ends registers memory s next some small entry_is next_is zero_is =
        let after = with_word memory (row_of s) next in
        walk_then
        (store_goes low p m r operands rest registers memory 4 3 (pos 24) (row_of s) next (drop 1 ends_row) (in_row s (registers 3) small entry_is) next_is (row_open s some small))
        (subst (λ v. Walk low p (now_at registers (drop 1 ends_row) after) (standing (behind m operands rest v after) rest) [] 1) zero_is
        (walk_leave low p m r operands rest registers (register 7) [] after has))

    pub retires : (registers memory : ℕ → ℕ) (s : ℕ) → 1 ≤ s → s < 65536 → registers 0 ≡ s → registers 4 ≡ 0 → registers 7 ≡ 0 → word_at memory (row_of s + 4) ≡ 65535 → Walk low p (now_at registers frees memory) (standing (behind m operands rest 0 (with_word memory (row_of s) 0)) rest) [] 8
    retires registers memory s some small slot_is next_is zero_is generation_is =
        walk_then
        (finds_row registers memory s 65535 some small slot_is generation_is)
        (walk_then
        (branch_goes low p m r operands rest (looked registers s 65535) memory Beq 5 6 1 ends_row (drop 6 frees) (free_code_is 1) refl)
        (ends (looked registers s 65535) memory s 0 some small refl next_is zero_is))

    pub links : (registers memory : ℕ → ℕ) (s g next : ℕ) → 1 ≤ s → s < 65536 → registers 0 ≡ s → registers 7 ≡ 0 → word_at memory (row_of s + 4) ≡ g → g < 65535 → word_at memory (control_address + 4) ≡ next → Walk low p (now_at registers frees memory) (standing (behind m operands rest 0 (with_word (with_word memory (control_address + 4) s) (row_of s) next)) rest) [] 11
    links registers memory s g next some small slot_is zero_is generation_is less first_is =
        let differ : nat_eq g 65535 ≡ false = grind (arith, nat_tests) in
        let one = set 4 next (looked registers s g) in
        let first = with_word memory (control_address + 4) s in
        walk_then
        (finds_row registers memory s g some small slot_is generation_is)
        (walk_then
        (past_goes low p m r operands rest (looked registers s g) memory Beq 5 6 1 (drop 6 frees) differ)
        (walk_then
        (load_goes low p m r operands rest (looked registers s g) memory 4 1 (pos 4) (control_address + 4) next (drop 7 frees) refl first_is free_open)
        (walk_then
        (store_goes low p m r operands rest one memory 0 1 (pos 4) (control_address + 4) s (drop 8 frees) refl slot_is free_open)
        (walk_then
        (jump_goes low p m r operands rest one first 1 ends_row [] (free_code_is 1))
        (ends one first s next some small refl refl zero_is)))))
