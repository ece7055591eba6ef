-- The routine that writes blanks writes them.
use Rattle.std.proofs.Common.{◌≡◌, ℕ, zero, suc, ◌+◌, ◌-◌, ◌*◌, ◌/◌, ◌^◌, ◌<◌, ◌≤◌, inl, inr, true, false, not, cond, nat_eq, nat_lt, negsuc, drop, List, [], ◌∷◌, ◌++◌, replicate, slice_index, refl, ap, ap₂, ◌∙◌, append-nil, arith}
use Rattle.std.proofs.lemmas.Bool.{cases_lt}
use Rattle.std.proofs.lemmas.Bool.Decides.{nat_tests}
use Rattle.std.proofs.lemmas.List.{replicate-append-replicate}
use Rattle.op_rv.proofs.Memory.{with_bytes-below}
use Rattle.op_low.specs.Machine.{act, act, cost, cost_by, done, shown_by, shows, step, step_by_ending}
use Rattle.op_low.specs.State.{Placement, State, space, usable, values}
use Rattle.op_low.specs.declared.code.Counts.{Counts}
use Rattle.op_low.specs.declared.code.Low.{Low}
use Rattle.op_low.specs.declared.code.Routine.{Routine}
use Rattle.op_low.specs.declared.instruction.Call.{Call as Operands}
use Rattle.op_low.specs.declared.instruction.Instruction.{Instruction}
use Rattle.op_low.specs.declared.instruction.Instruction.TheVariants.{Write}
use Rattle.op_low.specs.declared.instruction.Output.TheVariants.{Console}
use Rattle.op_low.specs.declared.ids.VirtualRegister.{VirtualRegister}
use Rattle.op_meaning.specs.Texts.{width_of}
use Rattle.op_rt_text.specs.Blanks.{begins, ends, writes_piece, writes_rest}
use Rattle.op_rt_text.specs.Names.{blanks, block_id, register, write_blanks_number}
use Rattle.op_rt_text.specs.Running.{StandsAt}
use Rattle.op_rt_text.proofs.BytesLemmas.{all_usable, each_byte, same_bytes}
use Rattle.op_rt_text.proofs.Calls.{cleared, inside}
use Rattle.op_rt_text.proofs.Programs.{Written, WrittenInside, call_written, leaves_written, longer_written, program, then_more, then_written}
use Rattle.op_rt_text.proofs.Signs.{at_least_low, at_least_negative, less_low, width_high, width_low}
use Rattle.op_rt_text.proofs.Walks.{Walk, walk_branch, walk_past, walk_then, walk_write}
use Rattle.op_rv.specs.Operation.{branch_taken, imm_value, signed, word_from}
use Rattle.op_rv.specs.declared.instruction.ImmOp.TheVariants.{Addi}
use Rattle.op_rv.specs.State.{all_from, bytes_from}
use Rattle.op_rv.specs.declared.instruction.BranchOp.TheVariants.{Bge, Bgeu}
use Rattle.op_rv.specs.declared.objects.GlobalVariable.{GlobalVariable}
use Rattle.op_rv.specs.declared.symbol.RoutineId.{RoutineId}
use Rattle.op_simulation.specs.System.{run, spent, trace}

module _ (others : List Routine) (entry : RoutineId) (named : Counts) (globals : List GlobalVariable) (p : Placement) where
  abbrev low : Low
  low = program others entry named globals

  -- the 64 blanks stand at their address, and memory is that of the call below the limit
  module _ (m : State) (operands : Operands) (rest : List Instruction) (memory : ℕ → ℕ) (text : StandsAt p m (p.address blanks) (replicate {A = ℕ} 64 32)) (kept : (x : ℕ) → x < m.limit → memory x ≡ m.memory x) (has : space low p write_blanks_number ≤ m.room) where
    abbrev at : ℕ
    at = p.address blanks

    abbrev here : (ℕ → ℕ) → List Instruction → List ℕ → State
    here registers now output = inside low p m write_blanks_number operands rest registers now memory output

    -- code that writes so many blanks
    abbrev WritesBlanks : (ℕ → ℕ) → List Instruction → List ℕ → (count most : ℕ) → Type 0
    WritesBlanks registers now output count most = WrittenInside low p m write_blanks_number operands rest registers now memory output (replicate {A = ℕ} count 32) most

    may_read : (registers : ℕ → ℕ) (now : List Instruction) (output : List ℕ) (n : ℕ) → n ≤ 64 → all_from (usable p.rights.readable (here registers now output)) at n ≡ true
    may_read registers now output n few =
        let below = text.below in
        all_usable p.rights.readable (here registers now output) at n (λ x from before. text.readable x from (omega arith)) (omega arith)

    stands : (n : ℕ) → n ≤ 64 → bytes_from memory at n ≡ replicate {A = ℕ} n 32
    stands n few =
        let below = text.below in
        same_bytes memory 32 n at (λ k before. kept (at + k) (omega arith) ∙ each_byte m.memory 32 64 at text.stands k (omega arith))

    -- a piece of n blanks, and then the code behind
    piece_written : (registers : ℕ → ℕ) (buffer size : VirtualRegister) (is : List Instruction) (output : List ℕ) (n : ℕ) → registers buffer.0 ≡ at → registers size.0 ≡ n → n ≤ 64 → Walk low p (here registers (Write Console buffer size ∷ is) output) (here registers is (output ++ replicate {A = ℕ} n 32)) (replicate {A = ℕ} n 32 ∷ []) 1
    piece_written registers buffer size is output n there counts few =
        walk_write low p (here registers is output) buffer size is (replicate {A = ℕ} n 32)
        (ap₂ (all_from (usable p.rights.readable (here registers is output))) there counts ∙ may_read registers is output n few)
        (ap₂ (bytes_from memory) there counts ∙ stands n few)

    -- what is left, where it is at most a piece
    rest_written : (registers : ℕ → ℕ) (count : ℕ) (output : List ℕ) → registers 0 ≡ count → registers 1 ≡ at → count ≤ 64 → WritesBlanks registers writes_rest output count 2
    rest_written registers count output counts there few =
        then_more
        (piece_written registers (register 1) (register 0) ends output count there counts few)
        (append-nil (replicate {A = ℕ} count 32))
        (leaves_written low p m write_blanks_number operands rest registers (register 3) memory (output ++ replicate {A = ℕ} count 32) kept has)
        (append-nil (replicate {A = ℕ} count 32))
        (omega arith)

    -- the last piece
    last_written : (registers : ℕ → ℕ) (count : ℕ) (output : List ℕ) → registers 0 ≡ count → registers 1 ≡ at → registers 2 ≡ 64 → count ≤ 64 → WritesBlanks registers writes_piece output count 3
    last_written registers count output counts there full few =
        let test : nat_lt 64 count ≡ false = grind (arith, nat_tests) in
        let taken : branch_taken Bgeu (registers 2) (registers 0) ≡ true = ap₂ (branch_taken Bgeu) full counts ∙ ap not test in
        then_written
        (walk_branch low p (here registers writes_piece output) Bgeu (register 2) (register 0) (block_id 2) (drop 1 writes_piece) taken)
        (rest_written registers count output counts there few)
        (omega arith)

    -- with a piece less
    less_by_piece : (ℕ → ℕ) → ℕ → ℕ
    less_by_piece registers r = cond (nat_eq r 0) (imm_value Addi (registers 0) (word_from (negsuc 63))) (registers r)

    goes_round : (registers : ℕ → ℕ) (output : List ℕ) → Walk low p (here registers (drop 2 writes_piece) output) (here (less_by_piece registers) writes_piece output) [] 2
    unfolding less_by_piece step step_by_ending done act run trace spent shows shown_by cost cost_by
    goes_round registers output = record { steps = 2; few = omega arith; ends = refl; shown = refl; within = omega arith }

    less_by_piece-is : (registers : ℕ → ℕ) (count : ℕ) → registers 0 ≡ count → 64 ≤ count → count < 2 ^ 31 → less_by_piece registers 0 ≡ count - 64
    unfolding less_by_piece
    less_by_piece-is registers count counts more small = omega arith

    others_same : (registers : ℕ → ℕ) → (less_by_piece registers 1 ≡ registers 1) × (less_by_piece registers 2 ≡ registers 2)
    unfolding less_by_piece
    others_same registers = (refl, refl)

    -- one more piece
    piece_first : (turns : ℕ) (registers : ℕ → ℕ) (count : ℕ) (output : List ℕ) → registers 0 ≡ count → registers 1 ≡ at → registers 2 ≡ 64 → 64 < count → WritesBlanks (less_by_piece registers) writes_piece (output ++ replicate {A = ℕ} 64 32) (count - 64) (4 * turns + 3) → WritesBlanks registers writes_piece output count (4 * suc turns + 3)
    piece_first turns registers count output counts there full more behind_it =
        let piece = replicate {A = ℕ} 64 32 in
        let test : nat_lt 64 count ≡ true = grind (arith, nat_tests) in
        let passed : branch_taken Bgeu (registers 2) (registers 0) ≡ false = ap₂ (branch_taken Bgeu) full counts ∙ ap not test in
        then_more
        (walk_then
        (walk_past low p (here registers writes_piece output) Bgeu (register 2) (register 0) (block_id 2) (drop 1 writes_piece) passed)
        (walk_then
        (piece_written registers (register 1) (register 2) (drop 2 writes_piece) output 64 there full (omega arith))
        (goes_round registers (output ++ piece))))
        refl
        behind_it
        (replicate-append-replicate 64 (count - 64) 32 ∙ ap (λ n. replicate {A = ℕ} n 32) (omega arith))
        (omega arith)

    -- pieces as long as more than one is left
    loop_written : (turns : ℕ) (registers : ℕ → ℕ) (count : ℕ) (output : List ℕ) → registers 0 ≡ count → registers 1 ≡ at → registers 2 ≡ 64 → count ≤ 64 * turns + 64 → count < 2 ^ 31 → WritesBlanks registers writes_piece output count (4 * turns + 3)
    loop_written zero registers count output counts there full most small = last_written registers count output counts there full (omega arith)
    loop_written (suc turns) registers count output counts there full most small =
        elim (cases_lt 64 count) [
          | inl more ↦
              let same = others_same registers in
              piece_first turns registers count output counts there full more
              (loop_written turns (less_by_piece registers) (count - 64) (output ++ replicate {A = ℕ} 64 32) (less_by_piece-is registers count counts (omega arith) small) (same.0 ∙ there) (same.1 ∙ full) (omega arith) (omega arith))
          | inr few ↦ longer_written (last_written registers count output counts there full few) (omega arith)
        ]

    -- from the first instruction on, with the count as its argument
    begins_with : ℕ → ℕ → ℕ
    begins_with count r = cond (nat_eq r 2) 64 (cond (nat_eq r 1) at (slice_index (count ∷ []) r))

    sets : (count : ℕ) (output : List ℕ) → Walk low p (here (slice_index (count ∷ [])) begins output) (here (begins_with count) (drop 2 begins) output) [] 2
    unfolding begins_with step step_by_ending done act run trace spent shows shown_by cost cost_by
    sets count output = record { steps = 2; few = omega arith; ends = refl; shown = refl; within = omega arith }

    goes_in : (registers : ℕ → ℕ) (output : List ℕ) → Walk low p (here registers (drop 3 begins) output) (here registers writes_piece output) [] 1
    unfolding step step_by_ending done act run trace spent shows shown_by cost cost_by
    goes_in registers output = record { steps = 1; few = omega arith; ends = refl; shown = refl; within = omega arith }

    begins_with-are : (count : ℕ) → (begins_with count 0 ≡ count) × (begins_with count 1 ≡ at) × (begins_with count 2 ≡ 64) × (begins_with count 3 ≡ 0)
    unfolding begins_with
    begins_with-are count = (refl, refl, refl, refl)

    positive : (count : ℕ) (output : List ℕ) → 0 < count → count < 2 ^ 31 → WritesBlanks (slice_index (count ∷ [])) begins output count (count + 16)
    positive count output some small =
        let are = begins_with-are count in
        let test : branch_taken Bge (begins_with count 3) (begins_with count 0) ≡ false = ap₂ (branch_taken Bge) are.3 are.0 ∙ less_low 0 count some small in
        then_written
        (walk_then
        (sets count output)
        (walk_then
        (walk_past low p (here (begins_with count) (drop 2 begins) output) Bge (register 3) (register 0) (block_id 3) (drop 3 begins) test)
        (goes_in (begins_with count) output)))
        (loop_written (count / 64) (begins_with count) count output are.0 are.1 are.2 (omega arith) small)
        (omega arith)

    none : (count : ℕ) (output : List ℕ) → branch_taken Bge 0 count ≡ true → WritesBlanks (slice_index (count ∷ [])) begins output 0 (0 + 16)
    none count output taken =
        let are = begins_with-are count in
        let test : branch_taken Bge (begins_with count 3) (begins_with count 0) ≡ true = ap₂ (branch_taken Bge) are.3 are.0 ∙ taken in
        then_written
        (walk_then
        (sets count output)
        (walk_branch low p (here (begins_with count) (drop 2 begins) output) Bge (register 3) (register 0) (block_id 3) (drop 3 begins) test))
        (leaves_written low p m write_blanks_number operands rest (begins_with count) (register 3) memory output kept has)
        (omega arith)

    -- all that is written for a count
    pub written : (count : ℕ) (output : List ℕ) → count < 2 ^ 32 → WritesBlanks (slice_index (count ∷ [])) begins output (width_of (signed count)) (width_of (signed count) + 16)
    written count output word =
        elim (cases_lt count (2 ^ 31)) [
          | inl small ↦
              elim (cases_lt 0 count) [
                | inl some ↦ rw (width_low count small) (positive count output some small)
                | inr nothing ↦
                    let zero_is : count ≡ 0 = omega arith in
                    let width : width_of (signed count) ≡ 0 = width_low count small ∙ zero_is in
                    rw width (none count output (at_least_low 0 count (omega arith) (omega arith)))
              ]
          | inr great ↦ rw (width_high count (omega arith) word) (none count output (at_least_negative 0 count (omega arith) (omega arith) word))
        ]

  -- a call of the routine
  pub blanks_called : (m : State) (operands : Operands) (rest : List Instruction) (count : ℕ) → values m operands.arguments ≡ count ∷ [] → count < 2 ^ 32 → StandsAt p m (p.address blanks) (replicate {A = ℕ} 64 32) → p.frame write_blanks_number ≤ 64 → 64 ≤ m.room → Written low p m write_blanks_number operands rest (replicate {A = ℕ} (width_of (signed count)) 32) (width_of (signed count) + 82)
  blanks_called m operands rest count passed word text small has =
      let room : space low p write_blanks_number ≤ m.room = omega arith in
      let kept = λ (x : ℕ) (below : x < m.limit). with_bytes-below m.memory m.limit (replicate {A = ℕ} 0 0) x below in
      call_written others entry named globals p m write_blanks_number operands rest (count ∷ []) (omega arith) passed refl room (replicate {A = ℕ} (width_of (signed count)) 32) (width_of (signed count) + 16) (width_of (signed count) + 82)
      (omega arith)
      (written m operands rest (cleared low m write_blanks_number) text kept room count m.output word)
