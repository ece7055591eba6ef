-- The routine that writes bytes writes them, with blanks in front.
use Rattle.std.proofs.Common.{◌≡◌, ℕ, ◌+◌, ◌-◌, ◌^◌, ◌<◌, ◌≤◌, inl, inr, true, cond, nat_eq, None, List, [], ◌∷◌, ◌++◌, drop, length, replicate, slice_index, refl, ap, ap₂, sym, subst, ◌∙◌, append-nil, arith}
use Rattle.std.proofs.lemmas.Bool.{cases_lt}
use Rattle.std.proofs.lemmas.List.{length-append, length-replicate}
use Rattle.op_low.specs.Machine.{act, cost, cost_by, done, shown_by, shows, step, step_by_ending}
use Rattle.op_low.specs.State.{Placement, State, space, usable, values}
use Rattle.op_low.specs.declared.code.Counts.{Counts}
use Rattle.op_low.specs.declared.code.Low.{Low}
use Rattle.op_low.specs.declared.code.Routine.{Routine}
use Rattle.op_low.specs.declared.instruction.Call.{Call as Operands}
use Rattle.op_low.specs.declared.instruction.Instruction.{Instruction}
use Rattle.op_meaning.specs.Texts.{padded, width_of}
use Rattle.op_rt_text.specs.Bytes.{begins, writes_text}
use Rattle.op_rt_text.specs.Names.{blanks, block_id, register, write_blanks_number, write_bytes_number}
use Rattle.op_rt_text.specs.Running.{StandsAt}
use Rattle.op_rt_text.proofs.BlanksRun.{blanks_called}
use Rattle.op_rt_text.proofs.BytesLemmas.{all_usable}
use Rattle.op_rt_text.proofs.Calls.{cleared, inside}
use Rattle.op_rt_text.proofs.Programs.{Written, WrittenInside, call_written, leaves_written, longer_written, program, then_more, then_written}
use Rattle.op_rt_text.proofs.Signs.{at_least_low, at_least_negative, less_low, width_high, width_low}
use Rattle.op_rt_text.proofs.Walks.{Walk, walk_branch, walk_past, walk_then, walk_write}
use Rattle.op_rv.proofs.Memory.{bytes_from-same, with_bytes-below}
use Rattle.op_rv.specs.Operation.{alu_value, branch_taken, signed}
use Rattle.op_rv.specs.State.{all_from, bytes_from}
use Rattle.op_rv.specs.declared.instruction.AluOp.TheVariants.{Sub}
use Rattle.op_rv.specs.declared.instruction.BranchOp.TheVariants.{Bge}
use Rattle.op_rv.specs.declared.objects.GlobalVariable.{GlobalVariable}
use Rattle.op_rv.specs.declared.symbol.RoutineId.{RoutineId}
use Rattle.op_simulation.specs.System.{run, spent, trace}

-- what stands below the limit also stands where the limit is higher and memory below is the same
pub stands_on : (p : Placement) (m n : State) (at : ℕ) (bytes : List ℕ) → m.limit ≤ n.limit → ((x : ℕ) → x < m.limit → n.memory x ≡ m.memory x) → StandsAt p m at bytes → StandsAt p n at bytes
stands_on p m n at bytes higher kept text =
    let below = text.below in
    record {
      readable = text.readable;
      below = omega arith;
      stands = bytes_from-same m.memory n.memory at (length bytes) (λ x from before. kept x (omega arith)) ∙ text.stands;
    }

module _ (others : List Routine) (entry : RoutineId) (named : Counts) (globals : List GlobalVariable) (p : Placement) (small_blanks : p.frame write_blanks_number ≤ 64) (small : p.frame write_bytes_number ≤ 64) where
  abbrev low : Low
  low = program others entry named globals

  module _ (m : State) (operands : Operands) (rest : List Instruction) (at width : ℕ) (text : List ℕ) (stands : StandsAt p m at text) (spaces : StandsAt p m (p.address blanks) (replicate {A = ℕ} 64 32)) (short : length text < 2 ^ 31) (word : width < 2 ^ 32) (has : 128 ≤ m.room) where
    abbrev here : (ℕ → ℕ) → List Instruction → (ℕ → ℕ) → List ℕ → State
    here registers now memory output = inside low p m write_bytes_number operands rest registers now memory output

    abbrev Kept : (ℕ → ℕ) → Type 0
    Kept memory = (x : ℕ) → x < m.limit → memory x ≡ m.memory x

    room : space low p write_bytes_number ≤ m.room
    room = omega arith

    -- the text itself
    text_written : (registers : ℕ → ℕ) (memory : ℕ → ℕ) (output : List ℕ) → Kept memory → registers 0 ≡ at → registers 1 ≡ length text → WrittenInside low p m write_bytes_number operands rest registers writes_text memory output text 2
    text_written registers memory output kept there counts =
        let state = here registers (drop 1 writes_text) memory output in
        let there_also = stands_on p m state at text (omega arith) kept stands in
        then_more
        (walk_write low p state (register 0) (register 1) (drop 1 writes_text) text
        (ap₂ (all_from (usable p.rights.readable state)) there counts ∙ all_usable p.rights.readable state at (length text) there_also.readable there_also.below)
        (ap₂ (bytes_from memory) there counts ∙ there_also.stands))
        (append-nil text)
        (leaves_written low p m write_bytes_number operands rest registers (register 1) memory (output ++ text) kept room)
        (append-nil text)
        (omega arith)

    abbrev given : ℕ → ℕ
    given = slice_index (at ∷ length text ∷ width ∷ [])

    -- with no blanks in front
    alone : (memory : ℕ → ℕ) → Kept memory → branch_taken Bge (length text) width ≡ true → WrittenInside low p m write_bytes_number operands rest given begins memory m.output text 87
    alone memory kept taken =
        then_written
        (walk_branch low p (here given begins memory m.output) Bge (register 1) (register 2) (block_id 1) (drop 1 begins) taken)
        (text_written given memory m.output kept refl refl)
        (omega arith)

    -- the registers with the number of blanks
    with_blanks : ℕ → ℕ
    with_blanks r = cond (nat_eq r 3) (alu_value Sub width (length text)) (given r)

    subtracts : (memory : ℕ → ℕ) → Walk low p (here given (drop 1 begins) memory m.output) (here with_blanks (drop 2 begins) memory m.output) [] 1
    unfolding with_blanks step step_by_ending done act run trace spent shows shown_by cost cost_by
    subtracts memory = record { steps = 1; few = omega arith; ends = refl; shown = refl; within = omega arith }

    with_blanks-are : (with_blanks 0 ≡ at) × (with_blanks 1 ≡ length text) × (with_blanks 3 ≡ alu_value Sub width (length text))
    unfolding with_blanks
    with_blanks-are = (refl, refl, refl)

    goes_on : (registers : ℕ → ℕ) (memory : ℕ → ℕ) (output : List ℕ) → Walk low p (here registers (drop 3 begins) memory output) (here registers writes_text memory output) [] 1
    unfolding step step_by_ending done act run trace spent shows shown_by cost cost_by
    goes_on registers memory output = record { steps = 1; few = omega arith; ends = refl; shown = refl; within = omega arith }

    abbrev the_call : Operands
    the_call = record { arguments = register 3 ∷ []; to = register 3; landing = None }

    -- the call of the routine that writes blanks
    blanks_first : (memory : ℕ → ℕ) → Kept memory → length text < width → width < 2 ^ 31 → Written low p (here with_blanks [] memory m.output) write_blanks_number the_call (drop 3 begins) (replicate {A = ℕ} (width - length text) 32) (width - length text + 82)
    blanks_first memory kept less positive =
        let number : alu_value Sub width (length text) ≡ width - length text = omega arith in
        let are = with_blanks-are in
        let pad = width_low (width - length text) (omega arith) in
        let state = here with_blanks [] memory m.output in
        subst (λ n. Written low p state write_blanks_number the_call (drop 3 begins) (replicate {A = ℕ} n 32) (n + 82)) pad
        (blanks_called others entry named globals p state the_call (drop 3 begins) (width - length text) (ap (λ v. v ∷ []) (are.2 ∙ number)) (omega arith)
        (stands_on p m state (p.address blanks) (replicate {A = ℕ} 64 32) (omega arith) kept spaces) small_blanks (omega arith))

    -- with blanks in front
    behind_blanks : (memory : ℕ → ℕ) → Kept memory → length text < width → width < 2 ^ 31 → WrittenInside low p m write_bytes_number operands rest given begins memory m.output (replicate {A = ℕ} (width - length text) 32 ++ text) (width - length text + 87)
    behind_blanks memory kept less positive =
        let are = with_blanks-are in
        let first = here given begins memory m.output in
        let calls = blanks_first memory kept less positive in
        let after = λ (r : ℕ). cond (nat_eq r 3) calls.value (with_blanks r) in
        let output = m.output ++ replicate {A = ℕ} (width - length text) 32 in
        then_more
        (walk_then
        (walk_past low p first Bge (register 1) (register 2) (block_id 1) (drop 1 begins) (less_low (length text) width less positive))
        (walk_then (subtracts memory) calls.walk))
        calls.joined
        (then_written {more = 3}
        (goes_on after calls.memory output)
        (text_written after calls.memory output (λ x below. calls.kept x (omega arith) ∙ kept x below) are.0 are.1)
        (omega arith))
        refl
        (omega arith)

    -- all that the code does
    bytes_inside : (memory : ℕ → ℕ) → Kept memory → WrittenInside low p m write_bytes_number operands rest given begins memory m.output (padded (width_of (signed width)) text) (length (padded (width_of (signed width)) text) + 87)
    bytes_inside memory kept =
        elim (cases_lt width (2 ^ 31)) [
          | inl positive ↦
              rw (width_low width positive)
              (elim (cases_lt (length text) width) [
                | inl less ↦ longer_written (behind_blanks memory kept less positive) (omega (arith, length-append (replicate {A = ℕ} (width - length text) 32) text, length-replicate {A = ℕ} (width - length text) 32))
                | inr less ↦ bare width (omega arith) (at_least_low (length text) width short (omega arith))
              ])
          | inr negative ↦ rw (width_high width (omega arith) word) (bare 0 (omega arith) (at_least_negative (length text) width short (omega arith) word))
        ]
      where
        bare : (n : ℕ) → n ≤ length text → branch_taken Bge (length text) width ≡ true → WrittenInside low p m write_bytes_number operands rest given begins memory m.output (padded n text) (length (padded n text) + 87)
        bare n few taken =
            let nothing : n - length text ≡ 0 = omega arith in
            let same : text ≡ padded n text = ap (λ k. replicate {A = ℕ} k 32 ++ text) (sym nothing) in
            subst (λ bytes. WrittenInside low p m write_bytes_number operands rest given begins memory m.output bytes (length bytes + 87)) same
            (longer_written (alone memory kept taken) (omega arith))

  -- a call of the routine
  pub bytes_called : (m : State) (operands : Operands) (rest : List Instruction) (at width : ℕ) (text : List ℕ) → values m operands.arguments ≡ at ∷ length text ∷ width ∷ [] → StandsAt p m at text → StandsAt p m (p.address blanks) (replicate {A = ℕ} 64 32) → length text < 2 ^ 31 → width < 2 ^ 32 → 128 ≤ m.room → Written low p m write_bytes_number operands rest (padded (width_of (signed width)) text) (length (padded (width_of (signed width)) text) + 155)
  bytes_called m operands rest at width text passed stands spaces short word has =
      let bytes = padded (width_of (signed width)) text in
      call_written others entry named globals p m write_bytes_number operands rest (at ∷ length text ∷ width ∷ []) (omega arith) passed refl (omega arith) bytes (length bytes + 87) (length bytes + 155)
      (omega arith)
      (bytes_inside m operands rest at width text stands spaces short word has (cleared low m write_bytes_number) (λ x below. with_bytes-below m.memory m.limit (replicate {A = ℕ} 0 0) x below))
