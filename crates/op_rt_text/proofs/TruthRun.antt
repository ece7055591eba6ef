-- The routine that writes a truth writes it.
use Rattle.std.proofs.Common.{◌≡◌, ℕ, pos, ◌+◌, ◌^◌, ◌<◌, ◌≤◌, inl, inr, true, false, cond, not, nat_eq, nat_lt, List, [], ◌∷◌, codes, drop, length, replicate, slice_index, refl, ap, ◌∙◌, arith}
use Rattle.std.proofs.lemmas.Bool.{cases_lt, cond-false}
use Rattle.std.proofs.lemmas.Bool.Decides.{nat_tests}
use Rattle.std.specs.Ordering.{int_eq}
use Rattle.op_low.specs.Machine.{act, cost, cost_by, done, shown_by, shows, step, step_by_ending}
use Rattle.op_low.specs.State.{Placement, State, values}
use Rattle.op_low.specs.declared.code.Counts.{Counts}
use Rattle.op_low.specs.declared.code.Low.{Low}
use Rattle.op_low.specs.declared.code.Routine.{Routine}
use Rattle.op_low.specs.declared.instruction.Call.{Call as Operands}
use Rattle.op_low.specs.declared.instruction.Instruction.{Instruction}
use Rattle.op_low.specs.declared.instruction.Instruction.TheVariants.{Address, Const, Return}
use Rattle.op_meaning.specs.Texts.{padded, text_of_truth, width_of}
use Rattle.op_rt_text.specs.Names.{block_id, call, false_text, register, true_text, write_blanks_number, write_bytes_number, write_truth_number}
use Rattle.op_rt_text.specs.Running.{HasTexts, StandsAt}
use Rattle.op_rt_text.specs.Truth.{chooses}
use Rattle.op_rt_text.proofs.BytesRun.{stands_on}
use Rattle.op_rt_text.proofs.Calls.{cleared, inside}
use Rattle.op_rt_text.proofs.Programs.{Written, WrittenInside, call_written, program, then_written}
use Rattle.op_rt_text.proofs.Signs.{signed_high, signed_low}
use Rattle.op_rt_text.proofs.ThenBytes.{bytes_last}
use Rattle.op_rt_text.proofs.Walks.{Walk, walk_branch, walk_past, walk_then}
use Rattle.op_rv.proofs.Memory.{with_bytes-below}
use Rattle.op_rv.specs.Operation.{branch_taken, signed}
use Rattle.op_rv.specs.declared.instruction.BranchOp.TheVariants.{Bne}
use Rattle.op_rv.specs.declared.objects.GlobalVariable.{GlobalVariable}
use Rattle.op_rv.specs.declared.symbol.RoutineId.{RoutineId}
use Rattle.op_rv.specs.declared.symbol.Symbol.{Symbol}
use Rattle.op_simulation.specs.System.{run, spent, trace}

-- the code that writes a literal of so many bytes
abbrev writes_literal : Symbol → ℕ → List Instruction
writes_literal text length =
    Address (register 2) text
    ∷ Const (register 3) length
    ∷ call write_bytes_number (register 2 ∷ register 3 ∷ register 1 ∷ []) (register 3)
    ∷ Return (register 3)
    ∷ []

zero_eq : (n : ℕ) → 0 < n → int_eq (pos n) (pos 0) ≡ false
zero_eq n some =
    let less : nat_lt n 0 ≡ false = grind (arith, nat_tests) in
    let more : nat_lt 0 n ≡ true = grind (arith, nat_tests) in
    simp (less, more) refl

true_of_word : (value : ℕ) → 0 < value → value < 2 ^ 32 → text_of_truth (signed value) ≡ codes "TRUE"
true_of_word value some word =
    elim (cases_lt value (2 ^ 31)) [
      | inl small ↦ ap text_of_truth (signed_low value small) ∙ cond-false (int_eq (pos value) (pos 0)) (codes "FALSE") (codes "TRUE") (zero_eq value some)
      | inr great ↦ ap text_of_truth (signed_high value (omega arith) word)
    ]

module _ (others : List Routine) (entry : RoutineId) (named : Counts) (globals : List GlobalVariable) (p : Placement) (small_blanks : p.frame write_blanks_number ≤ 64) (small_bytes : p.frame write_bytes_number ≤ 64) (small : p.frame write_truth_number ≤ 64) where
  abbrev low : Low
  low = program others entry named globals

  module _ (m : State) (operands : Operands) (rest : List Instruction) (value width : ℕ) (texts : HasTexts p m) (has : 256 ≤ m.room) (wide : width < 2 ^ 32) (memory : ℕ → ℕ) (kept : (x : ℕ) → x < m.limit → memory x ≡ m.memory x) where
    abbrev here : (ℕ → ℕ) → List Instruction → State
    here registers now = inside low p m write_truth_number operands rest registers now memory m.output

    abbrev given : ℕ → ℕ
    given = slice_index (value ∷ width ∷ [])

    with_literal : Symbol → ℕ → ℕ → ℕ
    with_literal symbol n r = cond (nat_eq r 3) n (cond (nat_eq r 2) (p.address symbol) (given r))

    sets : (symbol : Symbol) (n : ℕ) → Walk low p (here given (writes_literal symbol n)) (here (with_literal symbol n) (drop 2 (writes_literal symbol n))) [] 2
    unfolding with_literal step step_by_ending done act run trace spent shows shown_by cost cost_by
    sets symbol n = record { steps = 2; few = omega arith; ends = refl; shown = refl; within = omega arith }

    literal_registers : (symbol : Symbol) (n : ℕ) → (with_literal symbol n 1 ≡ width) × (with_literal symbol n 2 ≡ p.address symbol) × (with_literal symbol n 3 ≡ n)
    unfolding with_literal
    literal_registers symbol n = (refl, refl, refl)

    literal_written : (symbol : Symbol) (text : List ℕ) → StandsAt p m (p.address symbol) text → length text < 2 ^ 31 → WrittenInside low p m write_truth_number operands rest given (writes_literal symbol (length text)) memory m.output (padded (width_of (signed width)) text) (length (padded (width_of (signed width)) text) + 158)
    literal_written symbol text stands short =
        let bytes = padded (width_of (signed width)) text in
        let n = length text in
        let are = literal_registers symbol n in
        let last = bytes_last others entry named globals p small_blanks small_bytes m write_truth_number operands rest (with_literal symbol n) memory m.output (register 2) (register 3) (register 1) (register 3) (p.address symbol) width text are.1 are.2 are.0 (omega arith) kept texts.blanks (stands_on p m (here (with_literal symbol n) []) (p.address symbol) text (omega arith) kept stands) short wide in
        then_written (sets symbol n) last (omega arith)

    goes_to_false : Walk low p (here given (drop 1 chooses)) (here given (writes_literal false_text 5)) [] 1
    unfolding step step_by_ending done act run trace spent shows shown_by cost cost_by
    goes_to_false = record { steps = 1; few = omega arith; ends = refl; shown = refl; within = omega arith }

    truth_inside : value < 2 ^ 32 → WrittenInside low p m write_truth_number operands rest given chooses memory m.output (padded (width_of (signed width)) (text_of_truth (signed value))) (length (padded (width_of (signed width)) (text_of_truth (signed value))) + 160)
    truth_inside word =
        elim (cases_lt 0 value) [
          | inl some ↦
              let test : nat_eq value 0 ≡ false = grind (arith, nat_tests) in
              let taken : branch_taken Bne value 0 ≡ true = ap not test in
              rw (true_of_word value some word)
              (then_written
              (walk_branch low p (here given chooses) Bne (register 0) (register 4) (block_id 2) (drop 1 chooses) taken)
              (literal_written true_text (codes "TRUE") texts.truth (omega arith))
              (omega arith))
          | inr nothing ↦
              let test : nat_eq value 0 ≡ true = grind (arith, nat_tests) in
              let passed : branch_taken Bne value 0 ≡ false = ap not test in
              let is : value ≡ 0 = omega arith in
              let text : text_of_truth (signed value) ≡ codes "FALSE" = ap (λ v. text_of_truth (signed v)) is in
              rw text
              (then_written
              (walk_then (walk_past low p (here given chooses) Bne (register 0) (register 4) (block_id 2) (drop 1 chooses) passed) goes_to_false)
              (literal_written false_text (codes "FALSE") texts.falsehood (omega arith))
              (omega arith))
        ]

  -- a call of the routine
  pub truth_called : (m : State) (operands : Operands) (rest : List Instruction) (value width : ℕ) → values m operands.arguments ≡ value ∷ width ∷ [] → value < 2 ^ 32 → width < 2 ^ 32 → HasTexts p m → 256 ≤ m.room → Written low p m write_truth_number operands rest (padded (width_of (signed width)) (text_of_truth (signed value))) (length (padded (width_of (signed width)) (text_of_truth (signed value))) + 232)
  truth_called m operands rest value width passed word wide texts has =
      let bytes = padded (width_of (signed width)) (text_of_truth (signed value)) in
      call_written others entry named globals p m write_truth_number operands rest (value ∷ width ∷ []) (omega arith) passed refl (omega arith) bytes (length bytes + 160) (length bytes + 232)
      (omega arith)
      (truth_inside m operands rest value width texts has wide (cleared low m write_truth_number) (λ x below. with_bytes-below m.memory m.limit (replicate {A = ℕ} 0 0) x below) word)
