-- The routine that writes a character writes it.
use Rattle.std.proofs.Common.{◌≡◌, ℕ, pos, ◌+◌, ◌-◌, ◌%◌, ◌^◌, ◌<◌, ◌≤◌, inl, inr, Bool, true, cond, nat_eq, List, [], ◌∷◌, drop, length, replicate, slice_index, refl, ap, subst, ◌∙◌, arith}
use Rattle.std.proofs.lemmas.Bool.{and_from, cases_lt}
use Rattle.std.proofs.lemmas.Bool.Decides.{nat_tests}
use Rattle.std.specs.Int.{bytes_low_first}
use Rattle.op_low.specs.Machine.{act, cost, cost_by, done, shown_by, shows, step, step_by_ending}
use Rattle.op_low.specs.State.{Placement, State, usable, values}
use Rattle.op_low.specs.declared.code.Counts.{Counts}
use Rattle.op_low.specs.declared.code.Low.{Low}
use Rattle.op_low.specs.declared.code.Routine.{Routine}
use Rattle.op_low.specs.declared.instruction.Call.{Call as Operands}
use Rattle.op_low.specs.declared.instruction.Instruction.{Instruction}
use Rattle.op_meaning.specs.Texts.{padded, text_of_char, width_of}
use Rattle.op_rt_text.specs.Char.{writes_byte}
use Rattle.op_rt_text.specs.Names.{blanks, register, write_blanks_number, write_bytes_number, write_char_number}
use Rattle.op_rt_text.specs.Running.{HasRoom, StandsAt}
use Rattle.op_rt_text.proofs.BytesLemmas.{all_usable}
use Rattle.op_rt_text.proofs.Calls.{cleared, inside}
use Rattle.op_rt_text.proofs.Programs.{Written, WrittenInside, call_written, program, then_written}
use Rattle.op_rt_text.proofs.Signs.{signed_high, signed_low}
use Rattle.op_rt_text.proofs.ThenBytes.{bytes_last}
use Rattle.op_rt_text.proofs.Walks.{Walk, walk_store, walk_then}
use Rattle.op_rv.proofs.Memory.{bytes_there, with_bytes-below, with_bytes-within}
use Rattle.op_rv.specs.Operation.{signed}
use Rattle.op_rv.specs.State.{all_from, with_bytes}
use Rattle.op_rv.specs.Step.{can_access, offset_from}
use Rattle.op_rv.specs.declared.instruction.StoreOp.TheVariants.{Sb}
use Rattle.op_rv.specs.declared.objects.GlobalVariable.{GlobalVariable}
use Rattle.op_rv.specs.declared.symbol.RoutineId.{RoutineId}
use Rattle.op_simulation.specs.System.{run, spent, trace}

char_of_word : (value : ℕ) → value < 2 ^ 32 → text_of_char (signed value) ≡ value % 256 ∷ []
char_of_word value word =
    elim (cases_lt value (2 ^ 31)) [
      | inl small ↦ ap text_of_char (signed_low value small)
      | inr great ↦ ap text_of_char (signed_high value (omega arith) word) ∙ ap (λ n. n ∷ []) (omega arith)
    ]

-- a byte may be stored in the room
pub byte_storable : (right : ℕ → Bool) (m : State) (at : ℕ) → right at ≡ true → at < m.limit → can_access (usable right m) at 1 ≡ true
byte_storable right m at may below =
    let aligned : nat_eq (at % 1) 0 ≡ true = grind (arith, nat_tests) in
    and_from (nat_eq (at % 1) 0) (all_from (usable right m) at 1) aligned
    (all_usable right m at 1 (λ x from before. let same : at ≡ x = omega arith in subst (λ x. right x ≡ true) same may) (omega arith))

module _ (others : List Routine) (entry : RoutineId) (named : Counts) (globals : List GlobalVariable) (p : Placement) (small_blanks : p.frame write_blanks_number ≤ 64) (small_bytes : p.frame write_bytes_number ≤ 64) (small : p.frame write_char_number ≤ 64) where
  abbrev low : Low
  low = program others entry named globals

  module _ (m : State) (operands : Operands) (rest : List Instruction) (value width : ℕ) (spaces : StandsAt p m (p.address blanks) (replicate {A = ℕ} 64 32)) (room : HasRoom p m 256) (word : value < 2 ^ 32) (wide : width < 2 ^ 32) where
    abbrev here : (ℕ → ℕ) → List Instruction → (ℕ → ℕ) → State
    here registers now memory = inside low p m write_char_number operands rest registers now memory m.output

    abbrev given : ℕ → ℕ
    given = slice_index (value ∷ width ∷ [])

    with_address : ℕ → ℕ
    with_address r = cond (nat_eq r 2) (m.limit + 4 - 4 + 0) (given r)

    with_length : ℕ → ℕ
    with_length r = cond (nat_eq r 3) 1 (with_address r)

    first_step : (memory : ℕ → ℕ) → Walk low p (here given writes_byte memory) (here with_address (drop 1 writes_byte) memory) [] 1
    unfolding with_address step step_by_ending done act run trace spent shows shown_by cost cost_by
    first_step memory = record { steps = 1; few = omega arith; ends = refl; shown = refl; within = omega arith }

    third_step : (memory : ℕ → ℕ) → Walk low p (here with_address (drop 2 writes_byte) memory) (here with_length (drop 3 writes_byte) memory) [] 1
    unfolding with_length step step_by_ending done act run trace spent shows shown_by cost cost_by
    third_step memory = record { steps = 1; few = omega arith; ends = refl; shown = refl; within = omega arith }

    addressed : (with_address 0 ≡ value) × (with_address 2 ≡ m.limit)
    unfolding with_address
    addressed = (refl, omega arith)

    lengths : (with_length 1 ≡ width) × (with_length 2 ≡ m.limit) × (with_length 3 ≡ 1)
    unfolding with_length with_address
    lengths = (refl, omega arith, refl)

    abbrev text : List ℕ
    text = value % 256 ∷ []

    store_step : (memory : ℕ → ℕ) → Walk low p (here with_address (drop 1 writes_byte) memory) (here with_address (drop 2 writes_byte) (with_bytes memory m.limit text)) [] 1
    store_step memory =
        let are = addressed in
        let words = room.words in
        let some = room.room in
        let there : offset_from (with_address 2) (pos 0) ≡ m.limit = ap (λ a. offset_from a (pos 0)) are.1 ∙ omega arith in
        let may = room.writable m.limit (omega arith) (omega arith) in
        let state = here with_address (drop 2 writes_byte) in
        subst (λ a. Walk low p (here with_address (drop 1 writes_byte) memory) (state (with_bytes memory a text)) [] 1) there
        (subst (λ v. Walk low p (here with_address (drop 1 writes_byte) memory) (state (with_bytes memory (offset_from (with_address 2) (pos 0)) (bytes_low_first 0 1 v))) [] 1) are.0
        (walk_store low p (state memory) Sb (register 0) (register 2) (pos 0) (drop 2 writes_byte)
        (ap (λ a. can_access (usable p.rights.writable (state memory)) a 1) there ∙ byte_storable p.rights.writable (state memory) m.limit may (omega arith))))

    text_there : (memory : ℕ → ℕ) → StandsAt p (here with_length [] (with_bytes memory m.limit text)) m.limit text
    text_there memory =
        let some = room.room in
        record {
          readable = λ x from before. room.readable x (omega arith) (omega arith);
          below = omega arith;
          stands = bytes_there (with_bytes memory m.limit text) m.limit text (λ k before. let first : m.limit + k - m.limit ≡ k = omega arith in with_bytes-within memory m.limit text (m.limit + k) (omega arith) (omega arith) ∙ ap (λ i. slice_index text i) first);
        }

    char_inside : (memory : ℕ → ℕ) → ((x : ℕ) → x < m.limit → memory x ≡ m.memory x) → WrittenInside low p m write_char_number operands rest given writes_byte memory m.output (padded (width_of (signed width)) text) (length (padded (width_of (signed width)) text) + 159)
    char_inside memory kept =
        let bytes = padded (width_of (signed width)) text in
        let stored = with_bytes memory m.limit text in
        let some = room.room in
        let are = lengths in
        let last = bytes_last others entry named globals p small_blanks small_bytes m write_char_number operands rest with_length stored m.output (register 2) (register 3) (register 1) (register 3) m.limit width text are.1 are.2 are.0 (omega arith) (λ x below. with_bytes-below memory m.limit text x below ∙ kept x below) spaces (text_there memory) (omega arith) wide in
        then_written (walk_then (first_step memory) (walk_then (store_step memory) (third_step stored))) last (omega arith)

  -- a call of the routine
  pub char_called : (m : State) (operands : Operands) (rest : List Instruction) (value width : ℕ) → values m operands.arguments ≡ value ∷ width ∷ [] → value < 2 ^ 32 → width < 2 ^ 32 → StandsAt p m (p.address blanks) (replicate {A = ℕ} 64 32) → HasRoom p m 256 → Written low p m write_char_number operands rest (padded (width_of (signed width)) (text_of_char (signed value))) (length (padded (width_of (signed width)) (text_of_char (signed value))) + 232)
  char_called m operands rest value width passed word wide spaces room =
      let some = room.room in
      rw (char_of_word value word)
      (call_written others entry named globals p m write_char_number operands rest (value ∷ width ∷ []) (omega arith) passed refl (omega arith) (padded (width_of (signed width)) (value % 256 ∷ [])) (length (padded (width_of (signed width)) (value % 256 ∷ [])) + 159) (length (padded (width_of (signed width)) (value % 256 ∷ [])) + 232)
      (omega arith)
      (char_inside m operands rest value width spaces room word wide (cleared low m write_char_number) (λ x below. with_bytes-below m.memory m.limit (replicate {A = ℕ} 4 0) x below)))
