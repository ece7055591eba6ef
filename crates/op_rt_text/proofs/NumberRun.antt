-- The routine that writes a number writes it.
use Rattle.std.proofs.Common.{◌≡◌, ℕ, pos, negsuc, zero, suc, ◌+◌, ◌-◌, ◌*◌, ◌/◌, ◌%◌, ◌^◌, ◌<◌, ◌≤◌, inl, inr, true, false, cond, not, nat_eq, nat_lt, int_lt, List, [], ◌∷◌, ◌++◌, drop, get_or, length, replicate, slice_index, refl, ap, ap₂, sym, subst, ◌∙◌, arith}
use Rattle.std.proofs.lemmas.Bool.{cases_lt, cond-false}
use Rattle.std.proofs.lemmas.Bool.Decides.{nat_tests}
use Rattle.std.proofs.lemmas.List.{length-append}
use Rattle.std.proofs.Math.ListN.{get_or-append}
use Rattle.std.proofs.Math.Nat.{pow-succ'}
use Rattle.std.proofs.Math.Seq.{get_or-append_seam}
use Rattle.std.specs.Int.{bytes_low_first}
use Rattle.op_low.specs.Machine.{act, cost, cost_by, done, shown_by, shows, step, step_by_ending}
use Rattle.op_low.specs.State.{Placement, State, usable, values}
use Rattle.op_low.specs.declared.code.Counts.{Counts}
use Rattle.op_low.specs.declared.code.Low.{Low}
use Rattle.op_low.specs.declared.code.Routine.{Routine}
use Rattle.op_low.specs.declared.instruction.Call.{Call as Operands}
use Rattle.op_low.specs.declared.instruction.Instruction.{Instruction}
use Rattle.op_low.specs.declared.instruction.Instruction.TheVariants.{Store}
use Rattle.op_meaning.specs.Texts.{decimal_by, padded, text_of_number, width_of}
use Rattle.op_rt_text.specs.Names.{blanks, block_id, register, write_blanks_number, write_bytes_number, write_number_number}
use Rattle.op_rt_text.specs.Number.{begins, puts_digit, puts_sign, writes_text}
use Rattle.op_rt_text.specs.Running.{HasRoom, StandsAt}
use Rattle.op_rt_text.proofs.Calls.{cleared, inside}
use Rattle.op_rt_text.proofs.CharRun.{byte_storable}
use Rattle.op_rt_text.proofs.Programs.{Written, WrittenInside, call_written, program, then_written}
use Rattle.op_rt_text.proofs.Signs.{at_least_low, less_negative, signed_high, signed_low}
use Rattle.op_rt_text.proofs.ThenBytes.{bytes_last}
use Rattle.op_rt_text.proofs.Walks.{Walk, walk_branch, walk_longer, walk_past, walk_store, walk_then}
use Rattle.op_rv.proofs.Memory.{bytes_there, with_bytes-above, with_bytes-below, with_bytes-within}
use Rattle.op_rv.proofs.Numbers.{not_negative}
use Rattle.op_rv.specs.Operation.{alu_value, branch_taken, imm_value, signed, word_from}
use Rattle.op_rv.specs.State.{with_bytes}
use Rattle.op_rv.specs.Step.{can_access, offset_from}
use Rattle.op_rv.specs.declared.instruction.AluOp.TheVariants.{Divu, Remu, Sub}
use Rattle.op_rv.specs.declared.instruction.BranchOp.TheVariants.{Bge, Bne}
use Rattle.op_rv.specs.declared.instruction.ImmOp.TheVariants.{Addi}
use Rattle.op_rv.specs.declared.instruction.StoreOp.TheVariants.{Sb}
use Rattle.op_rv.specs.declared.objects.GlobalVariable.{GlobalVariable}
use Rattle.op_rv.specs.declared.symbol.RoutineId.{RoutineId}
use Rattle.op_simulation.specs.System.{run, spent, trace}

decimal_length : (k n : ℕ) → length (decimal_by k n) ≤ k
unfolding decimal_by
decimal_length zero n = omega arith
decimal_length (suc k) n =
    elim (cases_lt n 10) [
      | inl digit ↦
          let test : nat_lt n 10 ≡ true = grind (arith, nat_tests) in
          rw test (omega arith)
      | inr great ↦
          let test : nat_lt n 10 ≡ false = grind (arith, nat_tests) in
          let less = decimal_length k (n / 10) in
          let size = length-append (decimal_by k (n / 10)) ((48 + n % 10) ∷ []) in
          rw test (omega arith)
    ]

number_of_low : (value : ℕ) → value < 2 ^ 31 → text_of_number (signed value) ≡ decimal_by 10 value
number_of_low value small =
    ap text_of_number (signed_low value small)
    ∙ cond-false (int_lt (pos value) (pos 0)) (45 ∷ decimal_by 10 value) (decimal_by 10 value) (not_negative value)

number_of_high : (value : ℕ) → 2 ^ 31 ≤ value → value < 2 ^ 32 → text_of_number (signed value) ≡ 45 ∷ decimal_by 10 (2 ^ 32 - value)
number_of_high value great word =
    ap text_of_number (signed_high value great word) ∙ ap (λ n. 45 ∷ decimal_by 10 n) (omega arith)

module _ (others : List Routine) (entry : RoutineId) (named : Counts) (globals : List GlobalVariable) (p : Placement) (small_blanks : p.frame write_blanks_number ≤ 64) (small_bytes : p.frame write_bytes_number ≤ 64) (small : p.frame write_number_number ≤ 64) where
  abbrev low : Low
  low = program others entry named globals

  module _ (m : State) (operands : Operands) (rest : List Instruction) (value width : ℕ) (spaces : StandsAt p m (p.address blanks) (replicate {A = ℕ} 64 32)) (room : HasRoom p m 256) (word : value < 2 ^ 32) (wide : width < 2 ^ 32) where
    abbrev here : (ℕ → ℕ) → List Instruction → (ℕ → ℕ) → State
    here registers now memory = inside low p m write_number_number operands rest registers now memory m.output

    abbrev given : ℕ → ℕ
    given = slice_index (value ∷ width ∷ [])

    -- registers with a value in one of them
    abbrev with_one : ℕ → ℕ → (ℕ → ℕ) → ℕ → ℕ
    with_one r v registers x = cond (nat_eq x r) v (registers x)

    -- where the text ends
    abbrev end_at : ℕ
    end_at = m.limit + 12 - 12 + 11

    abbrev begun : ℕ → ℕ
    begun = with_one 4 value (with_one 6 10 (with_one 3 end_at (with_one 2 end_at given)))

    begin_step : (memory : ℕ → ℕ) → Walk low p (here given begins memory) (here begun (drop 4 begins) memory) [] 4
    unfolding step step_by_ending done act run trace spent shows shown_by cost cost_by
    begin_step memory = record { steps = 4; few = omega arith; ends = refl; shown = refl; within = omega arith }

    abbrev negated : ℕ → ℕ
    negated = with_one 4 (alu_value Sub 0 value) begun

    negate_step : (memory : ℕ → ℕ) → Walk low p (here begun (drop 5 begins) memory) (here negated puts_digit memory) [] 2
    unfolding step step_by_ending done act run trace spent shows shown_by cost cost_by
    negate_step memory = record { steps = 2; few = omega arith; ends = refl; shown = refl; within = omega arith }

    -- ---- a digit

    abbrev one_less : ℕ → ℕ
    one_less a = imm_value Addi a (word_from (negsuc 0))

    abbrev scratch : (ℕ → ℕ) → ℕ → ℕ
    scratch registers = with_one 3 (one_less (registers 3)) (with_one 5 (imm_value Addi (alu_value Remu (registers 4) (registers 6)) (word_from (pos 48))) (with_one 5 (alu_value Remu (registers 4) (registers 6)) registers))

    abbrev divided : (ℕ → ℕ) → ℕ → ℕ
    divided registers = with_one 4 (alu_value Divu (registers 4) (registers 6)) (scratch registers)

    scratch_step : (registers memory : ℕ → ℕ) → Walk low p (here registers puts_digit memory) (here (scratch registers) (drop 3 puts_digit) memory) [] 3
    unfolding step step_by_ending done act run trace spent shows shown_by cost cost_by
    scratch_step registers memory = record { steps = 3; few = omega arith; ends = refl; shown = refl; within = omega arith }

    divide_step : (registers memory : ℕ → ℕ) → Walk low p (here (scratch registers) (drop 4 puts_digit) memory) (here (divided registers) (drop 5 puts_digit) memory) [] 1
    unfolding step step_by_ending done act run trace spent shows shown_by cost cost_by
    divide_step registers memory = record { steps = 1; few = omega arith; ends = refl; shown = refl; within = omega arith }

    to_sign_step : (registers memory : ℕ → ℕ) → Walk low p (here registers (drop 6 puts_digit) memory) (here registers puts_sign memory) [] 1
    unfolding step step_by_ending done act run trace spent shows shown_by cost cost_by
    to_sign_step registers memory = record { steps = 1; few = omega arith; ends = refl; shown = refl; within = omega arith }

    one_less_is : (registers : ℕ → ℕ) (a : ℕ) → registers 3 ≡ a → m.limit < a → a ≤ m.limit + 12 → one_less (registers 3) ≡ a - 1
    one_less_is registers a is some few =
        let words = room.words in
        let least = room.room in
        omega arith

    digit_is : (n : ℕ) → n < 2 ^ 32 → imm_value Addi (alu_value Remu n 10) (word_from (pos 48)) % 256 ≡ 48 + n % 10
    digit_is n small = omega arith

    -- a character put in front of the text so far
    char_step : (registers memory : ℕ → ℕ) (is : List Instruction) (a c : ℕ) → registers 3 ≡ a → registers 5 % 256 ≡ c → m.limit ≤ a → a < m.limit + 12 → Walk low p (here registers (Store Sb (register 5) (register 3) (pos 0) ∷ is) memory) (here registers is (with_bytes memory a (c ∷ []))) [] 1
    char_step registers memory is a c there digit from before =
        let words = room.words in
        let least = room.room in
        let address : offset_from (registers 3) (pos 0) ≡ a = ap (λ x. offset_from x (pos 0)) there ∙ omega arith in
        let may = room.writable a (omega arith) (omega arith) in
        let state = here registers is memory in
        let first = here registers (Store Sb (register 5) (register 3) (pos 0) ∷ is) memory in
        subst (λ x. Walk low p first (here registers is (with_bytes memory a (x ∷ []))) [] 1) digit
        (subst (λ x. Walk low p first (here registers is (with_bytes memory x (bytes_low_first 0 1 (registers 5)))) [] 1) address
        (walk_store low p state Sb (register 5) (register 3) (pos 0) is
        (ap (λ x. can_access (usable p.rights.writable state) x 1) address ∙ byte_storable p.rights.writable state a may (omega arith))))

    abbrev with_digit : (ℕ → ℕ) → ℕ → ℕ → ℕ → ℕ
    with_digit memory a n = with_bytes memory (a - 1) ((48 + n % 10) ∷ [])

    digit_step : (registers memory : ℕ → ℕ) (a n : ℕ) → registers 3 ≡ a → registers 4 ≡ n → registers 6 ≡ 10 → m.limit < a → a ≤ m.limit + 12 → n < 2 ^ 32 → Walk low p (here registers puts_digit memory) (here (divided registers) (drop 5 puts_digit) (with_digit memory a n)) [] 5
    digit_step registers memory a n there rest_is ten some few small_n =
        let stored = with_digit memory a n in
        let last = one_less_is registers a there some few in
        let digit : scratch registers 5 % 256 ≡ 48 + n % 10 = ap₂ (λ x y. imm_value Addi (alu_value Remu x y) (word_from (pos 48)) % 256) rest_is ten ∙ digit_is n small_n in
        walk_then
        (scratch_step registers memory)
        (walk_then
        (char_step (scratch registers) memory (drop 4 puts_digit) (a - 1) (48 + n % 10) last digit (omega arith) (omega arith))
        (divide_step registers stored))

    -- the digits that stand in front of an address
    record Digits (registers memory : ℕ → ℕ) (a : ℕ) (text : List ℕ) (most : ℕ) : Type 0 where
      registers_after : ℕ → ℕ
      after : ℕ → ℕ
      first : ℕ
      address : registers_after 3 ≡ first
      length_is : first + length text ≡ a
      value_kept : registers_after 0 ≡ registers 0
      width_kept : registers_after 1 ≡ registers 1
      end_kept : registers_after 2 ≡ registers 2
      nothing_kept : registers_after 7 ≡ registers 7
      stands : (j : ℕ) → j < length text → after (first + j) ≡ get_or text j 0
      below : (x : ℕ) → x < first → after x ≡ memory x
      above : (x : ℕ) → a ≤ x → after x ≡ memory x
      walk : Walk low p (here registers puts_digit memory) (here registers_after puts_sign after) [] most

    -- the first digit of a number, which is its last one to be put
    first_digit : (registers memory : ℕ → ℕ) (a n : ℕ) → registers 3 ≡ a → registers 4 ≡ n → registers 6 ≡ 10 → registers 7 ≡ 0 → m.limit < a → a ≤ m.limit + 12 → n < 10 → Digits registers memory a ((48 + n) ∷ []) 7
    first_digit registers memory a n there rest_is ten nothing some few digit =
        let stored = with_digit memory a n in
        let none : divided registers 4 ≡ 0 = ap₂ (alu_value Divu) rest_is ten ∙ omega arith in
        let passed : branch_taken Bne (divided registers 4) (divided registers 7) ≡ false = ap₂ (branch_taken Bne) none nothing in
        let byte : 48 + n % 10 ≡ 48 + n = omega arith in
        record {
          registers_after = divided registers;
          after = stored;
          first = a - 1;
          address = one_less_is registers a there some few;
          length_is = omega arith;
          value_kept = refl;
          width_kept = refl;
          end_kept = refl;
          nothing_kept = refl;
          stands = λ j one.
              let zero_is : j ≡ 0 = omega arith in
              let place : a - 1 + j - (a - 1) ≡ j = omega arith in
              with_bytes-within memory (a - 1) ((48 + n % 10) ∷ []) (a - 1 + j) (omega arith) (omega arith)
              ∙ ap (λ i. get_or ((48 + n % 10) ∷ []) i 0) place
              ∙ ap (λ c. get_or (c ∷ []) j 0) byte;
          below = λ x lower. with_bytes-below memory (a - 1) ((48 + n % 10) ∷ []) x lower;
          above = λ x upper. with_bytes-above memory (a - 1) ((48 + n % 10) ∷ []) x (omega arith);
          walk =
              walk_then
              (digit_step registers memory a n there rest_is ten some few (omega arith))
              (walk_then
              (walk_past low p (here (divided registers) (drop 6 puts_digit) stored) Bne (register 4) (register 7) (block_id 1) (drop 6 puts_digit) passed)
              (to_sign_step (divided registers) stored));
        }

    -- one more digit behind others
    next_digit : (registers memory : ℕ → ℕ) (a n : ℕ) (text : List ℕ) (most : ℕ) → registers 3 ≡ a → registers 4 ≡ n → registers 6 ≡ 10 → registers 7 ≡ 0 → m.limit < a → a ≤ m.limit + 12 → 10 ≤ n → n < 2 ^ 32 → Digits (divided registers) (with_digit memory a n) (a - 1) text most → Digits registers memory a (text ++ (48 + n % 10) ∷ []) (5 + (1 + most))
    next_digit registers memory a n text most there rest_is ten nothing some few great small_n more =
        let stored = with_digit memory a n in
        let digit = 48 + n % 10 in
        let quotient : divided registers 4 ≡ n / 10 = ap₂ (alu_value Divu) rest_is ten in
        let differ : nat_eq (n / 10) 0 ≡ false = grind (arith, nat_tests) in
        let taken : branch_taken Bne (divided registers 4) (divided registers 7) ≡ true = ap₂ (branch_taken Bne) quotient nothing ∙ ap not differ in
        let size = length-append text (digit ∷ []) in
        let before = more.length_is in
        record {
          registers_after = more.registers_after;
          after = more.after;
          first = more.first;
          address = more.address;
          length_is = omega arith;
          value_kept = more.value_kept;
          width_kept = more.width_kept;
          end_kept = more.end_kept;
          nothing_kept = more.nothing_kept;
          stands = λ j within.
              elim (cases_lt j (length text)) [
                | inl early ↦ more.stands j early ∙ sym (get_or-append text (digit ∷ []) 0 j early)
                | inr late ↦
                    let last : j ≡ length text = omega arith in
                    let place : more.first + j ≡ a - 1 = omega arith in
                    let zero_is : a - 1 - (a - 1) ≡ 0 = omega arith in
                    ap more.after place
                    ∙ more.above (a - 1) (omega arith)
                    ∙ with_bytes-within memory (a - 1) (digit ∷ []) (a - 1) (omega arith) (omega arith)
                    ∙ ap (λ i. get_or (digit ∷ []) i 0) zero_is
                    ∙ sym (ap (λ i. get_or (text ++ digit ∷ []) i 0) last ∙ get_or-append_seam text digit [] 0)
              ];
          below = λ x lower. more.below x lower ∙ with_bytes-below memory (a - 1) (digit ∷ []) x (omega arith);
          above = λ x upper. more.above x (omega arith) ∙ with_bytes-above memory (a - 1) (digit ∷ []) x (omega arith);
          walk =
              walk_then
              (digit_step registers memory a n there rest_is ten some few small_n)
              (walk_then
              (walk_branch low p (here (divided registers) (drop 6 puts_digit) stored) Bne (register 4) (register 7) (block_id 1) (drop 6 puts_digit) taken)
              more.walk);
        }

    -- the digits of a number, if there is room for so many
    digits_put : (k : ℕ) (registers memory : ℕ → ℕ) (a n : ℕ) → registers 3 ≡ a → registers 4 ≡ n → registers 6 ≡ 10 → registers 7 ≡ 0 → m.limit + k < a → a ≤ m.limit + 12 → n < 10 ^ suc k → n < 2 ^ 32 → Digits registers memory a (decimal_by (suc k) n) (6 * k + 7)
    unfolding decimal_by
    digits_put zero registers memory a n there rest_is ten nothing some few small_n fits =
        let digit : n < 10 = small_n in
        let test : nat_lt n 10 ≡ true = grind (arith, nat_tests) in
        rw test (first_digit registers memory a n there rest_is ten nothing (omega arith) few digit)
    digits_put (suc k) registers memory a n there rest_is ten nothing some few small_n fits =
        elim (cases_lt n 10) [
          | inl digit ↦
              let test : nat_lt n 10 ≡ true = grind (arith, nat_tests) in
              rw test (longer (first_digit registers memory a n there rest_is ten nothing (omega arith) few digit))
          | inr great ↦
              let test : nat_lt n 10 ≡ false = grind (arith, nat_tests) in
              let power = pow-succ' 10 (suc k) in
              let quotient : divided registers 4 ≡ n / 10 = ap₂ (alu_value Divu) rest_is ten in
              let cost : 5 + (1 + (6 * k + 7)) ≡ 6 * suc k + 7 = omega arith in
              rw test
              (subst (Digits registers memory a (decimal_by (suc k) (n / 10) ++ (48 + n % 10) ∷ [])) cost
              (next_digit registers memory a n (decimal_by (suc k) (n / 10)) (6 * k + 7) there rest_is ten nothing (omega arith) few great fits
              (digits_put k (divided registers) (with_digit memory a n) (a - 1) (n / 10) (one_less_is registers a there (omega arith) few) quotient ten nothing (omega arith) (omega arith) (omega arith) (omega arith))))
        ]
      where
        longer : Digits registers memory a ((48 + n) ∷ []) 7 → Digits registers memory a ((48 + n) ∷ []) (6 * suc k + 7)
        longer it =
            record {
              registers_after = it.registers_after;
              after = it.after;
              first = it.first;
              address = it.address;
              length_is = it.length_is;
              value_kept = it.value_kept;
              width_kept = it.width_kept;
              end_kept = it.end_kept;
              nothing_kept = it.nothing_kept;
              stands = it.stands;
              below = it.below;
              above = it.above;
              walk = walk_longer it.walk (omega arith);
            }

    -- ---- the sign

    abbrev signed_with : (ℕ → ℕ) → ℕ → ℕ
    signed_with registers = with_one 3 (one_less (registers 3)) (with_one 5 45 registers)

    minus_step : (registers memory : ℕ → ℕ) → Walk low p (here registers (drop 1 puts_sign) memory) (here (signed_with registers) (drop 3 puts_sign) memory) [] 2
    unfolding step step_by_ending done act run trace spent shows shown_by cost cost_by
    minus_step registers memory = record { steps = 2; few = omega arith; ends = refl; shown = refl; within = omega arith }

    to_text_step : (registers memory : ℕ → ℕ) → Walk low p (here registers (drop 4 puts_sign) memory) (here registers writes_text memory) [] 1
    unfolding step step_by_ending done act run trace spent shows shown_by cost cost_by
    to_text_step registers memory = record { steps = 1; few = omega arith; ends = refl; shown = refl; within = omega arith }

    -- a minus in front of the digits
    minus_put : (registers memory : ℕ → ℕ) (first : ℕ) → registers 3 ≡ first → branch_taken Bge (registers 0) (registers 7) ≡ false → m.limit < first → first ≤ m.limit + 12 → Walk low p (here registers puts_sign memory) (here (signed_with registers) writes_text (with_bytes memory (first - 1) (45 ∷ []))) [] 5
    minus_put registers memory first there negative some few =
        walk_then
        (walk_past low p (here registers (drop 1 puts_sign) memory) Bge (register 0) (register 7) (block_id 3) (drop 1 puts_sign) negative)
        (walk_then
        (minus_step registers memory)
        (walk_then
        (char_step (signed_with registers) memory (drop 4 puts_sign) (first - 1) 45 (one_less_is registers first there some few) refl (omega arith) (omega arith))
        (to_text_step (signed_with registers) (with_bytes memory (first - 1) (45 ∷ [])))))

    -- the whole text is made
    record Made (memory : ℕ → ℕ) (text : List ℕ) : Type 0 where
      registers_after : ℕ → ℕ
      after : ℕ → ℕ
      first : ℕ
      address : registers_after 3 ≡ first
      width_is : registers_after 1 ≡ width
      end_is : registers_after 2 ≡ end_at
      from : m.limit ≤ first
      length_is : first + length text ≡ m.limit + 11
      stands : (j : ℕ) → j < length text → after (first + j) ≡ get_or text j 0
      below : (x : ℕ) → x < m.limit → after x ≡ memory x
      walk : Walk low p (here given begins memory) (here registers_after writes_text after) [] 73

    -- of the digits alone
    made_alone : (memory : ℕ → ℕ) (text : List ℕ) → length text ≤ 10 → Walk low p (here given begins memory) (here begun puts_digit memory) [] 5 → branch_taken Bge value 0 ≡ true → Digits begun memory (m.limit + 11) text 61 → Made memory text
    made_alone memory text few begins_there positive digits =
        let whole = digits.length_is in
        record {
          registers_after = digits.registers_after;
          after = digits.after;
          first = digits.first;
          address = digits.address;
          width_is = digits.width_kept;
          end_is = digits.end_kept;
          from = omega arith;
          length_is = digits.length_is;
          stands = digits.stands;
          below = λ x lower. digits.below x (omega arith);
          walk =
              walk_longer
              (walk_then
              begins_there
              (walk_then
              digits.walk
              (walk_branch low p (here digits.registers_after (drop 1 puts_sign) digits.after) Bge (register 0) (register 7) (block_id 3) (drop 1 puts_sign)
              (ap₂ (branch_taken Bge) digits.value_kept digits.nothing_kept ∙ positive))))
              (omega arith);
        }

    -- of the digits and a minus
    made_signed : (memory : ℕ → ℕ) (text : List ℕ) → length text ≤ 10 → Walk low p (here given begins memory) (here negated puts_digit memory) [] 7 → branch_taken Bge value 0 ≡ false → Digits negated memory (m.limit + 11) text 61 → Made memory (45 ∷ text)
    made_signed memory text few begins_there negative digits =
        let whole = digits.length_is in
        record {
          registers_after = signed_with digits.registers_after;
          after = with_bytes digits.after (digits.first - 1) (45 ∷ []);
          first = digits.first - 1;
          address = one_less_is digits.registers_after digits.first digits.address (omega arith) (omega arith);
          width_is = digits.width_kept;
          end_is = digits.end_kept;
          from = omega arith;
          length_is = omega arith;
          stands = minus_stands digits.after digits.first text (omega arith) digits.stands;
          below = λ x lower. with_bytes-below digits.after (digits.first - 1) (45 ∷ []) x (omega arith) ∙ digits.below x (omega arith);
          walk =
              walk_longer
              (walk_then
              begins_there
              (walk_then
              digits.walk
              (minus_put digits.registers_after digits.after digits.first digits.address (ap₂ (branch_taken Bge) digits.value_kept digits.nothing_kept ∙ negative) (omega arith) (omega arith))))
              (omega arith);
        }
      where
        minus_stands : (memory : ℕ → ℕ) (first : ℕ) (text : List ℕ) → 0 < first → ((j : ℕ) → j < length text → memory (first + j) ≡ get_or text j 0) → (j : ℕ) → j < length (45 ∷ text) → with_bytes memory (first - 1) (45 ∷ []) (first - 1 + j) ≡ get_or (45 ∷ text) j 0
        minus_stands memory first text some each zero within =
            let place : first - 1 + 0 - (first - 1) ≡ 0 = omega arith in
            with_bytes-within memory (first - 1) (45 ∷ []) (first - 1 + 0) (omega arith) (omega arith) ∙ ap (λ i. get_or (45 ∷ []) i 0) place
        minus_stands memory first text some each (suc j) within =
            let place : first - 1 + suc j ≡ first + j = omega arith in
            with_bytes-above memory (first - 1) (45 ∷ []) (first - 1 + suc j) (omega arith) ∙ ap memory place ∙ each j (omega arith)

    made_positive : (memory : ℕ → ℕ) → value < 2 ^ 31 → Made memory (decimal_by 10 value)
    made_positive memory positive =
        let there : end_at ≡ m.limit + 11 = omega arith in
        let test = at_least_low value 0 positive (omega arith) in
        made_alone memory (decimal_by 10 value) (decimal_length 10 value)
        (walk_then (begin_step memory) (walk_branch low p (here begun (drop 5 begins) memory) Bge (register 0) (register 7) (block_id 1) (drop 5 begins) test))
        test
        (digits_put 9 begun memory (m.limit + 11) value there refl refl refl (omega arith) (omega arith) (omega arith) word)

    made_negative : (memory : ℕ → ℕ) → 2 ^ 31 ≤ value → Made memory (45 ∷ decimal_by 10 (2 ^ 32 - value))
    made_negative memory negative =
        let there : end_at ≡ m.limit + 11 = omega arith in
        let magnitude : alu_value Sub 0 value ≡ 2 ^ 32 - value = omega arith in
        let test = less_negative value negative word in
        made_signed memory (decimal_by 10 (2 ^ 32 - value)) (decimal_length 10 (2 ^ 32 - value))
        (walk_then (begin_step memory) (walk_then (walk_past low p (here begun (drop 5 begins) memory) Bge (register 0) (register 7) (block_id 1) (drop 5 begins) test) (negate_step memory)))
        test
        (digits_put 9 negated memory (m.limit + 11) (2 ^ 32 - value) there magnitude refl refl (omega arith) (omega arith) (omega arith) (omega arith))

    -- ---- the write

    abbrev with_length : (ℕ → ℕ) → ℕ → ℕ
    with_length registers = with_one 5 (alu_value Sub (registers 2) (registers 3)) registers

    length_step : (registers memory : ℕ → ℕ) → Walk low p (here registers writes_text memory) (here (with_length registers) (drop 1 writes_text) memory) [] 1
    unfolding step step_by_ending done act run trace spent shows shown_by cost cost_by
    length_step registers memory = record { steps = 1; few = omega arith; ends = refl; shown = refl; within = omega arith }

    number_inside : (memory : ℕ → ℕ) (text : List ℕ) → ((x : ℕ) → x < m.limit → memory x ≡ m.memory x) → Made memory text → WrittenInside low p m write_number_number operands rest given begins memory m.output (padded (width_of (signed width)) text) (length (padded (width_of (signed width)) text) + 230)
    number_inside memory text kept made =
        let words = room.words in
        let least = room.room in
        let from = made.from in
        let whole = made.length_is in
        let bytes = padded (width_of (signed width)) text in
        let registers = with_length made.registers_after in
        let size_is : registers 5 ≡ length text = ap₂ (alu_value Sub) made.end_is made.address ∙ omega arith in
        let stands : StandsAt p (here registers [] made.after) made.first text =
        record {
          readable = λ x at before. room.readable x (omega arith) (omega arith);
          below = omega arith;
          stands = bytes_there made.after made.first text made.stands;
        } in
        let last = bytes_last others entry named globals p small_blanks small_bytes m write_number_number operands rest registers made.after m.output (register 3) (register 5) (register 1) (register 5) made.first width text made.address size_is made.width_is (omega arith) (λ x lower. made.below x lower ∙ kept x lower) spaces stands (omega arith) wide in
        then_written (walk_then made.walk (length_step made.registers_after made.after)) last (omega arith)

    any_number : (memory : ℕ → ℕ) → ((x : ℕ) → x < m.limit → memory x ≡ m.memory x) → WrittenInside low p m write_number_number operands rest given begins memory m.output (padded (width_of (signed width)) (text_of_number (signed value))) (length (padded (width_of (signed width)) (text_of_number (signed value))) + 230)
    any_number memory kept =
        elim (cases_lt value (2 ^ 31)) [
          | inl positive ↦ rw (number_of_low value positive) (number_inside memory (decimal_by 10 value) kept (made_positive memory positive))
          | inr negative ↦ rw (number_of_high value (omega arith) word) (number_inside memory (45 ∷ decimal_by 10 (2 ^ 32 - value)) kept (made_negative memory (omega arith)))
        ]

  -- a call of the routine
  pub number_called : (m : State) (operands : Operands) (rest : List Instruction) (value width : ℕ) → values m operands.arguments ≡ value ∷ width ∷ [] → value < 2 ^ 32 → width < 2 ^ 32 → StandsAt p m (p.address blanks) (replicate {A = ℕ} 64 32) → HasRoom p m 256 → Written low p m write_number_number operands rest (padded (width_of (signed width)) (text_of_number (signed value))) (length (padded (width_of (signed width)) (text_of_number (signed value))) + 309)
  number_called m operands rest value width passed word wide spaces room =
      let least = room.room in
      let bytes = padded (width_of (signed width)) (text_of_number (signed value)) in
      call_written others entry named globals p m write_number_number operands rest (value ∷ width ∷ []) (omega arith) passed refl (omega arith) bytes (length bytes + 230) (length bytes + 309)
      (omega arith)
      (any_number m operands rest value width spaces room word wide (cleared low m write_number_number) (λ x lower. with_bytes-below m.memory m.limit (replicate {A = ℕ} 12 0) x lower))
