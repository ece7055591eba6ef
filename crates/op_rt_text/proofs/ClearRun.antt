-- The routine that puts zeros in memory does it.
use Rattle.std.proofs.Common.{◌≡◌, ℕ, pos, zero, suc, ◌+◌, ◌-◌, ◌*◌, ◌/◌, ◌%◌, ◌^◌, ◌<◌, ◌≤◌, inl, inr, true, ◌&&◌, cond, nat_eq, nat_le, nat_lt, List, [], ◌∷◌, length, replicate, slice_index, refl, ap, sym, subst, ◌∙◌, arith}
use Rattle.std.proofs.Math.Nat.{add-mod_right}
use Rattle.std.proofs.lemmas.Bool.{and_from, cases_lt}
use Rattle.std.proofs.lemmas.Bool.Decides.{nat_tests}
use Rattle.std.proofs.lemmas.List.{length-map, length-replicate}
use Rattle.std.proofs.lemmas.Nat.{and_mask}
use Rattle.std.specs.Int.{bytes_low_first}
use Rattle.op_low.specs.Machine.{act, cost, cost_by, done, shown_by, shows, step, step_by_ending}
use Rattle.op_low.specs.State.{Placement, State, routine_of, space, usable, value, values}
use Rattle.op_low.specs.declared.code.Counts.{Counts}
use Rattle.op_low.specs.declared.code.Low.{Low}
use Rattle.op_low.specs.declared.code.Routine.{Routine}
use Rattle.op_low.specs.declared.instruction.Call.{Call as Operands}
use Rattle.op_low.specs.declared.instruction.Instruction.{Instruction}
use Rattle.op_low.specs.declared.instruction.Instruction.TheVariants.{AluImm, Call, Store}
use Rattle.op_rt_text.specs.Clear.{begins, clears_turn, clears_word, ends}
use Rattle.op_rt_text.specs.Names.{clear_number, register, routine_id}
use Rattle.op_rt_text.specs.Running.{Allowed, Clearable, HasRoom, behind}
use Rattle.op_rt_text.proofs.BytesLemmas.{all_usable}
use Rattle.op_rt_text.proofs.Calls.{cleared, inside, walk_enter, walk_leave}
use Rattle.op_rt_text.proofs.Programs.{may_enter, program}
use Rattle.op_rt_text.proofs.Turns.{Done, Task, done_none, done_then, loop_tail, part_code, part_done}
use Rattle.op_rt_text.proofs.Walks.{Walk, standing, walk_longer, walk_store, walk_then}
use Rattle.op_rv.proofs.Memory.{with_bytes-below, with_bytes-outside, with_bytes-within, zero_bytes, zeros_get}
use Rattle.op_rv.specs.Operation.{imm_value, word_from}
use Rattle.op_rv.specs.State.{all_from, with_bytes}
use Rattle.op_rv.specs.Step.{can_access, offset_from}
use Rattle.op_rv.specs.declared.instruction.ImmOp.TheVariants.{Addi, Andi}
use Rattle.op_rv.specs.declared.instruction.StoreOp.TheVariants.{Sw}
use Rattle.op_rv.specs.declared.objects.GlobalVariable.{GlobalVariable}
use Rattle.op_rv.specs.declared.symbol.RoutineId.{RoutineId}
use Rattle.op_simulation.specs.System.{run, spent, trace}

-- ---- memory

-- memory is as before, but for k bytes at t, which are zeros
record Zeroed (before after : ℕ → ℕ) (t k : ℕ) : Type 0 where
  within : (j : ℕ) → j < k → after (t + j) ≡ 0
  outside : (x : ℕ) → (t ≤ x → x < t + k → ⊥) → after x ≡ before x

-- a word of zeros
word_zeroed : (memory : ℕ → ℕ) (t : ℕ) → Zeroed memory (with_bytes memory t (bytes_low_first 0 4 0)) t 4
word_zeroed memory t = record {
  within = λ j before.
      let there : t + j - t ≡ j = omega arith in
      with_bytes-within memory t (bytes_low_first 0 4 0) (t + j) (omega arith) (omega arith) ∙ zero_bytes (t + j - t);
  outside = λ x apart. with_bytes-outside memory t (bytes_low_first 0 4 0) x (λ from before. apart from (omega arith));
}

zeroed_on : (memory middle after : ℕ → ℕ) (t n k : ℕ) → Zeroed memory middle t n → Zeroed middle after (t + n) k → Zeroed memory after t (n + k)
zeroed_on memory middle after t n k first second = record {
  within = λ j before.
      elim (cases_lt j n) [
        | inl early ↦ second.outside (t + j) (λ from under. omega arith) ∙ first.within j early
        | inr late ↦ let there : t + n + (j - n) ≡ t + j = omega arith in ap after (sym there) ∙ second.within (j - n) (omega arith)
      ];
  outside = λ x out. second.outside x (λ from under. out (omega arith) (omega arith)) ∙ first.outside x (λ from under. out from (omega arith));
}

zeroed_is : (memory after : ℕ → ℕ) (t k : ℕ) → Zeroed memory after t k → (x : ℕ) → after x ≡ with_bytes memory t (replicate {A = ℕ} k 0) x
zeroed_is memory after t k zeroed x =
    let size = length-replicate {A = ℕ} k 0 in
    elim (cases_lt x t) [
      | inl lower ↦ zeroed.outside x (λ from under. omega arith) ∙ sym (with_bytes-outside memory t (replicate {A = ℕ} k 0) x (λ from under. omega arith))
      | inr from ↦
          elim (cases_lt x (t + k)) [
            | inl within ↦
                let e : t + (x - t) ≡ x = omega arith in
                ap after (sym e) ∙ zeroed.within (x - t) (omega arith) ∙ sym (with_bytes-within memory t (replicate {A = ℕ} k 0) x from (omega arith) ∙ zeros_get k (x - t))
            | inr above ↦ zeroed.outside x (λ from under. omega arith) ∙ sym (with_bytes-outside memory t (replicate {A = ℕ} k 0) x (λ from under. omega arith))
          ]
    ]

-- ---- the code

-- The call has come to the state behind it: below the limit only so many bytes at `to` have changed, to zeros.
pub record Cleared (low : Low) (p : Placement) (m : State) (r : ℕ) (operands : Operands) (rest : List Instruction) (to count most : ℕ) : Type 0 where
  pub value : ℕ
  pub memory : ℕ → ℕ
  pub cleared : (x : ℕ) → x < m.limit → memory x ≡ with_bytes m.memory to (replicate {A = ℕ} count 0) x
  pub walk : Walk low p (standing m (Call (routine_id r) operands ∷ rest)) (standing (behind m operands rest value memory m.output) rest) [] most

-- j words from an offset on, and then other code
abbrev zeros : List Instruction → (o j : ℕ) → List Instruction
zeros tail o zero = tail
zeros tail o (suc j) = Store Sw (register 3) (register 0) (pos o) ∷ zeros tail (o + 4) j

-- behind them the address goes on by so many bytes
abbrev goes_by : (size : ℕ) → List Instruction → List Instruction
goes_by size tail = AluImm Addi (register 0) (register 0) (pos size) ∷ tail

-- registers lead to the words, have 0, and lead to where the last word and the last turn end
record IsAt (e s : ℕ) (registers : ℕ → ℕ) (t : ℕ) : Type 0 where
  to : registers 0 ≡ t
  last : registers 2 ≡ e
  none : registers 3 ≡ 0
  turns : registers 4 ≡ s
  whole : t % 4 ≡ 0

module _ (p : Placement) (m : State) where
  may_front : (t n k : ℕ) → Allowed p.rights.writable m.limit t (n + k) → Allowed p.rights.writable m.limit t n
  may_front t n k can =
      let below = can.below in
      record { may = λ x from before. can.may x from (omega arith); below = omega arith }

  may_back : (t n k : ℕ) → Allowed p.rights.writable m.limit t (n + k) → Allowed p.rights.writable m.limit (t + n) k
  may_back t n k can =
      let below = can.below in
      record { may = λ x from before. can.may x (omega arith) (omega arith); below = omega arith }

  -- zeros, by registers of which this is asked
  abbrev clearing_by : ((ℕ → ℕ) → ℕ → Type 0) → Task
  clearing_by At =
      record {
        At = λ registers t f. At registers t;
        Wants = λ memory t f k. Allowed p.rights.writable m.limit t k;
        Does = λ before after t f k. Zeroed before after t k;
        nothing = λ memory t f. record { within = λ j before. absurd (omega arith); outside = λ x apart. refl };
        front = λ memory t f n k can. may_front t n k can;
        back = λ memory middle t f n k can zeroed. may_back t n k can;
        joined = λ memory middle after t f n k can first second. zeroed_on memory middle after t n k first second;
      }

  abbrev clearing : (e s : ℕ) → Task
  clearing e s = clearing_by (λ registers t. IsAt e s registers t)

  -- within a unit registers stay as they are
  abbrev clearing_within : (ℕ → ℕ) → Task
  clearing_within registers = clearing_by (λ others t. others ≡ registers)

module _ (others : List Routine) (entry : RoutineId) (named : Counts) (globals : List GlobalVariable) (p : Placement) where
  abbrev low : Low
  low = program others entry named globals

  module _ (m : State) (operands : Operands) (rest : List Instruction) (room : HasRoom p m 64) (has : space low p clear_number ≤ m.room) where
    abbrev here : (ℕ → ℕ) → List Instruction → (ℕ → ℕ) → State
    here registers now memory = inside low p m clear_number operands rest registers now memory m.output

    abbrev Does : Task → (ℕ → ℕ) → List Instruction → (ℕ → ℕ) → ℕ → ℕ → ℕ → List Instruction → ℕ → Type 0
    Does task registers now memory t f k later most = Done low p m clear_number operands rest task registers now memory t f k later most

    abbrev advanced : ℕ → (ℕ → ℕ) → ℕ → ℕ
    advanced size registers x = cond (nat_eq x 0) (imm_value Addi (registers 0) (word_from (pos size))) (registers x)

    advance_step : (size : ℕ) (registers memory : ℕ → ℕ) (tail : List Instruction) → Walk low p (here registers (goes_by size tail) memory) (here (advanced size registers) tail memory) [] 1
    unfolding step step_by_ending done act run trace spent shows shown_by cost cost_by
    advance_step size registers memory tail = record { steps = 1; few = omega arith; ends = refl; shown = refl; within = omega arith }

    advanced_is : (a size t : ℕ) → a ≡ t → t + size < 2 ^ 32 → imm_value Addi a (word_from (pos size)) ≡ t + size
    advanced_is a size t is word = omega arith

    offset_is : (a o t : ℕ) → a + o ≡ t → t < 2 ^ 32 → offset_from a (pos o) ≡ t
    offset_is a o t is word = omega arith

    store_step : (registers memory : ℕ → ℕ) (o t : ℕ) (now : List Instruction) → offset_from (registers 0) (pos o) ≡ t → registers 3 ≡ 0 → Allowed p.rights.writable m.limit t 4 → t % 4 ≡ 0 → Walk low p (here registers (Store Sw (register 3) (register 0) (pos o) ∷ now) memory) (here registers now (with_bytes memory t (bytes_low_first 0 4 0))) [] 1
    store_step registers memory o t now is none can aligned =
        let below = can.below in
        let state = here registers now memory in
        let whole : nat_eq (t % 4) 0 ≡ true = grind (arith, nat_tests) in
        let may : can_access (usable p.rights.writable state) t 4 ≡ true = and_from (nat_eq (t % 4) 0) (all_from (usable p.rights.writable state) t 4) whole (all_usable p.rights.writable state t 4 can.may (omega arith)) in
        let from = here registers (Store Sw (register 3) (register 0) (pos o) ∷ now) memory in
        subst (λ w. Walk low p from (here registers now (with_bytes memory t (bytes_low_first 0 4 w))) [] 1) none
        (subst (λ a. Walk low p from (here registers now (with_bytes memory a (bytes_low_first 0 4 (registers 3)))) [] 1) is
        (walk_store low p state Sw (register 3) (register 0) (pos o) now (ap (λ a. can_access (usable p.rights.writable state) a 4) is ∙ may)))

    zeros_done : (registers : ℕ → ℕ) (tail : List Instruction) → registers 3 ≡ 0 → (j o : ℕ) (memory : ℕ → ℕ) (t f : ℕ) → registers 0 + o ≡ t → t % 4 ≡ 0 → Allowed p.rights.writable m.limit t (4 * j) → Does (clearing_within p m registers) registers (zeros tail o j) memory t f (4 * j) tail j
    zeros_done registers tail none zero o memory t f to_is whole can = done_none low p m clear_number operands rest (clearing_within p m registers) registers memory tail t f refl
    zeros_done registers tail none (suc j) o memory t f to_is whole can =
        let words = room.words in
        let least = room.room in
        let split : 4 * suc j ≡ 4 + 4 * j = omega arith in
        let all = subst (Allowed p.rights.writable m.limit t) split can in
        let below = all.below in
        let stored = with_bytes memory t (bytes_low_first 0 4 0) in
        let more = zeros_done registers tail none j (o + 4) stored (t + 4) (f + 4) (omega (arith, to_is)) (add-mod_right t 4 ∙ whole) (may_back p m t 4 (4 * j) all) in
        subst (λ z. Does (clearing_within p m registers) registers (zeros tail o (suc j)) memory t f z tail (suc j)) (sym split)
        (record {
          next = more.next;
          after = more.after;
          there = more.there;
          does = zeroed_on memory stored more.after t 4 (4 * j) (word_zeroed memory t) more.does;
          walk = walk_longer (walk_then (store_step registers memory o t (zeros tail (o + 4) j) (offset_is (registers 0) o t to_is (omega arith)) none (may_front p m t 4 (4 * j) all) whole) more.walk) (omega arith);
        })

    -- a unit of j words
    unit_done : (j size : ℕ) → size ≡ 4 * j → (e s : ℕ) (tail : List Instruction) (registers memory : ℕ → ℕ) (t f : ℕ) → IsAt e s registers t → Allowed p.rights.writable m.limit t size → Does (clearing p m e s) registers (zeros (goes_by size tail) 0 j) memory t f size tail (j + 1)
    unit_done j size is e s tail registers memory t f at can =
        let words = room.words in
        let least = room.room in
        let below = can.below in
        let to_is = at.to in
        let whole = at.whole in
        let all = zeros_done registers (goes_by size tail) at.none j 0 memory t f (omega arith) at.whole (subst (Allowed p.rights.writable m.limit t) is can) in
        let same = all.there in
        record {
          next = advanced size all.next;
          after = all.after;
          there = record {
            to = advanced_is (all.next 0) size t (ap (λ registers. registers 0) same ∙ at.to) (omega arith);
            last = ap (λ registers. registers 2) same ∙ at.last;
            none = ap (λ registers. registers 3) same ∙ at.none;
            turns = ap (λ registers. registers 4) same ∙ at.turns;
            whole = omega (arith, is, whole);
          };
          does = subst (Zeroed memory all.after t) (sym is) all.does;
          walk = walk_then all.walk (advance_step size all.next all.after tail);
        }

    -- q turns, and then w words
    turns_cleared : (q w : ℕ) (registers memory : ℕ → ℕ) (t : ℕ) → IsAt (t + (32 * q + 4 * w)) (t + 32 * q) registers t → Allowed p.rights.writable m.limit t (32 * q + 4 * w) → Does (clearing p m (t + (32 * q + 4 * w)) (t + 32 * q)) registers (part_code 4 1 2) memory t 0 (32 * q + 4 * w) ends (10 * q + 3 * w + 6)
    turns_cleared q w registers memory t at can =
        let e = t + (32 * q + 4 * w) in
        let s = t + 32 * q in
        let turn = λ (registers memory : ℕ → ℕ) (t f : ℕ) (at : IsAt e s registers t) (can : Allowed p.rights.writable m.limit t 32). unit_done 8 32 refl e s (loop_tail 4 1 2) registers memory t f at can in
        let word = λ (registers memory : ℕ → ℕ) (t f : ℕ) (at : IsAt e s registers t) (can : Allowed p.rights.writable m.limit t 4). unit_done 1 4 refl e s (loop_tail 2 3 4) registers memory t f at can in
        let front = part_done low p m clear_number operands rest (clearing p m e s) 32 9 (omega arith) 4 s 1 2 clears_turn refl (λ registers t f at. at.to) (λ registers t f at. at.turns) turn q registers memory t 0 at (may_front p m t (32 * q) (4 * w) can) refl in
        let back = part_done low p m clear_number operands rest (clearing p m e s) 4 2 (omega arith) 2 e 3 4 clears_word refl (λ registers t f at. at.to) (λ registers t f at. at.last) word w front.next front.after (t + 32 * q) (0 + 32 * q) front.there (may_back p m t (32 * q) (4 * w) can) (omega arith) in
        done_then low p m clear_number operands rest (clearing p m e s) registers memory (part_code 4 1 2) (part_code 2 3 4) ends t 0 (32 * q) (4 * w) (10 * q + 3) (3 * w + 3) (10 * q + 3 * w + 6) can front back (omega arith)

    abbrev with_turns : ℕ → (ℕ → ℕ) → ℕ → ℕ
    with_turns v registers x = cond (nat_eq x 4) v (registers x)

    abbrev with_end : (t k : ℕ) → ℕ → ℕ
    with_end t k x = cond (nat_eq x 2) ((t + k) % 2 ^ 32) (slice_index (t ∷ k ∷ []) x)

    abbrev begun : (t k : ℕ) → ℕ → ℕ
    begun t k =
        let left = imm_value Andi k (word_from (pos 31)) in
        with_turns (((t + k) % 2 ^ 32 + (2 ^ 32 - left)) % 2 ^ 32) (with_turns left (with_end t k))

    begin_step : (t k : ℕ) (memory : ℕ → ℕ) → Walk low p (here (slice_index (t ∷ k ∷ [])) begins memory) (here (begun t k) (part_code 4 1 2) memory) [] 3
    unfolding step step_by_ending done act run trace spent shows shown_by cost cost_by
    begin_step t k memory = record { steps = 3; few = omega arith; ends = refl; shown = refl; within = omega arith }

    turns_are : (t k : ℕ) → t + k < 2 ^ 32 → ((t + k) % 2 ^ 32 + (2 ^ 32 - imm_value Andi k (word_from (pos 31)))) % 2 ^ 32 ≡ t + 32 * (k / 32)
    turns_are t k word =
        let left : imm_value Andi k (word_from (pos 31)) ≡ k % 32 = and_mask k 5 in
        omega (arith, left)

  -- a call of the routine
  pub clear_called : (m : State) (operands : Operands) (rest : List Instruction) (to count : ℕ) → values m operands.arguments ≡ to ∷ count ∷ [] → p.frame clear_number ≤ 64 → HasRoom p m 64 → Clearable p m to count → Cleared low p m clear_number operands rest to count (80 + 2 * count)
  clear_called m operands rest to count passed small room can =
      let least = room.room in
      let words = room.words in
      let below = can.target.below in
      let whole = can.whole in
      let has : space low p clear_number ≤ m.room = omega arith in
      let q = count / 32 in
      let w = count % 32 / 4 in
      let split : count ≡ 32 * q + 4 * w = omega arith in
      let start = cleared low m clear_number in
      let arguments = to ∷ count ∷ [] in
      let number : length operands.arguments ≡ 2 = sym (length-map operands.arguments (value m)) ∙ ap (λ vs. length vs) passed in
      let registers = begun m operands rest room has to count in
      let at : IsAt (to + (32 * q + 4 * w)) (to + 32 * q) registers to = record { to = refl; last = omega arith; none = refl; turns = turns_are m operands rest room has to count (omega arith); whole = can.aligned } in
      let body = turns_cleared m operands rest room has q w registers start to at (subst (Allowed p.rights.writable m.limit to) split can.target) in
      let first = λ (vs : List ℕ). inside low p m clear_number operands rest (slice_index vs) begins start m.output in
      let before = standing m (Call (routine_id clear_number) operands ∷ rest) in
      let enters = walk_enter low p m clear_number operands rest (may_enter others entry named globals p clear_number m operands.arguments arguments (omega arith) passed refl has) in
      let kept = λ (x : ℕ) (lower : x < m.limit). with_bytes-below m.memory m.limit (replicate {A = ℕ} (routine_of low clear_number).locals 0) x lower in
      record {
        value = body.next 3;
        memory = body.after;
        cleared = λ x lower. zeroed_is start body.after to (32 * q + 4 * w) body.does x ∙ ap (λ n. with_bytes start to (replicate {A = ℕ} n 0) x) (sym split) ∙ with_kept m.memory start to (replicate {A = ℕ} count 0) x (kept x lower);
        walk =
            walk_longer
            (walk_then (subst (λ vs. Walk low p before (first vs) [] (1 + space low p clear_number + length operands.arguments)) passed enters)
            (walk_then (begin_step m operands rest room has to count start)
            (walk_then body.walk (walk_leave low p m clear_number operands rest body.next (register 3) [] body.after m.output has))))
            (omega arith);
      }
    where
      with_kept : (memory other : ℕ → ℕ) (a : ℕ) (bytes : List ℕ) (x : ℕ) → other x ≡ memory x → with_bytes other a bytes x ≡ with_bytes memory a bytes x
      with_kept memory other a bytes x same = ap (λ y. cond (nat_le a x && nat_lt x (a + length bytes)) (slice_index bytes (x - a)) y) same
