-- The routines that copy memory copy it.
use Rattle.std.proofs.Common.{◌≡◌, ℕ, pos, zero, suc, ◌+◌, ◌-◌, ◌*◌, ◌/◌, ◌%◌, ◌^◌, ◌<◌, ◌≤◌, ◌⊎◌, inl, inr, Bool, true, false, cond, not, nat_eq, List, [], ◌∷◌, drop, get_or, slice_index, refl, ap, ap₂, sym, subst, ◌∙◌, arith}
use Rattle.std.proofs.Math.Nat.{add-mod_right, mul-suc, mul-zero}
use Rattle.std.proofs.lemmas.Bool.{and_from, cases_lt}
use Rattle.std.proofs.lemmas.Bool.Decides.{nat_tests}
use Rattle.std.proofs.lemmas.Nat.{and_mask}
use Rattle.std.specs.Int.{bytes_low_first}
use Rattle.op_low.specs.Machine.{act, cost, cost_by, done, shown_by, shows, step, step_by_ending}
use Rattle.op_low.specs.State.{Placement, State, block_of, space, usable}
use Rattle.op_low.specs.declared.code.Low.{Low}
use Rattle.op_low.specs.declared.instruction.Call.{Call as Operands}
use Rattle.op_low.specs.declared.instruction.Instruction.{Instruction}
use Rattle.op_low.specs.declared.instruction.Instruction.TheVariants.{AluImm, Load, Store}
use Rattle.op_rt_text.specs.Copying.{begins_bytes, begins_words, ends}
use Rattle.op_rt_text.specs.Names.{block_id, register}
use Rattle.op_rt_text.specs.Running.{Allowed, Copyable, HasRoom, behind}
use Rattle.op_rt_text.proofs.BytesLemmas.{all_usable}
use Rattle.op_rt_text.proofs.Calls.{inside, walk_leave}
use Rattle.op_rt_text.proofs.Turns.{Done, Task, done_none, done_then, loop_tail, part_code, part_done}
use Rattle.op_rt_text.proofs.Walks.{Walk, standing, walk_branch, walk_load, walk_longer, walk_none, walk_past, walk_store, walk_then}
use Rattle.op_rv.proofs.Memory.{byte_from, length-bytes_from, with_bytes-outside, with_bytes-within}
use Rattle.op_rv.specs.Operation.{branch_taken, imm_value, word_from}
use Rattle.op_rv.specs.State.{all_from, bytes_from, with_bytes, word_at}
use Rattle.op_rv.specs.Step.{can_access, load_size_of, load_value, offset_from, store_size_of}
use Rattle.op_rv.specs.declared.instruction.BranchOp.TheVariants.{Bne}
use Rattle.op_rv.specs.declared.instruction.ImmOp.TheVariants.{Addi, Andi}
use Rattle.op_rv.specs.declared.instruction.LoadOp.{LoadOp}
use Rattle.op_rv.specs.declared.instruction.LoadOp.TheVariants.{Lbu, Lw}
use Rattle.op_rv.specs.declared.instruction.StoreOp.{StoreOp}
use Rattle.op_rv.specs.declared.instruction.StoreOp.TheVariants.{Sb, Sw}
use Rattle.op_simulation.specs.System.{run, spent, trace}

-- ---- memory

-- memory is as before, but for k bytes at t, which are those that were at f
pub record Moved (before after : ℕ → ℕ) (t f k : ℕ) : Type 0 where
  pub within : (j : ℕ) → j < k → after (t + j) ≡ before (f + j)
  pub outside : (x : ℕ) → (t ≤ x → x < t + k → ⊥) → after x ≡ before x

-- what is stored from a load
pub moved_unit : (memory : ℕ → ℕ) (t f n : ℕ) → Moved memory (with_bytes memory t (bytes_from memory f n)) t f n
moved_unit memory t f n =
    let size = length-bytes_from memory f n in
    record {
      within = λ j before.
          let there : t + j - t ≡ j = omega arith in
          with_bytes-within memory t (bytes_from memory f n) (t + j) (omega arith) (omega arith)
          ∙ ap (λ i. get_or (bytes_from memory f n) i 0) there
          ∙ byte_from memory f n j before;
      outside = λ x apart. with_bytes-outside memory t (bytes_from memory f n) x (λ from before. apart from (omega arith));
    }

-- a copy in two parts, the first bytes first
pub moved_on : (memory middle after : ℕ → ℕ) (t f n k : ℕ) → (f + (n + k) ≤ t) ⊎ (t ≤ f) → Moved memory middle t f n → Moved middle after (t + n) (f + n) k → Moved memory after t f (n + k)
moved_on memory middle after t f n k apart first second =
    record {
      within = λ j before.
          elim (cases_lt j n) [
            | inl early ↦ second.outside (t + j) (λ from under. omega arith) ∙ first.within j early
            | inr late ↦
                let there : t + n + (j - n) ≡ t + j = omega arith in
                let source : f + n + (j - n) ≡ f + j = omega arith in
                ap after (sym there) ∙ second.within (j - n) (omega arith) ∙ ap middle source ∙ first.outside (f + j) (kept_source apart j late before)
          ];
      outside = λ x out. second.outside x (λ from under. out (omega arith) (omega arith)) ∙ first.outside x (λ from under. out from (omega arith));
    }
  where
    kept_source : (f + (n + k) ≤ t) ⊎ (t ≤ f) → (j : ℕ) → n ≤ j → j < n + k → t ≤ f + j → f + j < t + n → ⊥
    kept_source (inl lower) j late before from under = omega arith
    kept_source (inr upper) j late before from under = omega arith

pub moved_is : (memory after : ℕ → ℕ) (t f k : ℕ) → Moved memory after t f k → (x : ℕ) → after x ≡ with_bytes memory t (bytes_from memory f k) x
moved_is memory after t f k moved x =
    let there = moved_unit memory t f k in
    elim (cases_lt x t) [
      | inl lower ↦ moved.outside x (λ from under. omega arith) ∙ sym (there.outside x (λ from under. omega arith))
      | inr from ↦
          elim (cases_lt x (t + k)) [
            | inl within ↦
                let e : t + (x - t) ≡ x = omega arith in
                ap after (sym e) ∙ moved.within (x - t) (omega arith) ∙ sym (there.within (x - t) (omega arith)) ∙ ap (with_bytes memory t (bytes_from memory f k)) e
            | inr above ↦ moved.outside x (λ from under. omega arith) ∙ sym (there.outside x (λ from under. omega arith))
          ]
    ]

-- the bytes of what a load finds are those that stand there
pub unit_byte : (memory : ℕ → ℕ) (a : ℕ) → ((x : ℕ) → a ≤ x → x < a + 1 → memory x < 2 ^ 8) → bytes_low_first 0 1 (load_value Lbu memory a) ≡ bytes_from memory a 1
unfolding bytes_from
unit_byte memory a bytes =
    let b = bytes a (omega arith) (omega arith) in
    ap (λ x. x ∷ []) (omega arith)

pub unit_word : (memory : ℕ → ℕ) (a : ℕ) → ((x : ℕ) → a ≤ x → x < a + 4 → memory x < 2 ^ 8) → bytes_low_first 0 4 (load_value Lw memory a) ≡ bytes_from memory a 4
unfolding bytes_from
unit_word memory a bytes =
    let b0 = bytes a (omega arith) (omega arith) in
    let b1 = bytes (a + 1) (omega arith) (omega arith) in
    let b2 = bytes (a + 2) (omega arith) (omega arith) in
    let b3 = bytes (a + 3) (omega arith) (omega arith) in
    let two : memory (a + 1 + 1) ≡ memory (a + 2) = ap memory (omega arith) in
    let three : memory (a + 1 + 1 + 1) ≡ memory (a + 3) = ap memory (omega arith) in
    let e0 : word_at memory a % 256 ≡ memory a = omega arith in
    let e1 : word_at memory a / 256 % 256 ≡ memory (a + 1) = omega arith in
    let e2 : word_at memory a / 65536 % 256 ≡ memory (a + 1 + 1) = omega arith in
    let e3 : word_at memory a / 16777216 % 256 ≡ memory (a + 1 + 1 + 1) = omega arith in
    ap₂ (λ x xs. x ∷ xs) e0 (ap₂ (λ x xs. x ∷ xs) e1 (ap₂ (λ x xs. x ∷ xs) e2 (ap (λ x. x ∷ []) e3)))

-- ---- the task

-- a front of bytes that may be copied may be
front_copyable : (p : Placement) (m : State) (memory : ℕ → ℕ) (t f n k : ℕ) → Copyable p (record m { memory = memory }) t f (n + k) → Copyable p (record m { memory = memory }) t f n
front_copyable p m memory t f n k can =
    let target_below = can.target.below in
    let source_below = can.source.below in
    record {
      target = record { may = λ x from before. can.target.may x from (omega arith); below = omega arith };
      source = record { may = λ x from before. can.source.may x from (omega arith); below = omega arith };
      bytes = λ x from before. can.bytes x from (omega arith);
      apart = nearer can.apart;
    }
  where
    nearer : (f + (n + k) ≤ t) ⊎ (t ≤ f) → (f + n ≤ t) ⊎ (t ≤ f)
    nearer (inl lower) = inl (omega arith)
    nearer (inr upper) = inr upper

-- and so may the others, when the front is copied
back_copyable : (p : Placement) (m : State) (memory middle : ℕ → ℕ) (t f n k : ℕ) → Copyable p (record m { memory = memory }) t f (n + k) → Moved memory middle t f n → Copyable p (record m { memory = middle }) (t + n) (f + n) k
back_copyable p m memory middle t f n k can moved =
    let target_below = can.target.below in
    let source_below = can.source.below in
    record {
      target = record { may = λ x from before. can.target.may x (omega arith) (omega arith); below = omega arith };
      source = record { may = λ x from before. can.source.may x (omega arith) (omega arith); below = omega arith };
      bytes = λ x from before. subst (λ b. b < 2 ^ 8) (sym (moved.outside x (kept can.apart x from before))) (can.bytes x (omega arith) (omega arith));
      apart = further can.apart;
    }
  where
    kept : (f + (n + k) ≤ t) ⊎ (t ≤ f) → (x : ℕ) → f + n ≤ x → x < f + n + k → t ≤ x → x < t + n → ⊥
    kept (inl lower) x from before at under = omega arith
    kept (inr upper) x from before at under = omega arith

    further : (f + (n + k) ≤ t) ⊎ (t ≤ f) → (f + n + k ≤ t + n) ⊎ (t + n ≤ f + n)
    further (inl lower) = inl (omega arith)
    further (inr upper) = inr (omega arith)

-- what is copied, by registers of which this is asked
abbrev copying_by : (p : Placement) (m : State) (At : (ℕ → ℕ) → ℕ → ℕ → Type 0) → Task
copying_by p m At =
    record {
      At = At;
      Wants = λ memory t f k. Copyable p (record m { memory = memory }) t f k;
      Does = λ before after t f k. Moved before after t f k;
      nothing = λ memory t f. record { within = λ j before. absurd (omega arith); outside = λ x apart. refl };
      front = λ memory t f n k can. front_copyable p m memory t f n k can;
      back = λ memory middle t f n k can moved. back_copyable p m memory middle t f n k can moved;
      joined = λ memory middle after t f n k can first second. moved_on memory middle after t f n k can.apart first second;
    }

-- registers lead to the bytes, which are aligned, and to where the last unit and the last turn end
record IsAt (whole e s : ℕ) (registers : ℕ → ℕ) (t f : ℕ) : Type 0 where
  to : registers 0 ≡ t
  from : registers 1 ≡ f
  last : registers 3 ≡ e
  turns : registers 5 ≡ s
  to_whole : t % whole ≡ 0
  from_whole : f % whole ≡ 0

abbrev copying : (p : Placement) (m : State) (whole e s : ℕ) → Task
copying p m whole e s = copying_by p m (λ registers t f. IsAt whole e s registers t f)

-- within a unit they stay as they are
record IsWithin (a b e s : ℕ) (registers : ℕ → ℕ) : Type 0 where
  to : registers 0 ≡ a
  from : registers 1 ≡ b
  last : registers 3 ≡ e
  turns : registers 5 ≡ s

abbrev copying_within : (p : Placement) (m : State) (a b e s : ℕ) → Task
copying_within p m a b e s = copying_by p m (λ registers t f. IsWithin a b e s registers)

-- ---- the code

-- The copy that is done where code begins.
pub record CopiedInside (low : Low) (p : Placement) (m : State) (r : ℕ) (operands : Operands) (rest : List Instruction) (registers : ℕ → ℕ) (now : List Instruction) (memory : ℕ → ℕ) (t f k most : ℕ) : Type 0 where
  pub value : ℕ
  pub after : ℕ → ℕ
  pub moved : Moved memory after t f k
  pub walk : Walk low p (inside low p m r operands rest registers now memory m.output) (standing (behind m operands rest value after m.output) rest) [] most

-- some silent steps that leave memory, and then the code that copies
pub then_moved : {low : Low} {p : Placement} {m : State} {r : ℕ} {operands : Operands} {rest : List Instruction} {registers next : ℕ → ℕ} {now later : List Instruction} {memory : ℕ → ℕ} {t f k steps most more : ℕ} → Walk low p (inside low p m r operands rest registers now memory m.output) (inside low p m r operands rest next later memory m.output) [] steps → CopiedInside low p m r operands rest next later memory t f k most → steps + most ≤ more → CopiedInside low p m r operands rest registers now memory t f k more
then_moved first last enough = record { value = last.value; after = last.after; moved = last.moved; walk = walk_longer (walk_then first last.walk) enough }

-- j pieces of n bytes from an offset on, and then other code
abbrev pieces : LoadOp → StoreOp → (n : ℕ) → List Instruction → (o j : ℕ) → List Instruction
pieces load store n tail o zero = tail
pieces load store n tail o (suc j) =
    Load load (register 4) (register 1) (pos o) ∷ Store store (register 4) (register 0) (pos o) ∷ pieces load store n tail (o + n) j

-- behind them both addresses go on by so many bytes
abbrev goes_by : (size : ℕ) → List Instruction → List Instruction
goes_by size tail = AluImm Addi (register 1) (register 1) (pos size) ∷ AluImm Addi (register 0) (register 0) (pos size) ∷ tail

-- a turn of eight words
abbrev turn : List Instruction
turn = pieces Lw Sw 4 (goes_by 32 (loop_tail 5 1 2)) 0 8

module _ (low : Low) (p : Placement) (r : ℕ) (m : State) (operands : Operands) (rest : List Instruction) (room : HasRoom p m 64) (has : space low p r ≤ m.room) where
  abbrev here : (ℕ → ℕ) → List Instruction → (ℕ → ℕ) → State
  here registers now memory = inside low p m r operands rest registers now memory m.output

  abbrev with_unit : (ℕ → ℕ) → ℕ → ℕ → ℕ
  with_unit registers v x = cond (nat_eq x 4) v (registers x)

  abbrev advanced : ℕ → (ℕ → ℕ) → ℕ → ℕ
  advanced size registers x = cond (nat_eq x 0) (imm_value Addi (registers 0) (word_from (pos size))) (cond (nat_eq x 1) (imm_value Addi (registers 1) (word_from (pos size))) (registers x))

  advance_step : (size : ℕ) (registers memory : ℕ → ℕ) (tail : List Instruction) → Walk low p (here registers (goes_by size tail) memory) (here (advanced size registers) tail memory) [] 2
  unfolding step step_by_ending done act run trace spent shows shown_by cost cost_by
  advance_step size registers memory tail = record { steps = 2; few = omega arith; ends = refl; shown = refl; within = omega arith }

  advanced_is : (a size t : ℕ) → a ≡ t → t + size < 2 ^ 32 → imm_value Addi a (word_from (pos size)) ≡ t + size
  advanced_is a size t is word = omega arith

  offset_is : (a o t : ℕ) → a + o ≡ t → t < 2 ^ 32 → offset_from a (pos o) ≡ t
  offset_is a o t is word = omega arith

  -- pieces of n bytes
  module _ (load : LoadOp) (store : StoreOp) (n : ℕ) (some : 0 < n) (load_size : load_size_of load ≡ n) (store_size : store_size_of store ≡ n) (piece_is : (memory : ℕ → ℕ) (a : ℕ) → ((x : ℕ) → a ≤ x → x < a + n → memory x < 2 ^ 8) → bytes_low_first 0 n (load_value load memory a) ≡ bytes_from memory a n) where
    accessible : (right : ℕ → Bool) (state : State) (a size : ℕ) → m.limit ≤ state.limit → size ≡ n → Allowed right m.limit a n → a % n ≡ 0 → can_access (usable right state) a size ≡ true
    accessible right state a size higher is open_here aligned =
        let below = open_here.below in
        let whole : nat_eq (a % n) 0 ≡ true = grind (arith, nat_tests) in
        ap (can_access (usable right state) a) is ∙ and_from (nat_eq (a % n) 0) (all_from (usable right state) a n) whole (all_usable right state a n open_here.may (omega arith))

    load_step : (registers memory : ℕ → ℕ) (o f : ℕ) (now : List Instruction) → offset_from (registers 1) (pos o) ≡ f → Allowed p.rights.readable m.limit f n → f % n ≡ 0 → Walk low p (here registers (Load load (register 4) (register 1) (pos o) ∷ now) memory) (here (with_unit registers (load_value load memory f)) now memory) [] 1
    load_step registers memory o f now is can aligned =
        let state = here registers now memory in
        subst (λ a. Walk low p (here registers (Load load (register 4) (register 1) (pos o) ∷ now) memory) (here (with_unit registers (load_value load memory a)) now memory) [] 1) is
        (walk_load low p state load (register 4) (register 1) (pos o) now
        (ap (λ a. can_access (usable p.rights.readable state) a (load_size_of load)) is ∙ accessible p.rights.readable state f (load_size_of load) (omega arith) load_size can aligned))

    store_step : (registers memory : ℕ → ℕ) (o t v : ℕ) (now : List Instruction) → offset_from (registers 0) (pos o) ≡ t → registers 4 ≡ v → Allowed p.rights.writable m.limit t n → t % n ≡ 0 → Walk low p (here registers (Store store (register 4) (register 0) (pos o) ∷ now) memory) (here registers now (with_bytes memory t (bytes_low_first 0 n v))) [] 1
    store_step registers memory o t v now is value_is can aligned =
        let state = here registers now memory in
        let from = here registers (Store store (register 4) (register 0) (pos o) ∷ now) memory in
        subst (λ w. Walk low p from (here registers now (with_bytes memory t (bytes_low_first 0 n w))) [] 1) value_is
        (subst (λ k. Walk low p from (here registers now (with_bytes memory t (bytes_low_first 0 k (registers 4)))) [] 1) store_size
        (subst (λ a. Walk low p from (here registers now (with_bytes memory a (bytes_low_first 0 (store_size_of store) (registers 4)))) [] 1) is
        (walk_store low p state store (register 4) (register 0) (pos o) now
        (ap (λ a. can_access (usable p.rights.writable state) a (store_size_of store)) is ∙ accessible p.rights.writable state t (store_size_of store) (omega arith) store_size can aligned))))

    pieces_done : (a b e s : ℕ) (tail : List Instruction) (j o : ℕ) (registers memory : ℕ → ℕ) (t f : ℕ) → IsWithin a b e s registers → a + o ≡ t → b + o ≡ f → t % n ≡ 0 → f % n ≡ 0 → Copyable p (record m { memory = memory }) t f (n * j) → Done low p m r operands rest (copying_within p m a b e s) registers (pieces load store n tail o j) memory t f (n * j) tail (2 * j)
    pieces_done a b e s tail zero o registers memory t f at to_is from_is to_whole from_whole can =
        let none : n * 0 ≡ 0 = omega (arith, mul-zero n) in
        subst (λ z. Done low p m r operands rest (copying_within p m a b e s) registers tail memory t f z tail 0) (sym none)
        (done_none low p m r operands rest (copying_within p m a b e s) registers memory tail t f at)
    pieces_done a b e s tail (suc j) o registers memory t f at to_is from_is to_whole from_whole can =
        let words = room.words in
        let least = room.room in
        let split : n * suc j ≡ n + n * j = omega (arith, mul-suc n j) in
        let all = subst (Copyable p (record m { memory = memory }) t f) split can in
        let front = front_copyable p m memory t f n (n * j) all in
        let to_below = front.target.below in
        let from_below = front.source.below in
        let middle = pieces load store n tail (o + n) j in
        let loaded = with_unit registers (load_value load memory f) in
        let one : Done low p m r operands rest (copying_within p m a b e s) registers (pieces load store n tail o (suc j)) memory t f n middle 2 =
        record {
          next = loaded;
          after = with_bytes memory t (bytes_from memory f n);
          there = record { to = at.to; from = at.from; last = at.last; turns = at.turns };
          does = moved_unit memory t f n;
          walk =
              walk_then
              (load_step registers memory o f (Store store (register 4) (register 0) (pos o) ∷ middle) (offset_is (registers 1) o f (omega (arith, at.from, from_is)) (omega arith)) front.source from_whole)
              (subst (λ bytes. Walk low p (here loaded (Store store (register 4) (register 0) (pos o) ∷ middle) memory) (here loaded middle (with_bytes memory t bytes)) [] 1) (piece_is memory f front.bytes)
              (store_step loaded memory o t (load_value load memory f) middle (offset_is (registers 0) o t (omega (arith, at.to, to_is)) (omega arith)) refl front.target to_whole));
        } in
        let more =
        pieces_done a b e s tail j (o + n) one.next one.after (t + n) (f + n) one.there (omega (arith, to_is)) (omega (arith, from_is)) (add-mod_right t n ∙ to_whole) (add-mod_right f n ∙ from_whole)
        (back_copyable p m memory one.after t f n (n * j) all one.does) in
        subst (λ z. Done low p m r operands rest (copying_within p m a b e s) registers (pieces load store n tail o (suc j)) memory t f z tail (2 * suc j)) (sym split)
        (done_then low p m r operands rest (copying_within p m a b e s) registers memory (pieces load store n tail o (suc j)) middle tail t f n (n * j) 2 (2 * j) (2 * suc j) all one more (omega arith))

    -- a unit of j pieces
    unit_done : (j size : ℕ) → size ≡ n * j → ((a : ℕ) → a % n ≡ 0 → (a + size) % n ≡ 0) → (e s : ℕ) (tail : List Instruction) (registers memory : ℕ → ℕ) (t f : ℕ) → IsAt n e s registers t f → Copyable p (record m { memory = memory }) t f size → Done low p m r operands rest (copying p m n e s) registers (pieces load store n (goes_by size tail) 0 j) memory t f size tail (2 * j + 2)
    unit_done j size is whole e s tail registers memory t f at can =
        let words = room.words in
        let least = room.room in
        let to_below = can.target.below in
        let from_below = can.source.below in
        let stays : IsWithin t f e s registers = record { to = at.to; from = at.from; last = at.last; turns = at.turns } in
        let all = pieces_done t f e s (goes_by size tail) j 0 registers memory t f stays (omega arith) (omega arith) at.to_whole at.from_whole (subst (Copyable p (record m { memory = memory }) t f) is can) in
        record {
          next = advanced size all.next;
          after = all.after;
          there = record {
            to = advanced_is (all.next 0) size t all.there.to (omega arith);
            from = advanced_is (all.next 1) size f all.there.from (omega arith);
            last = all.there.last;
            turns = all.there.turns;
            to_whole = whole t at.to_whole;
            from_whole = whole f at.from_whole;
          };
          does = subst (Moved memory all.after t f) (sym is) all.does;
          walk = walk_then all.walk (advance_step size all.next all.after tail);
        }

  -- a routine that copies units of n bytes behind the turns
  module _ (load : LoadOp) (store : StoreOp) (n : ℕ) (some : 0 < n) (load_size : load_size_of load ≡ n) (store_size : store_size_of store ≡ n) (piece_is : (memory : ℕ → ℕ) (a : ℕ) → ((x : ℕ) → a ≤ x → x < a + n → memory x < 2 ^ 8) → bytes_low_first 0 n (load_value load memory a) ≡ bytes_from memory a n) (wholes : (a : ℕ) → a % 4 ≡ 0 → a % n ≡ 0) (turn_block : block_of low r 1 ≡ turn) (rest_block : block_of low r 2 ≡ part_code 3 3 4) (unit_block : block_of low r 3 ≡ pieces load store n (goes_by n (loop_tail 3 3 4)) 0 1) (end_block : block_of low r 4 ≡ ends) where
    -- w units
    rest_copied : (w e s : ℕ) (registers memory : ℕ → ℕ) (t f : ℕ) → IsAt n e s registers t f → Copyable p (record m { memory = memory }) t f (n * w) → t + n * w ≡ e → CopiedInside low p m r operands rest registers (part_code 3 3 4) memory t f (n * w) (5 * w + 4)
    rest_copied w e s registers memory t f at can ends_there =
        let one : n ≡ n * 1 = omega arith in
        let unit = λ (registers memory : ℕ → ℕ) (t f : ℕ) (at : IsAt n e s registers t f) (can : Copyable p (record m { memory = memory }) t f n). unit_done load store n some load_size store_size piece_is 1 n one (λ a is. add-mod_right a n ∙ is) e s (loop_tail 3 3 4) registers memory t f at can in
        let all = part_done low p m r operands rest (copying p m n e s) n 4 some 3 e 3 4 (pieces load store n (goes_by n (loop_tail 3 3 4)) 0 1) unit_block (λ registers t f at. at.to) (λ registers t f at. at.last) unit w registers memory t f at can ends_there in
        record {
          value = all.next 4;
          after = all.after;
          moved = all.does;
          walk =
              walk_longer
              (walk_then
              (subst (λ now. Walk low p (here registers (part_code 3 3 4) memory) (here all.next now all.after) [] (5 * w + 3)) end_block all.walk)
              (walk_leave low p m r operands rest all.next (register 4) [] all.after m.output has))
              (omega arith);
        }

    -- q turns, and then w units
    turns_copied : (q w e s : ℕ) (registers memory : ℕ → ℕ) (t f : ℕ) → IsAt 4 e s registers t f → Copyable p (record m { memory = memory }) t f (32 * q + n * w) → t + (32 * q + n * w) ≡ e → t + 32 * q ≡ s → CopiedInside low p m r operands rest registers (part_code 5 1 2) memory t f (32 * q + n * w) (19 * q + 5 * w + 7)
    turns_copied q w e s registers memory t f at can ends_there turns_there =
        let unit = λ (registers memory : ℕ → ℕ) (t f : ℕ) (at : IsAt 4 e s registers t f) (can : Copyable p (record m { memory = memory }) t f 32). unit_done Lw Sw 4 (omega arith) refl refl unit_word 8 32 refl (λ a is. omega arith) e s (loop_tail 5 1 2) registers memory t f at can in
        let front = part_done low p m r operands rest (copying p m 4 e s) 32 18 (omega arith) 5 s 1 2 turn turn_block (λ registers t f at. at.to) (λ registers t f at. at.turns) unit q registers memory t f at (front_copyable p m memory t f (32 * q) (n * w) can) turns_there in
        let there : IsAt n e s front.next (t + 32 * q) (f + 32 * q) = record {
          to = front.there.to;
          from = front.there.from;
          last = front.there.last;
          turns = front.there.turns;
          to_whole = wholes (t + 32 * q) front.there.to_whole;
          from_whole = wholes (f + 32 * q) front.there.from_whole;
        } in
        let back = rest_copied w e s front.next front.after (t + 32 * q) (f + 32 * q) there (back_copyable p m memory front.after t f (32 * q) (n * w) can front.does) (omega (arith, ends_there)) in
        record {
          value = back.value;
          after = back.after;
          moved = moved_on memory front.after back.after t f (32 * q) (n * w) can.apart front.does back.moved;
          walk =
              walk_longer
              (walk_then
              (subst (λ now. Walk low p (here registers (part_code 5 1 2) memory) (here front.next now front.after) [] (19 * q + 3)) rest_block front.walk)
              back.walk)
              (omega arith);
        }

  -- ---- where the routines begin

  abbrev given : (t f k : ℕ) → ℕ → ℕ
  given t f k = slice_index (t ∷ f ∷ k ∷ [])

  abbrev with_end : (t f k : ℕ) → ℕ → ℕ
  with_end t f k x = cond (nat_eq x 3) ((t + k) % 2 ^ 32) (given t f k x)

  -- the low bits of a number, in the register of the unit
  abbrev with_bits : (ℕ → ℕ) → (a mask : ℕ) → ℕ → ℕ
  with_bits registers a mask = with_unit registers (imm_value Andi a (word_from (pos mask)))

  abbrev with_turns : (ℕ → ℕ) → ℕ → ℕ
  with_turns registers x = cond (nat_eq x 5) ((registers 3 + (2 ^ 32 - registers 4)) % 2 ^ 32) (registers x)

  -- where the last turn ends
  turns_are : (t k : ℕ) → t + k < 2 ^ 32 → ((t + k) % 2 ^ 32 + (2 ^ 32 - imm_value Andi k (word_from (pos 31)))) % 2 ^ 32 ≡ t + 32 * (k / 32)
  turns_are t k word =
      let left : imm_value Andi k (word_from (pos 31)) ≡ k % 32 = and_mask k 5 in
      omega (arith, left)

  words_begin : (t f k : ℕ) (memory : ℕ → ℕ) → Walk low p (here (given t f k) begins_words memory) (here (with_turns (with_bits (with_end t f k) k 31)) (part_code 5 1 2) memory) [] 3
  unfolding step step_by_ending done act run trace spent shows shown_by cost cost_by
  words_begin t f k memory = record { steps = 3; few = omega arith; ends = refl; shown = refl; within = omega arith }

  -- the routine that copies by words
  pub words_inside : (turn_block : block_of low r 1 ≡ turn) (rest_block : block_of low r 2 ≡ part_code 3 3 4) (unit_block : block_of low r 3 ≡ pieces Lw Sw 4 (goes_by 4 (loop_tail 3 3 4)) 0 1) (end_block : block_of low r 4 ≡ ends) (t f k : ℕ) (memory : ℕ → ℕ) → Copyable p (record m { memory = memory }) t f k → t % 4 ≡ 0 → f % 4 ≡ 0 → k % 4 ≡ 0 → CopiedInside low p m r operands rest (given t f k) begins_words memory t f k (10 + 2 * k)
  words_inside turn_block rest_block unit_block end_block t f k memory can to_whole from_whole whole =
      let words = room.words in
      let least = room.room in
      let below = can.target.below in
      let q = k / 32 in
      let w = k % 32 / 4 in
      let split : k ≡ 32 * q + 4 * w = omega arith in
      let begun = with_turns (with_bits (with_end t f k) k 31) in
      let e : t + k ≡ t + (32 * q + 4 * w) = ap (λ n. t + n) split in
      let at : IsAt 4 (t + k) (t + 32 * q) begun t f = record { to = refl; from = refl; last = omega arith; turns = turns_are t k (omega arith); to_whole = to_whole; from_whole = from_whole } in
      let all = turns_copied Lw Sw 4 (omega arith) refl refl unit_word (λ a is. is) turn_block rest_block unit_block end_block q w (t + k) (t + 32 * q) begun memory t f at (subst (Copyable p (record m { memory = memory }) t f) split can) (sym e) refl in
      then_moved (words_begin t f k memory) (subst (λ n. CopiedInside low p m r operands rest begun (part_code 5 1 2) memory t f n (19 * q + 5 * w + 7)) (sym split) all) (omega arith)

  -- ---- bytes

  bytes_begin : (t f k : ℕ) (memory : ℕ → ℕ) → Walk low p (here (given t f k) begins_bytes memory) (here (with_bits (with_end t f k) t 3) (drop 2 begins_bytes) memory) [] 2
  unfolding step step_by_ending done act run trace spent shows shown_by cost cost_by
  bytes_begin t f k memory = record { steps = 2; few = omega arith; ends = refl; shown = refl; within = omega arith }

  from_begin : (registers memory : ℕ → ℕ) → Walk low p (here registers (drop 3 begins_bytes) memory) (here (with_bits registers (registers 1) 3) (drop 4 begins_bytes) memory) [] 1
  unfolding step step_by_ending done act run trace spent shows shown_by cost cost_by
  from_begin registers memory = record { steps = 1; few = omega arith; ends = refl; shown = refl; within = omega arith }

  turns_begin : (registers memory : ℕ → ℕ) → Walk low p (here registers (drop 5 begins_bytes) memory) (here (with_turns (with_bits registers (registers 2) 31)) (part_code 5 1 2) memory) [] 2
  unfolding step step_by_ending done act run trace spent shows shown_by cost cost_by
  turns_begin registers memory = record { steps = 2; few = omega arith; ends = refl; shown = refl; within = omega arith }

  low_bits : (a : ℕ) → imm_value Andi a (word_from (pos 3)) ≡ a % 4
  low_bits a = and_mask a 2

  is_odd : (a : ℕ) → 0 < a % 4 → branch_taken Bne (imm_value Andi a (word_from (pos 3))) 0 ≡ true
  is_odd a some =
      let left = low_bits a in
      let differ : nat_eq (imm_value Andi a (word_from (pos 3))) 0 ≡ false = grind (arith, nat_tests, left) in
      ap not differ

  is_whole : (a : ℕ) → a % 4 ≡ 0 → branch_taken Bne (imm_value Andi a (word_from (pos 3))) 0 ≡ false
  is_whole a none =
      let left = low_bits a in
      let same : nat_eq (imm_value Andi a (word_from (pos 3))) 0 ≡ true = grind (arith, nat_tests, left, none) in
      ap not same

  -- the routine that copies by bytes
  module _ (turn_block : block_of low r 1 ≡ turn) (rest_block : block_of low r 2 ≡ part_code 3 3 4) (unit_block : block_of low r 3 ≡ pieces Lbu Sb 1 (goes_by 1 (loop_tail 3 3 4)) 0 1) (end_block : block_of low r 4 ≡ ends) (t f k : ℕ) (memory : ℕ → ℕ) (can : Copyable p (record m { memory = memory }) t f k) where
    -- all of them one by one
    one_by_one : (registers : ℕ → ℕ) → registers 0 ≡ t → registers 1 ≡ f → registers 3 ≡ (t + k) % 2 ^ 32 → CopiedInside low p m r operands rest registers (block_of low r 2) memory t f k (5 * k + 4)
    one_by_one registers to_is from_is end_is =
        let words = room.words in
        let least = room.room in
        let below = can.target.below in
        let all : 1 * k ≡ k = omega arith in
        let at : IsAt 1 (t + k) (registers 5) registers t f = record { to = to_is; from = from_is; last = omega (arith, end_is); turns = refl; to_whole = omega arith; from_whole = omega arith } in
        subst (λ now. CopiedInside low p m r operands rest registers now memory t f k (5 * k + 4)) (sym rest_block)
        (subst (λ n. CopiedInside low p m r operands rest registers (part_code 3 3 4) memory t f n (5 * k + 4)) all
        (rest_copied Lbu Sb 1 (omega arith) refl refl unit_byte (λ a is. omega arith) turn_block rest_block unit_block end_block k (t + k) (registers 5) registers memory t f at (subst (Copyable p (record m { memory = memory }) t f) (sym all) can) (omega arith)))

    -- most of them in turns
    by_turns : t % 4 ≡ 0 → f % 4 ≡ 0 → CopiedInside low p m r operands rest (with_turns (with_bits (with_bits (with_bits (with_end t f k) t 3) f 3) k 31)) (part_code 5 1 2) memory t f k (5 * k + 7)
    by_turns to_whole from_whole =
        let words = room.words in
        let least = room.room in
        let below = can.target.below in
        let q = k / 32 in
        let w = k % 32 in
        let split : k ≡ 32 * q + 1 * w = omega arith in
        let begun = with_turns (with_bits (with_bits (with_bits (with_end t f k) t 3) f 3) k 31) in
        let e : t + k ≡ t + (32 * q + 1 * w) = ap (λ n. t + n) split in
        let at : IsAt 4 (t + k) (t + 32 * q) begun t f = record { to = refl; from = refl; last = omega arith; turns = turns_are t k (omega arith); to_whole = to_whole; from_whole = from_whole } in
        let all = turns_copied Lbu Sb 1 (omega arith) refl refl unit_byte (λ a is. omega arith) turn_block rest_block unit_block end_block q w (t + k) (t + 32 * q) begun memory t f at (subst (Copyable p (record m { memory = memory }) t f) split can) (sym e) refl in
        then_moved (walk_none low p (here begun (part_code 5 1 2) memory)) (subst (λ n. CopiedInside low p m r operands rest begun (part_code 5 1 2) memory t f n (19 * q + 5 * w + 7)) (sym split) all) (omega arith)

    by_from : t % 4 ≡ 0 → CopiedInside low p m r operands rest (with_bits (with_bits (with_end t f k) t 3) f 3) (drop 4 begins_bytes) memory t f k (5 * k + 10)
    by_from to_whole =
        let tested = with_bits (with_bits (with_end t f k) t 3) f 3 in
        elim (cases_lt 0 (f % 4)) [
          | inl some ↦
              then_moved
              (walk_branch low p (here tested (drop 5 begins_bytes) memory) Bne (register 4) (register 6) (block_id 2) (drop 5 begins_bytes) (is_odd f some))
              (one_by_one tested refl refl refl)
              (omega arith)
          | inr none ↦
              then_moved
              (walk_then
              (walk_past low p (here tested (drop 5 begins_bytes) memory) Bne (register 4) (register 6) (block_id 2) (drop 5 begins_bytes) (is_whole f (omega arith)))
              (turns_begin tested memory))
              (by_turns to_whole (omega arith))
              (omega arith)
        ]

    pub bytes_inside : CopiedInside low p m r operands rest (given t f k) begins_bytes memory t f k (14 + 5 * k)
    bytes_inside =
        let tested = with_bits (with_end t f k) t 3 in
        let inner : CopiedInside low p m r operands rest tested (drop 2 begins_bytes) memory t f k (12 + 5 * k) =
        elim (cases_lt 0 (t % 4)) [
          | inl some ↦
              then_moved
              (walk_branch low p (here tested (drop 3 begins_bytes) memory) Bne (register 4) (register 6) (block_id 2) (drop 3 begins_bytes) (is_odd t some))
              (one_by_one tested refl refl refl)
              (omega arith)
          | inr none ↦
              then_moved
              (walk_then
              (walk_past low p (here tested (drop 3 begins_bytes) memory) Bne (register 4) (register 6) (block_id 2) (drop 3 begins_bytes) (is_whole t (omega arith)))
              (from_begin tested memory))
              (by_from (omega arith))
              (omega arith)
        ] in
        then_moved (bytes_begin t f k memory) inner (omega arith)
