-- The code of the routine that gives a block back.
use Rattle.std.proofs.Common.{◌≡◌, ℕ, suc, ◌+◌, ◌*◌, ◌%◌, ◌^◌, ◌<◌, ◌≤◌, inl, inr, true, false, nat_eq, nat_lt, List, [], ◌∷◌, length, refl, ap, subst, ◌∙◌, arith, pos, not, drop, slice_get, ap₂}
use Rattle.std.proofs.lemmas.Bool.{cases_lt}
use Rattle.std.proofs.lemmas.Bool.Decides.{nat_tests}
use Rattle.op_heap.proofs.Words.{with_word}
use Rattle.op_heap.specs.Heap.{Hole, heap_address}
use Rattle.op_heap.specs.Memory.{AreLinked}
use Rattle.op_heap.specs.Merging.{AreSpread, IsApart}
use Rattle.op_low.specs.State.{Placement, State, block_of, code_or, routine_of, space}
use Rattle.op_low.specs.declared.code.Low.{Low}
use Rattle.op_low.specs.declared.instruction.Call.{Call as Operands}
use Rattle.op_low.specs.declared.instruction.Instruction.{Instruction}
use Rattle.op_low.specs.declared.instruction.Instruction.TheVariants.{Return}
use Rattle.op_rt_heap.proofs.GiveMemory.{Gave, GaveBehind, IsBefore, Merged, alone_behind, alone_gave, alone_memory, grown_behind, is_alone, met, passed_behind, passed_gave, unmet}
use Rattle.op_rt_heap.proofs.Moves.{IsWordOpen, alu_goes, branch_goes, here, imm_goes, jump_goes, load_goes, move_goes, past_goes, set, store_goes}
use Rattle.op_rt_heap.proofs.Walks.{Walk, inside, standing, walk_leave, walk_longer, walk_then}
use Rattle.op_rt_heap.specs.Give.{follows, give_block, meets, seeks, stays}
use Rattle.op_rt_heap.specs.Names.{register}
use Rattle.op_rt_heap.specs.Running.{behind}
use Rattle.op_rv.specs.Operation.{alu_value}
use Rattle.op_rv.specs.State.{word_at}
use Rattle.op_rv.specs.Step.{offset_from}
use Rattle.op_rv.specs.declared.instruction.AluOp.TheVariants.{Add}
use Rattle.op_rv.specs.declared.instruction.BranchOp.TheVariants.{Beq, Bltu, Bne}
use Rattle.op_rv.specs.declared.instruction.ImmOp.TheVariants.{Addi}

-- registers on the way: the block, its size, and the hole before it
pub record Seeking (b : Hole) (registers : ℕ → ℕ) (link before : ℕ) : Type 0 where
  pub block_is : registers 0 ≡ b.address
  pub size_is : registers 1 ≡ b.size
  pub link_is : registers 2 ≡ link
  pub before_is : registers 4 ≡ before
  pub zero_is : registers 7 ≡ 0

-- the code comes to its end with this memory
pub record Done (low : Low) (p : Placement) (m : State) (r : ℕ) (operands : Operands) (rest : List Instruction) (registers : ℕ → ℕ) (now : List Instruction) (memory : ℕ → ℕ) (Is : (ℕ → ℕ) → Type 0) (most : ℕ) : Type 0 where
  pub after : ℕ → ℕ
  pub is : Is after
  pub walk : Walk low p (inside low p m r operands rest registers now memory) (standing (behind m operands rest 0 after) rest) [] most

module _ (low : Low) (p : Placement) (m : State) (r : ℕ) (operands : Operands) (rest : List Instruction) (is : routine_of low r ≡ give_block) (has : space low p r ≤ m.room) where
  abbrev now_at : (ℕ → ℕ) → List Instruction → (ℕ → ℕ) → State
  now_at registers now memory = here low p m r operands rest registers now memory

  abbrev DoneBy : (ℕ → ℕ) → List Instruction → (ℕ → ℕ) → ((ℕ → ℕ) → Type 0) → ℕ → Type 0
  DoneBy registers now memory Is most = Done low p m r operands rest registers now memory Is most

  pub code_is : (k : ℕ) → block_of low r k ≡ code_or (slice_get give_block.blocks k)
  code_is k = ap (λ routine. code_or (slice_get routine.blocks k)) is

  pub no_offset : (a b : ℕ) → a ≡ b → b < 2 ^ 32 → offset_from a (pos 0) ≡ b
  no_offset a b same word = omega arith

  four_on : (a b : ℕ) → a ≡ b → b + 4 < 2 ^ 32 → offset_from a (pos 4) ≡ b + 4
  four_on a b same word = omega arith

  returns : (registers memory : ℕ → ℕ) → registers 7 ≡ 0 → Walk low p (now_at registers (Return (register 7) ∷ []) memory) (standing (behind m operands rest 0 memory) rest) [] 1
  returns registers memory zero_is =
      subst (λ v. Walk low p (now_at registers (Return (register 7) ∷ []) memory) (standing (behind m operands rest v memory) rest) [] 1) zero_is
      (walk_leave low p m r operands rest registers (register 7) [] memory has)

  -- some steps that leave memory
  then_done : {registers others memory : ℕ → ℕ} {now later : List Instruction} {Is : (ℕ → ℕ) → Type 0} {k most more : ℕ} → Walk low p (now_at registers now memory) (now_at others later memory) [] k → DoneBy others later memory Is most → k + most ≤ more → DoneBy registers now memory Is more
  then_done first last enough = record { after = last.after; is = last.is; walk = walk_longer (walk_then first last.walk) enough }

  other_done : {registers memory : ℕ → ℕ} {now : List Instruction} {Is That : (ℕ → ℕ) → Type 0} {most : ℕ} → ((after : ℕ → ℕ) → Is after → That after) → DoneBy registers now memory Is most → DoneBy registers now memory That most
  other_done says it = record { after = it.after; is = says it.after it.is; walk = it.walk }

  module _ (past : ℕ) (b : Hole) (words : past < 2 ^ 32) (some : 16 ≤ b.size) (higher : heap_address ≤ b.address) (within : b.address + b.size ≤ past) (aligned : b.address % 16 ≡ 0) (opened : (a : ℕ) → heap_address ≤ a → a + 4 ≤ past → a % 4 ≡ 0 → IsWordOpen p m a) where
    -- ---- the hole behind the block

    -- size and next hole after that
    record Meeting (registers : ℕ → ℕ) (memory : ℕ → ℕ) (hs : List Hole) (link before : ℕ) : Type 0 where
      pub size : ℕ
      pub next : ℕ
      pub tail : List Hole
      pub merged : Merged memory past hs b size next tail
      pub later : ℕ → ℕ
      pub block_is : later 0 ≡ b.address
      pub size_is : later 1 ≡ size
      pub link_is : later 2 ≡ link
      pub next_is : later 3 ≡ next
      pub before_is : later 4 ≡ before
      pub zero_is : later 7 ≡ 0
      pub walk : Walk low p (now_at registers meets memory) (now_at later follows memory) [] 6

    end_is : (registers : ℕ → ℕ) (link before : ℕ) → Seeking b registers link before → alu_value Add (registers 0) (registers 1) ≡ b.address + b.size
    end_is registers link before seeking = ap₂ (alu_value Add) seeking.block_is seeking.size_is ∙ omega arith

    meets_none : (registers memory : ℕ → ℕ) (hs : List Hole) (link before from next : ℕ) → Seeking b registers link before → registers 3 ≡ next → IsBefore b hs → (b.address + b.size ≡ next → ⊥) → nat_eq (b.address + b.size) next ≡ false → AreSpread from past hs → AreLinked memory next hs → Meeting registers memory hs link before
    meets_none registers memory hs link before from next seeking next_is front differ test spread linked =
        let first = set 5 (b.address + b.size) registers in
        record {
          size = b.size;
          next = next;
          tail = hs;
          merged = unmet memory from past next hs b (omega arith) within front differ spread linked;
          later = first;
          block_is = seeking.block_is;
          size_is = seeking.size_is;
          link_is = seeking.link_is;
          next_is = next_is;
          before_is = seeking.before_is;
          zero_is = seeking.zero_is;
          walk =
              walk_longer
              (walk_then
              (alu_goes low p m r operands rest registers memory Add 5 0 1 (b.address + b.size) (drop 1 meets) (end_is registers link before seeking))
              (branch_goes low p m r operands rest first memory Bne 5 3 3 follows (drop 2 meets) (code_is 3) (ap (λ z. not (nat_eq (b.address + b.size) z)) next_is ∙ ap not test)))
              (omega arith);
        }

    meets_one : (registers memory : ℕ → ℕ) (n : Hole) (ns : List Hole) (link before from : ℕ) → heap_address ≤ from → Seeking b registers link before → registers 3 ≡ n.address → b.address + b.size ≡ n.address → AreSpread from past (n ∷ ns) → AreLinked memory n.address (n ∷ ns) → Meeting registers memory (n ∷ ns) link before
    meets_one registers memory n ns link before from above seeking next_is there spread linked =
        let behind_from = spread.0.behind in
        let n_within = spread.0.within in
        let n_aligned = spread.0.aligned in
        let n_some = spread.0.some in
        let same : nat_eq (b.address + b.size) n.address ≡ true = grind (arith, nat_tests) in
        let next = word_at memory (n.address + 4) in
        let one = set 5 (b.address + b.size) registers in
        let two = set 6 n.size one in
        let three = set 1 (b.size + n.size) two in
        let four = set 3 next three in
        let sum : alu_value Add (registers 1) n.size ≡ b.size + n.size = ap (λ v. alu_value Add v n.size) seeking.size_is ∙ omega arith in
        record {
          size = b.size + n.size;
          next = next;
          tail = ns;
          merged = met memory from past n ns b (omega arith) there spread linked;
          later = four;
          block_is = seeking.block_is;
          size_is = refl;
          link_is = seeking.link_is;
          next_is = refl;
          before_is = seeking.before_is;
          zero_is = seeking.zero_is;
          walk =
              walk_then
              (alu_goes low p m r operands rest registers memory Add 5 0 1 (b.address + b.size) (drop 1 meets) (end_is registers link before seeking))
              (walk_then
              (past_goes low p m r operands rest one memory Bne 5 3 3 (drop 2 meets) (ap (λ z. not (nat_eq (b.address + b.size) z)) next_is ∙ ap not same))
              (walk_then
              (load_goes low p m r operands rest one memory 6 3 (pos 0) n.address n.size (drop 3 meets) (no_offset (registers 3) n.address next_is (omega arith)) linked.1 (opened n.address (omega arith) (omega arith) (omega arith)))
              (walk_then
              (alu_goes low p m r operands rest two memory Add 1 1 6 (b.size + n.size) (drop 4 meets) sum)
              (walk_then
              (load_goes low p m r operands rest three memory 3 3 (pos 4) (n.address + 4) next (drop 5 meets) (four_on (registers 3) n.address next_is (omega arith)) refl (opened (n.address + 4) (omega arith) (omega arith) (omega arith)))
              (jump_goes low p m r operands rest four memory 3 follows [] (code_is 3))))));
        }

    meeting : (hs : List Hole) (registers memory : ℕ → ℕ) (link before from next : ℕ) → heap_address ≤ from → Seeking b registers link before → registers 3 ≡ next → IsBefore b hs → AreSpread from past hs → AreLinked memory next hs → Meeting registers memory hs link before
    meeting [] registers memory link before from next above seeking next_is front spread linked =
        let zero : next ≡ 0 = linked in
        let test : nat_eq (b.address + b.size) next ≡ false = grind (arith, nat_tests) in
        meets_none registers memory [] link before from next seeking next_is front (λ same. omega arith) test spread linked
    meeting (n ∷ ns) registers memory link before from next above seeking next_is front spread linked =
        let first = linked.0 in
        elim (cases_lt (b.address + b.size) n.address) [
          | inl less ↦
              let test : nat_eq (b.address + b.size) next ≡ false = grind (arith, nat_tests) in
              meets_none registers memory (n ∷ ns) link before from next seeking next_is front (λ same. omega arith) test spread linked
          | inr more ↦
              let there : b.address + b.size ≡ n.address = omega arith in
              meets_one registers memory n ns link before from above seeking (next_is ∙ first) there spread (refl, linked.1, linked.2)
        ]

    -- ---- the last stores

    stores : (registers memory : ℕ → ℕ) (link size next : ℕ) → registers 0 ≡ b.address → registers 1 ≡ size → registers 2 ≡ link → registers 3 ≡ next → registers 7 ≡ 0 → link + 4 ≤ b.address → IsWordOpen p m link → Walk low p (now_at registers stays memory) (standing (behind m operands rest 0 (alone_memory memory link b.address size next)) rest) [] 4
    stores registers memory link size next block_is size_is link_is next_is zero_is apart link_open =
        let m1 = with_word memory b.address size in
        let m2 = with_word m1 (b.address + 4) next in
        walk_then
        (store_goes low p m r operands rest registers memory 1 0 (pos 0) b.address size (drop 1 stays) (no_offset (registers 0) b.address block_is (omega arith)) size_is (opened b.address higher (omega arith) (omega arith)))
        (walk_then
        (store_goes low p m r operands rest registers m1 3 0 (pos 4) (b.address + 4) next (drop 2 stays) (four_on (registers 0) b.address block_is (omega arith)) next_is (opened (b.address + 4) (omega arith) (omega arith) (omega arith)))
        (walk_then
        (store_goes low p m r operands rest registers m2 0 2 (pos 0) link b.address (drop 3 stays) (no_offset (registers 2) link link_is (omega arith)) block_is link_open)
        (returns registers (alone_memory memory link b.address size next) zero_is)))

    -- ---- the hole in front of the block

    -- there is none
    follows_none : (registers memory : ℕ → ℕ) (hs : List Hole) (link : ℕ) → link + 4 ≤ b.address → IsWordOpen p m link → (it : Meeting registers memory hs link 0) → DoneBy it.later follows memory (λ after. Gave memory after link hs b) 5
    follows_none registers memory hs link apart link_open it =
        let after = alone_memory memory link b.address it.size it.next in
        record {
          after = after;
          is = alone_gave memory after link past hs b it.size it.next it.tail it.merged (is_alone memory link past hs b it.size it.next it.tail (omega arith) some apart it.merged);
          walk =
              walk_then
              (branch_goes low p m r operands rest it.later memory Beq 4 7 4 stays (drop 1 follows) (code_is 4) (ap₂ nat_eq it.before_is it.zero_is))
              (stores it.later memory link it.size it.next it.block_is it.size_is it.link_is it.next_is it.zero_is apart link_open);
        }

    -- it is looked at
    looks : (registers memory : ℕ → ℕ) (h : Hole) → registers 4 ≡ h.address → registers 7 ≡ 0 → 0 < h.address → h.address + h.size < 2 ^ 32 → word_at memory h.address ≡ h.size → IsWordOpen p m h.address → Walk low p (now_at registers follows memory) (now_at (set 5 (h.address + h.size) (set 6 h.size registers)) (drop 3 follows) memory) [] 3
    looks registers memory h before_is zero_is there small size_is opens =
        let differ : nat_eq h.address 0 ≡ false = grind (arith, nat_tests) in
        let one = set 6 h.size registers in
        let sum : alu_value Add (registers 4) h.size ≡ h.address + h.size = ap (λ v. alu_value Add v h.size) before_is ∙ omega arith in
        walk_then
        (past_goes low p m r operands rest registers memory Beq 4 7 4 (drop 1 follows) (ap₂ nat_eq before_is zero_is ∙ differ))
        (walk_then
        (load_goes low p m r operands rest registers memory 6 4 (pos 0) h.address h.size (drop 2 follows) (no_offset (registers 4) h.address before_is (omega arith)) size_is opens)
        (alu_goes low p m r operands rest one memory Add 5 4 6 (h.address + h.size) (drop 3 follows) sum))

    follows_apart : (registers memory : ℕ → ℕ) (h : Hole) (hs : List Hole) → heap_address ≤ h.address → h.address % 16 ≡ 0 → 16 ≤ h.size → h.address + h.size < b.address → word_at memory h.address ≡ h.size → (it : Meeting registers memory hs (h.address + 4) h.address) → DoneBy it.later follows memory (λ after. GaveBehind memory after h hs b) 8
    follows_apart registers memory h hs above h_aligned h_some apart size_is it =
        let test : nat_eq (h.address + h.size) b.address ≡ false = grind (arith, nat_tests) in
        let two = set 5 (h.address + h.size) (set 6 h.size it.later) in
        let link = h.address + 4 in
        let after = alone_memory memory link b.address it.size it.next in
        record {
          after = after;
          is = alone_behind memory after past h hs b it.size it.next it.tail h_some apart size_is it.merged (is_alone memory link past hs b it.size it.next it.tail (omega arith) some (omega arith) it.merged);
          walk =
              walk_then
              (looks it.later memory h it.before_is it.zero_is (omega arith) (omega arith) size_is (opened h.address above (omega arith) (omega arith)))
              (walk_then
              (branch_goes low p m r operands rest two memory Bne 5 0 4 stays (drop 4 follows) (code_is 4) (ap (λ z. not (nat_eq (h.address + h.size) z)) it.block_is ∙ ap not test))
              (stores two memory link it.size it.next it.block_is it.size_is it.link_is it.next_is it.zero_is (omega arith) (opened link (omega arith) (omega arith) (omega arith))));
        }

    follows_met : (registers memory : ℕ → ℕ) (h : Hole) (hs : List Hole) → heap_address ≤ h.address → h.address % 16 ≡ 0 → 16 ≤ h.size → h.address + h.size ≡ b.address → word_at memory h.address ≡ h.size → (it : Meeting registers memory hs (h.address + 4) h.address) → DoneBy it.later follows memory (λ after. GaveBehind memory after h hs b) 8
    follows_met registers memory h hs above h_aligned h_some there size_is it =
        let wide = it.merged.within in
        let test : nat_eq (h.address + h.size) b.address ≡ true = grind (arith, nat_tests) in
        let two = set 5 (h.address + h.size) (set 6 h.size it.later) in
        let three = set 6 (h.size + it.size) two in
        let link = h.address + 4 in
        let sum : alu_value Add h.size (it.later 1) ≡ h.size + it.size = ap (alu_value Add h.size) it.size_is ∙ omega arith in
        let m1 = with_word memory h.address (h.size + it.size) in
        record {
          after = with_word m1 link it.next;
          is = grown_behind memory past h hs b it.size it.next it.tail words h_some some there it.merged;
          walk =
              walk_then
              (looks it.later memory h it.before_is it.zero_is (omega arith) (omega arith) size_is (opened h.address above (omega arith) (omega arith)))
              (walk_then
              (past_goes low p m r operands rest two memory Bne 5 0 4 (drop 4 follows) (ap (λ z. not (nat_eq (h.address + h.size) z)) it.block_is ∙ ap not test))
              (walk_then
              (alu_goes low p m r operands rest two memory Add 6 6 1 (h.size + it.size) (drop 5 follows) sum)
              (walk_then
              (store_goes low p m r operands rest three memory 6 4 (pos 0) h.address (h.size + it.size) (drop 6 follows) (no_offset (it.later 4) h.address it.before_is (omega arith)) refl (opened h.address above (omega arith) (omega arith)))
              (walk_then
              (store_goes low p m r operands rest three m1 3 2 (pos 0) link it.next (drop 7 follows) (no_offset (it.later 2) link it.link_is (omega arith)) it.next_is (opened link (omega arith) (omega arith) (omega arith)))
              (returns three (with_word m1 link it.next) it.zero_is)))));
        }

    -- ---- the search

    -- a hole in front of the block is passed
    seeks_on : (registers memory : ℕ → ℕ) (link before : ℕ) (h : Hole) → Seeking b registers link before → link + 4 ≤ b.address → 0 < h.address → h.address + 4 ≤ b.address → word_at memory link ≡ h.address → IsWordOpen p m link → Walk low p (now_at registers seeks memory) (now_at (set 2 (h.address + 4) (set 4 h.address (set 3 h.address registers))) seeks memory) [] 6
    seeks_on registers memory link before h seeking apart there lower linked link_open =
        let differ : nat_eq h.address 0 ≡ false = grind (arith, nat_tests) in
        let behind_it : nat_lt b.address h.address ≡ false = grind (arith, nat_tests) in
        let one = set 3 h.address registers in
        let two = set 4 h.address one in
        walk_then
        (load_goes low p m r operands rest registers memory 3 2 (pos 0) link h.address (drop 1 seeks) (no_offset (registers 2) link seeking.link_is (omega arith)) linked link_open)
        (walk_then
        (past_goes low p m r operands rest one memory Beq 3 7 2 (drop 2 seeks) (ap (nat_eq h.address) seeking.zero_is ∙ differ))
        (walk_then
        (past_goes low p m r operands rest one memory Bltu 0 3 2 (drop 3 seeks) (ap (λ z. nat_lt z h.address) seeking.block_is ∙ behind_it))
        (walk_then
        (move_goes low p m r operands rest one memory 4 3 h.address (drop 4 seeks) refl)
        (walk_then
        (imm_goes low p m r operands rest two memory Addi 2 3 (pos 4) (h.address + 4) (drop 5 seeks) (four_on h.address h.address refl (omega arith)))
        (jump_goes low p m r operands rest (set 2 (h.address + 4) two) memory 1 seeks [] (code_is 1))))))

    next_seeking : (registers : ℕ → ℕ) (link before : ℕ) (h : Hole) → Seeking b registers link before → Seeking b (set 2 (h.address + 4) (set 4 h.address (set 3 h.address registers))) (h.address + 4) h.address
    next_seeking registers link before h seeking =
        record { block_is = seeking.block_is; size_is = seeking.size_is; link_is = refl; before_is = refl; zero_is = seeking.zero_is }

    -- all holes that are left lie behind the block
    seeks_ends : (hs : List Hole) (registers memory : ℕ → ℕ) (link before : ℕ) → Seeking b registers link before → link + 4 ≤ b.address → IsBefore b hs → AreLinked memory (word_at memory link) hs → IsWordOpen p m link → Walk low p (now_at registers seeks memory) (now_at (set 3 (word_at memory link) registers) meets memory) [] 3
    seeks_ends [] registers memory link before seeking apart front linked link_open =
        let test : nat_eq (word_at memory link) 0 ≡ true = ap (λ z. nat_eq z 0) linked in
        walk_longer
        (walk_then
        (load_goes low p m r operands rest registers memory 3 2 (pos 0) link (word_at memory link) (drop 1 seeks) (no_offset (registers 2) link seeking.link_is (omega arith)) refl link_open)
        (branch_goes low p m r operands rest (set 3 (word_at memory link) registers) memory Beq 3 7 2 meets (drop 2 seeks) (code_is 2) (ap (nat_eq (word_at memory link)) seeking.zero_is ∙ test)))
        (omega arith)
    seeks_ends (n ∷ ns) registers memory link before seeking apart front linked link_open =
        let first = linked.0 in
        let differ : nat_eq (word_at memory link) 0 ≡ false = grind (arith, nat_tests) in
        let less : nat_lt b.address (word_at memory link) ≡ true = grind (arith, nat_tests) in
        let one = set 3 (word_at memory link) registers in
        walk_then
        (load_goes low p m r operands rest registers memory 3 2 (pos 0) link (word_at memory link) (drop 1 seeks) (no_offset (registers 2) link seeking.link_is (omega arith)) refl link_open)
        (walk_then
        (past_goes low p m r operands rest one memory Beq 3 7 2 (drop 2 seeks) (ap (nat_eq (word_at memory link)) seeking.zero_is ∙ differ))
        (branch_goes low p m r operands rest one memory Bltu 0 3 2 meets (drop 3 seeks) (code_is 2) (ap (λ z. nat_lt z (word_at memory link)) seeking.block_is ∙ less)))

    ends_behind : (hs : List Hole) (registers memory : ℕ → ℕ) (h : Hole) (from : ℕ) → heap_address ≤ from → Seeking b registers (h.address + 4) h.address → h.address + h.size ≤ b.address → IsBefore b hs → AreSpread from past (h ∷ hs) → AreLinked memory h.address (h ∷ hs) → DoneBy registers seeks memory (λ after. GaveBehind memory after h hs b) 17
    ends_behind hs registers memory h from above seeking lower front spread linked =
        let behind_from = spread.0.behind in
        let h_aligned = spread.0.aligned in
        let h_some = spread.0.some in
        let link = h.address + 4 in
        let found = set 3 (word_at memory link) registers in
        let at : Seeking b found link h.address = record { block_is = seeking.block_is; size_is = seeking.size_is; link_is = seeking.link_is; before_is = seeking.before_is; zero_is = seeking.zero_is } in
        let it = meeting hs found memory link h.address (suc (h.address + h.size)) (word_at memory link) (omega arith) at refl front spread.1 linked.2 in
        let walk = walk_then (seeks_ends hs registers memory link h.address seeking (omega arith) front linked.2 (opened link (omega arith) (omega arith) (omega arith))) it.walk in
        elim (cases_lt (h.address + h.size) b.address) [
          | inl apart ↦ then_done walk (follows_apart found memory h hs (omega arith) h_aligned h_some apart linked.1 it) (omega arith)
          | inr meets_it ↦ then_done walk (follows_met found memory h hs (omega arith) h_aligned h_some (omega arith) linked.1 it) (omega arith)
        ]

    seek_behind : (hs : List Hole) (registers memory : ℕ → ℕ) (h : Hole) (from : ℕ) → heap_address ≤ from → Seeking b registers (h.address + 4) h.address → h.address + h.size ≤ b.address → IsApart b hs → AreSpread from past (h ∷ hs) → AreLinked memory h.address (h ∷ hs) → DoneBy registers seeks memory (λ after. GaveBehind memory after h hs b) (17 + 6 * length hs)
    seek_behind [] registers memory h from above seeking lower apart spread linked =
        ends_behind [] registers memory h from above seeking lower tt spread linked
    seek_behind (n ∷ ns) registers memory h from above seeking lower (inl passed, apart) spread linked =
        let behind_from = spread.0.behind in
        let h_aligned = spread.0.aligned in
        let h_some = spread.0.some in
        let n_behind = spread.1.0.behind in
        let n_some = spread.1.0.some in
        let more = seek_behind ns (set 2 (n.address + 4) (set 4 n.address (set 3 n.address registers))) memory n (suc (h.address + h.size)) (omega arith) (next_seeking registers (h.address + 4) h.address n seeking) passed apart spread.1 (refl, linked.2.1, linked.2.2) in
        then_done
        (seeks_on registers memory (h.address + 4) h.address n seeking (omega arith) (omega arith) (omega arith) linked.2.0 (opened (h.address + 4) (omega arith) (omega arith) (omega arith)))
        (other_done (λ after gave. passed_behind memory after from past h n ns b passed spread linked gave) more)
        (omega arith)
    seek_behind (n ∷ ns) registers memory h from above seeking lower (inr front, apart) spread linked =
        let it = ends_behind (n ∷ ns) registers memory h from above seeking lower front spread linked in
        record { after = it.after; is = it.is; walk = walk_longer it.walk (omega arith) }

    -- no hole lies in front of the block
    ends_first : (hs : List Hole) (registers memory : ℕ → ℕ) (link from : ℕ) → heap_address ≤ from → Seeking b registers link 0 → link + 4 ≤ b.address → IsWordOpen p m link → IsBefore b hs → AreSpread from past hs → AreLinked memory (word_at memory link) hs → DoneBy registers seeks memory (λ after. Gave memory after link hs b) 17
    ends_first hs registers memory link from above seeking apart link_open front spread linked =
        let found = set 3 (word_at memory link) registers in
        let at : Seeking b found link 0 = record { block_is = seeking.block_is; size_is = seeking.size_is; link_is = seeking.link_is; before_is = seeking.before_is; zero_is = seeking.zero_is } in
        let it = meeting hs found memory link 0 from (word_at memory link) above at refl front spread linked in
        then_done
        (walk_then (seeks_ends hs registers memory link 0 seeking apart front linked link_open) it.walk)
        (follows_none found memory hs link apart link_open it)
        (omega arith)

    pub seek_first : (hs : List Hole) (registers memory : ℕ → ℕ) (link from : ℕ) → heap_address ≤ from → Seeking b registers link 0 → link + 4 ≤ from → link + 4 ≤ b.address → IsWordOpen p m link → IsApart b hs → AreSpread from past hs → AreLinked memory (word_at memory link) hs → DoneBy registers seeks memory (λ after. Gave memory after link hs b) (17 + 6 * length hs)
    seek_first [] registers memory link from above seeking before_all before_block link_open apart spread linked =
        ends_first [] registers memory link from above seeking before_block link_open tt spread linked
    seek_first (h ∷ hs) registers memory link from above seeking before_all before_block link_open (inl passed, apart) spread linked =
        let behind_from = spread.0.behind in
        let h_some = spread.0.some in
        let more = seek_behind hs (set 2 (h.address + 4) (set 4 h.address (set 3 h.address registers))) memory h from above (next_seeking registers link 0 h seeking) passed apart spread (refl, linked.1, linked.2) in
        then_done
        (seeks_on registers memory link 0 h seeking before_block (omega arith) (omega arith) linked.0 link_open)
        (other_done (λ after gave. passed_gave memory after link from past h hs b before_all passed spread linked gave) more)
        (omega arith)
    seek_first (h ∷ hs) registers memory link from above seeking before_all before_block link_open (inr front, apart) spread linked =
        let it = ends_first (h ∷ hs) registers memory link from above seeking before_block link_open front spread linked in
        record { after = it.after; is = it.is; walk = walk_longer it.walk (omega arith) }
