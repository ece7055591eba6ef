-- The code of the routine that takes a block.
use Rattle.std.proofs.Common.{◌≡◌, ℕ, suc, ◌+◌, ◌-◌, ◌*◌, ◌%◌, ◌^◌, ◌<◌, ◌≤◌, inl, inr, true, false, nat_eq, nat_le, nat_lt, Some, None, List, [], ◌∷◌, length, refl, ap, sym, subst, ◌∙◌, arith, pos, not, drop, slice_get}
use Rattle.std.proofs.lemmas.Bool.{cases_lt, cond-false, cond-true}
use Rattle.std.proofs.lemmas.Bool.Decides.{nat_tests}
use Rattle.op_heap.proofs.Holes.{some_is}
use Rattle.op_heap.proofs.Words.{with_word}
use Rattle.op_heap.specs.Heap.{Hole, first_fit, heap_address}
use Rattle.op_heap.specs.Memory.{AreLinked}
use Rattle.op_heap.specs.Merging.{AreSpread}
use Rattle.op_low.specs.State.{Placement, State, block_of, code_or, routine_of, space}
use Rattle.op_low.specs.declared.code.Low.{Low}
use Rattle.op_low.specs.declared.instruction.Call.{Call as Operands}
use Rattle.op_low.specs.declared.instruction.Instruction.{Instruction}
use Rattle.op_rt_heap.proofs.Moves.{IsWordOpen, alu_goes, branch_goes, here, imm_goes, jump_goes, load_goes, move_goes, past_goes, set, store_goes}
use Rattle.op_rt_heap.proofs.TakeMemory.{Took, exact_memory, exact_took, passed_took, split_memory, split_took}
use Rattle.op_rt_heap.proofs.Walks.{Walk, inside, standing, walk_leave, walk_longer, walk_then}
use Rattle.op_rt_heap.specs.Names.{register}
use Rattle.op_rt_heap.specs.Running.{behind}
use Rattle.op_rt_heap.specs.Take.{fits, searches, take_block, takes}
use Rattle.op_rv.specs.Operation.{alu_value}
use Rattle.op_rv.specs.State.{word_at}
use Rattle.op_rv.specs.Step.{offset_from}
use Rattle.op_rv.specs.declared.instruction.AluOp.TheVariants.{Add, Sub}
use Rattle.op_rv.specs.declared.instruction.BranchOp.TheVariants.{Beq, Bgeu}
use Rattle.op_rv.specs.declared.instruction.ImmOp.TheVariants.{Addi}

-- the code takes the block at a from the holes that are linked at an address
pub record TookInside (low : Low) (p : Placement) (m : State) (r : ℕ) (operands : Operands) (rest : List Instruction) (registers : ℕ → ℕ) (now : List Instruction) (memory : ℕ → ℕ) (link : ℕ) (hs : List Hole) (k head a most : ℕ) : Type 0 where
  pub after : ℕ → ℕ
  pub took : Took memory after link hs k head a
  pub walk : Walk low p (inside low p m r operands rest registers now memory) (standing (behind m operands rest a after) rest) [] most

-- registers on the way
pub record Searching (k head : ℕ) (registers : ℕ → ℕ) (link : ℕ) : Type 0 where
  pub head_is : registers 0 ≡ head
  pub size_is : registers 1 ≡ k
  pub link_is : registers 2 ≡ link
  pub zero_is : registers 7 ≡ 0

module _ (low : Low) (p : Placement) (m : State) (r : ℕ) (operands : Operands) (rest : List Instruction) (is : routine_of low r ≡ take_block) (has : space low p r ≤ m.room) (limit : m.limit ≤ 2 ^ 32) where
  abbrev now_at : (ℕ → ℕ) → List Instruction → (ℕ → ℕ) → State
  now_at registers now memory = here low p m r operands rest registers now memory

  pub code_is : (k : ℕ) → block_of low r k ≡ code_or (slice_get take_block.blocks k)
  code_is k = ap (λ routine. code_or (slice_get routine.blocks k)) is

  -- ---- one hole

  pub no_offset : (a b : ℕ) → a ≡ b → b < 2 ^ 32 → offset_from a (pos 0) ≡ b
  no_offset a b same word = omega arith

  four_on : (a b : ℕ) → a ≡ b → b + 4 < 2 ^ 32 → offset_from a (pos 4) ≡ b + 4
  four_on a b same word = omega arith

  -- the hole at a link is found
  abbrev found : (ℕ → ℕ) → Hole → ℕ → ℕ
  found registers h = set 4 h.size (set 3 h.address registers)

  finds : (registers memory : ℕ → ℕ) (link from past : ℕ) (h : Hole) (hs : List Hole) → registers 2 ≡ link → registers 7 ≡ 0 → 0 < from → past < 2 ^ 32 → link + 4 ≤ from → IsWordOpen p m link → IsWordOpen p m h.address → AreSpread from past (h ∷ hs) → AreLinked memory (word_at memory link) (h ∷ hs) → Walk low p (now_at registers searches memory) (now_at (found registers h) (drop 3 searches) memory) [] 3
  finds registers memory link from past h hs link_is zero_is some words apart link_open hole_open spread linked =
      let behind = spread.0.behind in
      let within = spread.0.within in
      let large = spread.0.some in
      let first = set 3 h.address registers in
      let differ : nat_eq h.address 0 ≡ false = grind (arith, nat_tests) in
      walk_then
      (load_goes low p m r operands rest registers memory 3 2 (pos 0) link h.address (drop 1 searches) (no_offset (registers 2) link link_is (omega arith)) linked.0 link_open)
      (walk_then
      (past_goes low p m r operands rest first memory Beq 3 7 4 (drop 2 searches) (ap (λ z. nat_eq h.address z) zero_is ∙ differ))
      (load_goes low p m r operands rest first memory 4 3 (pos 0) h.address h.size (drop 3 searches) (no_offset h.address h.address refl (omega arith)) linked.1 hole_open))

  passes : (registers memory : ℕ → ℕ) (h : Hole) (k : ℕ) → registers 1 ≡ k → h.size < k → h.address + 4 < 2 ^ 32 → Walk low p (now_at (found registers h) (drop 3 searches) memory) (now_at (set 2 (h.address + 4) (found registers h)) searches memory) [] 3
  passes registers memory h k size_is less words =
      let short : nat_lt h.size k ≡ true = grind (arith, nat_tests) in
      walk_then
      (past_goes low p m r operands rest (found registers h) memory Bgeu 4 1 2 (drop 4 searches) (ap (λ k. not (nat_lt h.size k)) size_is ∙ ap not short))
      (walk_then
      (imm_goes low p m r operands rest (found registers h) memory Addi 2 3 (pos 4) (h.address + 4) (drop 5 searches) (four_on h.address h.address refl words))
      (jump_goes low p m r operands rest (set 2 (h.address + 4) (found registers h)) memory 1 searches [] (code_is 1)))

  fits_here : (registers memory : ℕ → ℕ) (h : Hole) (k : ℕ) → registers 1 ≡ k → k ≤ h.size → Walk low p (now_at (found registers h) (drop 3 searches) memory) (now_at (found registers h) fits memory) [] 1
  fits_here registers memory h k size_is less =
      let long : nat_lt h.size k ≡ false = grind (arith, nat_tests) in
      branch_goes low p m r operands rest (found registers h) memory Bgeu 4 1 2 fits (drop 4 searches) (code_is 2) (ap (λ k. not (nat_lt h.size k)) size_is ∙ ap not long)

  -- ---- the last block

  ends : (registers memory : ℕ → ℕ) (link a next head : ℕ) → registers 2 ≡ link → registers 3 ≡ a → registers 5 ≡ next → registers 0 ≡ head → IsWordOpen p m link → IsWordOpen p m a → Walk low p (now_at registers takes memory) (standing (behind m operands rest a (with_word (with_word memory link next) a head)) rest) [] 3
  ends registers memory link a next head link_is hole_is next_is head_is link_open hole_open =
      let link_below = link_open.opens.below in
      let hole_below = hole_open.opens.below in
      let first = with_word memory link next in
      let second = with_word first a head in
      walk_then
      (store_goes low p m r operands rest registers memory 5 2 (pos 0) link next (drop 1 takes) (no_offset (registers 2) link link_is (omega arith)) next_is link_open)
      (walk_then
      (store_goes low p m r operands rest registers first 0 3 (pos 0) a head (drop 2 takes) (no_offset (registers 3) a hole_is (omega arith)) head_is hole_open)
      (subst (λ v. Walk low p (now_at registers (drop 2 takes) second) (standing (behind m operands rest v second) rest) [] 1) hole_is
      (walk_leave low p m r operands rest registers (register 3) [] second has)))

  -- ---- a hole that fits

  exact_goes : (registers memory : ℕ → ℕ) (h : Hole) (k next : ℕ) → registers 1 ≡ k → h.size ≡ k → word_at memory (h.address + 4) ≡ next → IsWordOpen p m (h.address + 4) → Walk low p (now_at (found registers h) fits memory) (now_at (set 5 next (found registers h)) takes memory) [] 2
  exact_goes registers memory h k next size_is same next_is opened =
      let below = opened.opens.below in
      let equal : nat_eq h.size k ≡ true = grind (arith, nat_tests) in
      walk_then
      (load_goes low p m r operands rest (found registers h) memory 5 3 (pos 4) (h.address + 4) next (drop 1 fits) (four_on h.address h.address refl (omega arith)) next_is opened)
      (branch_goes low p m r operands rest (set 5 next (found registers h)) memory Beq 4 1 3 takes (drop 2 fits) (code_is 3) (ap (λ k. nat_eq h.size k) size_is ∙ equal))

  abbrev cut : (ℕ → ℕ) → Hole → (k next : ℕ) → ℕ → ℕ
  cut registers h k next = set 5 (h.address + k) (set 4 (h.size - k) (set 6 (h.address + k) (set 5 next (found registers h))))

  split_goes : (registers memory : ℕ → ℕ) (h : Hole) (k next : ℕ) → registers 1 ≡ k → k < h.size → h.size < 2 ^ 32 → word_at memory (h.address + 4) ≡ next → IsWordOpen p m (h.address + 4) → IsWordOpen p m (h.address + k) → IsWordOpen p m (h.address + k + 4) → Walk low p (now_at (found registers h) fits memory) (now_at (cut registers h k next) takes (with_word (with_word memory (h.address + k) (h.size - k)) (h.address + k + 4) next)) [] 8
  split_goes registers memory h k next size_is less words next_is opened rest_open next_open =
      let below = opened.opens.below in
      let rest_below = next_open.opens.below in
      let differ : nat_eq h.size k ≡ false = grind (arith, nat_tests) in
      let one = set 5 next (found registers h) in
      let two = set 6 (h.address + k) one in
      let three = set 4 (h.size - k) two in
      let first = with_word memory (h.address + k) (h.size - k) in
      let second = with_word first (h.address + k + 4) next in
      let sum : alu_value Add h.address (registers 1) ≡ h.address + k = ap (alu_value Add h.address) size_is ∙ omega arith in
      let difference : alu_value Sub h.size (registers 1) ≡ h.size - k = ap (alu_value Sub h.size) size_is ∙ omega arith in
      walk_then
      (load_goes low p m r operands rest (found registers h) memory 5 3 (pos 4) (h.address + 4) next (drop 1 fits) (four_on h.address h.address refl (omega arith)) next_is opened)
      (walk_then
      (past_goes low p m r operands rest one memory Beq 4 1 3 (drop 2 fits) (ap (λ k. nat_eq h.size k) size_is ∙ differ))
      (walk_then
      (alu_goes low p m r operands rest one memory Add 6 3 1 (h.address + k) (drop 3 fits) sum)
      (walk_then
      (alu_goes low p m r operands rest two memory Sub 4 4 1 (h.size - k) (drop 4 fits) difference)
      (walk_then
      (store_goes low p m r operands rest three memory 4 6 (pos 0) (h.address + k) (h.size - k) (drop 5 fits) (no_offset (h.address + k) (h.address + k) refl (omega arith)) refl rest_open)
      (walk_then
      (store_goes low p m r operands rest three first 5 6 (pos 4) (h.address + k + 4) next (drop 6 fits) (four_on (h.address + k) (h.address + k) refl (omega arith)) refl next_open)
      (walk_then
      (move_goes low p m r operands rest three second 5 6 (h.address + k) (drop 7 fits) refl)
      (jump_goes low p m r operands rest (cut registers h k next) second 3 takes [] (code_is 3))))))))

  -- ---- the search

  module _ (past k head : ℕ) (words : past < 2 ^ 32) (head_fits : head < 2 ^ 32) (whole : k % 16 ≡ 0) (large : 16 ≤ k) (opened : (a : ℕ) → heap_address ≤ a → a + 4 ≤ past → a % 4 ≡ 0 → IsWordOpen p m a) where
    took_here : (registers memory : ℕ → ℕ) (link from : ℕ) (h : Hole) (hs : List Hole) → Searching k head registers link → heap_address ≤ from → link + 4 ≤ from → IsWordOpen p m link → AreSpread from past (h ∷ hs) → AreLinked memory (word_at memory link) (h ∷ hs) → k ≤ h.size → TookInside low p m r operands rest registers searches memory link (h ∷ hs) k head h.address 15
    took_here registers memory link from h hs search higher apart link_open spread linked fit =
        let behind = spread.0.behind in
        let within = spread.0.within in
        let aligned = spread.0.aligned in
        let size_whole = spread.0.whole in
        let some = spread.0.some in
        let next = word_at memory (h.address + 4) in
        let hole_open = opened h.address (omega arith) (omega arith) (omega arith) in
        let next_open = opened (h.address + 4) (omega arith) (omega arith) (omega arith) in
        let first =
        walk_then
        (finds registers memory link from past h hs search.link_is search.zero_is (omega arith) words apart link_open hole_open spread linked)
        (fits_here registers memory h k search.size_is fit) in
        elim (cases_lt k h.size) [
          | inl less ↦
              let registers_cut = cut registers h k next in
              let cut_memory = with_word (with_word memory (h.address + k) (h.size - k)) (h.address + k + 4) next in
              let aligned_size = size_whole in
              record {
                after = split_memory memory link h k next head;
                took = split_took memory link from past h hs k head apart (omega arith) head_fits whole large spread linked less;
                walk =
                    walk_longer
                    (walk_then first
                    (walk_then
                    (split_goes registers memory h k next search.size_is less (omega arith) refl next_open (opened (h.address + k) (omega arith) (omega arith) (omega arith)) (opened (h.address + k + 4) (omega arith) (omega arith) (omega arith)))
                    (ends registers_cut cut_memory link h.address (h.address + k) head search.link_is refl refl search.head_is link_open hole_open)))
                    (omega arith);
              }
          | inr more ↦
              let same : h.size ≡ k = omega arith in
              record {
                after = exact_memory memory link h next head;
                took = exact_took memory link from past h hs k head apart (omega arith) head_fits spread linked same;
                walk =
                    walk_longer
                    (walk_then first
                    (walk_then
                    (exact_goes registers memory h k next search.size_is same refl next_open)
                    (ends (set 5 next (found registers h)) memory link h.address next head search.link_is refl refl search.head_is link_open hole_open)))
                    (omega arith);
              }
        ]

    -- a hole that does not fit is passed
    pub goes_past : (registers memory : ℕ → ℕ) (link from : ℕ) (h : Hole) (hs : List Hole) → Searching k head registers link → heap_address ≤ from → link + 4 ≤ from → IsWordOpen p m link → AreSpread from past (h ∷ hs) → AreLinked memory (word_at memory link) (h ∷ hs) → h.size < k → Walk low p (now_at registers searches memory) (now_at (set 2 (h.address + 4) (found registers h)) searches memory) [] 6
    goes_past registers memory link from h hs search higher apart link_open spread linked less =
        let behind = spread.0.behind in
        let within = spread.0.within in
        let aligned = spread.0.aligned in
        let some = spread.0.some in
        walk_then
        (finds registers memory link from past h hs search.link_is search.zero_is (omega arith) words apart link_open (opened h.address (omega arith) (omega arith) (omega arith)) spread linked)
        (passes registers memory h k search.size_is less (omega arith))

    pub next_search : (registers : ℕ → ℕ) (link : ℕ) (h : Hole) → Searching k head registers link → Searching k head (set 2 (h.address + 4) (found registers h)) (h.address + 4)
    next_search registers link h search = record { head_is = search.head_is; size_is = search.size_is; link_is = refl; zero_is = search.zero_is }

    pub next_open : (from : ℕ) (h : Hole) (hs : List Hole) → heap_address ≤ from → AreSpread from past (h ∷ hs) → IsWordOpen p m (h.address + 4)
    next_open from h hs higher spread =
        let behind = spread.0.behind in
        let within = spread.0.within in
        let aligned = spread.0.aligned in
        let some = spread.0.some in
        opened (h.address + 4) (omega arith) (omega arith) (omega arith)

    pub search_takes : (hs : List Hole) (registers memory : ℕ → ℕ) (link from a : ℕ) → Searching k head registers link → heap_address ≤ from → link + 4 ≤ from → IsWordOpen p m link → AreSpread from past hs → AreLinked memory (word_at memory link) hs → first_fit k hs ≡ Some a → TookInside low p m r operands rest registers searches memory link hs k head a (15 + 6 * length hs)
    search_takes [] registers memory link from a search higher apart link_open spread linked fit = let clash : None ≡ Some a = fit in absurd (none_some a clash)
      where
        none_some : (a : ℕ) → None ≡ Some a → ⊥
        none_some a is = cc
    search_takes (h ∷ hs) registers memory link from a search higher apart link_open spread linked fit =
        let behind = spread.0.behind in
        elim (cases_lt h.size k) [
          | inl less ↦
              let short : nat_le k h.size ≡ false = grind (arith, nat_tests) in
              let later : first_fit k hs ≡ Some a = sym (cond-false (nat_le k h.size) (Some h.address) (first_fit k hs) short) ∙ fit in
              let more = search_takes hs (set 2 (h.address + 4) (found registers h)) memory (h.address + 4) (suc (h.address + h.size)) a (next_search registers link h search) (omega arith) (beyond from h hs spread) (next_open from h hs higher spread) spread.1 linked.2 later in
              record {
                after = more.after;
                took = passed_took memory more.after link from past h hs k head a apart spread linked less more.took;
                walk = walk_longer (walk_then (goes_past registers memory link from h hs search higher apart link_open spread linked less) more.walk) (omega arith);
              }
          | inr fits ↦
              let long : nat_le k h.size ≡ true = grind (arith, nat_tests) in
              let there : h.address ≡ a = some_is h.address a (sym (cond-true (nat_le k h.size) (Some h.address) (first_fit k hs) long) ∙ fit) in
              let it = took_here registers memory link from h hs search higher apart link_open spread linked fits in
              subst (λ a. TookInside low p m r operands rest registers searches memory link (h ∷ hs) k head a (15 + 6 * length (h ∷ hs))) there
              (record { after = it.after; took = it.took; walk = walk_longer it.walk (omega arith) })
        ]
      where
        beyond : (from : ℕ) (h : Hole) (hs : List Hole) → AreSpread from past (h ∷ hs) → h.address + 4 + 4 ≤ suc (h.address + h.size)
        beyond from h hs spread = let some = spread.0.some in omega arith
