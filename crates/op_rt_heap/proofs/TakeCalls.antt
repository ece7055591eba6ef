-- Calls of the routine that takes a block, by the holes that are linked.
use Rattle.std.proofs.Common.{◌≡◌, ℕ, pos, suc, ◌+◌, ◌*◌, ◌/◌, ◌%◌, ◌^◌, ◌<◌, ◌≤◌, inl, inr, true, false, nat_eq, nat_le, Some, None, List, [], ◌∷◌, drop, length, slice_index, refl, ap, sym, subst, ◌∙◌, arith}
use Rattle.std.proofs.lemmas.Bool.{cases_lt, cond-false, cond-true}
use Rattle.std.proofs.lemmas.Bool.Decides.{nat_tests}
use Rattle.op_heap.proofs.Holes.{linked_same}
use Rattle.op_heap.specs.Heap.{Hole, first_fit, heap_address}
use Rattle.op_heap.specs.Memory.{AreLinked, control_address, first_hole}
use Rattle.op_heap.specs.Merging.{AreSpread}
use Rattle.op_low.specs.Machine.{Written}
use Rattle.op_low.specs.State.{Placement, State, space}
use Rattle.op_low.specs.declared.code.Low.{Low}
use Rattle.op_low.specs.declared.code.Routine.{Routine}
use Rattle.op_low.specs.declared.instruction.Call.{Call as Operands}
use Rattle.op_low.specs.declared.instruction.Instruction.{Instruction}
use Rattle.op_low.specs.declared.instruction.Output.TheVariants.{Errors}
use Rattle.op_rt_heap.proofs.Calling.{call_comes, nothing_cleared, room_of}
use Rattle.op_rt_heap.proofs.CallFails.{call_fails, failed, over, tells}
use Rattle.op_rt_heap.proofs.LinkedHoles.{HolesLie, Takes, size_of}
use Rattle.op_rt_heap.proofs.Moves.{IsWordOpen, branch_goes, const_goes, here, jump_goes, load_goes, set, shift_goes, word_open}
use Rattle.op_rt_heap.proofs.TakeRun.{Searching, code_is, goes_past, next_open, next_search, no_offset, search_takes}
use Rattle.op_rt_heap.proofs.Walks.{Walk, cleared, walk_longer, walk_then}
use Rattle.op_rt_heap.specs.Fail.{fails}
use Rattle.op_rt_heap.specs.Running.{Fails, HasErrorText, IsCalled}
use Rattle.op_rt_heap.specs.Take.{begins, searches, take_block}
use Rattle.op_rv.proofs.Memory.{word_at-same}
use Rattle.op_rv.specs.Operation.{shift_value}
use Rattle.op_rv.specs.State.{word_at}
use Rattle.op_rv.specs.declared.instruction.BranchOp.TheVariants.{Beq}
use Rattle.op_rv.specs.declared.instruction.ShiftOp.TheVariants.{Slli, Srli}

module _ (low : Low) (p : Placement) (m : State) (r : ℕ) (operands : Operands) (rest : List Instruction) (bytes head : ℕ) (holes : List Hole) (called : IsCalled low p m r take_block (head ∷ []) operands rest) (lie : HolesLie p m bytes holes) (head_fits : head < 2 ^ 32) (large : 16 ≤ head) where
  abbrev k : ℕ
  k = size_of head

  abbrev past : ℕ
  past = heap_address + bytes

  abbrev memory : ℕ → ℕ
  memory = cleared low m r

  unchanged : (x : ℕ) → memory x ≡ m.memory x
  unchanged = nothing_cleared low m r (ap (λ (x : Routine). x.locals) called.is)

  linked : AreLinked memory (first_hole memory) holes
  linked =
      subst (λ next. AreLinked memory next holes) (sym (word_at-same m.memory memory control_address (λ x from before. unchanged x)))
      (linked_same holes m.memory memory (first_hole m.memory) heap_address past (λ x from. unchanged x) lie.spread lie.linked)

  has : space low p r ≤ m.room
  has = room_of low p m r take_block (head ∷ []) operands rest refl called

  in_heap : (a : ℕ) → heap_address ≤ a → a + 4 ≤ past → a % 4 ≡ 0 → IsWordOpen p m a
  in_heap a from before aligned = word_open p m heap_address bytes a lie.heap.heap from before aligned

  link_open : IsWordOpen p m control_address
  link_open = word_open p m control_address 32 control_address lie.heap.control (omega arith) (omega arith) refl

  -- ---- up to the search

  abbrev called_with : ℕ → ℕ
  called_with = slice_index (head ∷ [])

  abbrev searching : ℕ → ℕ
  searching = set 2 control_address (set 1 k (set 1 (head / 16) called_with))

  begun : Walk low p (here low p m r operands rest called_with begins memory) (here low p m r operands rest searching searches memory) [] 4
  begun =
      let up : shift_value Slli (head / 16) 4 ≡ k = omega arith in
      walk_then
      (shift_goes low p m r operands rest called_with memory Srli 1 0 4 (head / 16) (drop 1 begins) refl)
      (walk_then
      (shift_goes low p m r operands rest (set 1 (head / 16) called_with) memory Slli 1 1 4 k (drop 2 begins) up)
      (walk_then
      (const_goes low p m r operands rest (set 1 k (set 1 (head / 16) called_with)) memory 2 control_address (drop 3 begins))
      (jump_goes low p m r operands rest searching memory 1 searches [] (code_is low p m r operands rest called.is has called.words 1))))

  search_begins : Searching k head searching control_address
  search_begins = record { head_is = refl; size_is = refl; link_is = refl; zero_is = refl }

  -- ---- a hole fits

  pub takes_it : (a : ℕ) → first_fit k holes ≡ Some a → Takes low p m operands rest holes head a
  takes_it a fit =
      let small = lie.heap.small in
      let it = search_takes low p m r operands rest called.is has called.words past k head (omega arith) head_fits (omega arith) (omega arith) in_heap holes searching memory control_address heap_address a search_begins (omega arith) (omega arith) link_open lie.spread linked fit in
      record {
        memory = it.after;
        linked = it.took.linked;
        headed = it.took.headed;
        kept = λ x beside outside. it.took.kept x beside outside ∙ unchanged x;
        bytes = λ x old. it.took.bytes x (subst (λ b. b < 2 ^ 8) (sym (unchanged x)) old);
        comes =
            call_comes low p m r take_block (head ∷ []) operands rest begins a it.after (4 + (15 + 6 * length holes)) (96 + 6 * length holes) called refl refl (omega arith) refl (omega arith)
            (walk_then begun it.walk);
      }

  -- ---- no hole does

  module _ (line : List ℕ) (stands : HasErrorText p m line) where
    abbrev ended : (ℕ → ℕ) → State
    ended last = over low p m r operands rest line stands unchanged last

    -- behind the last hole
    record Ends (registers : ℕ → ℕ) (hs : List Hole) : Type 0 where
      pub last : ℕ → ℕ
      pub walk : Walk low p (here low p m r operands rest registers searches memory) (ended last) (Written Errors line ∷ []) (7 + 6 * length hs)

    search_fails : (hs : List Hole) (registers : ℕ → ℕ) (link from : ℕ) → past < 2 ^ 32 → Searching k head registers link → heap_address ≤ from → link + 4 ≤ from → link + 4 < 2 ^ 32 → IsWordOpen p m link → AreSpread from past hs → AreLinked memory (word_at memory link) hs → first_fit k hs ≡ None → Ends registers hs
    search_fails [] registers link from words search higher apart small link_opened spread linked none =
        let first = set 3 0 registers in
        record {
          last = failed low p m r operands rest line stands unchanged first;
          walk =
              walk_then
              (load_goes low p m r operands rest registers memory 3 2 (pos 0) link 0 (drop 1 searches) (no_offset low p m r operands rest called.is has called.words (registers 2) link search.link_is (omega arith)) linked link_opened)
              (walk_then
              (branch_goes low p m r operands rest first memory Beq 3 7 4 fails (drop 2 searches) (code_is low p m r operands rest called.is has called.words 4) (ap (λ z. nat_eq 0 z) search.zero_is))
              (tells low p m r operands rest line stands unchanged first));
        }
    search_fails (h ∷ hs) registers link from words search higher apart small link_opened spread linked none =
        let behind_from = spread.0.behind in
        let some = spread.0.some in
        let within = spread.0.within in
        elim (cases_lt h.size k) [
          | inl less ↦
              let short : nat_le k h.size ≡ false = grind (arith, nat_tests) in
              let later : first_fit k hs ≡ None = sym (cond-false (nat_le k h.size) (Some h.address) (first_fit k hs) short) ∙ none in
              let more = search_fails hs (set 2 (h.address + 4) (set 4 h.size (set 3 h.address registers))) (h.address + 4) (suc (h.address + h.size)) words (next_search low p m r operands rest called.is has called.words past k head words head_fits (omega arith) (omega arith) in_heap registers link h search) (omega arith) (omega arith) (omega arith) (next_open low p m r operands rest called.is has called.words past k head words head_fits (omega arith) (omega arith) in_heap from h hs higher spread) spread.1 linked.2 later in
              record {
                last = more.last;
                walk = walk_longer (walk_then (goes_past low p m r operands rest called.is has called.words past k head words head_fits (omega arith) (omega arith) in_heap registers memory link from h hs search higher apart link_opened spread linked less) more.walk) (omega arith);
              }
          | inr fits ↦
              let long : nat_le k h.size ≡ true = grind (arith, nat_tests) in
              absurd (some_none h.address (sym (cond-true (nat_le k h.size) (Some h.address) (first_fit k hs) long) ∙ none))
        ]
      where
        some_none : (a : ℕ) → Some a ≡ None → ⊥
        some_none a is = cc

    pub fails_then : first_fit k holes ≡ None → Fails low p m line (96 + 6 * length holes)
    fails_then none =
        let small = lie.heap.small in
        let it = search_fails holes searching control_address heap_address (omega arith) search_begins (omega arith) (omega arith) (omega arith) link_open lie.spread linked none in
        call_fails low p m r operands rest line stands unchanged take_block (head ∷ []) begins it.last (4 + (7 + 6 * length holes)) (96 + 6 * length holes) called refl refl (omega arith) refl (omega arith)
        (walk_then begun it.walk)
