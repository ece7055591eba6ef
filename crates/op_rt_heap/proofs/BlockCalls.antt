-- Calls of the routines that take and give back blocks, by the heap that memory has.
use Rattle.std.proofs.Common.{◌≡◌, ℕ, ◌+◌, ◌<◌, ◌≤◌, inl, inr, Some, None, List, [], ◌∷◌, ap, sym, subst, ◌∙◌, arith}
use Rattle.op_heap.proofs.Blocks.{block_byte, elsewhere_outside, named_apart, others_beside}
use Rattle.op_heap.proofs.Gaps.{blocks_outside, gives_up, holes_spread}
use Rattle.op_heap.proofs.Heads.{headed_kept, headed_named, headed_placed, headed_without}
use Rattle.op_heap.proofs.Laws.{block_given_up, block_placed, past_of}
use Rattle.op_heap.proofs.Stays.{slots_of, slots_within}
use Rattle.op_heap.specs.Frames.{IsNoLink}
use Rattle.op_heap.specs.Heap.{Block, Heap, IsElsewhere, IsInside, block_named, first_fit, heap_address, holes, place, placed, without}
use Rattle.op_heap.specs.Memory.{AreLinked, HeapLies, SlotsLie, first_hole}
use Rattle.op_heap.specs.Merging.{IsOutside, bytes_of, taken}
use Rattle.op_low.specs.State.{Placement, State}
use Rattle.op_low.specs.declared.code.Low.{Low}
use Rattle.op_low.specs.declared.instruction.Call.{Call as Operands}
use Rattle.op_low.specs.declared.instruction.Instruction.{Instruction}
use Rattle.op_rt_heap.proofs.GiveCalls.{gives_it}
use Rattle.op_rt_heap.proofs.LinkedHoles.{BlockLies, Gives, HolesLie, size_of}
use Rattle.op_rt_heap.proofs.TakeCalls.{fails_then, takes_it}
use Rattle.op_rt_heap.specs.Claims.{IsAsked}
use Rattle.op_rt_heap.specs.Give.{give_block}
use Rattle.op_rt_heap.specs.Running.{Fails, GivesBlock, HasErrorText, HasHeap, IsCalled, TakesBlock, along}
use Rattle.op_rt_heap.specs.Take.{take_block}

module _ (low : Low) (p : Placement) (m : State) (r : ℕ) (operands : Operands) (rest : List Instruction) (kinds : ℕ → ℕ) (h : Heap) (opened : HasHeap p m h.bytes) (lies : HeapLies kinds m.memory h) where
  holes_lie : HolesLie p m h.bytes (holes h)
  holes_lie =
      let whole = lies.heap.whole in
      record { heap = opened; spread = holes_spread h.blocks heap_address (past_of h) (omega arith) (omega arith) lies.heap.placed; linked = lies.linked }

  -- where a byte of a block is
  block_kept : (x : ℕ) → IsInside h.blocks x → IsNoLink x × IsOutside (holes h) x
  block_kept x within =
      let whole = lies.heap.whole in
      (block_byte h x lies.heap within, blocks_outside h.blocks heap_address (past_of h) x (omega arith) (omega arith) lies.heap.placed within)

  -- slots are not in the heap
  slots_kept : (after : ℕ → ℕ) (bs : List Block) → ((x : ℕ) → IsNoLink x → IsElsewhere h x → after x ≡ m.memory x) → SlotsLie m.memory h → SlotsLie after (record h { blocks = bs })
  slots_kept after bs kept lie = slots_of after h bs (slots_within m.memory after h (λ x from before. kept x (λ at under. omega arith) (inl (omega arith))) lie)

  pub block_taken : (b : Block) → IsCalled low p m r take_block ((b.size + kinds b.name) ∷ []) operands rest → IsAsked b.size (kinds b.name) → place h b.size ≡ Some b.address → TakesBlock low p m operands rest kinds h b
  block_taken b called asked found =
      let large = asked.some in
      let whole = asked.whole in
      let few = asked.few in
      let size : size_of (b.size + kinds b.name) ≡ b.size = omega arith in
      let it = takes_it low p m r operands rest h.bytes (b.size + kinds b.name) (holes h) called holes_lie asked.word (omega arith) b.address (ap (λ k. first_fit k (holes h)) size ∙ found) in
      let there = block_placed h b lies.heap asked.some asked.whole found in
      let elsewhere = λ (x : ℕ) (link : IsNoLink x) (apart : IsElsewhere h x). it.kept x link (elsewhere_outside h x lies.heap apart) in
      record {
        memory = it.memory;
        lies =
            record {
              heap = there.heap;
              linked = subst (AreLinked it.memory (first_hole it.memory)) (ap (λ k. taken k (holes h)) size ∙ sym there.left) it.linked;
              headed =
                  headed_placed h.blocks it.memory kinds b it.headed few
                  (headed_kept h.blocks m.memory it.memory kinds heap_address (past_of h) lies.heap.placed
                  (λ x within. it.kept x (block_kept x within).0 (block_kept x within).1) lies.headed);
            };
        blocks = λ x within. it.kept x (block_kept x within).0 (block_kept x within).1;
        elsewhere = elsewhere;
        slots = slots_kept it.memory (placed b h.blocks) elsewhere;
        bytes = it.bytes;
        comes = it.comes;
      }

  pub block_refused : (size kind : ℕ) (line : List ℕ) → IsCalled low p m r take_block ((size + kind) ∷ []) operands rest → IsAsked size kind → HasErrorText p m line → place h size ≡ None → Fails low p m line (along h)
  block_refused size kind line called asked stands none =
      let large = asked.some in
      let whole = asked.whole in
      let few = asked.few in
      let same : size_of (size + kind) ≡ size = omega arith in
      fails_then low p m r operands rest h.bytes (size + kind) (holes h) called holes_lie asked.word (omega arith) line stands (ap (λ k. first_fit k (holes h)) same ∙ none)

  pub block_given : (b : Block) → IsCalled low p m r give_block (b.address ∷ []) operands rest → block_named b.name h.blocks ≡ Some b → GivesBlock low p m operands rest kinds h b
  block_given b called found =
      let whole_bytes = lies.heap.whole in
      let small = lies.heap.small in
      let up = gives_up (past_of h) b.name (omega arith) h.blocks heap_address b (omega arith) lies.heap.placed found in
      let gone = block_given_up h b lies.heap found in
      let first = headed_named h.blocks m.memory kinds b.name b found lies.headed in
      let word = first.0 in
      let kind = first.1 in
      let size_whole = up.whole in
      let within = up.within in
      let behind_it = up.behind in
      let apart = named_apart h.blocks heap_address (past_of h) b.name b (omega arith) (omega arith) lies.heap.placed found in
      let there : BlockLies m.memory h.bytes (holes h) (bytes_of b) = record { behind = up.behind; within = up.within; aligned = up.aligned; some = up.some; apart = apart.1; headed = omega arith; word = omega arith } in
      let it = gives_it low p m r operands rest h.bytes (holes h) (bytes_of b) called holes_lie there in
      let kept = λ (x : ℕ) (inside : IsInside (without b.name h.blocks) x). kept_by b it x (others_beside h.blocks heap_address (past_of h) b.name b x lies.heap.placed found inside) in
      let elsewhere = λ (x : ℕ) (link : IsNoLink x) (beside : IsElsewhere h x). it.kept x link (elsewhere_outside h x lies.heap beside) (not_block x beside (omega arith) (omega arith)) in
      record {
        memory = it.memory;
        lies =
            record {
              heap = gone.heap;
              linked = subst (AreLinked it.memory (first_hole it.memory)) (sym gone.left) it.linked;
              headed = headed_kept (without b.name h.blocks) m.memory it.memory kinds heap_address (past_of h) up.are kept (headed_without h.blocks m.memory kinds b.name lies.headed);
            };
        blocks = kept;
        elsewhere = elsewhere;
        slots = slots_kept it.memory (without b.name h.blocks) elsewhere;
        bytes = it.bytes;
        comes = it.comes;
      }
    where
      kept_by : (b : Block) (it : Gives low p m operands rest (holes h) (bytes_of b)) (x : ℕ) → IsInside h.blocks x × (b.address ≤ x → x < b.address + b.size → ⊥) → it.memory x ≡ m.memory x
      kept_by b it x other = it.kept x (block_kept x other.0).0 (block_kept x other.0).1 other.1

      not_block : (x : ℕ) → IsElsewhere h x → heap_address ≤ b.address → b.address + b.size ≤ past_of h → b.address ≤ x → x < b.address + b.size → ⊥
      not_block x (inl below) behind within at before = omega arith
      not_block x (inr above) behind within at before = omega arith
