-- Memory goes on having a heap and slots.
use Rattle.std.proofs.Common.{◌≡◌, ℕ, suc, ◌+◌, ◌<◌, ◌≤◌, ◌⊎◌, inl, inr, Some, List, [], ◌∷◌, sym, subst, ◌∙◌, arith}
use Rattle.op_heap.proofs.Blocks.{named_apart}
use Rattle.op_heap.proofs.Gaps.{holes_spread}
use Rattle.op_heap.proofs.Heads.{headed_beside, headed_within}
use Rattle.op_heap.proofs.Holes.{hole}
use Rattle.op_heap.specs.Frames.{ChangesIn}
use Rattle.op_heap.specs.Heap.{Block, Heap, Hole, block_named, heap_address, holes}
use Rattle.op_heap.specs.Memory.{AreLinked, AreListed, HeapLies, SlotsLie, control_address, first_hole, row_of}
use Rattle.op_heap.specs.Merging.{AreSpread, IsApart}
use Rattle.op_heap.specs.Slots.{AreFree}
use Rattle.op_rv.proofs.Memory.{word_at-same}
use Rattle.op_rv.specs.State.{word_at}

linked_beside : (hs : List Hole) (b : Block) (memory after : ℕ → ℕ) (next from past : ℕ) → ChangesIn b memory after → AreSpread from past hs → IsApart (hole b.address b.size) hs → AreLinked memory next hs → AreLinked after next hs
linked_beside [] b memory after next from past changes spread apart linked = linked
linked_beside (h ∷ hs) b memory after next from past changes spread apart linked =
    let some = spread.0.some in
    let same = λ (x : ℕ) (at : h.address ≤ x) (before : x < h.address + h.size). changes x (out x apart.0 at before) in
    let link : word_at after (h.address + 4) ≡ word_at memory (h.address + 4) = word_at-same memory after (h.address + 4) (λ x at before. same x (omega arith) (omega arith)) in (
      linked.0,
      word_at-same memory after h.address (λ x at before. same x at (omega arith)) ∙ linked.1,
      subst (λ next. AreLinked after next hs) (sym link) (linked_beside hs b memory after (word_at memory (h.address + 4)) (suc (h.address + h.size)) past changes spread.1 apart.1 linked.2),
    )
  where
    out : (x : ℕ) → (h.address + h.size ≤ b.address) ⊎ (b.address + b.size ≤ h.address) → h.address ≤ x → x < h.address + h.size → b.address + 4 ≤ x → x < b.address + b.size → ⊥
    out x (inl before) at under from past = omega arith
    out x (inr behind) at under from past = omega arith

pub heap_stored : (kinds memory after : ℕ → ℕ) (h : Heap) (b : Block) → ChangesIn b memory after → block_named b.name h.blocks ≡ Some b → HeapLies kinds memory h → HeapLies kinds after h
heap_stored kinds memory after h b changes found lies =
    let whole = lies.heap.whole in
    let past = heap_address + h.bytes in
    let apart = named_apart h.blocks heap_address past b.name b (omega arith) (omega arith) lies.heap.placed found in
    let behind = apart.0 in
    let link : first_hole after ≡ first_hole memory = word_at-same memory after control_address (λ x at before. changes x (λ lower upper. omega arith)) in
    record {
      heap = lies.heap;
      linked =
          subst (λ next. AreLinked after next (holes h)) (sym link)
          (linked_beside (holes h) b memory after (first_hole memory) heap_address past changes (holes_spread h.blocks heap_address past (omega arith) (omega arith) lies.heap.placed) apart.1 lies.linked);
      headed = headed_beside h.blocks b memory after kinds heap_address past changes lies.heap.placed found lies.headed;
    }

-- A change outside of heap and control region leaves it too.
linked_within : (hs : List Hole) (memory after : ℕ → ℕ) (next from past : ℕ) → ((x : ℕ) → from ≤ x → x < past → after x ≡ memory x) → AreSpread from past hs → AreLinked memory next hs → AreLinked after next hs
linked_within [] memory after next from past same spread linked = linked
linked_within (h ∷ hs) memory after next from past same spread linked =
    let some = spread.0.some in
    let behind = spread.0.behind in
    let within = spread.0.within in
    let link : word_at after (h.address + 4) ≡ word_at memory (h.address + 4) = word_at-same memory after (h.address + 4) (λ x at before. same x (omega arith) (omega arith)) in (
      linked.0,
      word_at-same memory after h.address (λ x at before. same x (omega arith) (omega arith)) ∙ linked.1,
      subst (λ next. AreLinked after next hs) (sym link) (linked_within hs memory after (word_at memory (h.address + 4)) (suc (h.address + h.size)) past (λ x at before. same x (omega arith) before) spread.1 linked.2),
    )

pub heap_same : (kinds memory after : ℕ → ℕ) (h : Heap) → ((x : ℕ) → control_address ≤ x → x < control_address + 4 → after x ≡ memory x) → ((x : ℕ) → heap_address ≤ x → x < heap_address + h.bytes → after x ≡ memory x) → HeapLies kinds memory h → HeapLies kinds after h
heap_same kinds memory after h link_same same lies =
    let whole = lies.heap.whole in
    let past = heap_address + h.bytes in
    record {
      heap = lies.heap;
      linked =
          subst (λ next. AreLinked after next (holes h)) (sym (word_at-same memory after control_address link_same))
          (linked_within (holes h) memory after (first_hole memory) heap_address past same (holes_spread h.blocks heap_address past (omega arith) (omega arith) lies.heap.placed) lies.linked);
      headed = headed_within h.blocks memory after kinds heap_address past same lies.heap.placed lies.headed;
    }

listed_within : (ss : List ℕ) (memory after : ℕ → ℕ) (next unused : ℕ) (generation : ℕ → ℕ) → unused ≤ 65536 → ((x : ℕ) → control_address + 4 ≤ x → x < control_address + 524312 → after x ≡ memory x) → AreFree unused generation ss → AreListed memory next ss → AreListed after next ss
listed_within [] memory after next unused generation most same free listed = listed
listed_within (s ∷ ss) memory after next unused generation most same free listed =
    let less = free.1 in
    (listed.0, subst (λ next. AreListed after next ss) (sym (word_at-same memory after (row_of s) (λ x from before. same x (omega arith) (omega arith)))) (listed_within ss memory after (word_at memory (row_of s)) unused generation most same free.4 listed.1))

pub slots_within : (memory after : ℕ → ℕ) (h : Heap) → ((x : ℕ) → control_address + 4 ≤ x → x < control_address + 524312 → after x ≡ memory x) → SlotsLie memory h → SlotsLie after h
slots_within memory after h same lie =
    let most = lie.slots.most in
    record {
      slots = lie.slots;
      listed =
          subst (λ next. AreListed after next h.free) (sym (word_at-same memory after (control_address + 4) (λ x from before. same x (omega arith) (omega arith))))
          (listed_within h.free memory after (word_at memory (control_address + 4)) h.unused h.generation lie.slots.most same lie.slots.free lie.listed);
      unused = word_at-same memory after (control_address + 16) (λ x from before. same x (omega arith) (omega arith)) ∙ lie.unused;
      generations = λ s one small. word_at-same memory after (row_of s + 4) (λ x from before. same x (omega arith) (omega arith)) ∙ lie.generations s one small;
    }

-- slots say nothing of blocks
pub slots_of : (memory : ℕ → ℕ) (h : Heap) (bs : List Block) → SlotsLie memory h → SlotsLie memory (record h { blocks = bs })
slots_of memory h bs lie =
    record {
      slots = record { some = lie.slots.some; most = lie.slots.most; free = lie.slots.free; generations = lie.slots.generations; never = lie.slots.never };
      listed = lie.listed;
      unused = lie.unused;
      generations = lie.generations;
    }

-- and blocks nothing of slots
pub heap_of : (kinds memory : ℕ → ℕ) (h : Heap) (free : List ℕ) (unused : ℕ) (generation : ℕ → ℕ) → HeapLies kinds memory h → HeapLies kinds memory (record h { free = free; unused = unused; generation = generation })
heap_of kinds memory h free unused generation lies =
    record {
      heap = record { whole = lies.heap.whole; small = lies.heap.small; placed = lies.heap.placed };
      linked = lies.linked;
      headed = lies.headed;
    }
