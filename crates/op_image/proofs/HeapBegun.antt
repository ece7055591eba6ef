-- The memory with which low code begins has a heap of one hole.
use Rattle.std.proofs.Common.{◌≡◌, ℕ, ◌+◌, ◌-◌, ◌%◌, ◌^◌, ◌<◌, ◌≤◌, Some, None, [], ◌∷◌, refl, ap, sym, subst, ◌∙◌, arith}
use Rattle.op_heap.proofs.Holes.{gap_some, hole}
use Rattle.op_heap.proofs.Words.{byte_apart, byte_small, word_above, word_below, word_there}
use Rattle.op_heap.specs.Demands.{first_heap}
use Rattle.op_heap.specs.Heap.{Block, holes}
use Rattle.op_heap.specs.Instances.{IsInstance, TableLies}
use Rattle.op_heap.specs.Memory.{AreLinked, HasBounds, HeapLies, SlotsLie, first_hole, row_of}
use Rattle.op_link.specs.Memory.{control_address, heap_address}
use Rattle.op_rv.proofs.Memory.{word_at-zero}
use Rattle.op_rv.specs.State.{word_at}
use Rattle.op_image.specs.Beginning.{begun_by, with_word}

module _ (memory : ℕ → ℕ) (heap stack : ℕ) where
  abbrev m1 : ℕ → ℕ
  m1 = with_word memory control_address heap_address

  abbrev m2 : ℕ → ℕ
  m2 = with_word m1 (control_address + 8) heap

  abbrev m3 : ℕ → ℕ
  m3 = with_word m2 heap_address heap

  abbrev m4 : ℕ → ℕ
  m4 = with_word m3 (control_address + 12) stack

  -- all but twenty bytes of the control region and four of the heap are as they were
  pub begun_kept : (x : ℕ) → (control_address ≤ x → x < control_address + 20 → ⊥) → (heap_address ≤ x → x < heap_address + 4 → ⊥) → begun_by memory heap stack x ≡ memory x
  begun_kept x control hole =
      byte_apart m4 (control_address + 16) 1 x (λ at before. control (omega arith) (omega arith))
      ∙ byte_apart m3 (control_address + 12) stack x (λ at before. control (omega arith) (omega arith))
      ∙ byte_apart m2 heap_address heap x (λ at before. hole (omega arith) (omega arith))
      ∙ byte_apart m1 (control_address + 8) heap x (λ at before. control (omega arith) (omega arith))
      ∙ byte_apart memory control_address heap_address x (λ at before. control (omega arith) (omega arith))

  pub begun_small : (x : ℕ) → memory x < 2 ^ 8 → begun_by memory heap stack x < 2 ^ 8
  begun_small x old = byte_small m4 (control_address + 16) 1 x (byte_small m3 (control_address + 12) stack x (byte_small m2 heap_address heap x (byte_small m1 (control_address + 8) heap x (byte_small memory control_address heap_address x old))))

  module _ (some : 16 ≤ heap) (whole : heap % 16 ≡ 0) (small : heap ≤ 0x10000000) (stack_fits : stack < 2 ^ 32) (clear : (x : ℕ) → control_address ≤ x → x < control_address + 524312 → memory x ≡ 0) (zeros : (x : ℕ) → heap_address ≤ x → x < heap_address + heap → memory x ≡ 0) where
    abbrev m5 : ℕ → ℕ
    m5 = begun_by memory heap stack

    -- ---- the words

    -- the first two words of the control region are not written again
    in_front : (a v : ℕ) → a + 4 ≤ control_address + 8 → word_at m1 a ≡ v → word_at m5 a ≡ v
    in_front a v less is =
        word_below m4 (control_address + 16) 1 a (omega arith) ∙ word_below m3 (control_address + 12) stack a (omega arith)
        ∙ word_below m2 heap_address heap a (omega arith) ∙ word_below m1 (control_address + 8) heap a less ∙ is

    first_word : word_at m5 control_address ≡ heap_address
    first_word = in_front control_address heap_address (omega arith) (word_there memory control_address heap_address (omega arith))

    free_word : word_at m5 (control_address + 4) ≡ 0
    free_word =
        in_front (control_address + 4) 0 (omega arith)
        (word_above memory control_address heap_address (control_address + 4) (omega arith) ∙ word_at-zero memory (control_address + 4) (λ x from before. clear x (omega arith) (omega arith)))

    heap_word : word_at m5 (control_address + 8) ≡ heap
    heap_word =
        word_below m4 (control_address + 16) 1 (control_address + 8) (omega arith) ∙ word_below m3 (control_address + 12) stack (control_address + 8) (omega arith)
        ∙ word_below m2 heap_address heap (control_address + 8) (omega arith) ∙ word_there m1 (control_address + 8) heap (omega arith)

    stack_word : word_at m5 (control_address + 12) ≡ stack
    stack_word = word_below m4 (control_address + 16) 1 (control_address + 12) (omega arith) ∙ word_there m3 (control_address + 12) stack stack_fits

    unused_word : word_at m5 (control_address + 16) ≡ 1
    unused_word = word_there m4 (control_address + 16) 1 (omega arith)

    row_word : (s : ℕ) → 1 ≤ s → s < 65536 → word_at m5 (row_of s + 4) ≡ 0
    row_word s one most =
        word_above m4 (control_address + 16) 1 (row_of s + 4) (omega arith) ∙ word_above m3 (control_address + 12) stack (row_of s + 4) (omega arith)
        ∙ word_below m2 heap_address heap (row_of s + 4) (omega arith) ∙ word_above m1 (control_address + 8) heap (row_of s + 4) (omega arith)
        ∙ word_above memory control_address heap_address (row_of s + 4) (omega arith)
        ∙ word_at-zero memory (row_of s + 4) (λ x from before. clear x (omega arith) (omega arith))

    hole_word : word_at m5 heap_address ≡ heap
    hole_word =
        word_above m4 (control_address + 16) 1 heap_address (omega arith) ∙ word_above m3 (control_address + 12) stack heap_address (omega arith) ∙ word_there m2 heap_address heap (omega arith)

    link_word : word_at m5 (heap_address + 4) ≡ 0
    link_word =
        word_above m4 (control_address + 16) 1 (heap_address + 4) (omega arith) ∙ word_above m3 (control_address + 12) stack (heap_address + 4) (omega arith)
        ∙ word_above m2 heap_address heap (heap_address + 4) (omega arith) ∙ word_above m1 (control_address + 8) heap (heap_address + 4) (omega arith)
        ∙ word_above memory control_address heap_address (heap_address + 4) (omega arith)
        ∙ word_at-zero memory (heap_address + 4) (λ x from before. zeros x (omega arith) (omega arith))

    -- ---- the heap and the slots

    one_hole : holes (first_heap heap) ≡ hole heap_address heap ∷ []
    one_hole =
        let size : heap_address + heap - heap_address ≡ heap = omega arith in
        gap_some heap_address (heap_address + heap) (omega arith) ∙ ap (λ n. hole heap_address n ∷ []) size

    pub heap_lies : (kinds : ℕ → ℕ) → HeapLies kinds m5 (first_heap heap)
    heap_lies kinds =
        record {
          heap = record { whole = whole; small = small; placed = omega arith };
          linked = subst (AreLinked m5 (first_hole m5)) (sym one_hole) (first_word, hole_word, link_word);
          headed = tt;
        }

    slots_lie : SlotsLie m5 (first_heap heap)
    slots_lie =
        record {
          slots = record { some = omega arith; most = omega arith; free = tt; generations = λ s. omega arith; never = λ s more. refl };
          listed = free_word;
          unused = unused_word;
          generations = row_word;
        }

    none : (name : ℕ) (b : Block) → IsInstance (first_heap heap) name b → ⊥
    none name b there = let found : None ≡ Some b = there.found in absurd cc

    pub table_lies : TableLies m5 (first_heap heap)
    table_lies =
        record {
          slots = slots_lie;
          instances = record {
            names = tt;
            issued = λ name b there. absurd (none name b there);
            alone = λ one other b c there also same. absurd (none one b there);
            retired = λ s there. let some_slot = there.some in let issued_before = there.issued in absurd (omega arith);
          };
          leads = λ name b there. absurd (none name b there);
          ends = λ s there. let some_slot = there.some in let issued_before = there.issued in absurd (omega arith);
        }

    pub has_bounds : HasBounds m5 heap stack
    has_bounds = record { heap_bytes = heap_word; stack_bytes = stack_word }
