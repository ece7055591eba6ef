-- Calls of the routine that makes the heap.
use Rattle.std.proofs.Common.{◌≡◌, ℕ, pos, ◌+◌, ◌-◌, ◌%◌, ◌^◌, ◌<◌, ◌≤◌, List, [], ◌∷◌, drop, slice_index, refl, ap, sym, subst, ◌∙◌, arith}
use Rattle.op_heap.proofs.Holes.{gap_some, hole}
use Rattle.op_heap.proofs.Words.{byte_apart, byte_small, with_word, word_above, word_below, word_there}
use Rattle.op_heap.specs.Demands.{first_heap}
use Rattle.op_heap.specs.Heap.{heap_address, holes}
use Rattle.op_heap.specs.Memory.{AreLinked, HeapLies, SlotsLie, control_address, first_hole, row_of}
use Rattle.op_low.specs.State.{Placement, State, space}
use Rattle.op_low.specs.declared.code.Low.{Low}
use Rattle.op_low.specs.declared.code.Routine.{Routine}
use Rattle.op_low.specs.declared.instruction.Call.{Call as Operands}
use Rattle.op_low.specs.declared.instruction.Instruction.{Instruction}
use Rattle.op_rt_heap.proofs.Calling.{call_comes, nothing_cleared, room_of}
use Rattle.op_rt_heap.proofs.Moves.{IsWordOpen, const_goes, here, set, store_goes, word_open}
use Rattle.op_rt_heap.proofs.Walks.{Walk, cleared, standing, walk_leave, walk_then}
use Rattle.op_rt_heap.specs.Names.{register}
use Rattle.op_rt_heap.specs.Running.{HasHeap, IsCalled, IsClear, Starts, behind}
use Rattle.op_rt_heap.specs.Start.{start_heap, starts}
use Rattle.op_rv.proofs.Memory.{word_at-zero}
use Rattle.op_rv.specs.State.{word_at}

module _ (low : Low) (p : Placement) (m : State) (r : ℕ) (operands : Operands) (rest : List Instruction) (bytes stack : ℕ) (opened : HasHeap p m bytes) (called : IsCalled low p m r start_heap (bytes ∷ stack ∷ []) operands rest) (some : 16 ≤ bytes) (whole : bytes % 16 ≡ 0) (stack_fits : stack < 2 ^ 32) where
  abbrev memory : ℕ → ℕ
  memory = cleared low m r

  unchanged : (x : ℕ) → memory x ≡ m.memory x
  unchanged = nothing_cleared low m r (ap (λ (x : Routine). x.locals) called.is)

  has : space low p r ≤ m.room
  has = room_of low p m r start_heap (bytes ∷ stack ∷ []) operands rest refl called

  in_control : (k : ℕ) → k + 4 ≤ 32 → k % 4 ≡ 0 → IsWordOpen p m (control_address + k)
  in_control k less aligned = word_open p m control_address 32 (control_address + k) opened.control (omega arith) (omega arith) (omega arith)

  in_heap : (k : ℕ) → k + 4 ≤ 8 → k % 4 ≡ 0 → IsWordOpen p m (heap_address + k)
  in_heap k less aligned = word_open p m heap_address bytes (heap_address + k) opened.heap (omega arith) (omega arith) (omega arith)

  -- ---- the code

  abbrev called_with : ℕ → ℕ
  called_with = slice_index (bytes ∷ stack ∷ [])

  abbrev all : ℕ → ℕ
  all = set 4 1 (set 3 heap_address (set 2 control_address called_with))

  abbrev m1 : ℕ → ℕ
  m1 = with_word memory control_address heap_address

  abbrev m2 : ℕ → ℕ
  m2 = with_word m1 (control_address + 8) bytes

  abbrev m3 : ℕ → ℕ
  m3 = with_word m2 (control_address + 12) stack

  abbrev m4 : ℕ → ℕ
  m4 = with_word m3 (control_address + 16) 1

  abbrev m5 : ℕ → ℕ
  m5 = with_word m4 heap_address bytes

  abbrev m6 : ℕ → ℕ
  m6 = with_word m5 (heap_address + 4) 0

  walk : Walk low p (here low p m r operands rest called_with starts memory) (standing (behind m operands rest 0 m6) rest) [] 10
  walk =
      walk_then
      (const_goes low p m r operands rest called_with memory 2 control_address (drop 1 starts))
      (walk_then
      (const_goes low p m r operands rest (set 2 control_address called_with) memory 3 heap_address (drop 2 starts))
      (walk_then
      (const_goes low p m r operands rest (set 3 heap_address (set 2 control_address called_with)) memory 4 1 (drop 3 starts))
      (walk_then
      (store_goes low p m r operands rest all memory 3 2 (pos 0) control_address heap_address (drop 4 starts) refl refl (in_control 0 (omega arith) refl))
      (walk_then
      (store_goes low p m r operands rest all m1 0 2 (pos 8) (control_address + 8) bytes (drop 5 starts) refl refl (in_control 8 (omega arith) refl))
      (walk_then
      (store_goes low p m r operands rest all m2 1 2 (pos 12) (control_address + 12) stack (drop 6 starts) refl refl (in_control 12 (omega arith) refl))
      (walk_then
      (store_goes low p m r operands rest all m3 4 2 (pos 16) (control_address + 16) 1 (drop 7 starts) refl refl (in_control 16 (omega arith) refl))
      (walk_then
      (store_goes low p m r operands rest all m4 0 3 (pos 0) heap_address bytes (drop 8 starts) refl refl (in_heap 0 (omega arith) refl))
      (walk_then
      (store_goes low p m r operands rest all m5 5 3 (pos 4) (heap_address + 4) 0 (drop 9 starts) refl refl (in_heap 4 (omega arith) refl))
      (walk_leave low p m r operands rest all (register 5) [] m6 has)))))))))

  -- ---- the words of the control region, which lie below the heap

  control_word : (a v : ℕ) → a + 4 ≤ heap_address → word_at m4 a ≡ v → word_at m6 a ≡ v
  control_word a v lower is = word_below m5 (heap_address + 4) 0 a (omega arith) ∙ word_below m4 heap_address bytes a (omega arith) ∙ is

  first_word : word_at m6 control_address ≡ heap_address
  first_word =
      control_word control_address heap_address (omega arith)
      (word_below m3 (control_address + 16) 1 control_address (omega arith) ∙ word_below m2 (control_address + 12) stack control_address (omega arith) ∙ word_below m1 (control_address + 8) bytes control_address (omega arith) ∙ word_there memory control_address heap_address (omega arith))

  -- the word of the first free slot, which is not written
  free_word : IsClear m.memory → word_at m6 (control_address + 4) ≡ 0
  free_word clear =
      control_word (control_address + 4) 0 (omega arith)
      (word_below m3 (control_address + 16) 1 (control_address + 4) (omega arith) ∙ word_below m2 (control_address + 12) stack (control_address + 4) (omega arith) ∙ word_below m1 (control_address + 8) bytes (control_address + 4) (omega arith)
      ∙ word_above memory control_address heap_address (control_address + 4) (omega arith)
      ∙ word_at-zero memory (control_address + 4) (λ x from before. unchanged x ∙ clear x (omega arith) (omega arith)))

  -- the generations, which are not either
  row_word : IsClear m.memory → (s : ℕ) → 1 ≤ s → s < 65536 → word_at m6 (row_of s + 4) ≡ 0
  row_word clear s one most =
      control_word (row_of s + 4) 0 (omega arith)
      (word_above m3 (control_address + 16) 1 (row_of s + 4) (omega arith) ∙ word_above m2 (control_address + 12) stack (row_of s + 4) (omega arith) ∙ word_above m1 (control_address + 8) bytes (row_of s + 4) (omega arith)
      ∙ word_above memory control_address heap_address (row_of s + 4) (omega arith)
      ∙ word_at-zero memory (row_of s + 4) (λ x from before. unchanged x ∙ clear x (omega arith) (omega arith)))

  unused_word : word_at m6 (control_address + 16) ≡ 1
  unused_word = control_word (control_address + 16) 1 (omega arith) (word_there m3 (control_address + 16) 1 (omega arith))

  -- ---- the heap and the slots

  one_hole : holes (first_heap bytes) ≡ hole heap_address bytes ∷ []
  one_hole =
      let size : heap_address + bytes - heap_address ≡ bytes = omega arith in
      gap_some heap_address (heap_address + bytes) (omega arith) ∙ ap (λ n. hole heap_address n ∷ []) size

  heap_lies : (kinds : ℕ → ℕ) → HeapLies kinds m6 (first_heap bytes)
  heap_lies kinds =
      let small = opened.small in
      record {
        heap = record { whole = whole; small = small; placed = omega arith };
        linked =
            subst (AreLinked m6 (first_hole m6)) (sym one_hole) (
              first_word,
              word_below m5 (heap_address + 4) 0 heap_address (omega arith) ∙ word_there m4 heap_address bytes (omega arith),
              word_there m5 (heap_address + 4) 0 (omega arith),
            );
        headed = tt;
      }

  slots_lie : IsClear m.memory → SlotsLie m6 (first_heap bytes)
  slots_lie clear =
      record {
        slots = record { some = omega arith; most = omega arith; free = tt; generations = λ s. omega arith; never = λ s more. refl };
        listed = free_word clear;
        unused = unused_word;
        generations = row_word clear;
      }

  pub starts_heap : Starts low p m operands rest bytes stack
  starts_heap =
      let small = opened.small in
      record {
        memory = m6;
        lies = heap_lies;
        slots = slots_lie;
        bounds =
            record {
              heap_bytes = control_word (control_address + 8) bytes (omega arith) (word_below m3 (control_address + 16) 1 (control_address + 8) (omega arith) ∙ word_below m2 (control_address + 12) stack (control_address + 8) (omega arith) ∙ word_there m1 (control_address + 8) bytes (omega arith));
              stack_bytes = control_word (control_address + 12) stack (omega arith) (word_below m3 (control_address + 16) 1 (control_address + 12) (omega arith) ∙ word_there m2 (control_address + 12) stack stack_fits);
            };
        kept = λ x control heap.
            byte_apart m5 (heap_address + 4) 0 x (λ at before. heap (omega arith) (omega arith))
            ∙ byte_apart m4 heap_address bytes x (λ at before. heap (omega arith) (omega arith))
            ∙ byte_apart m3 (control_address + 16) 1 x (λ at before. control (omega arith) (omega arith))
            ∙ byte_apart m2 (control_address + 12) stack x (λ at before. control (omega arith) (omega arith))
            ∙ byte_apart m1 (control_address + 8) bytes x (λ at before. control (omega arith) (omega arith))
            ∙ byte_apart memory control_address heap_address x (λ at before. control (omega arith) (omega arith))
            ∙ unchanged x;
        bytes = λ x old. byte_small m5 (heap_address + 4) 0 x (byte_small m4 heap_address bytes x (byte_small m3 (control_address + 16) 1 x (byte_small m2 (control_address + 12) stack x (byte_small m1 (control_address + 8) bytes x (byte_small memory control_address heap_address x (subst (λ b. b < 2 ^ 8) (sym (unchanged x)) old))))));
        comes = call_comes low p m r start_heap (bytes ∷ stack ∷ []) operands rest starts 0 m6 10 96 called refl refl (omega arith) refl (omega arith) walk;
      }
