-- The first instructions of an image make one hole of the heap, and lead to the head of its entry routine with an empty stack.
use Rattle.std.proofs.Common.{◌≡◌, ◌≢◌, ℕ, ℤ, pos, zero, suc, ◌+◌, ◌-◌, ◌*◌, ◌/◌, ◌%◌, ◌^◌, ◌<◌, ◌≤◌, Bool, true, false, cond, Option, Some, None, List, [], ◌∷◌, ◌++◌, length, get_or, take, drop, map, replicate, slice_get, refl, ap, ap₂, sym, subst, ◌∙◌, arith}
use Rattle.std.proofs.lemmas.Bool.{cond-true}
use Rattle.std.specs.Int.{bytes_low_first}
use Rattle.std.specs.Option.{option_map_or}
use Rattle.op_layout.specs.declared.layout.Layout.{Layout}
use Rattle.op_link.proofs.Lengths.{some_same}
use Rattle.op_link.specs.Code.{code_at, high_of, low_of, routines_code, then_code}
use Rattle.op_link.specs.Image.{region_in, regions_in, segments}
use Rattle.op_link.specs.Linking.{program_code, start_code}
use Rattle.op_link.specs.Memory.{control_address, heap_address, heap_size}
use Rattle.op_link.specs.Placing.{first_spot}
use Rattle.op_link.specs.Reach.{head_in}
use Rattle.op_link.specs.Region.{Region, byte_in, covers, range_of, region_at}
use Rattle.op_link.specs.declared.addresses.Addresses.{Addresses}
use Rattle.op_link.specs.declared.memory_map.Settings.{Settings}
use Rattle.op_link.specs.declared.table.Segment.{Segment}
use Rattle.op_rv.specs.Operation.{word_from}
use Rattle.op_rv.proofs.Memory.{can_access_word, four-bounded}
use Rattle.op_rv.specs.State.{State, advanced, faulted, register}
use Rattle.op_rv.specs.Step.{act, can_access, offset_from, store}
use Rattle.op_rv.specs.declared.fault.FaultKind.TheVariants.{Store as StoreFault}
use Rattle.op_rv.specs.declared.instruction.ImmOp.TheVariants.{Addi}
use Rattle.op_rv.specs.declared.instruction.Instr.{Instr}
use Rattle.op_rv.specs.declared.instruction.Instr.TheVariants.{Imm, Jalr, Lui, Store}
use Rattle.op_rv.specs.declared.instruction.StoreOp.TheVariants.{Sw}
use Rattle.op_rv.specs.declared.objects.Objects.{Objects}
use Rattle.op_select.proofs.ClearLemmas.{stored}
use Rattle.op_select.proofs.FrameLemmas.{sound_stored}
use Rattle.op_select.proofs.Walks.{Becomes, Walk, advanced_pc, becomes, placed, register_is, sound_placed, walk_join, walk_step}
use Rattle.op_select.specs.Going.{IsSetting, Setting, Sound}
use Rattle.op_select.specs.Placing.{joined}
use Rattle.op_select.specs.RiscvMachine.{instr_shows}
use Rattle.op_image.proofs.Expanding.{Reachable, parts_joined}
use Rattle.op_image.specs.Beginning.{begun_by, with_word}

-- ---- bytes

abbrev Small : List ℕ → Type 0
Small xs = (k : ℕ) → get_or xs k 0 < 2 ^ 8

small_take : (n : ℕ) (xs : List ℕ) → Small xs → Small (take n xs)
small_take zero xs small k = omega arith
small_take (suc n) [] small k = omega arith
small_take (suc n) (x ∷ xs) small zero = small 0
small_take (suc n) (x ∷ xs) small (suc k) = small_take n xs (λ k. small (suc k)) k

small_drop : (n : ℕ) (xs : List ℕ) → Small xs → Small (drop n xs)
small_drop zero xs small k = small k
small_drop (suc n) [] small k = omega arith
small_drop (suc n) (x ∷ xs) small k = small_drop n xs (λ k. small (suc k)) k

small_zeros : (n : ℕ) → Small (replicate {A = ℕ} n 0)
small_zeros zero k = omega arith
small_zeros (suc n) zero = omega arith
small_zeros (suc n) (suc k) = small_zeros n k

small_append : (xs ys : List ℕ) → Small xs → Small ys → Small (xs ++ ys)
small_append [] ys small more k = more k
small_append (x ∷ xs) ys small more zero = small 0
small_append (x ∷ xs) ys small more (suc k) = small_append xs ys (λ k. small (suc k)) more k

byte_by : (r : Region) (found : Option Region) (a : ℕ) (test : Bool) → Small r.bytes → option_map_or (λ (region : Region). get_or region.bytes (a - region.base) 0) found 0 < 2 ^ 8 → option_map_or (λ (region : Region). get_or region.bytes (a - region.base) 0) (cond test (Some r) found) 0 < 2 ^ 8
byte_by r found a true small rest = small (a - r.base)
byte_by r found a false small rest = rest

byte_small : (image : List ℕ) (ss : List Segment) (a : ℕ) → Small image → byte_in (map (region_in image) ss) a < 2 ^ 8
unfolding byte_in
byte_small image [] a small = omega arith
byte_small image (s ∷ ss) a small =
    byte_by (region_in image s) (region_at (map (region_in image) ss) a) a (covers (range_of (region_in image s)) a)
    (small_append (take s.file_size (drop s.offset image)) (replicate (s.memory_size - s.file_size) 0) (small_take s.file_size (drop s.offset image) (small_drop s.offset image small)) (small_zeros (s.memory_size - s.file_size)))
    (byte_small image ss a small)

pub bytes_small : (image : List ℕ) (a : ℕ) → Small image → byte_in (regions_in image) a < 2 ^ 8
bytes_small image a small = byte_small image (segments image) a small

-- ---- the last six instructions

-- they stand at an address: s0 and sp are set, and the code goes on at the head of the entry
pub record SixStand (w : Setting) (at bottom top to : ℕ) : Type 0 where
  pub first : w.placing.code at ≡ Some (Lui 8 (high_of bottom))
  pub second : w.placing.code (at + 4) ≡ Some (Imm Addi 8 8 (low_of bottom))
  pub third : w.placing.code (at + 4 + 4) ≡ Some (Lui 2 (high_of top))
  pub fourth : w.placing.code (at + 4 + 4 + 4) ≡ Some (Imm Addi 2 2 (low_of top))
  pub fifth : w.placing.code (at + 4 + 4 + 4 + 4) ≡ Some (Lui 1 (high_of to))
  pub sixth : w.placing.code (at + 4 + 4 + 4 + 4 + 4) ≡ Some (Jalr 0 1 (low_of to))

-- they were done
pub record SixDone (b : State) (bottom top to : ℕ) : Type 0 where
  pub registers : List ℕ
  pub size : length registers ≡ 32
  pub limit : get_or registers 8 0 ≡ bottom
  pub sp : get_or registers 2 0 ≡ top
  pub word : get_or registers 1 0 < 2 ^ 32
  pub walk : Walk b (placed b registers to) 6 6 []

high_word : (n : ℕ) → high_of n * 2 ^ 12 < 2 ^ 32
unfolding high_of
high_word n = omega arith

module _ (w : Setting) (law : IsSetting w) where
  sets : (b : State) (rd n : ℕ) → Sound w b → rd ≢ 0 → rd < 32 → n < 2 ^ 32 → w.placing.code b.pc ≡ Some (Lui rd (high_of n)) → w.placing.code (b.pc + 4) ≡ Some (Imm Addi rd rd (low_of n)) → Becomes b rd rd n (b.pc + 4 + 4) 2 2
  unfolding act instr_shows joined
  sets b rd n sound some small fits first second =
      let lui = becomes w law b (Lui rd (high_of n)) rd (high_of n * 2 ^ 12) sound first some small refl refl in
      let c = placed b lui.registers (b.pc + 4) in
      let sound_c = sound_placed w law b lui.registers (b.pc + 4) sound lui.size in
      let added = becomes w law c (Imm Addi rd rd (low_of n)) rd ((register c rd + word_from (low_of n)) % 2 ^ 32) sound_c second some small refl refl in
      let upper_is : register c rd ≡ high_of n * 2 ^ 12 = register_is c rd some ∙ lui.value_is in
      record {
        registers = added.registers;
        size = added.size;
        value_is = added.value_is ∙ ap (λ x. (x + word_from (low_of n)) % 2 ^ 32) upper_is ∙ parts_joined n fits;
        others = λ q other more. added.others q other more ∙ lui.others q other more;
        walk = walk_join b c (placed b added.registers (b.pc + 4 + 4)) 1 1 1 1 [] [] lui.walk added.walk;
      }

  goes : (b : State) (n : ℕ) → Sound w b → Reachable n → w.placing.code b.pc ≡ Some (Lui 1 (high_of n)) → w.placing.code (b.pc + 4) ≡ Some (Jalr 0 1 (low_of n)) → Becomes b 1 1 (high_of n * 2 ^ 12) n 2 2
  unfolding act instr_shows joined
  goes b n sound reachable first second =
      let low = reachable.low in
      let whole = reachable.whole in
      let lui = becomes w law b (Lui 1 (high_of n)) 1 (high_of n * 2 ^ 12) sound first (omega arith) (omega arith) refl refl in
      let c = placed b lui.registers (b.pc + 4) in
      let sound_c = sound_placed w law b lui.registers (b.pc + 4) sound lui.size in
      let half : n / 2 * 2 ≡ n = omega arith in
      let there : (register c 1 + word_from (low_of n)) % 2 ^ 32 / 2 * 2 ≡ n = ap (λ x. (x + word_from (low_of n)) % 2 ^ 32 / 2 * 2) lui.value_is ∙ ap (λ x. x / 2 * 2) (parts_joined n (omega arith)) ∙ half in
      let one = walk_step w law c (placed b lui.registers n) (Jalr 0 1 (low_of n)) [] sound_c second refl (ap (placed b lui.registers) there) in
      record {
        registers = lui.registers;
        size = lui.size;
        value_is = lui.value_is;
        others = lui.others;
        walk = walk_join b c (placed b lui.registers n) 1 1 1 1 [] [] lui.walk one;
      }

  pub six_done : (b : State) (bottom top to : ℕ) → Sound w b → bottom < 2 ^ 32 → top < 2 ^ 32 → Reachable to → SixStand w b.pc bottom top to → SixDone b bottom top to
  six_done b bottom top to sound bottom_fits top_fits reachable stand =
      let one = sets b 8 bottom sound (omega arith) (omega arith) bottom_fits stand.first stand.second in
      let c = placed b one.registers (b.pc + 4 + 4) in
      let sound_c = sound_placed w law b one.registers (b.pc + 4 + 4) sound one.size in
      let two = sets c 2 top sound_c (omega arith) (omega arith) top_fits stand.third stand.fourth in
      let d = placed b two.registers (b.pc + 4 + 4 + 4 + 4) in
      let sound_d = sound_placed w law b two.registers (b.pc + 4 + 4 + 4 + 4) sound two.size in
      let three = goes d to sound_d reachable stand.fifth stand.sixth in
      let e = placed b three.registers to in
      record {
        registers = three.registers;
        size = three.size;
        limit = three.others 8 (omega arith) (omega arith) ∙ two.others 8 (omega arith) (omega arith) ∙ one.value_is;
        sp = three.others 2 (omega arith) (omega arith) ∙ two.value_is;
        word = subst (λ n. n < 2 ^ 32) (sym three.value_is) (high_word to);
        walk = walk_join b d e 4 4 2 2 [] [] (walk_join b c d 2 2 2 2 [] [] one.walk two.walk) three.walk;
      }

-- ---- the twelve in front of them

-- a word was stored
record Told (w : Setting) (b : State) (at word : ℕ) : Type 0 where
  sound : Sound w (stored b b.registers (b.pc + 4) (with_word b.memory at word))
  walk : Walk b (stored b b.registers (b.pc + 4) (with_word b.memory at word)) 1 1 []

-- The heap is one hole: what x5 and x6 are told has become five words of memory.
pub record HeapDone (w : Setting) (b : State) (heap stack at : ℕ) : Type 0 where
  pub registers : List ℕ
  pub size : length registers ≡ 32
  pub sound : Sound w (stored b registers at (begun_by b.memory heap stack))
  pub walk : Walk b (stored b registers at (begun_by b.memory heap stack)) 12 12 []

module _ (w : Setting) (law : IsSetting w) where
  tells : (b : State) (base from : ℕ) (offset : ℤ) (at word : ℕ) → Sound w b → base ≢ 0 → from ≢ 0 → offset_from (get_or b.registers base 0) offset ≡ at → get_or b.registers from 0 ≡ word → at % 4 ≡ 0 → ((x : ℕ) → at ≤ x → x < at + 4 → w.rights.writable x ≡ true) → w.placing.code b.pc ≡ Some (Store Sw base from offset) → Told w b at word
  unfolding act store instr_shows
  tells b base from offset at word sound base_some from_some there is whole writable stands =
      let memory = with_word b.memory at word in
      let address : offset_from (register b base) offset ≡ at = ap (λ n. offset_from n offset) (register_is b base base_some) ∙ there in
      let value : register b from ≡ word = register_is b from from_some ∙ is in
      let may : can_access b.rights.writable at 4 ≡ true = can_access_word b.rights.writable at whole (λ x lower upper. subst (λ rights. rights.writable x ≡ true) (sym sound.rights) (writable x lower upper)) in
      let done : act (Store Sw base from offset) b ≡ stored b b.registers (b.pc + 4) memory =
      ap₂ (λ a v. store Sw v a b) address value
      ∙ cond-true (can_access b.rights.writable at 4) (advanced (record b { memory = memory })) (faulted StoreFault b) may
      ∙ ap (λ n. stored b b.registers n memory) (advanced_pc w law b (Store Sw base from offset) stands) in
      record {
        sound = sound_stored w law b b.registers (b.pc + 4) at (bytes_low_first 0 4 word) sound sound.size (four-bounded word) writable;
        walk = walk_step w law b (stored b b.registers (b.pc + 4) memory) (Store Sw base from offset) [] sound stands refl done;
      }

  upper : (b : State) (rd n : ℕ) → Sound w b → rd ≢ 0 → rd < 32 → w.placing.code b.pc ≡ Some (Lui rd (high_of n)) → Becomes b rd rd (high_of n * 2 ^ 12) (b.pc + 4) 1 1
  unfolding act instr_shows
  upper b rd n sound some small first = becomes w law b (Lui rd (high_of n)) rd (high_of n * 2 ^ 12) sound first some small refl refl

  one : (b : State) (rd : ℕ) → Sound w b → rd ≢ 0 → rd < 32 → w.placing.code b.pc ≡ Some (Imm Addi rd 0 (pos 1)) → Becomes b rd rd 1 (b.pc + 4) 1 1
  unfolding act instr_shows
  one b rd sound some small first = becomes w law b (Imm Addi rd 0 (pos 1)) rd 1 sound first some small refl refl

  module _ (settings : Settings) (to : ℕ) (rest : List Instr) (b : State) (sound : Sound w b) (pc : b.pc ≡ 65536) (heap_fits : heap_size settings < 2 ^ 32) (stack_fits : 1024 * settings.stack < 2 ^ 32) (control : (x : ℕ) → control_address ≤ x → x < control_address + 20 → w.rights.writable x ≡ true) (hole : (x : ℕ) → heap_address ≤ x → x < heap_address + 4 → w.rights.writable x ≡ true) (stands : (n : ℕ) (i : Instr) → slice_get (start_code settings to ++ rest) n ≡ Some i → w.placing.code (65536 + 4 * n) ≡ Some i) where
    abbrev heap : ℕ
    heap = heap_size settings

    abbrev stack : ℕ
    stack = 1024 * settings.stack

    -- the state in which it begins, at this address
    abbrev b0 : State
    b0 = stored b b.registers 65536 b.memory

    sound0 : Sound w b0
    sound0 = sound_placed w law b b.registers 65536 sound sound.size

    -- the first hole
    r1 : Becomes b0 5 5 control_address 65540 1 1
    unfolding high_of
    r1 = upper b0 5 control_address sound0 (omega arith) (omega arith) (stands 0 (Lui 5 (high_of control_address)) refl)

    abbrev b1 : State
    b1 = placed b0 r1.registers 65540

    sound1 : Sound w b1
    sound1 = sound_placed w law b0 r1.registers 65540 sound0 r1.size

    r2 : Becomes b1 6 6 heap_address 65544 1 1
    unfolding high_of
    r2 = upper b1 6 heap_address sound1 (omega arith) (omega arith) (stands 1 (Lui 6 (high_of heap_address)) refl)

    abbrev b2 : State
    b2 = placed b1 r2.registers 65544

    sound2 : Sound w b2
    sound2 = sound_placed w law b1 r2.registers 65544 sound1 r2.size

    five2 : get_or r2.registers 5 0 ≡ control_address
    five2 = r2.others 5 (omega arith) (omega arith) ∙ r1.value_is

    t1 : Told w b2 control_address heap_address
    t1 = tells b2 5 6 (pos 0) control_address heap_address sound2 (omega arith) (omega arith) (ap (λ n. offset_from n (pos 0)) five2) r2.value_is refl (λ x from before. control x (omega arith) (omega arith)) (stands 2 (Store Sw 5 6 (pos 0)) refl)

    abbrev b3 : State
    b3 = stored b2 r2.registers 65548 (with_word b.memory control_address heap_address)

    -- the bytes of the heap
    r3 : Becomes b3 7 7 heap 65556 2 2
    r3 = sets w law b3 7 heap t1.sound (omega arith) (omega arith) heap_fits (stands 3 (Lui 7 (high_of heap)) refl) (stands 4 (Imm Addi 7 7 (low_of heap)) refl)

    abbrev b4 : State
    b4 = placed b3 r3.registers 65556

    sound4 : Sound w b4
    sound4 = sound_placed w law b3 r3.registers 65556 t1.sound r3.size

    five4 : get_or r3.registers 5 0 ≡ control_address
    five4 = r3.others 5 (omega arith) (omega arith) ∙ five2

    six4 : get_or r3.registers 6 0 ≡ heap_address
    six4 = r3.others 6 (omega arith) (omega arith) ∙ r2.value_is

    t2 : Told w b4 (control_address + 8) heap
    t2 = tells b4 5 7 (pos 8) (control_address + 8) heap sound4 (omega arith) (omega arith) (ap (λ n. offset_from n (pos 8)) five4) r3.value_is refl (λ x from before. control x (omega arith) (omega arith)) (stands 5 (Store Sw 5 7 (pos 8)) refl)

    abbrev b5 : State
    b5 = stored b4 r3.registers 65560 (with_word b4.memory (control_address + 8) heap)

    t3 : Told w b5 heap_address heap
    t3 = tells b5 6 7 (pos 0) heap_address heap t2.sound (omega arith) (omega arith) (ap (λ n. offset_from n (pos 0)) six4) r3.value_is refl hole (stands 6 (Store Sw 6 7 (pos 0)) refl)

    abbrev b6 : State
    b6 = stored b5 r3.registers 65564 (with_word b5.memory heap_address heap)

    -- the bytes of the stack, and the least slot
    r4 : Becomes b6 7 7 stack 65572 2 2
    r4 = sets w law b6 7 stack t3.sound (omega arith) (omega arith) stack_fits (stands 7 (Lui 7 (high_of stack)) refl) (stands 8 (Imm Addi 7 7 (low_of stack)) refl)

    abbrev b7 : State
    b7 = placed b6 r4.registers 65572

    sound7 : Sound w b7
    sound7 = sound_placed w law b6 r4.registers 65572 t3.sound r4.size

    five7 : get_or r4.registers 5 0 ≡ control_address
    five7 = r4.others 5 (omega arith) (omega arith) ∙ five4

    t4 : Told w b7 (control_address + 12) stack
    t4 = tells b7 5 7 (pos 12) (control_address + 12) stack sound7 (omega arith) (omega arith) (ap (λ n. offset_from n (pos 12)) five7) r4.value_is refl (λ x from before. control x (omega arith) (omega arith)) (stands 9 (Store Sw 5 7 (pos 12)) refl)

    abbrev b8 : State
    b8 = stored b7 r4.registers 65576 (with_word b7.memory (control_address + 12) stack)

    r5 : Becomes b8 7 7 1 65580 1 1
    r5 = one b8 7 t4.sound (omega arith) (omega arith) (stands 10 (Imm Addi 7 0 (pos 1)) refl)

    abbrev b9 : State
    b9 = placed b8 r5.registers 65580

    sound9 : Sound w b9
    sound9 = sound_placed w law b8 r5.registers 65580 t4.sound r5.size

    t5 : Told w b9 (control_address + 16) 1
    t5 = tells b9 5 7 (pos 16) (control_address + 16) 1 sound9 (omega arith) (omega arith) (ap (λ n. offset_from n (pos 16)) (r5.others 5 (omega arith) (omega arith) ∙ five7)) r5.value_is refl (λ x from before. control x (omega arith) (omega arith)) (stands 11 (Store Sw 5 7 (pos 16)) refl)

    abbrev b10 : State
    b10 = stored b9 r5.registers 65584 (begun_by b.memory heap stack)

    from_b : (c : State) (k n : ℕ) → Walk b0 c k n [] → Walk b c k n []
    from_b c k n walk = subst (λ (a : State). Walk a c k n []) (ap (λ at. stored b b.registers at b.memory) (sym pc)) walk

    pub heap_done : HeapDone w b heap stack 65584
    heap_done =
        let hole_walk = walk_join b0 b2 b3 2 2 1 1 [] [] (walk_join b0 b1 b2 1 1 1 1 [] [] r1.walk r2.walk) t1.walk in
        let heap_walk = walk_join b3 b5 b6 3 3 1 1 [] [] (walk_join b3 b4 b5 2 2 1 1 [] [] r3.walk t2.walk) t3.walk in
        let stack_walk = walk_join b6 b7 b8 2 2 1 1 [] [] r4.walk t4.walk in
        let slot_walk = walk_join b8 b9 b10 1 1 1 1 [] [] r5.walk t5.walk in
        record {
          registers = r5.registers;
          size = r5.size;
          sound = t5.sound;
          walk = from_b b10 12 12 (walk_join b0 b8 b10 10 10 2 2 [] [] (walk_join b0 b6 b8 7 7 3 3 [] [] (walk_join b0 b3 b6 3 3 4 4 [] [] hole_walk heap_walk) stack_walk) slot_walk);
        }

-- ---- linked code begins with them

pub record BeginsWith (addresses : Addresses) (settings : Settings) (entry : ℕ) (code : List Instr) : Type 0 where
  pub to : ℕ
  pub head : head_in addresses.routines entry ≡ Some to
  pub rest : List Instr
  pub lists : code ≡ start_code settings to ++ rest

begins_with : (addresses : Addresses) (settings : Settings) (entry : ℕ) (code : List Instr) (found : Option ℕ) (more : Option (List Instr)) → head_in addresses.routines entry ≡ found → code_at (λ to. then_code (Some (start_code settings to)) more) found ≡ Some code → BeginsWith addresses settings entry code
begins_with addresses settings entry code None more head is = absurd cc
begins_with addresses settings entry code (Some to) None head is = absurd cc
begins_with addresses settings entry code (Some to) (Some rest) head is = record { to = to; head = head; rest = rest; lists = some_same _ _ (sym is) }

pub program_begins : (layout : Layout) (addresses : Addresses) (settings : Settings) (objects : Objects) (code : List Instr) → program_code layout addresses settings objects ≡ Some code → BeginsWith addresses settings objects.entry.0 code
unfolding program_code
program_begins layout addresses settings objects code is =
    begins_with addresses settings objects.entry.0 code (head_in addresses.routines objects.entry.0) (routines_code layout addresses 0 first_spot objects.routines) refl is
