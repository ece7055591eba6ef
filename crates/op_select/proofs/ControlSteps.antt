-- Instructions that go elsewhere, and those that write memory or call the outside.
use Rattle.std.proofs.Common.{◌≡◌, ◌≢◌, ℕ, ℤ, zero, suc, ◌+◌, ◌-◌, ◌%◌, ◌^◌, ◌<◌, ◌≤◌, Bool, true, false, cond, ◌&&◌, if◌then◌else◌, nat_eq, nat_lt, nat_le, List, [], ◌∷◌, ◌++◌, length, get_or, refl, ap, ap₂, sym, subst, ◌∙◌, append_assoc, arith}
use Rattle.std.proofs.lemmas.Bool.{cond-true}
use Rattle.std.specs.Cmp.{first_so, second_so}
use Rattle.std.specs.Int.{bytes_low_first, byte_at}
use Rattle.op_low.specs.Machine.{Event, act as low_act, store as low_store}
use Rattle.op_low.specs.State.{State as LowState, value, usable, jump}
use Rattle.op_low.specs.Valid.{is_valid_instruction, has, imm_fits, branch_fits}
use Rattle.op_low.specs.declared.ids.VirtualRegister.{VirtualRegister}
use Rattle.op_low.specs.declared.instruction.Instruction.TheVariants.{Branch, Jump, Store, Exit}
use Rattle.op_rv.proofs.Environment.{environment_call-exit}
use Rattle.op_rv.proofs.Memory.{with_bytes-outside}
use Rattle.op_rv.specs.Environment.{exit_call}
use Rattle.op_rv.specs.Operation.{branch_taken}
use Rattle.op_rv.specs.State.{State, Ended, register, faulted, with_bytes}
use Rattle.op_rv.specs.Step.{act, store, can_access, offset_from, store_size_of}
use Rattle.op_rv.specs.declared.fault.FaultKind.TheVariants.{Store as StoreFault}
use Rattle.op_rv.specs.declared.instruction.BranchOp.{BranchOp}
use Rattle.op_rv.specs.declared.instruction.StoreOp.{StoreOp}
use Rattle.op_rv.specs.declared.instruction.StoreOp.TheVariants.{Sb, Sh, Sw}
use Rattle.op_rv.specs.declared.instruction.Instr.TheVariants.{Ecall, Store as StoreInstr}
use Rattle.op_rv.specs.declared.objects.Item.{Item}
use Rattle.op_rv.specs.declared.objects.Item.TheVariants.{Branch as BranchItem, Jump as JumpItem}
use Rattle.op_rv.specs.declared.symbol.BlockId.{BlockId}
use Rattle.op_select.specs.Frames.{bring, fetch, frame_of, operand}
use Rattle.op_select.specs.Going.{Setting, IsSetting, homes_in, routine_in, placement_of, Sound, Stays, Goes}
use Rattle.op_select.specs.Placing.{Stands, First, Expands, past}
use Rattle.op_select.specs.RiscvMachine.{instr_shows, call_event, read_event, write_event}
use Rattle.op_select.specs.Selection.{items_of, code_items}
use Rattle.op_select.specs.Sequences.{small}
use Rattle.op_select.proofs.FrameLemmas.{stays_placed, sound_stored, below_same, fetches, holds_same}
use Rattle.op_select.proofs.SequenceLemmas.{smalls}
use Rattle.op_select.proofs.TransferLemmas.{jumps, chooses, block_stands}
use Rattle.op_select.proofs.ValueSteps.{Steps, inside, two_brought, usable_all, access_of}
use Rattle.op_select.proofs.Walks.{Walk, walk_join, walk_weaken, walk_step, advanced_pc, placed, sound_placed, register_is, plain_first, split, nothing_more}

-- the machine has ended
pub record ExitSteps (m : LowState) (b : State) (most : ℕ) (status : ℕ) : Type 0 where
  pub after : State
  pub ended : after.ending ≡ Ended status
  pub output : after.output ≡ m.output
  pub errors : after.errors ≡ m.errors
  pub input : after.input ≡ m.input
  pub walk : Walk b after 1 most []

-- where a branch has led: to its block, or to the next item
abbrev pub IsAt : Setting → Bool → (at r : ℕ) → BlockId → List Item → (end : ℕ) → Type 0
IsAt w true at r block items end = at ≡ w.placing.block r block.0
IsAt w false at r block items end = Stands w.placing r at items end

-- a branch before other items
pub record ChoiceAt (w : Setting) (c : State) (r : ℕ) (block : BlockId) (items : List Item) (end : ℕ) (taken : Bool) : Type 0 where
  pub at : ℕ
  pub there : IsAt w taken at r block items end
  pub registers : List ℕ
  pub size : length registers ≡ 32
  pub others : (q : ℕ) → q ≢ 1 → get_or registers q 0 ≡ get_or c.registers q 0
  pub walk : Walk c (placed c registers at) 1 3 []

module _ (w : Setting) (law : IsSetting w) where
  -- ---- jumps

  -- at a block
  at_block_goes : (m : LowState) (b : State) (block : BlockId) (registers : List ℕ) → Stays w m b → length registers ≡ 32 → get_or registers 2 0 ≡ get_or b.registers 2 0 → get_or registers 8 0 ≡ get_or b.registers 8 0 → ((k : ℕ) → get_or registers (18 + k) 0 ≡ get_or b.registers (18 + k) 0) → Goes w (jump w.low block m) (placed b registers (w.placing.block m.top.routine block.0))
  at_block_goes m b block registers stays size sp limit homes =
      let c = placed b registers (w.placing.block m.top.routine block.0) in
      let there = stays_placed w law m b registers (w.placing.block m.top.routine block.0) stays size sp limit homes in
      record {
        stays = record {
          sound = there.sound;
          memory = there.memory;
          input = there.input;
          input_bytes = there.input_bytes;
          output = there.output;
          errors = there.errors;
          limit = there.limit;
          sp = there.sp;
          limit_aligned = there.limit_aligned;
          sp_aligned = there.sp_aligned;
          holds = there.holds;
          below = there.below;
        };
        ready = block_stands w m.top.routine block.0 law;
      }

  jump_by : (m : LowState) (b : State) (block : BlockId) (end : ℕ) → Stays w m b → Stands w.placing m.top.routine b.pc (JumpItem block ∷ []) end → Steps w (jump w.low block m) b 2 []
  unfolding Expands
  jump_by m b block end stays (First is expands here rest) =
      let moved = jumps w law b (w.placing.block m.top.routine block.0) is stays.sound expands here in
      record {
        after = placed b moved.registers (w.placing.block m.top.routine block.0);
        goes = at_block_goes m b block moved.registers stays moved.size (moved.others 2 (omega arith)) (moved.others 8 (omega arith)) (λ k. moved.others (18 + k) (omega arith));
        walk = moved.walk;
      }

  pub jump_steps : (m : LowState) (b : State) (block : BlockId) (end : ℕ) → Stays w m b → Stands w.placing m.top.routine b.pc (items_of (routine_in w m.top.routine) (Jump block) ++ code_items (routine_in w m.top.routine) m.top.now) end → Steps w (low_act w.low (placement_of w) (Jump block) m) b 2 []
  unfolding items_of low_act
  jump_steps m b block end stays stands =
      let whole = split w.placing m.top.routine b.pc (items_of (routine_in w m.top.routine) (Jump block)) _ end stands in
      jump_by m b block whole.middle stays whole.first

  pub steps_join : (m : LowState) (b c : State) (l k n : ℕ) (xs ys : List Event) → Walk b c l k xs → Steps w m c n ys → Steps w m b (k + n) (xs ++ ys)
  steps_join m b c l k n xs ys walk steps =
      record { after = steps.after; goes = steps.goes; walk = walk_weaken b steps.after (l + 1) (k + n) 1 (k + n) (xs ++ ys) (omega arith) (omega arith) (walk_join b c steps.after l k 1 n xs ys walk steps.walk) }

  pub choice_at : (r : ℕ) (c : State) (op : BranchOp) (left right : ℕ) (block : BlockId) (items : List Item) (end : ℕ) (taken : Bool) → Sound w c → branch_taken op (register c left) (register c right) ≡ taken → Stands w.placing r c.pc (BranchItem op left right block ∷ items) end → ChoiceAt w c r block items end taken
  unfolding Expands
  choice_at r c op left right block items end true sound tells (First is expands here rest) =
      let moved = chooses w law c (w.placing.block r block.0) op left right is true sound tells expands here in
      record { at = w.placing.block r block.0; there = refl; registers = moved.registers; size = moved.size; others = moved.others; walk = moved.walk }
  choice_at r c op left right block items end false sound tells (First is expands here rest) =
      let moved = chooses w law c (w.placing.block r block.0) op left right is false sound tells expands here in
      record { at = past c.pc is; there = rest; registers = moved.registers; size = moved.size; others = moved.others; walk = moved.walk }

  choice_by : (m : LowState) (c : State) (op : BranchOp) (left right : ℕ) (block : BlockId) (end : ℕ) (taken : Bool) → Stays w m c → branch_taken op (register c left) (register c right) ≡ taken → Stands w.placing m.top.routine c.pc (BranchItem op left right block ∷ code_items (routine_in w m.top.routine) m.top.now) end → Steps w (cond taken (jump w.low block m) m) c 3 []
  choice_by m c op left right block end true stays tells stands =
      let choice = choice_at m.top.routine c op left right block (code_items (routine_in w m.top.routine) m.top.now) end true stays.sound tells stands in
      record {
        after = placed c choice.registers choice.at;
        goes = subst (λ n. Goes w (jump w.low block m) (placed c choice.registers n)) (sym choice.there) (at_block_goes m c block choice.registers stays choice.size (choice.others 2 (omega arith)) (choice.others 8 (omega arith)) (λ k. choice.others (18 + k) (omega arith)));
        walk = choice.walk;
      }
  choice_by m c op left right block end false stays tells stands =
      let choice = choice_at m.top.routine c op left right block (code_items (routine_in w m.top.routine) m.top.now) end false stays.sound tells stands in
      record {
        after = placed c choice.registers choice.at;
        goes = record {
          stays = stays_placed w law m c choice.registers choice.at stays choice.size (choice.others 2 (omega arith)) (choice.others 8 (omega arith)) (λ k. choice.others (18 + k) (omega arith));
          ready = record { end = end; stands = choice.there };
        };
        walk = choice.walk;
      }

  pub branch_steps : (m : LowState) (b : State) (op : BranchOp) (left right : VirtualRegister) (block : BlockId) (end : ℕ) → Stays w m b → is_valid_instruction w.low (routine_in w m.top.routine) (Branch op left right block) ≡ true → Stands w.placing m.top.routine b.pc (items_of (routine_in w m.top.routine) (Branch op left right block) ++ code_items (routine_in w m.top.routine) m.top.now) end → Steps w (low_act w.low (placement_of w) (Branch op left right block) m) b 9 []
  unfolding is_valid_instruction branch_fits items_of low_act
  branch_steps m b op left right block end stays valid stands =
      let routine = routine_in w m.top.routine in
      let p = operand routine 10 left in
      let q = operand routine 11 right in
      let brought_ = bring routine 10 left ++ bring routine 11 right in
      let regrouped = subst (λ items. Stands w.placing m.top.routine b.pc items end) (append_assoc brought_ (BranchItem op p q block ∷ []) (code_items routine m.top.now)) stands in
      let parts = split w.placing m.top.routine b.pc brought_ _ end regrouped in
      let both : (has routine left && has routine right) ≡ true = first_so _ _ valid in
      let two = two_brought w law m b left right parts.middle stays (inside w law m left (first_so _ _ both)) (inside w law m right (second_so (has routine left) _ both)) parts.first in
      let c = placed b two.registers parts.middle in
      let stays_c = stays_placed w law m b two.registers parts.middle stays two.size (two.others 2 (omega arith) (omega arith)) (two.others 8 (omega arith) (omega arith)) (λ k. two.others (18 + k) (omega arith) (omega arith)) in
      let tells : branch_taken op (register c p) (register c q) ≡ branch_taken op (value m left) (value m right) = ap₂ (branch_taken op) (register_is c p two.first_some ∙ two.first_is) (register_is c q two.second_some ∙ two.second_is) in
      let choice = choice_by m c op p q block end (branch_taken op (value m left) (value m right)) stays_c tells parts.second in
      steps_join (cond (branch_taken op (value m left) (value m right)) (jump w.low block m) m) b c 0 6 3 [] [] two.walk choice

  -- ---- exit

  shows_exit : (s : State) → register s 17 ≡ 93 → call_event s ≡ []
  unfolding call_event
  shows_exit s is = ap (λ n. if nat_eq n 63 then read_event s else (if nat_eq n 64 then write_event s else [])) is

  pub exit_steps : (m : LowState) (b : State) (status : VirtualRegister) (end : ℕ) → Stays w m b → is_valid_instruction w.low (routine_in w m.top.routine) (Exit status) ≡ true → Stands w.placing m.top.routine b.pc (items_of (routine_in w m.top.routine) (Exit status) ++ code_items (routine_in w m.top.routine) m.top.now) end → ExitSteps m b 5 (value m status % 2 ^ 8)
  unfolding is_valid_instruction items_of act instr_shows exit_call
  exit_steps m b status end stays valid stands =
      let routine = routine_in w m.top.routine in
      let whole = split w.placing m.top.routine b.pc (items_of routine (Exit status)) _ end stands in
      let parts = split w.placing m.top.routine b.pc (fetch routine 10 status ++ small 17 93) _ whole.middle whole.first in
      let two = split w.placing m.top.routine b.pc (fetch routine 10 status) _ parts.middle parts.first in
      let one = fetches w law m b 10 status two.middle stays (inside w law m status valid) (omega arith) (omega arith) (omega arith) two.first in
      let c = placed b one.registers two.middle in
      let sound_c = sound_placed w law b one.registers two.middle stays.sound one.size in
      let number = smalls w law c m.top.routine 17 93 parts.middle sound_c (omega arith) (omega arith) (omega arith) two.second in
      let d = placed b number.registers parts.middle in
      let sound_d = sound_placed w law b number.registers parts.middle stays.sound number.size in
      let first = plain_first w.placing m.top.routine parts.middle Ecall _ whole.middle parts.second in
      let status_is : register d 10 ≡ value m status = number.others 10 (omega arith) (omega arith) ∙ one.value_is in
      let last = walk_step w law d (exit_call d) Ecall [] sound_d first.0 (shows_exit d number.value_is) (environment_call-exit d number.value_is) in
      let walk = walk_join b d (exit_call d) 2 4 1 1 [] [] (walk_join b c d 1 3 1 1 [] [] one.walk number.walk) last in
      record {
        after = exit_call d;
        ended = ap (λ n. Ended (n % 256)) status_is;
        output = stays.output;
        errors = stays.errors;
        input = stays.input;
        walk = walk_weaken b (exit_call d) 3 5 1 5 [] (omega arith) (omega arith) walk;
      }

  -- ---- memory

  both_memories : (test : Bool) (v : ℕ) (x y : ℕ) → x ≡ y → cond test v x ≡ cond test v y
  both_memories test v x y same = ap (cond test v) same

  -- bytes below the limit are written on both sides
  pub stays_written : (m : LowState) (b : State) (registers : List ℕ) (at a : ℕ) (bytes : List ℕ) → Stays w m b → length registers ≡ 32 → get_or registers 2 0 ≡ get_or b.registers 2 0 → get_or registers 8 0 ≡ get_or b.registers 8 0 → ((k : ℕ) → get_or registers (18 + k) 0 ≡ get_or b.registers (18 + k) 0) → ((k : ℕ) → get_or bytes k 0 < 2 ^ 8) → ((x : ℕ) → a ≤ x → x < a + length bytes → (w.rights.writable x ≡ true) × (x < m.limit)) → Stays w (record m { memory = with_bytes m.memory a bytes }) (record (placed b registers at) { memory = with_bytes b.memory a bytes })
  unfolding frame_of
  stays_written m b registers at a bytes stays size sp limit homes small may =
      let memory = with_bytes b.memory a bytes in
      let above : (x : ℕ) → m.limit ≤ x → memory x ≡ b.memory x = λ x upper. with_bytes-outside b.memory a bytes x (λ from before. let under = (may x from before).1 in absurd (omega arith)) in
      record {
        sound = sound_stored w law b registers at a bytes stays.sound size small (λ x from before. (may x from before).0);
        memory = λ x lower. both_memories (nat_le a x && nat_lt x (a + length bytes)) (get_or bytes (x - a) 0) (b.memory x) (m.memory x) (stays.memory x lower);
        input = stays.input;
        input_bytes = stays.input_bytes;
        output = stays.output;
        errors = stays.errors;
        limit = limit ∙ stays.limit;
        sp = sp ∙ stays.sp;
        limit_aligned = stays.limit_aligned;
        sp_aligned = stays.sp_aligned;
        holds = holds_same b.memory memory (homes_in b) (homes_in (placed b registers at)) (m.limit + m.room) (routine_in w m.top.routine) m.top.registers (λ x from before. above x (omega arith)) (λ k few within word. homes k) stays.holds;
        below = below_same w b.memory memory (homes_in b) (homes_in (placed b registers at)) m.top.routine m.limit (m.limit + m.room) m.callers (λ x from. above x (omega arith)) (λ k few over word. homes k) stays.below;
      }

  bytes-bounded : (i n v k : ℕ) → get_or (bytes_low_first i n v) k 0 < 2 ^ 8
  bytes-bounded i zero v k = omega arith
  bytes-bounded i (suc n) v zero = byte-bounded i v
    where
      byte-bounded : (i v : ℕ) → byte_at i v < 2 ^ 8
      byte-bounded zero v = omega arith
      byte-bounded (suc i) v = omega arith
  bytes-bounded i (suc n) v (suc k) = bytes-bounded (suc i) n v k

  length_of_store : (op : StoreOp) (v : ℕ) → length (bytes_low_first 0 (store_size_of op) v) ≡ store_size_of op
  length_of_store Sb v = refl
  length_of_store Sh v = refl
  length_of_store Sw v = refl

  pub store_steps : (m : LowState) (b : State) (op : StoreOp) (v base : VirtualRegister) (offset : ℤ) (end : ℕ) → Stays w m b → is_valid_instruction w.low (routine_in w m.top.routine) (Store op v base offset) ≡ true → can_access (usable w.rights.writable m) (offset_from (value m base) offset) (store_size_of op) ≡ true → Stands w.placing m.top.routine b.pc (items_of (routine_in w m.top.routine) (Store op v base offset) ++ code_items (routine_in w m.top.routine) m.top.now) end → Steps w (low_act w.low (placement_of w) (Store op v base offset) m) b 7 []
  unfolding is_valid_instruction imm_fits items_of low_act low_store act store instr_shows
  store_steps m b op v base offset end stays valid can stands =
      let routine = routine_in w m.top.routine in
      let p = operand routine 10 base in
      let q = operand routine 11 v in
      let i = StoreInstr op p q offset in
      let n = store_size_of op in
      let a = offset_from (value m base) offset in
      let bytes = bytes_low_first 0 n (value m v) in
      let whole = split w.placing m.top.routine b.pc (items_of routine (Store op v base offset)) _ end stands in
      let parts = split w.placing m.top.routine b.pc (bring routine 10 base ++ bring routine 11 v) _ whole.middle whole.first in
      let both : (has routine v && has routine base) ≡ true = first_so _ _ valid in
      let two = two_brought w law m b base v parts.middle stays (inside w law m base (second_so (has routine v) _ both)) (inside w law m v (first_so _ _ both)) parts.first in
      let c = placed b two.registers parts.middle in
      let stays_c = stays_placed w law m b two.registers parts.middle stays two.size (two.others 2 (omega arith) (omega arith)) (two.others 8 (omega arith) (omega arith)) (λ k. two.others (18 + k) (omega arith) (omega arith)) in
      let first = plain_first w.placing m.top.routine parts.middle i _ whole.middle parts.second in
      let there = nothing_more w.placing m.top.routine (parts.middle + 4) whole.middle first.1 in
      let may : (x : ℕ) → a ≤ x → x < a + length bytes → (w.rights.writable x ≡ true) × (x < m.limit) = λ x from before. usable_all w.rights.writable m a n (second_so (nat_eq (a % n) 0) _ can) x from (subst (λ k. x < a + k) (length_of_store op (value m v)) before) in
      let can_c : can_access c.rights.writable a n ≡ true = subst (λ rights. can_access rights.writable a n ≡ true) (sym stays_c.sound.rights) (access_of w.rights.writable m a n can) in
      let after : ℕ → ℕ → ℕ → State = λ x y at. record c { memory = with_bytes c.memory (offset_from y offset) (bytes_low_first 0 n x); pc = at } in
      let done = ap (λ y. store op (register c q) (offset_from y offset) c) (register_is c p two.first_some ∙ two.first_is) ∙ ap (λ x. store op x a c) (register_is c q two.second_some ∙ two.second_is) ∙ cond-true (can_access c.rights.writable a n) (after (value m v) (value m base) ((c.pc + 4) % 2 ^ 32)) (faulted StoreFault c) can_c ∙ ap (after (value m v) (value m base)) (advanced_pc w law c i first.0 ∙ there) in
      let one = walk_step w law c (after (value m v) (value m base) whole.middle) i [] stays_c.sound first.0 refl done in
      let stored = stays_written m b two.registers whole.middle a bytes stays two.size (two.others 2 (omega arith) (omega arith)) (two.others 8 (omega arith) (omega arith)) (λ k. two.others (18 + k) (omega arith) (omega arith)) (bytes-bounded 0 n (value m v)) may in
      let steps : Steps w (record m { memory = with_bytes m.memory a bytes }) b 7 [] = record {
        after = after (value m v) (value m base) whole.middle;
        goes = record { stays = stored; ready = record { end = end; stands = whole.second } };
        walk = walk_weaken b (after (value m v) (value m base) whole.middle) 1 7 1 7 [] (omega arith) (omega arith) (walk_join b c (after (value m v) (value m base) whole.middle) 0 6 1 1 [] [] two.walk one);
      } in
      subst (λ s. Steps w s b 7 []) (sym (cond-true (can_access (usable w.rights.writable m) a n) (record m { memory = with_bytes m.memory a bytes }) _ can)) steps
