-- Transfers and choices, near and far; where blocks stand.
use Rattle.std.proofs.Common.{◌≡◌, ◌≢◌, ℕ, ℤ, zero, suc, ◌+◌, ◌*◌, ◌/◌, ◌%◌, ◌^◌, ◌<◌, Bool, true, false, not, cond, nat_eq, nat_lt, int_lt, Option, Some, None, List, [], ◌∷◌, ◌++◌, length, map, option_map, get_or, set, slice_get, refl, ap, ap₂, sym, subst, ◌∙◌, arith}
use Rattle.std.proofs.lemmas.Bool.{cond-false, cond-true}
use Rattle.std.proofs.lemmas.List.{get_or-set_same, get_or-set_other, length-set}
use Rattle.op_base.proofs.Lists.{stays_front}
use Rattle.op_base.proofs.Tests.{twice_not}
use Rattle.op_low.specs.State.{routine_or, block_of, code_or}
use Rattle.op_low.specs.declared.code.Block.{Block}
use Rattle.op_low.specs.declared.code.Routine.{Routine}
use Rattle.op_low.specs.declared.instruction.Instruction.TheVariants.{Raise}
use Rattle.op_rv.specs.Operation.{word_from, signed, branch_taken}
use Rattle.op_rv.specs.State.{State, register, advanced}
use Rattle.op_rv.specs.Step.{act, offset_from}
use Rattle.op_rv.specs.declared.instruction.BranchOp.{BranchOp}
use Rattle.op_rv.specs.declared.instruction.BranchOp.TheVariants.{Beq, Bne, Blt, Bge, Bltu, Bgeu}
use Rattle.op_rv.specs.declared.instruction.Instr.{Instr}
use Rattle.op_rv.specs.declared.instruction.Instr.TheVariants.{Lui, Jal, Jalr, Branch}
use Rattle.op_select.specs.Going.{Setting, IsSetting, routine_in, Sound}
use Rattle.op_select.specs.Placing.{Stands, Nothing, StandsFrom, StandsHere, Transfer, Near, Far, Choice, Direct, Over, opposite, joined, past}
use Rattle.op_select.specs.Frames.{head_of}
use Rattle.op_select.specs.RiscvMachine.{instr_shows}
use Rattle.op_select.specs.Selection.{items_of, code_items, object_block_of, object_routine_of, select_of}
use Rattle.op_select.proofs.Walks.{Walk, walk_join, walk_weaken, walk_step, advanced_pc, placed, sound_placed, becomes}

-- the code goes on at an address; ra may have changed
pub record Moved (b : State) (at most : ℕ) : Type 0 where
  pub registers : List ℕ
  pub size : length registers ≡ 32
  pub others : (q : ℕ) → q ≢ 1 → get_or registers q 0 ≡ get_or b.registers q 0
  pub walk : Walk b (placed b registers at) 1 most []

-- and ra has become an address
pub record Linked (b : State) (at back most : ℕ) : Type 0 where
  pub registers : List ℕ
  pub size : length registers ≡ 32
  pub back_is : get_or registers 1 0 ≡ back
  pub others : (q : ℕ) → q ≢ 1 → get_or registers q 0 ≡ get_or b.registers q 0
  pub walk : Walk b (placed b registers at) 1 most []

pub opposite_taken : (op : BranchOp) (a b : ℕ) → branch_taken (opposite op) a b ≡ not (branch_taken op a b)
opposite_taken Beq a b = refl
opposite_taken Bne a b = twice_not (nat_eq a b)
opposite_taken Blt a b = refl
opposite_taken Bge a b = twice_not (int_lt (signed a) (signed b))
opposite_taken Bltu a b = refl
opposite_taken Bgeu a b = twice_not (nat_lt a b)

module _ (w : Setting) (law : IsSetting w) where
  pub jumps : (b : State) (target : ℕ) (is : List Instr) → Sound w b → Transfer target 0 b.pc is → StandsHere w.placing b.pc is → Moved b target 2
  unfolding StandsHere act instr_shows joined
  jumps b target is sound (Near offset there lists) here =
      let here' = subst (StandsHere w.placing b.pc) lists here in
      record {
        registers = b.registers;
        size = sound.size;
        others = λ q other. refl;
        walk = walk_weaken b (placed b b.registers target) 1 1 1 2 [] (omega arith) (omega arith) (walk_step w law b (placed b b.registers target) (Jal 0 offset) [] sound here'.0 refl (ap (placed b b.registers) there));
      }
  jumps b target is sound (Far upper lower joins lists) here =
      let here' = subst (StandsHere w.placing b.pc) lists here in
      let lui = becomes w law b (Lui 1 upper) 1 (upper * 2 ^ 12) sound here'.0 (omega arith) (omega arith) refl refl in
      let c = placed b lui.registers (b.pc + 4) in
      let sound_c = sound_placed w law b lui.registers (b.pc + 4) sound lui.size in
      let there : (register c 1 + word_from lower) % 2 ^ 32 / 2 * 2 ≡ target = ap (λ n. (n + word_from lower) % 2 ^ 32 / 2 * 2) lui.value_is ∙ joins in
      let one = walk_step w law c (placed b lui.registers target) (Jalr 0 1 lower) [] sound_c here'.1.0 refl (ap (placed b lui.registers) there) in
      record {
        registers = lui.registers;
        size = lui.size;
        others = λ q other. lui.others q other other;
        walk = walk_weaken b (placed b lui.registers target) 2 2 1 2 [] (omega arith) (omega arith) (walk_join b c (placed b lui.registers target) 1 1 1 1 [] [] lui.walk one);
      }

  pub links : (b : State) (target : ℕ) (is : List Instr) → Sound w b → Transfer target 1 b.pc is → StandsHere w.placing b.pc is → Linked b target (past b.pc is) 2
  unfolding StandsHere act instr_shows joined past
  links b target is sound (Near offset there lists) here =
      let size = sound.size in
      let here' = subst (StandsHere w.placing b.pc) lists here in
      let back = b.pc + 4 in
      let registers = set b.registers 1 back in
      let goes : placed b (set b.registers 1 ((b.pc + 4) % 2 ^ 32)) (offset_from b.pc offset) ≡ placed b registers target = ap₂ (λ n t. placed b (set b.registers 1 n) t) (advanced_pc w law b (Jal 1 offset) here'.0) there in
      let past_is : past b.pc is ≡ back = ap (past b.pc) lists in
      record {
        registers = registers;
        size = length-set b.registers 1 back ∙ size;
        back_is = get_or-set_same b.registers 1 back 0 (omega arith) ∙ sym past_is;
        others = λ q other. get_or-set_other b.registers 1 q back 0 other;
        walk = walk_weaken b (placed b registers target) 1 1 1 2 [] (omega arith) (omega arith) (walk_step w law b (placed b registers target) (Jal 1 offset) [] sound here'.0 refl goes);
      }
  links b target is sound (Far upper lower joins lists) here =
      let here' = subst (StandsHere w.placing b.pc) lists here in
      let lui = becomes w law b (Lui 1 upper) 1 (upper * 2 ^ 12) sound here'.0 (omega arith) (omega arith) refl refl in
      let c = placed b lui.registers (b.pc + 4) in
      let sound_c = sound_placed w law b lui.registers (b.pc + 4) sound lui.size in
      let size = lui.size in
      let back = b.pc + 4 + 4 in
      let registers = set lui.registers 1 back in
      let there : (register c 1 + word_from lower) % 2 ^ 32 / 2 * 2 ≡ target = ap (λ n. (n + word_from lower) % 2 ^ 32 / 2 * 2) lui.value_is ∙ joins in
      let goes : placed b (set lui.registers 1 ((c.pc + 4) % 2 ^ 32)) ((register c 1 + word_from lower) % 2 ^ 32 / 2 * 2) ≡ placed b registers target = ap₂ (λ n t. placed b (set lui.registers 1 n) t) (advanced_pc w law c (Jalr 1 1 lower) here'.1.0) there in
      let one = walk_step w law c (placed b registers target) (Jalr 1 1 lower) [] sound_c here'.1.0 refl goes in
      let past_is : past b.pc is ≡ back = ap (past b.pc) lists in
      record {
        registers = registers;
        size = length-set lui.registers 1 back ∙ size;
        back_is = get_or-set_same lui.registers 1 back 0 (omega arith) ∙ sym past_is;
        others = λ q other. get_or-set_other lui.registers 1 q back 0 other ∙ lui.others q other other;
        walk = walk_weaken b (placed b registers target) 2 2 1 2 [] (omega arith) (omega arith) (walk_join b c (placed b registers target) 1 1 1 1 [] [] lui.walk one);
      }

  -- one branch
  pub branches : (b : State) (op : BranchOp) (left right : ℕ) (offset : ℤ) (taken : Bool) → Sound w b → branch_taken op (register b left) (register b right) ≡ taken → w.placing.code b.pc ≡ Some (Branch op left right offset) → Walk b (placed b b.registers (cond taken (offset_from b.pc offset) (b.pc + 4))) 1 1 []
  unfolding act instr_shows
  branches b op left right offset true sound is stands =
      walk_step w law b (placed b b.registers (offset_from b.pc offset)) (Branch op left right offset) [] sound stands refl (cond-true (branch_taken op (register b left) (register b right)) (placed b b.registers (offset_from b.pc offset)) (advanced b) is)
  branches b op left right offset false sound is stands =
      walk_step w law b (placed b b.registers (b.pc + 4)) (Branch op left right offset) [] sound stands refl (cond-false (branch_taken op (register b left) (register b right)) (placed b b.registers (offset_from b.pc offset)) (advanced b) is ∙ ap (placed b b.registers) (advanced_pc w law b (Branch op left right offset) stands))

  pub chooses : (b : State) (target : ℕ) (op : BranchOp) (left right : ℕ) (is : List Instr) (taken : Bool) → Sound w b → branch_taken op (register b left) (register b right) ≡ taken → Choice target op left right b.pc is → StandsHere w.placing b.pc is → Moved b (cond taken target (past b.pc is)) 3
  unfolding StandsHere past
  chooses b target op left right is taken sound tells (Direct offset there lists) here =
      let here' = subst (StandsHere w.placing b.pc) lists here in
      let past_is : b.pc + 4 ≡ past b.pc is = sym (ap (past b.pc) lists) in
      let one = branches b op left right offset taken sound tells here'.0 in
      let at : cond taken (offset_from b.pc offset) (b.pc + 4) ≡ cond taken target (past b.pc is) = ap₂ (λ x y. cond taken x y) there past_is in
      record {
        registers = b.registers;
        size = sound.size;
        others = λ q other. refl;
        walk = walk_weaken b (placed b b.registers (cond taken target (past b.pc is))) 1 1 1 3 [] (omega arith) (omega arith) (subst (λ n. Walk b (placed b b.registers n) 1 1 []) at one);
      }
  chooses b target op left right is true sound tells (Over js offset transfer skips lists) here =
      let here' = subst (StandsHere w.placing b.pc) lists here in
      let against = opposite_taken op (register b left) (register b right) ∙ ap not tells in
      let one = branches b (opposite op) left right offset false sound against here'.0 in
      let c = placed b b.registers (b.pc + 4) in
      let jump = jumps c target js (sound_placed w law b b.registers (b.pc + 4) sound sound.size) transfer here'.1 in
      record {
        registers = jump.registers;
        size = jump.size;
        others = jump.others;
        walk = walk_weaken b (placed b jump.registers target) 2 3 1 3 [] (omega arith) (omega arith) (walk_join b c (placed b jump.registers target) 1 1 1 2 [] [] one jump.walk);
      }
  chooses b target op left right is false sound tells (Over js offset transfer skips lists) here =
      let here' = subst (StandsHere w.placing b.pc) lists here in
      let past_is : past (b.pc + 4) js ≡ past b.pc is = sym (ap (past b.pc) lists) in
      let against = opposite_taken op (register b left) (register b right) ∙ ap not tells in
      let one = branches b (opposite op) left right offset true sound against here'.0 in
      record {
        registers = b.registers;
        size = sound.size;
        others = λ q other. refl;
        walk = walk_weaken b (placed b b.registers (past b.pc is)) 1 1 1 3 [] (omega arith) (omega arith) (subst (λ n. Walk b (placed b b.registers n) 1 1 []) (skips ∙ past_is) one);
      }

-- ---- where blocks stand

map_at : {A B : Type 0} (f : A → B) (xs : List A) (i : ℕ) (x : A) → slice_get xs i ≡ Some x → slice_get (map f xs) i ≡ Some (f x)
map_at f [] i x is = absurd cc
map_at f (y ∷ ys) zero x is = ap (option_map f) is
map_at f (y ∷ ys) (suc i) x is = map_at f ys i x is

end_at : {A B : Type 0} (f : A → B) (xs : List A) (y : B) → slice_get (map f xs ++ y ∷ []) (length xs) ≡ Some y
end_at f [] y = refl
end_at f (x ∷ xs) y = end_at f xs y

block_stands_in : (w : Setting) (r b : ℕ) (routine : Routine) (o : Option Block) → IsSetting w → slice_get w.low.routines r ≡ Some routine → slice_get routine.blocks b ≡ o → StandsFrom w.placing r (w.placing.block r b) (code_items routine (code_or o))
unfolding select_of object_routine_of object_block_of code_items
block_stands_in w r b routine None law is block = record { end = w.placing.block r b; stands = Nothing refl }
block_stands_in w r b routine (Some x) law is block =
    let whole = law.objects.routines r (object_routine_of routine) (map_at object_routine_of w.low.routines r routine is) in
    whole.blocks b (object_block_of routine x) (stays_front (map (object_block_of routine) routine.blocks) _ b (object_block_of routine x) (map_at (object_block_of routine) routine.blocks b x block))

block_stands_by : (w : Setting) (r b : ℕ) (o : Option Routine) → IsSetting w → slice_get w.low.routines r ≡ o → StandsFrom w.placing r (w.placing.block r b) (code_items (routine_or o) (code_or (slice_get (routine_or o).blocks b)))
unfolding code_items
block_stands_by w r b None law is = record { end = w.placing.block r b; stands = Nothing refl }
block_stands_by w r b (Some routine) law is = block_stands_in w r b routine (slice_get routine.blocks b) law is refl

-- a block, of any numbers
pub block_stands : (w : Setting) (r b : ℕ) → IsSetting w → StandsFrom w.placing r (w.placing.block r b) (code_items (routine_in w r) (block_of w.low r b))
block_stands w r b law = block_stands_by w r b (slice_get w.low.routines r) law refl

-- a routine that exists
pub routine_found : (xs : List Routine) (r : ℕ) → r < length xs → slice_get xs r ≡ Some (routine_or (slice_get xs r))
routine_found [] r within = absurd (omega arith)
routine_found (x ∷ xs) zero within = refl
routine_found (x ∷ xs) (suc r) within = routine_found xs r (omega arith)

-- the block that raises
pub stub_stands : (w : Setting) (r : ℕ) → IsSetting w → r < length w.low.routines → StandsFrom w.placing r (w.placing.block r (length (routine_in w r).blocks)) (items_of (routine_in w r) Raise)
unfolding select_of object_routine_of
stub_stands w r law within =
    let routine = routine_in w r in
    let found = routine_found w.low.routines r within in
    let whole = law.objects.routines r (object_routine_of routine) (map_at object_routine_of w.low.routines r routine found) in
    whole.blocks (length routine.blocks) (record { items = items_of routine Raise }) (end_at (object_block_of routine) routine.blocks (record { items = items_of routine Raise }))

-- the head of a routine, which runs into its block 0
pub head_stands : (w : Setting) (r : ℕ) → IsSetting w → r < length w.low.routines → Stands w.placing r (w.placing.head r) (head_of (routine_in w r)) (w.placing.block r 0)
unfolding select_of object_routine_of
head_stands w r law within =
    let routine = routine_in w r in
    let found = routine_found w.low.routines r within in
    (law.objects.routines r (object_routine_of routine) (map_at object_routine_of w.low.routines r routine found)).head
