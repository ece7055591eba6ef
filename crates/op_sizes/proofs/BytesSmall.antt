-- How many bytes of an image low code takes at most: an instruction no more than forty for each unit that it counts for.
use Rattle.std.proofs.Common.{◌≡◌, ◌≤◌, ℕ, zero, suc, ◌+◌, ◌-◌, ◌*◌, ◌%◌, ◌^◌, Bool, true, false, nat_eq, nat_le, nat_lt, List, [], ◌∷◌, ◌++◌, length, map, Option, ap, arith, if◌then◌else◌}
use Rattle.std.proofs.lemmas.List.Concat.{flat_map-cons}
use Rattle.op_low.specs.declared.code.Block.{Block}
use Rattle.op_low.specs.declared.code.Routine.{Routine}
use Rattle.op_low.specs.declared.ids.VirtualRegister.{VirtualRegister}
use Rattle.op_low.specs.declared.instruction.Instruction.{Instruction}
use Rattle.op_low.specs.declared.instruction.Instruction.TheVariants.{Const, Address, Local, Move, Alu, AluImm, Shift, Load, Store, Call, CallAt, Branch, Jump, Return, Raise, Read, Write, Exit}
use Rattle.op_rv.specs.declared.instruction.Instr.{Instr}
use Rattle.op_rv.specs.declared.instruction.Instr.TheVariants.{Alu as AluInstr}
use Rattle.op_rv.specs.declared.objects.Item.{Item}
use Rattle.op_rv.specs.declared.objects.Item.TheVariants.{Plain, Address as AddressItem, Branch as BranchItem, Call as CallItem, CallAt as CallAtItem, Jump as JumpItem}
use Rattle.op_rv.specs.declared.objects.ObjectBlock.{ObjectBlock}
use Rattle.op_rv.specs.declared.objects.ObjectRoutine.{ObjectRoutine}
use Rattle.op_rv.specs.declared.symbol.BlockId.{BlockId}
use Rattle.op_select.specs.Frames.{bring, brought, cleared, cleared_locals, cleared_registers, epilogue, fetch, fresh_words, frame_of, given_back, head_of, home, homes_of, keep, load_home, lowered, operand, passed, passed_in_memory, passed_one, put, put_away, store_home, taken, taken_one}
use Rattle.op_select.specs.Selection.{answered, code_items, computed, descriptor_of, items_of, object_block_of, object_routine_of, target, transfer}
use Rattle.op_select.specs.Sequences.{a0, a1, a2, below, constant, is_near, reach, s0, small, sp, sum, word_load, word_store, ra}
use Rattle.op_select.specs.declared.frame.Home.{Home}
use Rattle.op_select.specs.declared.frame.Home.TheVariants.{Frame, Register}
use Rattle.op_sizes.specs.Weights.{blocks_weight, code_weight, low_weight}

-- ---- items in their longest form

abbrev pub item_bytes : Item → ℕ
item_bytes (Plain i) = 4
item_bytes (AddressItem rd symbol) = 8
item_bytes (BranchItem op left right block) = 12
item_bytes (JumpItem block) = 8
item_bytes (CallItem routine landing) = 8
item_bytes (CallAtItem landing) = 4

abbrev pub items_bytes : List Item → ℕ
items_bytes [] = 0
items_bytes (item ∷ items) = item_bytes item + items_bytes items

abbrev pub blocks_bytes : List ObjectBlock → ℕ
blocks_bytes [] = 0
blocks_bytes (b ∷ bs) = items_bytes b.items + blocks_bytes bs

abbrev pub routine_bytes : ObjectRoutine → ℕ
routine_bytes routine = items_bytes routine.head + blocks_bytes routine.blocks

join : (a b : List Item) → items_bytes (a ++ b) ≡ items_bytes a + items_bytes b
join [] b = omega arith
join (i ∷ a) b = let e = join a b in omega (arith, e)

blocks_join : (a b : List ObjectBlock) → blocks_bytes (a ++ b) ≡ blocks_bytes a + blocks_bytes b
blocks_join [] b = omega arith
blocks_join (x ∷ a) b = let e = blocks_join a b in omega (arith, e)

either : (b : Bool) (x y : List Item) (n : ℕ) → items_bytes x ≤ n → items_bytes y ≤ n → items_bytes (if b then x else y) ≤ n
either true x y n p q = p
either false x y n p q = q

both : (a b : List Item) (n m : ℕ) → items_bytes a ≤ n → items_bytes b ≤ m → items_bytes (a ++ b) ≤ n + m
both a b n m p q = let e = join a b in omega (arith, p, q, e)

behind_one : (i : Instr) (b : List Item) (n : ℕ) → items_bytes b ≤ n → items_bytes (Plain i ∷ b) ≤ 4 + n
behind_one i b n p = omega (arith, p)

-- ---- words at a distance

reach_bytes : (base via w : ℕ) → items_bytes (reach base via w) ≤ 8
unfolding reach
reach_bytes base via w = either (is_near w) [] _ 8 (omega arith) (omega arith)

one_behind : (front : List Item) (i : Instr) → items_bytes front ≤ 8 → items_bytes (front ++ Plain i ∷ []) ≤ 12
one_behind front i few = let e = join front (Plain i ∷ []) in omega (arith, few, e)

sum_bytes : (to base via w : ℕ) → items_bytes (sum to base via w) ≤ 12
unfolding sum
sum_bytes to base via w = one_behind (reach base via w) _ (reach_bytes base via w)

load_bytes : (to base via w : ℕ) → items_bytes (word_load to base via w) ≤ 12
unfolding word_load
load_bytes to base via w = one_behind (reach base via w) _ (reach_bytes base via w)

store_bytes : (value base via w : ℕ) → items_bytes (word_store value base via w) ≤ 12
unfolding word_store
store_bytes value base via w = one_behind (reach base via w) _ (reach_bytes base via w)

constant_bytes : (to w : ℕ) → items_bytes (constant to w) ≤ 8
unfolding constant
constant_bytes to w = either (is_near w) _ _ 8 (omega arith) (omega arith)

-- ---- homes

from_home : (to : ℕ) (h : Home) → items_bytes (load_home to h) ≤ 12
unfolding load_home
from_home to (Register number) = omega arith
from_home to (Frame offset) = load_bytes to sp to offset

to_home : (value : ℕ) (h : Home) → items_bytes (store_home value h) ≤ 12
unfolding store_home
to_home value (Register number) = omega arith
to_home value (Frame offset) = store_bytes value sp ra offset

home_brought : (scratch : ℕ) (h : Home) → items_bytes (brought scratch h) ≤ 12
unfolding brought
home_brought scratch (Register number) = omega arith
home_brought scratch (Frame offset) = load_bytes scratch sp scratch offset

home_put : (h : Home) → items_bytes (put_away h) ≤ 12
unfolding put_away
home_put (Register number) = omega arith
home_put (Frame offset) = store_bytes a0 sp ra offset

module _ (routine : Routine) where
  fetch_bytes : (to : ℕ) (r : VirtualRegister) → items_bytes (fetch routine to r) ≤ 12
  unfolding fetch
  fetch_bytes to r = from_home to (home routine r)

  keep_bytes : (r : VirtualRegister) (value : ℕ) → items_bytes (keep routine r value) ≤ 12
  unfolding keep
  keep_bytes r value = to_home value (home routine r)

  bring_bytes : (scratch : ℕ) (r : VirtualRegister) → items_bytes (bring routine scratch r) ≤ 12
  unfolding bring
  bring_bytes scratch r = home_brought scratch (home routine r)

  put_bytes : (r : VirtualRegister) → items_bytes (put routine r) ≤ 12
  unfolding put
  put_bytes r = home_put (home routine r)

  -- ---- arguments

  memory_bytes : (k : ℕ) (r : VirtualRegister) → items_bytes (passed_in_memory routine k r) ≤ 24
  unfolding passed_in_memory
  memory_bytes k r =
      let b = bring_bytes a0 r in
      let s = store_bytes (operand routine a0 r) sp ra (below ((4 * k + 8) % 2 ^ 32)) in
      let e = join (bring routine a0 r) (word_store (operand routine a0 r) sp ra (below ((4 * k + 8) % 2 ^ 32))) in
      omega (arith, b, s, e)

  one_bytes : (k : ℕ) (r : VirtualRegister) → items_bytes (passed_one routine k r) ≤ 24
  unfolding passed_one
  one_bytes k r =
      let f = fetch_bytes (a0 + k) r in
      either (nat_lt k 8) (fetch routine (a0 + k) r) (passed_in_memory routine k r) 24 (omega (arith, f)) (memory_bytes k r)

  passed_bytes : (k : ℕ) (rs : List VirtualRegister) → items_bytes (passed routine k rs) ≤ 24 * length rs
  unfolding passed
  passed_bytes k [] = omega arith
  passed_bytes k (r ∷ rs) =
      let rest = passed_bytes (k + 1) rs in
      let one = one_bytes k r in
      let e = join (passed routine (k + 1) rs) (passed_one routine k r) in
      omega (arith, rest, one, e)

  answered_bytes : (to : VirtualRegister) (landing : Option BlockId) → items_bytes (answered routine to landing) ≤ 24
  unfolding answered
  answered_bytes to landing = let k = keep_bytes to a0 in omega (arith, k)

  -- ---- beginning and end of a routine

  one_taken : (k : ℕ) → items_bytes (taken_one routine k) ≤ 12
  unfolding taken_one
  one_taken k = either (nat_le routine.parameters k) _ _ 12 (omega arith) (either (nat_lt k 8) _ _ 12 (omega arith) (omega arith))

  all_taken : (n : ℕ) → items_bytes (taken routine n) ≤ 12 * n
  unfolding taken
  all_taken zero = omega arith
  all_taken (suc n) =
      let rest = all_taken n in
      let one = one_taken n in
      let e = join (taken routine n) (taken_one routine n) in
      omega (arith, rest, one, e)

  all_back : (n : ℕ) → items_bytes (given_back n) ≤ 4 * n
  unfolding given_back
  all_back zero = omega arith
  all_back (suc n) = back_more n (given_back n) _ (all_back n)
    where
      back_more : (n : ℕ) (front : List Item) (i : Instr) → items_bytes front ≤ 4 * n → items_bytes (front ++ Plain i ∷ []) ≤ 4 * suc n
      back_more n front i less = let e = join front (Plain i ∷ []) in omega (arith, less, e)

  few_homes : homes_of routine ≤ 14
  few_homes = omega arith

  registers_bytes : items_bytes (cleared_registers routine) ≤ 28
  unfolding cleared_registers
  registers_bytes =
      let s = sum_bytes a1 sp a1 (4 * fresh_words routine) in
      let e = join (sum a1 sp a1 (4 * fresh_words routine)) (cleared a0 a1) in
      either (nat_eq (fresh_words routine) 0) [] _ 28 (omega arith) (omega (arith, s, e))

  locals_bytes : items_bytes (cleared_locals routine) ≤ 28
  unfolding cleared_locals
  locals_bytes =
      let s = sum_bytes s0 s0 a1 routine.locals in
      let e = join (sum s0 s0 a1 routine.locals) (cleared a0 s0) in
      either (nat_eq routine.locals 0) [] _ 28 (omega arith) (omega (arith, s, e))

  head_bytes : items_bytes (head_of routine) ≤ 240
  unfolding head_of
  head_bytes =
      let few = few_homes in
      let takes = all_taken (homes_of routine) in
      let s = sum_bytes sp sp ra (below (frame_of routine)) in
      let r = registers_bytes in
      let l = locals_bytes in
      let one = join (taken routine (homes_of routine) ++ sum sp sp ra (below (frame_of routine)) ++ cleared_registers routine) (cleared_locals routine) in
      let two = join (taken routine (homes_of routine) ++ sum sp sp ra (below (frame_of routine))) (cleared_registers routine) in
      let three = join (taken routine (homes_of routine)) (sum sp sp ra (below (frame_of routine))) in
      omega (arith, few, takes, s, r, l, one, two, three)

  lowered_bytes : items_bytes (lowered routine) ≤ 12
  unfolding lowered
  lowered_bytes = either (nat_eq routine.locals 0) [] _ 12 (omega arith) (sum_bytes s0 s0 ra (below routine.locals))

  epilogue_bytes : items_bytes (epilogue routine) ≤ 88
  unfolding epilogue
  epilogue_bytes =
      let few = few_homes in
      let b = all_back (homes_of routine) in
      both _ _ 80 8 (both _ _ 24 56 (both _ _ 12 12 lowered_bytes (sum_bytes sp sp ra (frame_of routine))) (omega (arith, few, b))) (omega arith)

  -- ---- instructions

  computed_bytes : (from : VirtualRegister) (i : Instr) (to : VirtualRegister) → items_bytes (computed routine from i to) ≤ 40
  computed_bytes from i to =
      let b = bring_bytes a0 from in
      let p = put_bytes to in
      let e = join (bring routine a0 from) (Plain i ∷ put routine to) in
      omega (arith, b, p, e)

  transfer_bytes : (buffer size : VirtualRegister) (descriptor number : ℕ) → items_bytes (transfer routine buffer size descriptor number) ≤ 36
  transfer_bytes buffer size descriptor number =
      both _ _ 32 4 (both _ _ 28 4 (both _ _ 24 4 (both _ _ 12 12 (fetch_bytes a1 buffer) (fetch_bytes a2 size)) (omega arith)) (omega arith)) (omega arith)

  instruction_bytes : (i : Instruction) → items_bytes (items_of routine i) ≤ 40 * low_weight i
  unfolding items_of
  instruction_bytes (Const to n) =
      let c = constant_bytes (target routine to) n in
      let p = put_bytes to in
      let e = join (constant (target routine to) n) (put routine to) in
      omega (arith, c, p, e)
  instruction_bytes (Address to symbol) = let p = put_bytes to in omega (arith, p)
  instruction_bytes (Local to offset) =
      let s = sum_bytes (target routine to) s0 (target routine to) (below (routine.locals - offset)) in
      let p = put_bytes to in
      let e = join (sum (target routine to) s0 (target routine to) (below (routine.locals - offset))) (put routine to) in
      omega (arith, s, p, e)
  instruction_bytes (Move to from) =
      let f = fetch_bytes (target routine to) from in
      let p = put_bytes to in
      let e = join (fetch routine (target routine to) from) (put routine to) in
      omega (arith, f, p, e)
  instruction_bytes (Alu op to left right) = both _ _ 24 16 (both _ _ 12 12 (bring_bytes a0 left) (bring_bytes a1 right)) (behind_one (AluInstr op (target routine to) (operand routine a0 left) (operand routine a1 right)) (put routine to) 12 (put_bytes to))
  instruction_bytes (AluImm op to left imm) = computed_bytes left _ to
  instruction_bytes (Shift op to left amount) = computed_bytes left _ to
  instruction_bytes (Load op to base offset) = computed_bytes base _ to
  instruction_bytes (Store op value base offset) = both _ _ 24 16 (both _ _ 12 12 (bring_bytes a0 base) (bring_bytes a1 value)) (omega arith)
  instruction_bytes (Call id call) =
      let a = passed_bytes 0 call.arguments in
      let k = answered_bytes call.to call.landing in
      let e = join (passed routine 0 call.arguments) (CallItem id call.landing ∷ answered routine call.to call.landing) in
      omega (arith, a, k, e)
  instruction_bytes (CallAt address call) =
      let a = passed_bytes 0 call.arguments in
      let f = fetch_bytes ra address in
      let k = answered_bytes call.to call.landing in
      let one = join (passed routine 0 call.arguments ++ fetch routine ra address) (CallAtItem call.landing ∷ answered routine call.to call.landing) in
      let two = join (passed routine 0 call.arguments) (fetch routine ra address) in
      omega (arith, a, f, k, one, two)
  instruction_bytes (Branch op left right block) = both _ _ 24 16 (both _ _ 12 12 (bring_bytes a0 left) (bring_bytes a1 right)) (omega arith)
  instruction_bytes (Jump block) = omega arith
  instruction_bytes (Return value) =
      let f = fetch_bytes a0 value in
      let l = epilogue_bytes in
      let one = join (fetch routine a0 value ++ small a1 0) (epilogue routine) in
      let two = join (fetch routine a0 value) (small a1 0) in
      omega (arith, f, l, one, two)
  instruction_bytes Raise = let l = epilogue_bytes in omega (arith, l)
  instruction_bytes (Read to buffer size) =
      let t = transfer_bytes buffer size 0 63 in
      let k = keep_bytes to a0 in
      let e = join (transfer routine buffer size 0 63) (keep routine to a0) in
      omega (arith, t, k, e)
  instruction_bytes (Write output buffer size) = let t = transfer_bytes buffer size (descriptor_of output) 64 in omega (arith, t)
  instruction_bytes (Exit status) = both _ _ 36 4 (both _ _ 12 24 (fetch_bytes a0 status) (omega arith)) (omega arith)

  -- ---- blocks and routines

  code_bytes : (code : List Instruction) → items_bytes (code_items routine code) ≤ 40 * code_weight code
  unfolding code_items
  code_bytes [] = omega arith
  code_bytes (i ∷ is) =
      let first = instruction_bytes i in
      let rest = code_bytes is in
      let split = ap items_bytes (flat_map-cons (items_of routine) i is) in
      let e = join (items_of routine i) (code_items routine is) in
      omega (arith, first, rest, split, e)

  all_bytes : (bs : List Block) → blocks_bytes (map (object_block_of routine) bs) ≤ 40 * blocks_weight bs
  unfolding object_block_of
  all_bytes [] = omega arith
  all_bytes (b ∷ bs) = let first = code_bytes b.code in let rest = all_bytes bs in omega (arith, first, rest)

  raise_bytes : items_bytes (items_of routine Raise) ≤ 92
  unfolding items_of
  raise_bytes = let l = epilogue_bytes in omega (arith, l)

object_blocks : (bs : List ObjectBlock) (last : ObjectBlock) (n : ℕ) → blocks_bytes bs ≤ n → items_bytes last.items ≤ 92 → blocks_bytes (bs ++ last ∷ []) ≤ 92 + n
object_blocks bs last n few less = let e = blocks_join bs (last ∷ []) in omega (arith, few, less, e)

-- the head and the block that raises come to the rest
pub object_bytes : (routine : Routine) → routine_bytes (object_routine_of routine) ≤ 332 + 40 * blocks_weight routine.blocks
unfolding object_routine_of
object_bytes routine =
    let h = head_bytes routine in
    let r = raise_bytes routine in
    let b = object_blocks (map (object_block_of routine) routine.blocks) (record { items = items_of routine Raise }) (40 * blocks_weight routine.blocks) (all_bytes routine routine.blocks) r in
    omega (arith, h, b)
