-- Blocks of valid code have items, so there are no more blocks than items.
use Rattle.std.proofs.Common.{◌≡◌, ℕ, pos, ◌-ℤ◌, min, zero, suc, ◌+◌, ◌-◌, ◌*◌, ◌<◌, ◌≤◌, Bool, true, false, if◌then◌else◌, nat_lt, Some, List, [], ◌∷◌, ◌++◌, length, map, slice_get, subst, arith, length-append}
use Rattle.std.proofs.lemmas.Bool.{and_parts}
use Rattle.std.proofs.lemmas.List.Sums.{sum_by-append, sum_by-cons}
use Rattle.std.specs.List.{list_all}
use Rattle.op_link.proofs.Lengths.{some_same}
use Rattle.op_link.specs.Placing.{items_in_blocks, items_in_routine, items_in_routines}
use Rattle.op_low.specs.Valid.{is_valid_block, is_valid_instruction, is_valid_routine, leaves_if}
use Rattle.op_low.specs.declared.code.Block.{Block}
use Rattle.op_low.specs.declared.code.Low.{Low}
use Rattle.op_low.specs.declared.code.Routine.{Routine}
use Rattle.op_low.specs.declared.ids.VirtualRegister.{VirtualRegister}
use Rattle.op_low.specs.declared.instruction.Instruction.{Instruction}
use Rattle.op_low.specs.declared.instruction.Instruction.TheVariants.{Const, Address, Local, Move, Alu, AluImm, Shift, Load, Store, Call, CallAt, Branch, Jump, Return, Raise, Read, Write, Exit}
use Rattle.op_rv.specs.declared.instruction.ImmOp.TheVariants.{Addi}
use Rattle.op_rv.specs.declared.instruction.Instr.TheVariants.{Imm, Lui, Store as StoreInstr}
use Rattle.op_rv.specs.declared.instruction.StoreOp.TheVariants.{Sw}
use Rattle.op_rv.specs.declared.objects.Item.{Item}
use Rattle.op_rv.specs.declared.objects.Item.TheVariants.{Plain}
use Rattle.op_rv.specs.declared.objects.ObjectBlock.{ObjectBlock}
use Rattle.op_rv.specs.declared.objects.ObjectRoutine.{ObjectRoutine}
use Rattle.op_select.specs.Frames.{cleared_locals, cleared_registers, epilogue, fetch, frame_of, head_of, home, keep, load_home, operand, put, taken}
use Rattle.op_select.specs.Selection.{answered, code_items, items_of, object_block_of, object_routine_of}
use Rattle.op_select.specs.Sequences.{below, constant, is_near, lower_of, reach, sum, upper_of, word_load}
use Rattle.op_select.specs.declared.frame.Home.TheVariants.{Frame, Register}

-- ---- lists that are not empty

record Some_of (items : List Item) : Type 0 where
  some : 1 ≤ length items

first_of : (i : Item) (items : List Item) → Some_of (i ∷ items)
first_of i items = record { some = omega arith }

behind_some : (xs ys : List Item) → Some_of ys → Some_of (xs ++ ys)
behind_some xs ys more =
    let long = length-append xs ys in
    let one = more.some in
    record { some = omega arith }

before_some : (xs ys : List Item) → Some_of xs → Some_of (xs ++ ys)
before_some xs ys more =
    let long = length-append xs ys in
    let one = more.some in
    record { some = omega arith }

constant_some : (to n : ℕ) → Some_of (constant to n)
unfolding constant
constant_some to n = by_size (is_near n)
  where
    by_size : (b : Bool) → Some_of (if b then Plain (Imm Addi to 0 (lower_of n)) ∷ [] else Plain (Lui to (upper_of n)) ∷ Plain (Imm Addi to to (lower_of n)) ∷ [])
    by_size true = first_of _ _
    by_size false = first_of _ _

sum_some : (to base via n : ℕ) → Some_of (sum to base via n)
unfolding sum
sum_some to base via n = behind_some (reach base via n) (_ ∷ []) (first_of _ [])

fetch_some : (routine : Routine) (to : ℕ) (r : VirtualRegister) → Some_of (fetch routine to r)
unfolding fetch home load_home word_load
fetch_some routine to r = by_home (nat_lt r.0 14)
  where
    by_home : (b : Bool) → Some_of (load_home to (if b then Register (18 + r.0) else Frame (4 * (routine.registers - 1 - r.0))))
    by_home true = first_of _ _
    by_home false = behind_some _ (_ ∷ []) (first_of _ [])

epilogue_some : (routine : Routine) → Some_of (epilogue routine)
unfolding epilogue
epilogue_some routine = behind_some _ (_ ∷ _ ∷ []) (first_of _ (_ ∷ []))

items_some : (routine : Routine) (i : Instruction) → Some_of (items_of routine i)
unfolding items_of answered
items_some routine (Const to n) = before_some (constant (operand routine 10 to) n) _ (constant_some (operand routine 10 to) n)
items_some routine (Address to symbol) = first_of _ _
items_some routine (Local to offset) = before_some (sum (operand routine 10 to) 8 (operand routine 10 to) _) _ (sum_some (operand routine 10 to) 8 (operand routine 10 to) _)
items_some routine (Move to from) = before_some (fetch routine (operand routine 10 to) from) _ (fetch_some routine (operand routine 10 to) from)
items_some routine (Alu op to left right) = behind_some _ (_ ∷ put routine to) (first_of _ _)
items_some routine (AluImm op to left imm) = behind_some _ (_ ∷ put routine to) (first_of _ _)
items_some routine (Shift op to left amount) = behind_some _ (_ ∷ put routine to) (first_of _ _)
items_some routine (Load op to base offset) = behind_some _ (_ ∷ put routine to) (first_of _ _)
items_some routine (Store op value base offset) = behind_some _ (_ ∷ []) (first_of _ [])
items_some routine (Call id call) = behind_some _ (_ ∷ answered routine call.to call.landing) (first_of _ _)
items_some routine (CallAt address call) = behind_some _ (_ ∷ answered routine call.to call.landing) (first_of _ _)
items_some routine (Branch op left right block) = behind_some _ (_ ∷ []) (first_of _ [])
items_some routine (Jump block) = first_of _ _
items_some routine (Return value) = behind_some _ (epilogue routine) (epilogue_some routine)
items_some routine Raise = behind_some (Plain (Imm Addi 11 0 (pos 1)) ∷ []) (epilogue routine) (epilogue_some routine)
items_some routine (Read to buffer size) = before_some _ (keep routine to 10) (behind_some _ (_ ∷ []) (first_of _ []))
items_some routine (Write output buffer size) = behind_some _ (_ ∷ []) (first_of _ [])
items_some routine (Exit status) = behind_some _ (_ ∷ []) (first_of _ [])

head_some : (routine : Routine) → Some_of (head_of routine)
unfolding head_of
head_some routine =
    before_some _ (cleared_locals routine) (before_some _ (cleared_registers routine) (before_some _ (sum 2 2 1 (below (frame_of routine))) (first_of (Plain (StoreInstr Sw 2 1 (pos 0 -ℤ pos 4))) (taken routine (min routine.registers 14)))))

-- ---- blocks

code_some : (routine : Routine) (code : List Instruction) → leaves_if (slice_get code (length code - 1)) ≡ true → Some_of (code_items routine code)
unfolding code_items
code_some routine [] valid = absurd cc
code_some routine (i ∷ is) valid = before_some (items_of routine i) _ (items_some routine i)

blocks_counted : (low : Low) (routine : Routine) (blocks : List Block) → list_all (is_valid_block low routine) blocks ≡ true → length blocks ≤ items_in_blocks (map (object_block_of routine) blocks)
unfolding is_valid_block object_block_of
blocks_counted low routine [] valid = omega arith
blocks_counted low routine (block ∷ blocks) valid =
    let parts = and_parts _ (list_all (is_valid_block low routine) blocks) valid in
    let here = and_parts (leaves_if (slice_get block.code (length block.code - 1))) (list_all (is_valid_instruction low routine) block.code) parts.0 in
    let one = (code_some routine block.code here.0).some in
    let rest = blocks_counted low routine blocks parts.1 in
    let count = sum_by-cons (λ (block : ObjectBlock). length block.items) (object_block_of routine block) (map (object_block_of routine) blocks) in
    omega arith

-- a routine has more items than blocks
routine_counted : (low : Low) (routine : Routine) → is_valid_routine low routine ≡ true → length routine.blocks + 1 ≤ items_in_routine (object_routine_of routine)
unfolding is_valid_routine object_routine_of
routine_counted low routine valid =
    let parts = and_parts _ (list_all (is_valid_block low routine) routine.blocks) valid in
    let own = map (object_block_of routine) routine.blocks in
    let last : List ObjectBlock = record { items = items_of routine Raise } ∷ [] in
    let count = sum_by-append (λ (block : ObjectBlock). length block.items) own last in
    let more = blocks_counted low routine routine.blocks parts.1 in
    let head = (head_some routine).some in
    omega arith

pub routines_counted : (low : Low) (routines : List Routine) (k : ℕ) (routine : Routine) → list_all (is_valid_routine low) routines ≡ true → slice_get routines k ≡ Some routine → length routine.blocks ≤ items_in_routines (map object_routine_of routines)
routines_counted low [] k routine valid is = absurd cc
routines_counted low (first ∷ routines) zero routine valid is =
    let parts = and_parts (is_valid_routine low first) (list_all (is_valid_routine low) routines) valid in
    let here = routine_counted low first parts.0 in
    let count = sum_by-cons items_in_routine (object_routine_of first) (map object_routine_of routines) in
    subst (λ (routine : Routine). length routine.blocks ≤ items_in_routines (map object_routine_of (first ∷ routines))) (some_same first routine is) (omega arith)
routines_counted low (first ∷ routines) (suc k) routine valid is =
    let parts = and_parts (is_valid_routine low first) (list_all (is_valid_routine low) routines) valid in
    let more = routines_counted low routines k routine parts.1 is in
    let count = sum_by-cons items_in_routine (object_routine_of first) (map object_routine_of routines) in
    omega arith

-- the objects of a routine have a block, and an item
pub record HasItems (routine : ObjectRoutine) : Type 0 where
  pub blocks : 0 < length routine.blocks
  pub items : 0 < items_in_routine routine

one_has_items : (routine : Routine) → HasItems (object_routine_of routine)
unfolding object_routine_of
one_has_items routine =
    let own = map (object_block_of routine) routine.blocks in
    let last : List ObjectBlock = record { items = items_of routine Raise } ∷ [] in
    let long = length-append own last in
    let head = (head_some routine).some in
    record { blocks = omega arith; items = omega arith }

pub have_items : (routines : List Routine) (k : ℕ) (routine : ObjectRoutine) → slice_get (map object_routine_of routines) k ≡ Some routine → HasItems routine
have_items [] k routine is = absurd cc
have_items (first ∷ routines) zero routine is = subst HasItems (some_same (object_routine_of first) routine is) (one_has_items first)
have_items (first ∷ routines) (suc k) routine is = have_items routines k routine is
