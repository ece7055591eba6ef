-- The code ends where its placement says.
use Rattle.std.proofs.Common.{◌≡◌, ℕ, pos, suc, ◌+◌, ◌*◌, Option, Some, None, List, [], ◌∷◌, ◌++◌, length, refl, subst, arith, length-append}
use Rattle.std.specs.Option.{option_map}
use Rattle.op_layout.specs.declared.layout.Layout.{Layout}
use Rattle.op_rv.specs.declared.instruction.BranchOp.{BranchOp}
use Rattle.op_rv.specs.declared.instruction.Instr.{Instr}
use Rattle.op_rv.specs.declared.instruction.Instr.TheVariants.{Branch as BranchTo, Jalr}
use Rattle.op_rv.specs.declared.objects.Item.{Item}
use Rattle.op_rv.specs.declared.objects.Item.TheVariants.{Plain, Address, Branch, Jump, Call, CallAt}
use Rattle.op_rv.specs.declared.objects.ObjectBlock.{ObjectBlock}
use Rattle.op_rv.specs.declared.objects.ObjectRoutine.{ObjectRoutine}
use Rattle.op_rv.specs.declared.objects.Objects.{Objects}
use Rattle.op_link.specs.declared.addresses.Addresses.{Addresses}
use Rattle.op_link.specs.declared.memory_map.Settings.{Settings}
use Rattle.op_link.specs.declared.place.Spot.{Spot}
use Rattle.op_link.specs.declared.reach.Reach.{Reach}
use Rattle.op_link.specs.declared.reach.Reach.TheVariants.{Direct, OverJump, ByRegister}
use Rattle.op_link.specs.Reach.{size_of, branch_size, jump_size, reach_of, block_in, head_in}
use Rattle.op_link.specs.Placing.{behind, behind_items, behind_blocks, behind_routine, behind_routines, first_spot}
use Rattle.op_link.specs.Code.{go_by_register, opposite_of, set_address, then_code, code_at, jump_code, branch_code, distance_within, symbol_address, item_code, items_code, blocks_code, routine_code, routines_code, words_of}
use Rattle.op_link.specs.Linking.{program_code, start_code}

-- code that begins at an address, if there is any, ends at another one
Ends : Option (List Instr) → ℕ → ℕ → Type 0
Ends found from to = (code : List Instr) → found ≡ Some code → from + 4 * length code ≡ to

pub some_same : {X : Type 0} (x y : X) → Some x ≡ Some y → x ≡ y
some_same x y e = cc

ends_some : (code : List Instr) (from to : ℕ) → from + 4 * length code ≡ to → Ends (Some code) from to
unfolding Ends
ends_some code from to is =
    λ other same. subst (λ (code : List Instr). from + 4 * length code ≡ to) (some_same code other same) is

ends_none : (from to : ℕ) → Ends None from to
unfolding Ends
ends_none from to = λ code same. absurd (cc)

apart : (a b : Option (List Instr)) (from mid to : ℕ) → Ends a from mid → Ends b mid to → Ends (then_code a b) from to
unfolding Ends
apart None b from mid to first rest = λ code same. absurd (cc)
apart (Some a) None from mid to first rest = λ code same. absurd (cc)
apart (Some a) (Some b) from mid to first rest =
    ends_some (a ++ b) from to (let long = length-append a b in let one = first a refl in let two = rest b refl in omega (arith, long, one, two))

moved : (found : Option (List Instr)) (from to end : ℕ) → Ends found from to → to ≡ end → Ends found from end
moved found from to end ends same = subst (λ (to : ℕ). Ends found from to) same ends

ends_at : (code : ℕ → Option (List Instr)) (found : Option ℕ) (from to : ℕ) → ((n : ℕ) → Ends (code n) from to) → Ends (code_at code found) from to
ends_at code None from to always = ends_none from to
ends_at code (Some n) from to always = always n

ends_map : {X : Type 0} (one : X → Instr) (found : Option X) (from : ℕ) → Ends (option_map (λ x. one x ∷ []) found) from (from + 4)
ends_map one None from = ends_none from (from + 4)
ends_map one (Some x) from = ends_some (one x ∷ []) from (from + 4) (omega arith)

jump_ends : (reach : Reach) (link from at to : ℕ) → Ends (jump_code reach link at to) from (from + jump_size reach)
unfolding jump_code
jump_ends Direct link from at to = ends_map _ (distance_within 1048576 at to) from
jump_ends OverJump link from at to = ends_map _ (distance_within 1048576 at to) from
jump_ends ByRegister link from at to = ends_some (go_by_register link to) from (from + 8) (omega arith)

branch_ends : (reach : Reach) (op : BranchOp) (left right from to : ℕ) → Ends (branch_code reach op left right from to) from (from + branch_size reach)
unfolding branch_code
branch_ends Direct op left right from to = ends_map _ (distance_within 4096 from to) from
branch_ends OverJump op left right from to =
    apart (Some (BranchTo (opposite_of op) left right (pos 8) ∷ [])) (jump_code Direct 0 (from + 4) to) from (from + 4) (from + 8) (ends_some (BranchTo (opposite_of op) left right (pos 8) ∷ []) from (from + 4) (omega arith)) (moved (jump_code Direct 0 (from + 4) to) (from + 4) (from + 4 + 4) (from + 8) (jump_ends Direct 0 (from + 4) (from + 4) to) (omega arith))
branch_ends ByRegister op left right from to =
    apart (Some (BranchTo (opposite_of op) left right (pos 12) ∷ [])) (jump_code ByRegister 0 (from + 4) to) from (from + 4) (from + 12) (ends_some (BranchTo (opposite_of op) left right (pos 12) ∷ []) from (from + 4) (omega arith)) (moved (jump_code ByRegister 0 (from + 4) to) (from + 4) (from + 4 + 8) (from + 12) (jump_ends ByRegister 0 (from + 4) (from + 4) to) (omega arith))

item_ends : (layout : Layout) (addresses : Addresses) (r : ℕ) (spot : Spot) (item : Item) → Ends (item_code layout addresses r spot item) spot.address (behind addresses.known r spot item).address
unfolding item_code behind size_of
item_ends layout addresses r spot (Plain i) = ends_some (i ∷ []) spot.address (spot.address + 4) (omega arith)
item_ends layout addresses r spot (Address rd symbol) =
    ends_at _ (symbol_address layout addresses symbol) spot.address (spot.address + 8) (λ to. ends_some (set_address rd to) spot.address (spot.address + 8) (omega arith))
item_ends layout addresses r spot (Branch op left right block) =
    let reach = reach_of addresses.known r spot.longest (Branch op left right block) in
    ends_at _ (block_in addresses.routines r block.0) spot.address (spot.address + branch_size reach) (branch_ends reach op left right spot.address)
item_ends layout addresses r spot (Jump block) =
    let reach = reach_of addresses.known r spot.longest (Jump block) in
    ends_at _ (block_in addresses.routines r block.0) spot.address (spot.address + jump_size reach) (jump_ends reach 0 spot.address spot.address)
item_ends layout addresses r spot (Call routine landing) =
    let reach = reach_of addresses.known r spot.longest (Call routine landing) in
    ends_at _ (head_in addresses.routines routine.0) spot.address (spot.address + jump_size reach) (jump_ends reach 1 spot.address spot.address)
item_ends layout addresses r spot (CallAt landing) = ends_some (Jalr 1 1 (pos 0) ∷ []) spot.address (spot.address + 4) (omega arith)

items_end : (layout : Layout) (addresses : Addresses) (r : ℕ) (spot : Spot) (items : List Item) → Ends (items_code layout addresses r spot items) spot.address (behind_items addresses.known r spot items).address
items_end layout addresses r spot [] = ends_some [] spot.address spot.address (omega arith)
items_end layout addresses r spot (item ∷ items) =
    apart _ _ spot.address (behind addresses.known r spot item).address (behind_items addresses.known r spot (item ∷ items)).address (item_ends layout addresses r spot item) (items_end layout addresses r (behind addresses.known r spot item) items)

blocks_end : (layout : Layout) (addresses : Addresses) (r : ℕ) (spot : Spot) (blocks : List ObjectBlock) → Ends (blocks_code layout addresses r spot blocks) spot.address (behind_blocks addresses.known r spot blocks).address
blocks_end layout addresses r spot [] = ends_some [] spot.address spot.address (omega arith)
blocks_end layout addresses r spot (block ∷ blocks) =
    apart _ _ spot.address (behind_items addresses.known r spot block.items).address (behind_blocks addresses.known r spot (block ∷ blocks)).address (items_end layout addresses r spot block.items) (blocks_end layout addresses r (behind_items addresses.known r spot block.items) blocks)

routine_ends : (layout : Layout) (addresses : Addresses) (r : ℕ) (spot : Spot) (routine : ObjectRoutine) → Ends (routine_code layout addresses r spot routine) spot.address (behind_routine addresses.known r spot routine).address
routine_ends layout addresses r spot routine =
    apart _ _ spot.address (behind_items addresses.known r spot routine.head).address (behind_routine addresses.known r spot routine).address (items_end layout addresses r spot routine.head) (blocks_end layout addresses r (behind_items addresses.known r spot routine.head) routine.blocks)

routines_end : (layout : Layout) (addresses : Addresses) (r : ℕ) (spot : Spot) (routines : List ObjectRoutine) → Ends (routines_code layout addresses r spot routines) spot.address (behind_routines addresses.known r spot routines).address
routines_end layout addresses r spot [] = ends_some [] spot.address spot.address (omega arith)
routines_end layout addresses r spot (routine ∷ routines) =
    apart _ _ spot.address (behind_routine addresses.known r spot routine).address (behind_routines addresses.known r spot (routine ∷ routines)).address (routine_ends layout addresses r spot routine) (routines_end layout addresses (suc r) (behind_routine addresses.known r spot routine) routines)

program_ends : (layout : Layout) (addresses : Addresses) (settings : Settings) (objects : Objects) → Ends (program_code layout addresses settings objects) 0x00010000 (behind_routines addresses.known 0 first_spot objects.routines).address
unfolding program_code
program_ends layout addresses settings objects =
    ends_at _ (head_in addresses.routines objects.entry.0) 0x00010000 (behind_routines addresses.known 0 first_spot objects.routines).address (λ to. apart (Some (start_code settings to)) (routines_code layout addresses 0 first_spot objects.routines) 0x00010000 0x00010048 (behind_routines addresses.known 0 first_spot objects.routines).address (ends_some (start_code settings to) 0x00010000 0x00010048 refl) (routines_end layout addresses 0 first_spot objects.routines))

pub code_end_is : (layout : Layout) (addresses : Addresses) (settings : Settings) (objects : Objects) (code : List Instr) → program_code layout addresses settings objects ≡ Some code → 0x00010000 + 4 * length code ≡ (behind_routines addresses.known 0 first_spot objects.routines).address
unfolding Ends
code_end_is layout addresses settings objects code is = program_ends layout addresses settings objects code is

pub length-words_of : (code : List Instr) → length (words_of code) ≡ 4 * length code
length-words_of [] = refl
length-words_of (i ∷ code) =
    let rest = length-words_of code in
    let four : length (words_of (i ∷ code)) ≡ suc (suc (suc (suc (length (words_of code))))) = refl in
    omega (arith, rest, four)

-- the same of found code

pub item_ends_at : (layout : Layout) (addresses : Addresses) (r : ℕ) (spot : Spot) (item : Item) (code : List Instr) → item_code layout addresses r spot item ≡ Some code → spot.address + 4 * length code ≡ (behind addresses.known r spot item).address
unfolding Ends
item_ends_at layout addresses r spot item code is = item_ends layout addresses r spot item code is

pub items_end_at : (layout : Layout) (addresses : Addresses) (r : ℕ) (spot : Spot) (items : List Item) (code : List Instr) → items_code layout addresses r spot items ≡ Some code → spot.address + 4 * length code ≡ (behind_items addresses.known r spot items).address
unfolding Ends
items_end_at layout addresses r spot items code is = items_end layout addresses r spot items code is

pub routine_ends_at : (layout : Layout) (addresses : Addresses) (r : ℕ) (spot : Spot) (routine : ObjectRoutine) (code : List Instr) → routine_code layout addresses r spot routine ≡ Some code → spot.address + 4 * length code ≡ (behind_routine addresses.known r spot routine).address
unfolding Ends
routine_ends_at layout addresses r spot routine code is = routine_ends layout addresses r spot routine code is
