-- How far the code goes: by at least four bytes an item, and furthest if every item has its longest form.
use Rattle.std.proofs.Common.{◌≡◌, ℕ, suc, ◌+◌, ◌*◌, ◌%◌, ◌≤◌, length, List, [], ◌∷◌, refl, ◌∙◌, arith}
use Rattle.std.proofs.lemmas.List.Sums.{sum_by-cons}
use Rattle.op_rv.specs.declared.objects.Item.{Item}
use Rattle.op_rv.specs.declared.objects.Item.TheVariants.{Plain, Address, Branch, Jump, Call, CallAt}
use Rattle.op_rv.specs.declared.objects.ObjectBlock.{ObjectBlock}
use Rattle.op_rv.specs.declared.objects.ObjectRoutine.{ObjectRoutine}
use Rattle.op_link.specs.declared.place.RoutinePlace.{RoutinePlace}
use Rattle.op_link.specs.declared.place.Spot.{Spot}
use Rattle.op_link.specs.declared.reach.Reach.{Reach}
use Rattle.op_link.specs.declared.reach.Reach.TheVariants.{Direct, OverJump, ByRegister}
use Rattle.op_link.specs.Reach.{size_of, branch_size, jump_size, reach_of, branch_reach, jump_reach, block_in, head_in}
use Rattle.op_link.specs.Placing.{behind, behind_items, behind_blocks, behind_routine, behind_routines, first_spot, placement_by, items_in_blocks, items_in_routine, items_in_routines}

-- ---- four to twelve bytes an item, in whole words

pub record Grows (from to items : ℕ) : Type 0 where
  pub least : from + 4 * items ≤ to
  pub most : to ≤ from + 12 * items
  pub whole : to % 4 ≡ from % 4

grows_none : (at : ℕ) → Grows at at 0
grows_none at = record { least = omega arith; most = omega arith; whole = refl }

grows_join : (a b c n m k : ℕ) → k ≡ n + m → Grows a b n → Grows b c m → Grows a c k
grows_join a b c n m k count first second =
    record {
      least = omega (arith, count, first.least, second.least);
      most = omega (arith, count, first.most, second.most);
      whole = second.whole ∙ first.whole;
    }

branch_grows : (from : ℕ) (reach : Reach) → Grows from (from + branch_size reach) 1
branch_grows from Direct = record { least = omega arith; most = omega arith; whole = omega arith }
branch_grows from OverJump = record { least = omega arith; most = omega arith; whole = omega arith }
branch_grows from ByRegister = record { least = omega arith; most = omega arith; whole = omega arith }

jump_grows : (from : ℕ) (reach : Reach) → Grows from (from + jump_size reach) 1
jump_grows from Direct = record { least = omega arith; most = omega arith; whole = omega arith }
jump_grows from OverJump = record { least = omega arith; most = omega arith; whole = omega arith }
jump_grows from ByRegister = record { least = omega arith; most = omega arith; whole = omega arith }

size_grows : (from : ℕ) (reach : Reach) (item : Item) → Grows from (from + size_of reach item) 1
unfolding size_of
size_grows from reach (Plain i) = record { least = omega arith; most = omega arith; whole = omega arith }
size_grows from reach (Address rd symbol) = record { least = omega arith; most = omega arith; whole = omega arith }
size_grows from reach (Branch op left right block) = branch_grows from reach
size_grows from reach (Jump block) = jump_grows from reach
size_grows from reach (Call routine landing) = jump_grows from reach
size_grows from reach (CallAt landing) = record { least = omega arith; most = omega arith; whole = omega arith }

pub items_grow : (known : List RoutinePlace) (r : ℕ) (spot : Spot) (items : List Item) → Grows spot.address (behind_items known r spot items).address (length items)
unfolding behind
items_grow known r spot [] = grows_none spot.address
items_grow known r spot (item ∷ items) =
    let next = behind known r spot item in
    grows_join spot.address next.address (behind_items known r next items).address 1 (length items) (suc (length items)) (omega arith) (size_grows spot.address (reach_of known r spot.longest item) item) (items_grow known r next items)

pub blocks_grow : (known : List RoutinePlace) (r : ℕ) (spot : Spot) (blocks : List ObjectBlock) → Grows spot.address (behind_blocks known r spot blocks).address (items_in_blocks blocks)
blocks_grow known r spot [] = grows_none spot.address
blocks_grow known r spot (block ∷ blocks) =
    let next = behind_items known r spot block.items in
    grows_join spot.address next.address (behind_blocks known r next blocks).address (length block.items) (items_in_blocks blocks) (items_in_blocks (block ∷ blocks)) (sum_by-cons (λ (block : ObjectBlock). length block.items) block blocks) (items_grow known r spot block.items) (blocks_grow known r next blocks)

pub routine_grows : (known : List RoutinePlace) (r : ℕ) (spot : Spot) (routine : ObjectRoutine) → Grows spot.address (behind_routine known r spot routine).address (items_in_routine routine)
routine_grows known r spot routine =
    let next = behind_items known r spot routine.head in
    grows_join spot.address next.address (behind_routine known r spot routine).address (length routine.head) (items_in_blocks routine.blocks) (items_in_routine routine) refl (items_grow known r spot routine.head) (blocks_grow known r next routine.blocks)

pub routines_grow : (known : List RoutinePlace) (r : ℕ) (spot : Spot) (routines : List ObjectRoutine) → Grows spot.address (behind_routines known r spot routines).address (items_in_routines routines)
routines_grow known r spot [] = grows_none spot.address
routines_grow known r spot (routine ∷ routines) =
    let next = behind_routine known r spot routine in
    grows_join spot.address next.address (behind_routines known (suc r) next routines).address (items_in_routine routine) (items_in_routines routines) (items_in_routines (routine ∷ routines)) (sum_by-cons items_in_routine routine routines) (routine_grows known r spot routine) (routines_grow known (suc r) next routines)

pub code_end : (known : List RoutinePlace) (routines : List ObjectRoutine) → Grows 0x00010048 (placement_by known routines).end (items_in_routines routines)
unfolding placement_by
code_end known routines = routines_grow known 0 first_spot routines

-- ---- at most the longest form

pub branch_at_most : (reach : Reach) → branch_size reach ≤ 12
branch_at_most Direct = omega arith
branch_at_most OverJump = omega arith
branch_at_most ByRegister = omega arith

pub jump_at_most : (reach : Reach) → jump_size reach ≤ 8
jump_at_most Direct = omega arith
jump_at_most OverJump = omega arith
jump_at_most ByRegister = omega arith

-- with no known addresses every item has its longest form
size_at_most : (known : List RoutinePlace) (r from other : ℕ) (item : Item) → size_of (reach_of known r from item) item ≤ size_of (reach_of [] r other item) item
unfolding size_of reach_of branch_reach jump_reach block_in head_in
size_at_most known r from other (Plain i) = omega arith
size_at_most known r from other (Address rd symbol) = omega arith
size_at_most known r from other (Branch op left right block) = branch_at_most (branch_reach from (block_in known r block.0))
size_at_most known r from other (Jump block) = jump_at_most (jump_reach from (block_in known r block.0))
size_at_most known r from other (Call routine landing) = jump_at_most (jump_reach from (head_in known routine.0))
size_at_most known r from other (CallAt landing) = omega arith

item_at_most : (known : List RoutinePlace) (r : ℕ) (spot other : Spot) (item : Item) → spot.address ≤ other.address → (behind known r spot item).address ≤ (behind [] r other item).address
unfolding behind
item_at_most known r spot other item front =
    let size = size_at_most known r spot.longest other.longest item in omega (arith, size, front)

items_at_most : (known : List RoutinePlace) (r : ℕ) (spot other : Spot) (items : List Item) → spot.address ≤ other.address → (behind_items known r spot items).address ≤ (behind_items [] r other items).address
items_at_most known r spot other [] front = front
items_at_most known r spot other (item ∷ items) front =
    items_at_most known r (behind known r spot item) (behind [] r other item) items (item_at_most known r spot other item front)

blocks_at_most : (known : List RoutinePlace) (r : ℕ) (spot other : Spot) (blocks : List ObjectBlock) → spot.address ≤ other.address → (behind_blocks known r spot blocks).address ≤ (behind_blocks [] r other blocks).address
blocks_at_most known r spot other [] front = front
blocks_at_most known r spot other (block ∷ blocks) front =
    blocks_at_most known r (behind_items known r spot block.items) (behind_items [] r other block.items) blocks (items_at_most known r spot other block.items front)

routines_at_most : (known : List RoutinePlace) (r : ℕ) (spot other : Spot) (routines : List ObjectRoutine) → spot.address ≤ other.address → (behind_routines known r spot routines).address ≤ (behind_routines [] r other routines).address
routines_at_most known r spot other [] front = front
routines_at_most known r spot other (routine ∷ routines) front =
    routines_at_most known (suc r) (behind_routine known r spot routine) (behind_routine [] r other routine) routines
    (blocks_at_most known r (behind_items known r spot routine.head) (behind_items [] r other routine.head) routine.blocks (items_at_most known r spot other routine.head front))

pub code_end_at_most : (known : List RoutinePlace) (routines : List ObjectRoutine) → (placement_by known routines).end ≤ (placement_by [] routines).end
unfolding placement_by
code_end_at_most known routines = routines_at_most known 0 first_spot first_spot routines (omega arith)
