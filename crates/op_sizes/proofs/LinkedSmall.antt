-- What is linked is no larger than its parts are in their longest forms.
use Rattle.std.proofs.Common.{◌≤◌, ℕ, suc, ◌+◌, List, [], ◌∷◌, arith}
use Rattle.op_layout.specs.declared.layout.Layout.{Layout}
use Rattle.op_link.proofs.Growth.{branch_at_most, jump_at_most}
use Rattle.op_link.specs.Linking.{linked_size, linked_size_by, settled, sizes_of}
use Rattle.op_link.specs.Memory.{constants_size, initial_size}
use Rattle.op_link.specs.Placing.{behind, behind_blocks, behind_items, behind_routine, behind_routines, first_spot, placement_by}
use Rattle.op_link.specs.Reach.{reach_of, size_of}
use Rattle.op_link.specs.declared.memory_map.Settings.{Settings}
use Rattle.op_link.specs.declared.place.RoutinePlace.{RoutinePlace}
use Rattle.op_link.specs.declared.place.Spot.{Spot}
use Rattle.op_link.specs.declared.reach.Reach.{Reach}
use Rattle.op_rv.specs.declared.objects.Item.TheVariants.{Address, Branch, Call, CallAt, Jump, Plain}
use Rattle.op_rv.specs.declared.objects.Item.{Item}
use Rattle.op_rv.specs.declared.objects.ObjectBlock.{ObjectBlock}
use Rattle.op_rv.specs.declared.objects.ObjectRoutine.{ObjectRoutine}
use Rattle.op_rv.specs.declared.objects.Objects.{Objects}
use Rattle.op_sizes.proofs.BytesSmall.{blocks_bytes, item_bytes, items_bytes, routine_bytes}

abbrev pub routines_bytes : List ObjectRoutine → ℕ
routines_bytes [] = 0
routines_bytes (x ∷ xs) = routine_bytes x + routines_bytes xs

size_less : (reach : Reach) (item : Item) → size_of reach item ≤ item_bytes item
unfolding size_of
size_less reach (Plain i) = omega arith
size_less reach (Address rd symbol) = omega arith
size_less reach (Branch op left right block) = branch_at_most reach
size_less reach (Jump block) = jump_at_most reach
size_less reach (Call routine landing) = jump_at_most reach
size_less reach (CallAt landing) = omega arith

module _ (known : List RoutinePlace) where
  item_less : (r : ℕ) (spot : Spot) (item : Item) → (behind known r spot item).address ≤ spot.address + item_bytes item
  unfolding behind
  item_less r spot item = let e = size_less (reach_of known r spot.longest item) item in omega (arith, e)

  items_less : (r : ℕ) (spot : Spot) (items : List Item) → (behind_items known r spot items).address ≤ spot.address + items_bytes items
  items_less r spot [] = omega arith
  items_less r spot (item ∷ items) =
      let first = item_less r spot item in
      let rest = items_less r (behind known r spot item) items in
      omega (arith, first, rest)

  blocks_less : (r : ℕ) (spot : Spot) (bs : List ObjectBlock) → (behind_blocks known r spot bs).address ≤ spot.address + blocks_bytes bs
  blocks_less r spot [] = omega arith
  blocks_less r spot (b ∷ bs) =
      let first = items_less r spot b.items in
      let rest = blocks_less r (behind_items known r spot b.items) bs in
      omega (arith, first, rest)

  routine_less : (r : ℕ) (spot : Spot) (routine : ObjectRoutine) → (behind_routine known r spot routine).address ≤ spot.address + routine_bytes routine
  routine_less r spot routine =
      let head = items_less r spot routine.head in
      let rest = blocks_less r (behind_items known r spot routine.head) routine.blocks in
      omega (arith, head, rest)

  routines_less : (r : ℕ) (spot : Spot) (routines : List ObjectRoutine) → (behind_routines known r spot routines).address ≤ spot.address + routines_bytes routines
  routines_less r spot [] = omega arith
  routines_less r spot (routine ∷ routines) =
      let first = routine_less r spot routine in
      let rest = routines_less (suc r) (behind_routine known r spot routine) routines in
      omega (arith, first, rest)

-- the 18 instructions in front, the routines, the constants and the globals that do not begin as zero
linked_by : (known : List RoutinePlace) (layout : Layout) (objects : Objects) → linked_size_by known layout objects ≤ 72 + routines_bytes objects.routines + constants_size layout + initial_size objects.globals
unfolding linked_size_by sizes_of placement_by
linked_by known layout objects = let e = routines_less known 0 first_spot objects.routines in omega (arith, e)

pub linked_less : (objects : Objects) (layout : Layout) (settings : Settings) → linked_size objects layout settings ≤ 72 + routines_bytes objects.routines + constants_size layout + initial_size objects.globals
unfolding linked_size
linked_less objects layout settings = linked_by (settled layout objects settings) layout objects
