-- Where routines and blocks come to stand.
use Rattle.std.specs.Prelude.{ℕ, suc, ◌+◌, ◌-◌, ◌*◌, ◌^◌, ◌<◌, Option, Some, None, nat_le, if◌then◌else◌, List, [], ◌∷◌, length, sum_by}
use Rattle.op_rv.specs.declared.objects.Item.{Item}
use Rattle.op_rv.specs.declared.objects.ObjectBlock.{ObjectBlock}
use Rattle.op_rv.specs.declared.objects.ObjectRoutine.{ObjectRoutine}
use Rattle.op_link.specs.declared.place.Placement.{Placement}
use Rattle.op_link.specs.declared.place.RoutinePlace.{RoutinePlace}
use Rattle.op_link.specs.declared.place.Spot.{Spot}
use Rattle.op_link.specs.declared.reach.Reach.TheVariants.{ByRegister}
use Rattle.op_link.specs.Reach.{reach_of, size_of}

-- the spot behind an item of the routine r, which goes to what it names as far as the known addresses tell
unfoldable pub behind : List RoutinePlace → ℕ → Spot → Item → Spot
behind known r spot item =
    record {
      longest = spot.longest + size_of ByRegister item;
      address = spot.address + size_of (reach_of known r spot.longest item) item;
    }

abbrev pub behind_items : List RoutinePlace → ℕ → Spot → List Item → Spot
behind_items known r spot [] = spot
behind_items known r spot (item ∷ items) = behind_items known r (behind known r spot item) items

abbrev pub behind_blocks : List RoutinePlace → ℕ → Spot → List ObjectBlock → Spot
behind_blocks known r spot [] = spot
behind_blocks known r spot (block ∷ blocks) = behind_blocks known r (behind_items known r spot block.items) blocks

abbrev pub behind_routine : List RoutinePlace → ℕ → Spot → ObjectRoutine → Spot
behind_routine known r spot routine = behind_blocks known r (behind_items known r spot routine.head) routine.blocks

-- routines from the number r on
abbrev pub behind_routines : List RoutinePlace → ℕ → Spot → List ObjectRoutine → Spot
behind_routines known r spot [] = spot
behind_routines known r spot (routine ∷ routines) =
    behind_routines known (suc r) (behind_routine known r spot routine) routines

-- ---- addresses

-- where blocks that stand one after the other begin
abbrev pub block_addresses : List RoutinePlace → ℕ → Spot → List ObjectBlock → List ℕ
block_addresses known r spot [] = []
block_addresses known r spot (block ∷ blocks) =
    spot.address ∷ block_addresses known r (behind_items known r spot block.items) blocks

unfoldable pub routine_place : List RoutinePlace → ℕ → Spot → ObjectRoutine → RoutinePlace
routine_place known r spot routine =
    record {
      head = spot.address;
      blocks = block_addresses known r (behind_items known r spot routine.head) routine.blocks;
    }

-- where routines from the number r on begin
abbrev pub routine_places : List RoutinePlace → ℕ → Spot → List ObjectRoutine → List RoutinePlace
routine_places known r spot [] = []
routine_places known r spot (routine ∷ routines) =
    routine_place known r spot routine
    ∷ routine_places known (suc r) (behind_routine known r spot routine) routines

-- behind the 18 instructions with which a program begins
abbrev pub first_spot : Spot
first_spot = record { longest = 0x00010048; address = 0x00010048 }

-- where everything stands, if these addresses are known
unfoldable pub placement_by : List RoutinePlace → List ObjectRoutine → Placement
placement_by known routines =
    record {
      routines = routine_places known 0 first_spot routines;
      end = (behind_routines known 0 first_spot routines).address;
    }

-- ---- how many items there are

abbrev pub items_in_blocks : List ObjectBlock → ℕ
items_in_blocks blocks = sum_by (λ block. length block.items) blocks

abbrev pub items_in_routine : ObjectRoutine → ℕ
items_in_routine routine = length routine.head + items_in_blocks routine.blocks

abbrev pub items_in_routines : List ObjectRoutine → ℕ
items_in_routines routines = sum_by items_in_routine routines

-- so many items fit between a spot and the end of the address space
abbrev pub HasRoom : Spot → ℕ → Type 0
HasRoom spot n = (spot.longest + 12 * n < 2 ^ 32) × (spot.address + 12 * n < 2 ^ 32)

-- what is left of room for so many items, if there is enough
unfoldable pub left_of : ℕ → ℕ → Option ℕ
left_of room n = if nat_le n room then Some (room - n) else None
