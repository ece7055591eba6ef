-- How far it is to what an item names, and how many bytes the item takes for that.
use Rattle.std.specs.Prelude.{ℕ, ◌+◌, Bool, ◌&&◌, Option, Some, None, List, slice_get, nat_lt, nat_le, if◌then◌else◌}
use Rattle.std.specs.Option.{option_map, option_map_or}
use Rattle.op_rv.specs.declared.objects.Item.{Item}
use Rattle.op_rv.specs.declared.objects.Item.TheVariants.{Plain, Address, Branch, Jump, Call, CallAt}
use Rattle.op_link.specs.declared.place.RoutinePlace.{RoutinePlace}
use Rattle.op_link.specs.declared.reach.Reach.{Reach}
use Rattle.op_link.specs.declared.reach.Reach.TheVariants.{Direct, OverJump, ByRegister}

-- the address of a routine's head, and of one of its blocks, where they are known
unfoldable pub head_in : List RoutinePlace → ℕ → Option ℕ
head_in known r = option_map (λ place. place.head) (slice_get known r)

unfoldable pub block_in : List RoutinePlace → ℕ → ℕ → Option ℕ
block_in known r block = option_map_or (λ place. slice_get place.blocks block) (slice_get known r) None

-- the distance lies within so many bytes in both directions, forward one byte less
abbrev pub reaches : ℕ → ℕ → ℕ → Bool
reaches distance from to = nat_lt to (from + distance) && nat_le from (to + distance)

-- a branch reaches 4 KiB and a jump 1 MiB; over a branch the jump stands four bytes further on. What is not known is out of
-- reach for both.
unfoldable pub branch_reach : ℕ → Option ℕ → Reach
branch_reach from None = ByRegister
branch_reach from (Some to) =
    if reaches 4096 from to then Direct else if reaches 1048572 from to then OverJump else ByRegister

unfoldable pub jump_reach : ℕ → Option ℕ → Reach
jump_reach from None = ByRegister
jump_reach from (Some to) = if reaches 1048576 from to then Direct else ByRegister

-- an item of the routine r
unfoldable pub reach_of : List RoutinePlace → ℕ → ℕ → Item → Reach
reach_of known r from (Plain i) = Direct
reach_of known r from (Address rd symbol) = Direct
reach_of known r from (Branch op left right block) = branch_reach from (block_in known r block.0)
reach_of known r from (Jump block) = jump_reach from (block_in known r block.0)
reach_of known r from (Call routine landing) = jump_reach from (head_in known routine.0)
reach_of known r from (CallAt landing) = Direct

-- ---- bytes

abbrev pub branch_size : Reach → ℕ
branch_size Direct = 4
branch_size OverJump = 8
branch_size ByRegister = 12

abbrev pub jump_size : Reach → ℕ
jump_size ByRegister = 8
jump_size _ = 4

unfoldable pub size_of : Reach → Item → ℕ
size_of reach (Plain i) = 4
size_of reach (Address rd symbol) = 8
size_of reach (Branch op left right block) = branch_size reach
size_of reach (Jump block) = jump_size reach
size_of reach (Call routine landing) = jump_size reach
size_of reach (CallAt landing) = 4
