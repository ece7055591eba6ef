-- What a step asks of the heap and gives back to it. A step makes at most one name, and what stands under it is a block of so many
-- bytes; a name that stood and stands no more is let go. That a block has a size is all that is said of memory here.
use Rattle.std.specs.Prelude.{ℕ, ◌+◌, ◌*◌, Bool, true, false, not, ◌&&◌, List, [], ◌∷◌, length, nat_lt, if◌then◌else◌}
use Rattle.std.specs.Int.{div_ceil}
use Rattle.op_core.specs.Sizes.{extent_of, in_order}
use Rattle.op_core.specs.declared.ids.ClassId.{ClassId}
use Rattle.op_core.specs.declared.ids.TypeId.{TypeId}
use Rattle.op_core.specs.declared.program.Core.{Core}
use Rattle.op_semantics.specs.Frames.{Program, State}
use Rattle.op_semantics.specs.Holding.{each}
use Rattle.op_semantics.specs.Machine.{step}
use Rattle.op_semantics.specs.Shapes.{fields_of_class}
use Rattle.op_semantics.specs.World.{Object, gone, chars, buffer, elements, fields, Dead}

pub data Demand : Type 0 where
  nothing : Demand
  -- a block of so many bytes, for an instance with a slot
  block : (bytes : ℕ) → (slot : Bool) → Demand

abbrev pub in_sixteens : ℕ → ℕ
in_sixteens n = 16 * div_ceil n 16

abbrev pub size_of : Core → TypeId → ℕ
size_of core of = (extent_of core of).size

abbrev pub fields_size : Core → ClassId → ℕ
fields_size core c = (in_order (extent_of core) (fields_of_class core c)).size

-- A block begins with 16 bytes of its own, and a string ends with one byte more. A line that is being read takes what a string of its
-- capacity does.
abbrev pub block_of : Core → Object → Demand
block_of core gone = nothing
block_of core (chars bytes) = block (in_sixteens (length bytes + 17)) false
block_of core (buffer bytes capacity) = block (in_sixteens (capacity + 17)) false
block_of core (elements of count) = block (in_sixteens (count * size_of core of + 16)) false
block_of core (fields c phase) = block (in_sixteens (fields_size core c + 16)) true

-- what the next step makes
abbrev made_by : Core → State → State → Demand
made_by core s t = if nat_lt s.world.next t.world.next then block_of core (t.world.objects s.world.next) else nothing

abbrev pub demand : Program → State → Demand
demand p s = made_by p.core s (step p s)

-- ---- what stands

abbrev pub is_standing : Object → Bool
is_standing gone = false
is_standing (fields c Dead) = false
is_standing o = true

-- the names that stand, in order of making
abbrev pub standing : State → List ℕ
standing s = each s.world.next (λ n. if is_standing (s.world.objects n) then n ∷ [] else [])

abbrev let_go_by : State → State → List ℕ
let_go_by s t = each s.world.next (λ n. if is_standing (s.world.objects n) && not (is_standing (t.world.objects n)) then n ∷ [] else [])

-- the names that the next step lets go
abbrev pub let_go : Program → State → List ℕ
let_go p s = let_go_by s (step p s)
