-- What is known of registers while the code of a block is gone through. A fact tells of a register that the better code has not written what it
-- would have, over the registers of the better code. A register without a fact has its own value there.
use Rattle.std.specs.Prelude.{Bool, false, ◌&&◌, not, Option, Some, None, List, [], ◌∷◌, ◌++◌, nat_eq, if◌then◌else◌}
use Rattle.op_low.specs.declared.ids.VirtualRegister.{VirtualRegister}
use Rattle.op_optimize.specs.Reading.{either, same}
use Rattle.op_optimize.specs.declared.fact.Fact.{Fact}
use Rattle.op_optimize.specs.declared.fact.Value.{Value}
use Rattle.op_optimize.specs.declared.fact.Value.TheVariants.{Copy, Number, Difference, Truth}

unfoldable pub look_up : List Fact → VirtualRegister → Option Value
look_up [] r = None
look_up (f ∷ fs) r = if same f.register r then Some f.value else look_up fs r

abbrev pub value_or : VirtualRegister → Option Value → Value
value_or r None = Copy r
value_or r (Some v) = v

unfoldable pub value_in : List Fact → VirtualRegister → Value
value_in facts r = value_or r (look_up facts r)

-- the register that has a value; `nothing` has 0
abbrev pub source_by : (nothing : VirtualRegister) → Value → Option VirtualRegister
source_by nothing (Copy of) = Some of
source_by nothing (Number n) = if nat_eq n 0 then Some nothing else None
source_by nothing (Difference left right) = None
source_by nothing (Truth op left right) = None

unfoldable pub source : List Fact → (nothing r : VirtualRegister) → Option VirtualRegister
source facts nothing r = source_by nothing (value_in facts r)

unfoldable pub mentions : Value → VirtualRegister → Bool
mentions (Copy of) r = same of r
mentions (Number n) r = false
mentions (Difference left right) r = either left right r
mentions (Truth op left right) r = either left right r

unfoldable pub is_copy_of : Value → VirtualRegister → Bool
is_copy_of (Copy of) r = same of r
is_copy_of _ r = false

-- ---- facts that change

-- but for that of a register
unfoldable pub without : List Fact → VirtualRegister → List Fact
without [] r = []
without (f ∷ fs) r = if same f.register r then without fs r else f ∷ without fs r

-- a register would have this value
unfoldable pub with_fact : List Fact → VirtualRegister → Value → List Fact
with_fact facts r v = if is_copy_of v r then without facts r else without facts r ++ record { register = r; value = v } ∷ []

abbrev pub is_kept : Fact → VirtualRegister → Bool
is_kept f r = not (same f.register r) && not (mentions f.value r)

-- those that stay where the better code writes a register
unfoldable pub behind_write : List Fact → VirtualRegister → List Fact
behind_write [] r = []
behind_write (f ∷ fs) r = if is_kept f r then f ∷ behind_write fs r else behind_write fs r
