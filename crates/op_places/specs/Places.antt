-- How code comes to a place in memory: to a register with an address, and a distance behind it. (Free Pascal Reference Guide, "Record
-- types" and "Arrays"; Programmer's Guide, "$R : Range checking".)
use Rattle.std.specs.Prelude.{ℕ, ◌+◌, ℤ, pos, ◌-ℤ◌, List, [], ◌∷◌, ◌++◌, nat_eq, nat_le, nat_lt, if◌then◌else◌}
use Rattle.op_compute.specs.Bank.{error_block_of, register_of}
use Rattle.op_compute.specs.Ranges.{distance_code, distance_register, sum_with}
use Rattle.op_compute.specs.declared.bank.RuntimeError.TheVariants.{RangeCheck}
use Rattle.op_constants.specs.Offsets.{element_size, field_offset}
use Rattle.op_core.specs.declared.program.Core.{Core}
use Rattle.op_places.specs.Homes.{home_at, offset_of}
use Rattle.op_places.specs.declared.frame.Frame.{Frame}
use Rattle.op_places.specs.declared.homes.Home.{Home}
use Rattle.op_places.specs.declared.homes.Home.TheVariants.{Held, Stored, Shared}
use Rattle.op_places.specs.declared.spot.Spot.{Spot}
use Rattle.op_low.specs.declared.ids.VirtualRegister.{VirtualRegister}
use Rattle.op_low.specs.declared.instruction.Instruction.{Instruction}
use Rattle.op_low.specs.declared.instruction.Instruction.TheVariants.{Const, Address, Local as LocalAddress, Alu, Shift, Branch}
use Rattle.op_mir.specs.declared.path.Root.{Root}
use Rattle.op_mir.specs.declared.path.Root.TheVariants.{Global, Local, Through, Temporary}
use Rattle.op_mir.specs.declared.path.Step.{Step}
use Rattle.op_mir.specs.declared.path.Step.TheVariants.{Field, Element}
use Rattle.op_rt_text.specs.Names.{register}
use Rattle.op_rv.specs.Operation.{word_from}
use Rattle.op_rv.specs.declared.instruction.AluOp.TheVariants.{Add, Mul}
use Rattle.op_rv.specs.declared.instruction.BranchOp.TheVariants.{Bltu}
use Rattle.op_rv.specs.declared.instruction.ShiftOp.TheVariants.{Slli}
use Rattle.op_rv.specs.declared.symbol.Symbol.TheVariants.{Global as GlobalSymbol}

-- ---- spots: an address, a distance behind it, and the first scratch register that is free

abbrev pub after : VirtualRegister → VirtualRegister
after r = register (r.0 + 1)

-- right at what a register has
abbrev pub at_register : VirtualRegister → VirtualRegister → Spot
at_register base free = record { base = base; offset = 0; free = free }

-- a scratch register has the address
abbrev pub at_scratch : VirtualRegister → Spot
at_scratch free = at_register free (after free)

-- the distance becomes at most a limit
abbrev pub reach_code : ℕ → Spot → List Instruction
reach_code limit spot = if nat_le spot.offset limit then [] else sum_with spot.free spot.free spot.base (pos spot.offset)

abbrev pub reached : ℕ → Spot → Spot
reached limit spot = if nat_le spot.offset limit then spot else at_scratch spot.free

-- ---- where a path begins

abbrev pub home_of : Core → Frame → Root → Home
home_of core frame (Global v) = Shared (record { 0 = v.0 })
home_of core frame (Local v) = home_at frame.homes v
home_of core frame (Through v) = home_at frame.homes v
home_of core frame (Temporary of n) = Stored (offset_of core (Temporary of n) frame.temporaries frame.roots)

-- what has no bytes may lie behind all locals, and then has no address
abbrev pub stored_code : Frame → VirtualRegister → ℕ → List Instruction
stored_code frame to offset = if nat_lt offset frame.locals then LocalAddress to offset ∷ [] else Const to 0 ∷ []

-- of what a register has, it is the address
abbrev pub home_code : Frame → VirtualRegister → Home → List Instruction
home_code frame free (Held r) = []
home_code frame free (Stored offset) = stored_code frame free offset
home_code frame free (Shared id) = Address free (GlobalSymbol id) ∷ []

abbrev pub home_spot : VirtualRegister → Home → Spot
home_spot free (Held r) = at_register r free
home_spot free (Stored offset) = at_scratch free
home_spot free (Shared id) = at_scratch free

-- ---- elements

-- of a power of two, which; 0 for 1 and for other numbers
abbrev pub power_of : ℕ → ℕ
power_of n =
    if nat_eq n 2 then 1
    else if nat_eq n 4 then 2
    else if nat_eq n 8 then 3
    else if nat_eq n 16 then 4
    else if nat_eq n 32 then 5
    else if nat_eq n 64 then 6
    else 0

-- so many bytes for each
unfoldable pub scale_code : (to from via : VirtualRegister) → ℕ → List Instruction
scale_code to from via size =
    if nat_eq size 1 then []
    else if nat_eq (power_of size) 0 then Const via size ∷ Alu Mul to from via ∷ []
    else Shift Slli to from (power_of size) ∷ []

abbrev pub scaled : (to from : VirtualRegister) → ℕ → VirtualRegister
scaled to from size = if nat_eq size 1 then from else to

-- how far the index is behind the least one, and error 201 where it is not from `low` to `high`
unfoldable pub index_code : Frame → (to via index : VirtualRegister) → (low high : ℤ) → List Instruction
index_code frame to via index low high =
    distance_code to index low
    ++ Const via (word_from (high -ℤ low))
    ∷ Branch Bltu via (distance_register to index low) (error_block_of frame.bank RangeCheck)
    ∷ []

-- the address that is so many elements behind another one
unfoldable pub behind_code : (to base distance via : VirtualRegister) → (size : ℕ) → List Instruction
behind_code to base distance via size = scale_code to distance via size ++ Alu Add to base (scaled to distance size) ∷ []

unfoldable pub element_code : Frame → (low high : ℤ) → (index : VirtualRegister) → (size : ℕ) → Spot → List Instruction
element_code frame low high index size spot =
    let via = after spot.free in
    index_code frame spot.free via index low high ++ behind_code spot.free spot.base (distance_register spot.free index low) via size

-- ---- paths

abbrev pub step_code : Core → Frame → Step → Spot → List Instruction
step_code core frame (Field of n) spot = []
step_code core frame (Element of low high t) spot = element_code frame low high (register_of frame.bank t) (element_size core of) spot

abbrev pub step_spot : Core → Step → Spot → Spot
step_spot core (Field of n) spot = record spot { offset = spot.offset + field_offset core of n }
step_spot core (Element of low high t) spot = record spot { base = spot.free; free = after spot.free }

abbrev pub steps_code : Core → Frame → List Step → Spot → List Instruction
steps_code core frame [] spot = []
steps_code core frame (s ∷ ss) spot = step_code core frame s spot ++ steps_code core frame ss (step_spot core s spot)

abbrev pub steps_spot : Core → List Step → Spot → Spot
steps_spot core [] spot = spot
steps_spot core (s ∷ ss) spot = steps_spot core ss (step_spot core s spot)

-- all indices are tested in their order; the distance is then at most the limit
abbrev pub place_code : Core → Frame → ℕ → Root → List Step → VirtualRegister → List Instruction
place_code core frame limit root steps free =
    let home = home_of core frame root in
    let begin = home_spot free home in
    home_code frame free home ++ steps_code core frame steps begin ++ reach_code limit (steps_spot core steps begin)

abbrev pub place_of : Core → Frame → ℕ → Root → List Step → VirtualRegister → Spot
place_of core frame limit root steps free = reached limit (steps_spot core steps (home_spot free (home_of core frame root)))
