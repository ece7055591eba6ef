-- How numbers and values with parts are moved: loads and stores of numbers, copies of bytes, and a value in place of its address.
use Rattle.std.specs.Prelude.{ℕ, zero, suc, ◌+◌, ◌*◌, ◌/◌, pos, Bool, true, false, List, [], ◌∷◌, ◌++◌, Option, Some, None, nat_eq, nat_le, if◌then◌else◌}
use Rattle.op_compute.specs.Bank.{scratch_of}
use Rattle.op_compute.specs.Conversions.{low_bits_code}
use Rattle.op_constants.specs.Offsets.{alignment_in, size_in}
use Rattle.op_core.specs.declared.ids.TypeId.{TypeId}
use Rattle.op_core.specs.declared.program.Core.{Core}
use Rattle.op_core.specs.declared.types.IntegerKind.{IntegerKind}
use Rattle.op_core.specs.declared.types.IntegerKind.TheVariants.{Signed8, Unsigned8, Signed16, Unsigned16, Signed32}
use Rattle.op_places.specs.Places.{home_of, place_code, place_of}
use Rattle.op_places.specs.declared.frame.Frame.{Frame}
use Rattle.op_places.specs.declared.homes.Home.{Home}
use Rattle.op_places.specs.declared.homes.Home.TheVariants.{Held}
use Rattle.op_places.specs.declared.spot.Spot.{Spot}
use Rattle.op_low.specs.declared.ids.VirtualRegister.{VirtualRegister}
use Rattle.op_low.specs.declared.instruction.Instruction.{Instruction}
use Rattle.op_low.specs.declared.instruction.Instruction.TheVariants.{Const, Load as LoadWord, Move, Store as StoreWord}
use Rattle.op_mir.specs.declared.ids.LocalId.{LocalId}
use Rattle.op_mir.specs.declared.path.Path.{Path}
use Rattle.op_mir.specs.declared.path.Root.{Root}
use Rattle.op_mir.specs.declared.path.Root.TheVariants.{Local}
use Rattle.op_mir.specs.declared.path.Step.{Step}
use Rattle.op_rt_text.specs.Names.{call, copy_bytes_number, copy_words_number, take_number}
use Rattle.op_rv.specs.declared.instruction.LoadOp.{LoadOp}
use Rattle.op_rv.specs.declared.instruction.LoadOp.TheVariants.{Lb, Lh, Lw, Lbu, Lhu}
use Rattle.op_rv.specs.declared.instruction.StoreOp.{StoreOp}
use Rattle.op_rv.specs.declared.instruction.StoreOp.TheVariants.{Sb, Sh, Sw}

-- ---- numbers

abbrev pub load_op : IntegerKind → LoadOp
load_op Signed8 = Lb
load_op Unsigned8 = Lbu
load_op Signed16 = Lh
load_op Unsigned16 = Lhu
load_op Signed32 = Lw

abbrev pub store_op : IntegerKind → StoreOp
store_op Signed8 = Sb
store_op Unsigned8 = Sb
store_op Signed16 = Sh
store_op Unsigned16 = Sh
store_op Signed32 = Sw

-- eight words behind a distance of so many bytes are still reached
abbrev pub near : ℕ
near = 2016

-- the register that has all of the variable
abbrev pub held_by : Root → List Step → Home → Option VirtualRegister
held_by (Local v) [] (Held r) = Some r
held_by _ _ _ = None

abbrev pub held : Core → Frame → Root → List Step → Option VirtualRegister
held core frame root steps = held_by root steps (home_of core frame root)

abbrev load_by : Core → Frame → IntegerKind → (to : VirtualRegister) → Root → List Step → (free : VirtualRegister) → Option VirtualRegister → List Instruction
load_by core frame kind to root steps free (Some r) = Move to r ∷ []
load_by core frame kind to root steps free None =
    let spot = place_of core frame near root steps free in
    place_code core frame near root steps free ++ LoadWord (load_op kind) to spot.base (pos spot.offset) ∷ []

abbrev pub load_code : Core → Frame → IntegerKind → (to : VirtualRegister) → Root → List Step → (free : VirtualRegister) → List Instruction
load_code core frame kind to root steps free = load_by core frame kind to root steps free (held core frame root steps)

abbrev store_by : Core → Frame → IntegerKind → (from : VirtualRegister) → Root → List Step → (free : VirtualRegister) → Option VirtualRegister → List Instruction
store_by core frame kind from root steps free (Some r) = low_bits_code r kind from
store_by core frame kind from root steps free None =
    let spot = place_of core frame near root steps free in
    place_code core frame near root steps free ++ StoreWord (store_op kind) from spot.base (pos spot.offset) ∷ []

-- the low bits of a number
abbrev pub store_code : Core → Frame → IntegerKind → (from : VirtualRegister) → Root → List Step → (free : VirtualRegister) → List Instruction
store_code core frame kind from root steps free = store_by core frame kind from root steps free (held core frame root steps)

-- ---- values with parts: up to eight words or bytes one by one, and more by a run-time routine. Each action has an instruction at least.

-- whether all its addresses are multiples of 4
abbrev pub by_words : Core → TypeId → Bool
by_words core of = nat_eq (alignment_in core of) 4

abbrev pub unit_of : Bool → ℕ
unit_of true = 4
unit_of false = 1

abbrev pub units_in : Bool → ℕ → ℕ
units_in true size = size / 4
units_in false size = size

abbrev pub is_short : Bool → ℕ → Bool
is_short words size = nat_le (units_in words size) 8

-- how far behind an address a value may begin that is copied
abbrev pub limit_of : Bool → ℕ → ℕ
limit_of words size = if is_short words size then near else 0

abbrev pub unit_load : Bool → LoadOp
unit_load true = Lw
unit_load false = Lbu

abbrev pub unit_store : Bool → StoreOp
unit_store true = Sw
unit_store false = Sb

abbrev pub unit_code : Bool → (n : ℕ) → (from to : Spot) → List Instruction
unit_code words n from to =
    LoadWord (unit_load words) to.free from.base (pos (from.offset + n * unit_of words))
    ∷ StoreWord (unit_store words) to.free to.base (pos (to.offset + n * unit_of words))
    ∷ []

-- the first so many units
abbrev pub units_code : Bool → ℕ → (from to : Spot) → List Instruction
units_code words zero from to = []
units_code words (suc n) from to = units_code words n from to ++ unit_code words n from to

abbrev pub copy_number : Bool → ℕ
copy_number true = copy_words_number
copy_number false = copy_bytes_number

abbrev pub bytes_code : Bool → (size : ℕ) → (from to : Spot) → List Instruction
bytes_code words size from to =
    if nat_eq size 0 then Const to.free 0 ∷ []
    else if is_short words size then units_code words (units_in words size) from to
    else Const to.free size ∷ call (copy_number words) (to.base ∷ from.base ∷ to.free ∷ []) to.free ∷ []

abbrev pub copy_code : Core → Frame → TypeId → (to from : Path) → List Instruction
copy_code core frame of to from =
    let words = by_words core of in
    let limit = limit_of words (size_in core of) in
    let source = place_of core frame limit from.root from.steps (scratch_of frame.bank 0) in
    let target = place_of core frame limit to.root to.steps source.free in
    place_code core frame limit from.root from.steps (scratch_of frame.bank 0)
    ++ place_code core frame limit to.root to.steps source.free
    ++ bytes_code words (size_in core of) source target

-- ---- first values of variables

-- A variable takes so many bytes from the address that a register has, which is then free. That stands where the value is to go first, so
-- that the run-time routine needs two registers. What has no bytes takes nothing.
unfoldable pub taken_code : Core → Frame → (from : VirtualRegister) → (size : ℕ) → LocalId → List Instruction
taken_code core frame from size v =
    let place = place_of core frame 0 (Local v) [] (scratch_of frame.bank 0) in
    if nat_eq size 0 then []
    else
    place_code core frame 0 (Local v) [] (scratch_of frame.bank 0)
    ++ StoreWord Sw from place.base (pos 0)
    ∷ Const from size
    ∷ call take_number (place.base ∷ from ∷ []) from
    ∷ []
