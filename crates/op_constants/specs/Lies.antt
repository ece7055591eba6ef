-- When values lie in the bytes of memory: how the values of a type are arranged, when one lies at an address, and where a path leads.
-- (Free Pascal Reference Guide, "Types", "Record types" and "Arrays"; RISC-V Unprivileged ISA manual, "Load and Store Instructions".)
use Rattle.std.specs.Prelude.{◌≡◌, ◌<◌, ◌≤◌, ℕ, zero, suc, ◌+◌, ◌*◌, ◌%◌, ℤ, List, [], ◌∷◌, Option, Some}
use Rattle.op_core.specs.Rows.{rows}
use Rattle.op_core.specs.Sizes.{type_at, integer_size}
use Rattle.op_core.specs.declared.ids.TypeId.{TypeId}
use Rattle.op_core.specs.declared.program.Core.{Core}
use Rattle.op_core.specs.declared.types.CoreType.{CoreType}
use Rattle.op_core.specs.declared.types.CoreType.TheVariants.{Record, Array}
use Rattle.op_core.specs.declared.types.IntegerKind.{IntegerKind}
use Rattle.op_core.specs.declared.types.IntegerKind.TheVariants.{Signed8, Unsigned8, Signed16, Unsigned16, Signed32}
use Rattle.op_meaning.specs.Shapes.{Shape, single, composite, shape_of, parts_by, part_type}
use Rattle.op_meaning.specs.Values.{Value, number_in, part_of}
use Rattle.op_rv.specs.Operation.{signed}
use Rattle.op_rv.specs.Step.{load_value}
use Rattle.op_rv.specs.declared.instruction.LoadOp.{LoadOp}
use Rattle.op_rv.specs.declared.instruction.LoadOp.TheVariants.{Lb, Lh, Lw, Lbu, Lhu}
use Rattle.op_rv.specs.declared.instruction.StoreOp.{StoreOp}
use Rattle.op_rv.specs.declared.instruction.StoreOp.TheVariants.{Sb, Sh, Sw}
use Rattle.op_constants.specs.Offsets.{size_in, offset_behind}

-- ---- numbers

-- which load finds a number of the kind, and which store leaves its low bits
abbrev pub load_op : IntegerKind → LoadOp
load_op Signed8 = Lb
load_op Unsigned8 = Lbu
load_op Signed16 = Lh
load_op Unsigned16 = Lhu
load_op Signed32 = Lw

abbrev pub store_op : IntegerKind → StoreOp
store_op Signed8 = Sb
store_op Unsigned8 = Sb
store_op Signed16 = Sh
store_op Unsigned16 = Sh
store_op Signed32 = Sw

-- the number of the kind that is at an address
abbrev pub number_there : IntegerKind → (ℕ → ℕ) → ℕ → ℤ
number_there kind memory a = signed (load_value (load_op kind) memory a)

-- ---- how values are arranged: as a number, or as so many parts, each at its offset

pub data Arrangement : Type 0 where
  one_number : (kind : IntegerKind) → Arrangement
  in_parts : (size count : ℕ) → (offset : ℕ → ℕ) → (part : ℕ → Arrangement) → Arrangement

abbrev pub bytes_in : Arrangement → ℕ
bytes_in (one_number kind) = integer_size kind
bytes_in (in_parts size count offset part) = size

-- the parts lie within, one behind the other
abbrev pub IsArranged : Arrangement → Type 0
IsArranged (one_number kind) = Unit {0}
IsArranged (in_parts size count offset part) =
    ((k : ℕ) → k < count → IsArranged (part k) × (offset k + bytes_in (part k) ≤ size))
    × ((j k : ℕ) → j < k → k < count → offset j + bytes_in (part j) ≤ offset k)

-- at an address where each number is at a multiple of its size
abbrev pub IsAligned : Arrangement → ℕ → Type 0
IsAligned (one_number kind) a = a % integer_size kind ≡ 0
IsAligned (in_parts size count offset part) a = (k : ℕ) → k < count → IsAligned (part k) (a + offset k)

-- ---- the value lies at an address: its numbers are there

abbrev pub Lies : Arrangement → Value → (memory : ℕ → ℕ) → ℕ → Type 0
Lies (one_number kind) v memory a = number_in v ≡ number_there kind memory a
Lies (in_parts size count offset part) v memory a = (k : ℕ) → k < count → Lies (part k) (part_of k v) memory (a + offset k)

-- the path leads to a part with this arrangement, so many bytes behind the beginning
abbrev pub Leads : Arrangement → List ℕ → Arrangement → ℕ → Type 0
Leads l [] to d = (l ≡ to) × (d ≡ 0)
Leads (one_number kind) (k ∷ path) to d = ⊥
Leads (in_parts size count offset part) (k ∷ path) to d = (k < count) × (e : ℕ) × (d ≡ offset k + e) × Leads (part k) path to e

-- ---- types

-- where a part begins: a field at its offset, an element behind those in front
abbrev pub part_offset : Core → Option CoreType → ℕ → ℕ
part_offset core (Some (Record fields)) k = offset_behind core 0 (rows core.fields fields) k
part_offset core (Some (Array index element)) k = k * size_in core element
part_offset core _ k = 0

abbrev pub arrangement_by : (TypeId → Arrangement) → Core → ℕ → Option CoreType → Shape → Arrangement
arrangement_by inner core size of (single kind) = one_number kind
arrangement_by inner core size of composite = in_parts size (parts_by core of) (part_offset core of) (λ k. inner (part_type core of k))
arrangement_by inner core size of _ = one_number Signed32

abbrev pub arrangement_within : ℕ → Core → TypeId → Arrangement
arrangement_within zero core of = one_number Signed32
arrangement_within (suc n) core of = arrangement_by (arrangement_within n core) core (size_in core of) (type_at core of) (shape_of core of)

-- no type is made of more types than stand in front of it
abbrev pub arrangement_of : Core → TypeId → Arrangement
arrangement_of core of = arrangement_within (suc of.0) core of
