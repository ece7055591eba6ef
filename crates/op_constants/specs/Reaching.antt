-- Where the steps of a path lead in memory. (Free Pascal Reference Guide, "Record types" and "Arrays".)
use Rattle.std.specs.Prelude.{◌≡◌, ◌<◌, ℕ, ◌+◌, ◌*◌, ◌-ℤ◌, nat_abs, List, [], ◌∷◌, Some}
use Rattle.op_core.specs.Sizes.{type_at, range_of}
use Rattle.op_core.specs.declared.ids.Run.{Run}
use Rattle.op_core.specs.declared.ids.TypeId.{TypeId}
use Rattle.op_core.specs.declared.program.Core.{Core}
use Rattle.op_core.specs.declared.types.CoreType.TheVariants.{Record, Array}
use Rattle.op_meaning.specs.Paths.{Step, field, element}
use Rattle.op_meaning.specs.Shapes.{part_type}
use Rattle.op_meaning.specs.World.{World, number_at}
use Rattle.op_constants.specs.Offsets.{field_offset, element_size}

-- Each step is written for the type that it starts from: a field of it, or an element of it with an index in the range of its index type.
abbrev pub Reaches : Core → TypeId → List Step → TypeId → Type 0
Reaches core of [] to = of ≡ to
Reaches core of (field whole k ∷ steps) to =
    (whole ≡ of) × (run : Run) × (type_at core of ≡ Some (Record run)) × (k < run.count) × Reaches core (part_type core (type_at core of) k) steps to
Reaches core of (element whole low high t ∷ steps) to =
    (whole ≡ of) × (index : TypeId) × (each : TypeId) × (type_at core of ≡ Some (Array index each)) × (range_of (type_at core index) ≡ Some (low, high)) × Reaches core each steps to

-- how many bytes behind its beginning the place is to which the steps lead
abbrev pub distance : Core → World → List Step → ℕ
distance core w [] = 0
distance core w (field whole k ∷ steps) = field_offset core whole k + distance core w steps
distance core w (element whole low high t ∷ steps) = nat_abs (number_at w t -ℤ low) * element_size core whole + distance core w steps
