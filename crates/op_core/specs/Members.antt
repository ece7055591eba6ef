-- What stands in a table, and what classes and interfaces have from those that they descend from (Free Pascal Reference
-- Guide, "Classes" and "Interfaces").
use Rattle.std.specs.Prelude.{◌≡◌, ℕ, ◌+◌, ◌<◌, ◌≤◌, List, Some, slice_get, map, IsSomeAnd}
use Rattle.std.specs.List.{Contains}
use Rattle.op_core.specs.Rows.{rows}
use Rattle.op_core.specs.Sizes.{type_at}
use Rattle.op_core.specs.declared.ids.ClassId.{ClassId}
use Rattle.op_core.specs.declared.ids.FieldId.{FieldId}
use Rattle.op_core.specs.declared.ids.InterfaceId.{InterfaceId}
use Rattle.op_core.specs.declared.ids.RoutineId.{RoutineId}
use Rattle.op_core.specs.declared.ids.Run.{Run}
use Rattle.op_core.specs.declared.ids.TypeId.{TypeId}
use Rattle.op_core.specs.declared.program.Core.{Core}
use Rattle.op_core.specs.declared.types.CoreType.{CoreType}

-- there is such a row, of which this holds
abbrev pub There : {A : Type 0} → List A → ℕ → (A → Type 0) → Type 0
There table n P = IsSomeAnd (slice_get table n) P

-- the row is one of those that lie together
abbrev pub InRun : Run → ℕ → Type 0
InRun run n = (run.first ≤ n) × (n < run.first + run.count)

-- the type has this form
abbrev pub Kind : Core → TypeId → CoreType → Type 0
Kind core of t = type_at core of ≡ Some t

-- it is the class, or an ancestor of it
pub data Descends (core : Core) : ClassId → ClassId → Type 0 where
  itself : {c : ClassId} → Descends core c c
  further : {c a d : ClassId} → There core.classes c.0 (λ x. x.ancestor ≡ Some a) → Descends core a d → Descends core c d

-- it is the interface, or an ancestor of it
pub data Extends (core : Core) : InterfaceId → InterfaceId → Type 0 where
  itself : {i : InterfaceId} → Extends core i i
  further : {i a j : InterfaceId} → There core.interfaces i.0 (λ x. x.ancestor ≡ Some a) → Extends core a j → Extends core i j

-- the class, or an ancestor, lists the interface or one that descends from it
pub record Implements (core : Core) (c : ClassId) (i : InterfaceId) : Type 0 where
  pub lister : ClassId
  pub descends : Descends core c lister
  pub listed : InterfaceId
  pub lists : There core.classes lister.0 (λ x. Contains (rows core.listed x.interfaces) listed)
  pub extends : Extends core listed i

-- an instance of the class has the field
pub record HasField (core : Core) (c : ClassId) (f : FieldId) : Type 0 where
  pub owner : ClassId
  pub descends : Descends core c owner
  pub declares : There core.classes owner.0 (λ x. InRun x.fields f.0)

abbrev pub methods_of : Core → Run → List RoutineId
methods_of core run = map (λ m. m.routine) (rows core.methods run)

-- the class has the method
pub record HasMethod (core : Core) (c : ClassId) (r : RoutineId) : Type 0 where
  pub owner : ClassId
  pub descends : Descends core c owner
  pub declares : There core.classes owner.0 (λ x. Contains (methods_of core x.methods) r)

-- the interface has the method
pub record AsksFor (core : Core) (i : InterfaceId) (r : RoutineId) : Type 0 where
  pub owner : InterfaceId
  pub extends : Extends core i owner
  pub declares : There core.interfaces owner.0 (λ x. Contains (methods_of core x.methods) r)
