-- Making an instance changes no number of holders: its fields begin with no name, and a reference to an instance of a class does not hold it.
-- Where a place receives it, what stood there is taken away.
use Rattle.std.proofs.Common.{◌≡◌, ℕ, ◌+◌, List, ◌∙◌, refl, arith}
use Rattle.std.specs.Prelude.{false, Some}
use Rattle.op_core.specs.declared.ids.ClassId.{ClassId}
use Rattle.op_core.specs.declared.ids.TypeId.{TypeId}
use Rattle.op_core.specs.declared.program.Core.{Core}
use Rattle.op_counts.proofs.NamelessValues.{instance_begins_nameless}
use Rattle.op_counts.proofs.Receiving.{received_placed, received_failing}
use Rattle.op_counts.proofs.Writes.{parts_made}
use Rattle.op_counts.specs.Counting.{count_in, Leads, listed, times, held}
use Rattle.op_meaning.specs.Calls.{makes}
use Rattle.op_meaning.specs.Frames.{StateOver, Rules, Handed, with_world}
use Rattle.op_meaning.specs.Items.{nowhere, to_temp, to_place}
use Rattle.op_meaning.specs.Paths.{Path, place_of}
use Rattle.op_meaning.specs.Shapes.{zero_instance}
use Rattle.op_meaning.specs.Values.{Value, instance, object, Place, reached, failing, all_of}
use Rattle.op_meaning.specs.World.{fields, Construction, making, value_at, with_value}

-- the next name is an instance of the class, and nothing refers to it
abbrev pub with_instance : {Work Counts : Type 0} → Core → ClassId → StateOver Work Counts → StateOver Work Counts
with_instance core c s = with_world (with_value (all_of (object s.world.next)) (zero_instance core c) (making (fields c Construction) s.world)) s

module _ {Work Counts : Type 0} (rules : Rules Work Counts) (c : ClassId) (r : ℕ) (given : List Handed) (s : StateOver Work Counts) (y : ℕ) where
  abbrev core : Core
  core = rules.program.core

  abbrev made : StateOver Work Counts
  made = with_instance core c s

  abbrev reference : Value
  reference = instance false (Some s.world.next)

  instance_made : held core made y ≡ held core s y
  instance_made =
      let more : held core made y ≡ held core s y + count_in y (zero_instance core c) = parts_made core s y (fields c Construction) (zero_instance core c) refl in
      let none : count_in y (zero_instance core c) ≡ 0 = instance_begins_nameless core y c in
      omega arith

  -- An instance is made that nothing receives.
  pub makes_alone : held core (makes rules c r nowhere given s) y ≡ held core s y
  makes_alone = instance_made

  -- A temporary receives a number, and holds nothing.
  pub makes_kept : (t : ℕ) → held core (makes rules c r (to_temp t) given s) y ≡ held core s y
  makes_kept t = instance_made

  -- A place receives the instance: what stood there is taken away, and nothing is added.
  pub makes_placed : (of : TypeId) (path : Path) (q : Place) → place_of made.world path ≡ reached q → times q.holder (listed core made) ≡ 1 → Leads q.path (made.world.memory q.holder)
      → held core (makes rules c r (to_place of path) given s) y + count_in y (value_at made.world q) ≡ held core s y
  makes_placed of path q found once leads =
      let all : held core (makes rules c r (to_place of path) given s) y + count_in y (value_at made.world q) ≡ held core made y + count_in y reference =
      received_placed rules.program made reference y of path q found once leads in
      let same : held core made y ≡ held core s y = instance_made in
      omega arith

  -- An error is met on the way to the place.
  pub makes_failing : (of : TypeId) (path : Path) (error : ℕ) → place_of made.world path ≡ failing error → held core (makes rules c r (to_place of path) given s) y ≡ held core s y
  makes_failing of path error met = received_failing rules.program made reference y of path error met ∙ instance_made
