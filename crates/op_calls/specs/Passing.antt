-- What an argument gives to its parameter, and where a result goes, as the source machine sees it.
use Rattle.std.specs.Prelude.{◌≡◌, ℕ, List}
use Rattle.op_calls.specs.declared.passing.Passed.{Passed}
use Rattle.op_calls.specs.declared.receiver.Placed.{Placed}
use Rattle.op_core.specs.Sizes.{type_at}
use Rattle.op_core.specs.declared.ids.ClassId.{ClassId}
use Rattle.op_core.specs.declared.ids.TypeId.{TypeId}
use Rattle.op_core.specs.declared.operation.Dispatch.{Dispatch}
use Rattle.op_core.specs.declared.program.Core.{Core}
use Rattle.op_semantics.specs.Expressions.{element_of, Found, found, given_by, Here, list_path, Now, OnePassed, part_given, ready, Result}
use Rattle.op_semantics.specs.Items.{Given, Items, construct, enter, invoke, none, only}
use Rattle.op_semantics.specs.Paths.{field, with_step}
use Rattle.op_semantics.specs.Shapes.{shape_of}
use Rattle.op_values.specs.Adding.{Adds, now_view}
use Rattle.op_values.specs.View.{view_given, view_receiver}
use Rattle.op_values.specs.declared.item.Item.{Item}
use Rattle.op_values.specs.declared.setting.Setting.{Setting}

-- with nothing that was to be done for it
abbrev pub passed_view : Passed → OnePassed
passed_view p = record { items = none; given = view_given p.given; used = p.used; held = p.held }

-- behind the old items come those of an argument, which is given so to its parameter
pub record Passes (setting : Setting) (old new : List Item) (p : Passed) (q : OnePassed) : Type 0 where
  pub adds : Adds setting old new q.items
  pub is : passed_view p ≡ record q { items = none }

-- a value of its own of the type, for a value parameter
abbrev pub value_passed : Core → TypeId → Here → Found → OnePassed
value_passed core of here f = record { items = f.items; given = given_by core (shape_of core of) of here f.now; used = 1; held = f.held }

-- what is kept of a value whose place is told
abbrev pub kept : ℕ → ℕ → Found
kept used held = record { items = none; now = ready; used = used; held = held }

abbrev pub placed_view : Placed → Result
placed_view p = record { receiver = view_receiver p.receiver; now = now_view p.now; held = p.held }

-- ---- calls, behind what was done for their arguments

abbrev pub entered : (routine : ℕ) → List Given → Result → Found
entered r given result = found (only (enter r given result.receiver)) result.now result.held

abbrev pub constructed : ClassId → (routine : ℕ) → List Given → Result → Found
constructed c r given result = found (only (construct c r given result.receiver)) result.now result.held

abbrev pub invoked : (routine : ℕ) → Dispatch → TypeId → List Given → Result → Found
invoked r dispatch of given result = found (only (invoke r dispatch of given result.receiver)) result.now result.held

-- ---- lists of values

-- a value of the elements' type becomes the part of a list of the type
abbrev pub element_given : Core → TypeId → (list part : ℕ) → Here → Now → Items
element_given core of list part here now = part_given core (shape_of core (element_of (type_at core of))) (element_of (type_at core of)) here now (with_step (field of part) (list_path of list))
