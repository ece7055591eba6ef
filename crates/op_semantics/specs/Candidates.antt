-- Which temporaries items may make that have to be ended, and the items in a scope of these. (Free Pascal Reference Guide, "Managed types".)
use Rattle.std.specs.Prelude.{List, [], ◌∷◌, ◌++◌, Option, Some, None}
use Rattle.op_semantics.specs.Actions.{Action, constant, load, store, copy, begin_with, pick, arithmetic, compare, negate, complement, invert, absolute, odd, upper, low_bits, check, neighbour, single, span, combine, contains, check_set, peek, take, forget, note, primitive}
use Rattle.op_semantics.specs.Items.{Given, by_value, by_place, by_elements, by_copy, by_operand, Receiver, nowhere, to_temp, to_place, to_new, Item, act, also, choose, select, loop, body_first, protect, leave, enter, scoped, attempt, throw, rethrow, halt, construct, invoke, free, Items, none, then_do, only}
use Rattle.op_semantics.specs.Primitives.{Destination, unused, in_temp, in_new, into_place, over_place}
use Rattle.op_semantics.specs.World.{Temporary}

abbrev pub made_in : Destination → List Temporary
made_in unused = []
made_in (in_temp t) = []
made_in (in_new of n) = record { of = of; n = n } ∷ []
made_in (into_place of to old) = record { of = of; n = old } ∷ []
made_in (over_place to) = []

abbrev pub made_for : Receiver → List Temporary
made_for nowhere = []
made_for (to_temp t) = []
made_for (to_place of to) = []
made_for (to_new of n) = record { of = of; n = n } ∷ []

abbrev pub held_by : Option Temporary → List Temporary
held_by None = []
held_by (Some t) = t ∷ []

abbrev pub made_with : Given → List Temporary
made_with (by_value kind t) = []
made_with (by_place path hold) = held_by hold
made_with (by_elements path hold) = held_by hold
made_with (by_copy of path) = []
made_with (by_operand o) = []

-- the last one first
abbrev pub made_with_all : List Given → List Temporary
made_with_all [] = []
made_with_all (g ∷ gs) = made_with_all gs ++ made_with g

abbrev pub made_by_action : Action → List Temporary
made_by_action (constant to n) = []
made_by_action (load to kind from) = []
made_by_action (store to kind from) = []
made_by_action (copy of to from) = []
made_by_action (begin_with v of value) = []
made_by_action (pick to text index) = []
made_by_action (arithmetic o checked to a b) = []
made_by_action (compare o to a b) = []
made_by_action (negate checked to a) = []
made_by_action (complement to a) = []
made_by_action (invert to a) = []
made_by_action (absolute checked to a) = []
made_by_action (odd to a) = []
made_by_action (upper to a) = []
made_by_action (low_bits kind to a) = []
made_by_action (check low high to a) = []
made_by_action (neighbour distance low high to a) = []
made_by_action (single to a) = []
made_by_action (span to a b) = []
made_by_action (combine o to a b) = []
made_by_action (contains to a b) = []
made_by_action (check_set all to a) = []
made_by_action (peek to) = []
made_by_action take = []
made_by_action forget = []
made_by_action (note a) = []
made_by_action (primitive p operands to) = made_in to

-- of one evaluation, the last one that may be made first: what branches, loops and parts make, and what is made in a scope, ends there
abbrev mutual
  pub made_by : Items → List Temporary
  made_by none = []
  made_by (then_do i others) = made_by others ++ made_at i

  pub made_at : Item → List Temporary
  made_at (act a) = made_by_action a
  made_at (also truth t items) = made_by items
  made_at (choose t first otherwise) = []
  made_at (select t cs otherwise) = []
  made_at (loop l) = []
  made_at (body_first l) = []
  made_at (protect t items finalization) = []
  made_at (leave what) = []
  made_at (enter r given receiver) = made_for receiver ++ made_with_all given
  made_at (scoped t ts items) = []
  made_at (attempt items cs) = []
  made_at (throw at) = []
  made_at rethrow = []
  made_at (halt t) = []
  made_at (construct c r given receiver) = made_for receiver ++ made_with_all given
  made_at (invoke r dispatch of given receiver) = made_for receiver ++ made_with_all given
  made_at (free takes_nil at) = []

abbrev pub within : List Temporary → Items → Items
within [] items = items
within (t ∷ ts) items = only (scoped t ts items)

-- what a statement or a condition has made ends behind it
abbrev pub finished : Items → Items
finished items = within (made_by items) items
