use Rattle.std.proofs.Common.{◌≡◌, ◌++◌, drop}
use Rattle.op_places.specs.Homes.{homes_from, room_behind}
use Rattle.op_places.proofs.homes.give_homes.Given as goal

-- the variables that are left give the rest
abbrev pub invariant-loop-variable : goal.invariant-loop-variable
invariant-loop-variable l =
    record {
      homes : l.homes.items ++ homes_from l.core l.parameters l.roots l.k l.room (drop l.variable-index l.variables) ≡ l.fn.homes.items ++ homes_from l.core l.parameters l.roots 0 l.fn.first l.variables;
      room : room_behind l.core l.parameters l.roots l.k l.room (drop l.variable-index l.variables) ≡ room_behind l.core l.parameters l.roots 0 l.fn.first l.variables;
    }
