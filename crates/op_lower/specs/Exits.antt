-- Where Exit, Break and Continue lead, as the definition of code has it.
use Rattle.std.specs.Prelude.{ℕ, suc, map}
use Rattle.op_items.specs.View.{way_view}
use Rattle.op_items.specs.declared.item.Way.{Way}
use Rattle.op_lower.specs.declared.exits.Exits.{Exits}
use Rattle.op_lower.specs.declared.exits.Exits.TheVariants.{Routine, Loop', Scope', Finally}
use Rattle.op_mir.specs.Code.{Exits as MeantExits, routine_exits, loop_exits, scope_exits, finally_exits}
use Rattle.op_mir.specs.View.{view_temporary}

abbrev pub exits_of : Exits → MeantExits
exits_of Routine = routine_exits
exits_of (Loop' _ around behind) = loop_exits (exits_of around) behind.0
exits_of (Scope' _ around ts) = scope_exits (exits_of around) (map view_temporary ts.now)
exits_of (Finally reason finalization) = finally_exits reason.0 finalization.0

-- 1 leaves the routine, 2 the loop, 3 its turn
abbrev pub reason_of : Way → ℕ
reason_of way = suc (way_view way)
