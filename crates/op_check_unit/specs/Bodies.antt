-- Bodies of routines as trees, wherever they lie in memory.
use Rattle.std.specs.Prelude.{}
use Rattle.op_check_unit.specs.declared.body.Owned.{Owned}
use Rattle.op_core.specs.Statement.{Statements, stmts_of}
use Rattle.op_core.specs.declared.ids.RoutineId.{RoutineId}

abbrev pub said : Owned → RoutineId × Statements
said b = (b.routine, stmts_of b.statements.items)
