-- Where an expression stands, without the references by which the code reaches it.
use Rattle.std.specs.Prelude.{List, Option}
use Rattle.op_core.specs.declared.ids.RoutineId.{RoutineId}
use Rattle.op_core.specs.declared.program.Core.{Core}
use Rattle.op_check_expr.specs.declared.scope.Around.{Around}
use Rattle.op_check_expr.specs.declared.scope.Scope.{Scope}
use Rattle.op_types.specs.Names.{Named}

pub record Here : Type 0 where
  pub core : Core
  pub visible : List Named
  pub routine : Option RoutineId
  pub around : List Around

abbrev pub here_of : Scope → Here
here_of s = record { core = s.core.now; visible = s.visible.now; routine = s.routine; around = s.around.now }
