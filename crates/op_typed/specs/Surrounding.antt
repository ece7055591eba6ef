-- What stands round a statement, as its typing asks for it. No handler is asked for, since nothing is raised again in this profile.
use Rattle.std.specs.Prelude.{◌≡◌, true, false}
use Rattle.op_check_expr.specs.Scopes.{Here}
use Rattle.op_core.specs.StatementTyping as typing
use Rattle.op_check_stmt.specs.Leaving.{in_finally, reach_of}
use Rattle.op_check_stmt.specs.Procedure.{result_of}
use Rattle.op_check_stmt.specs.declared.leaving.Reach.TheVariants.{Inside}

pub record Surrounds (here : Here) (place : typing.Here) : Type 0 where
  pub result : place.result ≡ result_of here
  pub loop : reach_of here.around ≡ Inside → place.loop ≡ true
  pub routine : in_finally here.around ≡ false → place.routine ≡ true
