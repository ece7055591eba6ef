use Rattle.std.proofs.Common.{ap, ◌∙◌}
use Rattle.std.specs.Option.{option_map}
use Rattle.op_check_stmt.proofs.Parts.{made_of}
use Rattle.op_check_stmt.specs.Parts.{boxed_of, front_of}
use Rattle.op_core.specs.Expression.{Expression}
use Rattle.op_core.specs.Statement.{Statement, if_else, stmt_of}
use Rattle.op_check_stmt.proofs.node.if_else.Goals as goal

pub returns : goal.returns
returns c = made_of front_of boxed_of (λ (f : Expression × Statement) s. if_else f.0 f.1 s) c.args.done c.args.front c.args.otherwise _ _ c.in_ok-parts.ensures (ap (option_map stmt_of) c.put.ensures ∙ c.if_else_with.ensures)
