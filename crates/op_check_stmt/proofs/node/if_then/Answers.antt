use Rattle.std.proofs.Common.{ap, ◌∙◌}
use Rattle.std.specs.Option.{option_map}
use Rattle.op_check_stmt.proofs.Parts.{made_of}
use Rattle.op_check_stmt.specs.Parts.{boxed_of}
use Rattle.op_core.specs.Expression.{expr_of}
use Rattle.op_core.specs.Statement.{if_then, stmt_of}
use Rattle.op_check_stmt.proofs.node.if_then.Goals as goal

pub returns : goal.returns
returns c = made_of expr_of boxed_of if_then c.args.done c.args.condition c.args.then _ _ c.in_ok-parts.ensures (ap (option_map stmt_of) c.put.ensures ∙ c.if_with.ensures)
