use Rattle.std.proofs.Common.{ap, ◌∙◌}
use Rattle.std.specs.Option.{option_map}
use Rattle.op_check_stmt.proofs.Parts.{made_of}
use Rattle.op_check_stmt.specs.Parts.{boxed_of}
use Rattle.op_core.specs.Expression.{expr_of}
use Rattle.op_core.specs.Statement.{stmt_of, while_do}
use Rattle.op_check_stmt.proofs.node.while_do.Goals as goal

pub returns : goal.returns
returns c = made_of expr_of boxed_of while_do c.args.done c.args.condition c.args.body _ _ c.in_ok-parts.ensures (ap (option_map stmt_of) c.put.ensures ∙ c.while_with.ensures)
