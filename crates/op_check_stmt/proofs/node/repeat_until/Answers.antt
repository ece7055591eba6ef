use Rattle.std.proofs.Common.{ap, ◌∙◌}
use Rattle.std.specs.Option.{option_map}
use Rattle.std.specs.Prelude.{Vec}
use Rattle.std.specs.declared.alloc.Global.{Global}
use Rattle.op_check_stmt.proofs.Parts.{made_behind}
use Rattle.op_core.specs.Expression.{expr_of}
use Rattle.op_core.specs.Statement.{repeat_until, stmt_of, stmts_of}
use Rattle.op_core.specs.declared.statement.CoreStmt.{CoreStmt}
use Rattle.op_check_stmt.proofs.node.repeat_until.Goals as goal

pub returns : goal.returns
returns c = made_behind (λ (s : Vec CoreStmt Global). stmts_of s.items) expr_of repeat_until c.args.done.0 c.args.done.1 c.args.body c.args.condition _ _ c.in_ok-parts.ensures (ap (option_map stmt_of) c.put.ensures ∙ c.in_ok-made.ensures)
