use Rattle.std.proofs.Common.{ap, ◌∙◌}
use Rattle.std.specs.Option.{option_map}
use Rattle.std.specs.Prelude.{Vec}
use Rattle.std.specs.declared.alloc.Global.{Global}
use Rattle.op_check_stmt.proofs.Parts.{made_behind}
use Rattle.op_core.specs.Statement.{stmt_of, stmts_of, try_finally}
use Rattle.op_core.specs.declared.statement.CoreStmt.{CoreStmt}
use Rattle.op_check_stmt.proofs.node.try_finally.Goals as goal

pub returns : goal.returns
returns c = made_behind (λ (s : Vec CoreStmt Global). stmts_of s.items) (λ (s : Vec CoreStmt Global). stmts_of s.items) try_finally c.args.done.0 c.args.done.1 c.args.body c.args.finalization _ _ c.in_ok-parts.ensures (ap (option_map stmt_of) c.put.ensures ∙ c.finally_with.ensures)
