use Rattle.std.proofs.Common.{ap, ◌∙◌}
use Rattle.std.specs.Option.{option_map}
use Rattle.std.specs.Prelude.{Vec}
use Rattle.std.specs.declared.alloc.Global.{Global}
use Rattle.op_check_stmt.proofs.Parts.{made_behind}
use Rattle.op_check_stmt.specs.Parts.{head_of}
use Rattle.op_check_stmt.specs.Statement.{case_statement}
use Rattle.op_core.specs.Statement.{stmt_of, stmts_of}
use Rattle.op_core.specs.declared.statement.CoreStmt.{CoreStmt}
use Rattle.op_check_stmt.proofs.node.case_of.Goals as goal

pub returns : goal.returns
returns c = made_behind head_of (λ (s : Vec CoreStmt Global). stmts_of s.items) case_statement c.args.done.0 c.args.done.1 c.args.head c.args.otherwise _ _ c.in_ok-parts.ensures (ap (option_map stmt_of) c.put.ensures ∙ c.in_ok-made.ensures)
