use Rattle.op_tree.proofs.Rows.{try_finally_says, try_except_says, try_on_says, try_on_else_says}
use Rattle.op_parse_code.proofs.statement_nodes.try_node.Goals as goal

pub returns-in-Finally : goal.returns-in-Finally
returns-in-Finally c = rw c.in-Finally.is (try_finally_says c.args.body c.in-Finally.finalization)

pub returns-in-Except : goal.returns-in-Except
returns-in-Except c = rw c.in-Except.is (try_except_says c.args.body c.in-Except.handler)

pub returns-in-On : goal.returns-in-On
returns-in-On c = rw c.in-On.is (try_on_says c.args.body c.in-On.handlers)

pub returns-in-OnElse : goal.returns-in-OnElse
returns-in-OnElse c = rw c.in-OnElse.is (try_on_else_says c.args.body c.in-OnElse.handlers c.in-OnElse.otherwise)
