use Rattle.op_core.proofs.Nodes.{expr_more}
use Rattle.op_core.proofs.expression.CoreExpr.push.Goals as goal

pub returns : goal.returns
returns c = expr_more c.args.self.now c.push.new.self c.args.action c.args.of c.in_ok-push.ensures.items
