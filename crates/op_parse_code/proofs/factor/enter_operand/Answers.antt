use Rattle.std.proofs.Common.{sym, ◌∙◌, arith}
use Rattle.op_parse_code.proofs.Calls.{front_begins, front_not}
use Rattle.op_parse_code.proofs.Factors.{cannot_enter, operand_too_deep}
use Rattle.op_tree.specs.Ends.{begins_expression}
use Rattle.op_parse_code.proofs.factor.enter_operand.Goals as goal

pub returns-then-begins_expression-clause-refused : goal.returns-then-begins_expression-clause-refused
returns-then-begins_expression-clause-refused c = (omega arith, operand_too_deep c.args.end _ _ (front_begins begins_expression _ (sym c.begins_expression.ensures ∙ c.if-begins_expression.true)) c.nested.ensures)

pub returns-clause-refused : goal.returns-clause-refused
returns-clause-refused c = (omega arith, cannot_enter c.args.end _ _ (front_not begins_expression _ (sym c.begins_expression.ensures ∙ c.if-begins_expression.false)) c.syntax.ensures)
