use Rattle.std.proofs.Common.{arith}
use Rattle.op_core.proofs.Nodes.{list_nodes}
use Rattle.op_core.specs.Statement.{stmt_of}
use Rattle.op_plain.proofs.Nodes.{says}
use Rattle.op_plain.specs.Plain.{is_plain_statement, is_short}
use Rattle.op_typing.specs.SimpleTests.{is_short_text}
use Rattle.op_plain.proofs.statement.+statement.Goals as goal

pub is_plain_statement-returns-in-Block : goal.is_plain_statement-returns-in-Block
is_plain_statement-returns-in-Block t c = record {
  texts = grind (arith, says (is_plain_statement is_short_text c.args.core.now) stmt_of c.in-Block.is (list_nodes.block_says c.in-Block.body));
  lengths = grind (arith, says (is_plain_statement is_short c.args.core.now) stmt_of c.in-Block.is (list_nodes.block_says c.in-Block.body));
}

pub is_plain_statement-returns-then-are_plain_branches : goal.is_plain_statement-returns-then-are_plain_branches
is_plain_statement-returns-then-are_plain_branches t c = record {
  texts = grind (arith, says (is_plain_statement is_short_text c.args.core.now) stmt_of c.in-Case.is (list_nodes.case_says c.in-Case.selector c.in-Case.branches c.in-Case.otherwise));
  lengths = grind (arith, says (is_plain_statement is_short c.args.core.now) stmt_of c.in-Case.is (list_nodes.case_says c.in-Case.selector c.in-Case.branches c.in-Case.otherwise));
}

pub is_plain_statement-returns-else-are_plain_branches : goal.is_plain_statement-returns-else-are_plain_branches
is_plain_statement-returns-else-are_plain_branches t c = record {
  texts = grind (arith, says (is_plain_statement is_short_text c.args.core.now) stmt_of c.in-Case.is (list_nodes.case_says c.in-Case.selector c.in-Case.branches c.in-Case.otherwise));
  lengths = grind (arith, says (is_plain_statement is_short c.args.core.now) stmt_of c.in-Case.is (list_nodes.case_says c.in-Case.selector c.in-Case.branches c.in-Case.otherwise));
}

pub is_plain_statement-returns-then-is_plain_expression-5 : goal.is_plain_statement-returns-then-is_plain_expression-5
is_plain_statement-returns-then-is_plain_expression-5 t c = record {
  texts = grind (arith, says (is_plain_statement is_short_text c.args.core.now) stmt_of c.in-Repeat.is (list_nodes.repeat_says c.in-Repeat.body c.in-Repeat.condition));
  lengths = grind (arith, says (is_plain_statement is_short c.args.core.now) stmt_of c.in-Repeat.is (list_nodes.repeat_says c.in-Repeat.body c.in-Repeat.condition));
}

pub is_plain_statement-returns-then-are_plain_statements : goal.is_plain_statement-returns-then-are_plain_statements
is_plain_statement-returns-then-are_plain_statements t c = record {
  texts = grind (arith, says (is_plain_statement is_short_text c.args.core.now) stmt_of c.in-TryFinally.is (list_nodes.finally_says c.in-TryFinally.body c.in-TryFinally.finalization));
  lengths = grind (arith, says (is_plain_statement is_short c.args.core.now) stmt_of c.in-TryFinally.is (list_nodes.finally_says c.in-TryFinally.body c.in-TryFinally.finalization));
}

pub is_plain_statement-returns-else-are_plain_statements : goal.is_plain_statement-returns-else-are_plain_statements
is_plain_statement-returns-else-are_plain_statements t c = record {
  texts = grind (arith, says (is_plain_statement is_short_text c.args.core.now) stmt_of c.in-TryFinally.is (list_nodes.finally_says c.in-TryFinally.body c.in-TryFinally.finalization));
  lengths = grind (arith, says (is_plain_statement is_short c.args.core.now) stmt_of c.in-TryFinally.is (list_nodes.finally_says c.in-TryFinally.body c.in-TryFinally.finalization));
}
