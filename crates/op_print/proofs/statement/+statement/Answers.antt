use Rattle.std.proofs.Common.{arith}
use Rattle.op_print.proofs.Nodes.{said}
use Rattle.op_print.specs.StatementDrafts.{statement_draft}
use Rattle.op_tree.proofs.Rows.{block_says, case_of_says, case_else_says, repeat_until_says, try_finally_says, try_except_says, try_on_says, try_on_else_says}
use Rattle.op_tree.specs.Statement.{stmt_of}
use Rattle.op_print.proofs.statement.+statement.Goals as goal

pub statement-returns-in_ok-block_end-in-Block : goal.statement-returns-in_ok-block_end-in-Block
statement-returns-in_ok-block_end-in-Block t c = grind (arith, said statement_draft stmt_of c.in-Block.is (block_says c.in-Block.list))

pub statement-returns-in_ok-word-in-Case : goal.statement-returns-in_ok-word-in-Case
statement-returns-in_ok-word-in-Case t c = grind (arith, said statement_draft stmt_of c.in-Case.is (case_of_says c.in-Case.selector c.in-Case.list))

pub statement-returns-in_ok-block_end-in-CaseElse : goal.statement-returns-in_ok-block_end-in-CaseElse
statement-returns-in_ok-block_end-in-CaseElse t c = grind (arith, said statement_draft stmt_of c.in-CaseElse.is (case_else_says c.in-CaseElse.selector c.in-CaseElse.list c.in-CaseElse.otherwise))

pub statement-returns-in_ok-expression-in-Repeat : goal.statement-returns-in_ok-expression-in-Repeat
statement-returns-in_ok-expression-in-Repeat t c = grind (arith, said statement_draft stmt_of c.in-Repeat.is (repeat_until_says c.in-Repeat.body c.in-Repeat.condition))

pub statement-returns-in_ok-block_end-in-TryFinally : goal.statement-returns-in_ok-block_end-in-TryFinally
statement-returns-in_ok-block_end-in-TryFinally t c = grind (arith, said statement_draft stmt_of c.in-TryFinally.is (try_finally_says c.in-TryFinally.body c.in-TryFinally.finalization))

pub statement-returns-in_ok-block_end-in-TryExcept : goal.statement-returns-in_ok-block_end-in-TryExcept
statement-returns-in_ok-block_end-in-TryExcept t c = grind (arith, said statement_draft stmt_of c.in-TryExcept.is (try_except_says c.in-TryExcept.body c.in-TryExcept.handler))

pub statement-returns-in_ok-word-in-TryOn : goal.statement-returns-in_ok-word-in-TryOn
statement-returns-in_ok-word-in-TryOn t c = grind (arith, said statement_draft stmt_of c.in-TryOn.is (try_on_says c.in-TryOn.body c.in-TryOn.list))

pub statement-returns-in_ok-block_end-in-TryOnElse : goal.statement-returns-in_ok-block_end-in-TryOnElse
statement-returns-in_ok-block_end-in-TryOnElse t c = grind (arith, said statement_draft stmt_of c.in-TryOnElse.is (try_on_else_says c.in-TryOnElse.body c.in-TryOnElse.list c.in-TryOnElse.otherwise))
