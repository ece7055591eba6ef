use Rattle.std.proofs.Common.{arith}
use Rattle.op_core.proofs.Nodes.{list_nodes}
use Rattle.op_core.specs.Statement.{stmt_of}
use Rattle.op_meaning.specs.Charge.{charged, statement_weight}
use Rattle.op_meaning.proofs.Charged.{begins, says}
use Rattle.op_meaning.proofs.charge_statement.+statement.Goals as goal

pub statement-returns-in-Block : goal.statement-returns-in-Block
statement-returns-in-Block t c = grind (arith, says (λ s. charged (statement_weight c.args.core.now s)) stmt_of c.in-Block.is (list_nodes.block_says c.in-Block.body))

pub statement-returns-in-Case : goal.statement-returns-in-Case
statement-returns-in-Case t c = grind (arith, says (λ s. charged (statement_weight c.args.core.now s)) stmt_of c.in-Case.is (list_nodes.case_says c.in-Case.selector c.in-Case.list c.in-Case.otherwise))

pub statement-returns-in-Repeat : goal.statement-returns-in-Repeat
statement-returns-in-Repeat t c = grind (arith, says (λ s. charged (statement_weight c.args.core.now s)) stmt_of c.in-Repeat.is (list_nodes.repeat_says c.in-Repeat.body c.in-Repeat.condition))

pub statement-returns-in-TryFinally : goal.statement-returns-in-TryFinally
statement-returns-in-TryFinally t c = grind (arith, says (λ s. charged (statement_weight c.args.core.now s)) stmt_of c.in-TryFinally.is (list_nodes.finally_says c.in-TryFinally.body c.in-TryFinally.finalization))

pub statement-returns-in-TryOn : goal.statement-returns-in-TryOn
statement-returns-in-TryOn t c = grind (arith, says (λ s. charged (statement_weight c.args.core.now s)) stmt_of c.in-TryOn.is (list_nodes.on_says c.in-TryOn.body c.in-TryOn.list))

pub statement-returns-in-TryOnElse : goal.statement-returns-in-TryOnElse
statement-returns-in-TryOnElse t c = grind (arith, says (λ s. charged (statement_weight c.args.core.now s)) stmt_of c.in-TryOnElse.is (list_nodes.else_says c.in-TryOnElse.body c.in-TryOnElse.list c.in-TryOnElse.otherwise))

pub statements-loop-each-init : goal.statements-loop-each-init
statements-loop-each-init t c = record { fits = omega arith; gives = begins _ }

pub branches-loop-each-init : goal.branches-loop-each-init
branches-loop-each-init t c = record { fits = omega arith; gives = begins _ }

pub handlers-loop-each-init : goal.handlers-loop-each-init
handlers-loop-each-init t c = record { fits = omega arith; gives = begins _ }
