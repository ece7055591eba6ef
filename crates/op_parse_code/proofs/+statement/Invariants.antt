use Rattle.std.proofs.Common.{◌+◌, ◌*◌, ◌≤◌, length}
use Rattle.op_parse_code.proofs.Branches.{add_branch}
use Rattle.op_parse_code.proofs.Handlers.{add_handler}
use Rattle.op_parse_code.proofs.Lists.{Reading}
use Rattle.op_parse_code.proofs.Statements.{add_stmt}
use Rattle.op_parse_code.specs.WholeStatement.{SomeBranches, SomeHandlers, SomeStatements}
use Rattle.op_tree.specs.Terminal.{terminals}
use Rattle.op_parse_code.proofs.+statement.Given as goal

abbrev pub decreases-compound::statement_at : goal.decreases-compound::statement_at
decreases-compound::statement_at l = 8 * l.left + 1

abbrev pub decreases-compound::boxed_statement : goal.decreases-compound::boxed_statement
decreases-compound::boxed_statement l = 8 * l.left + 2

abbrev pub decreases-compound::behind_word : goal.decreases-compound::behind_word
decreases-compound::behind_word l = 8 * l.left + 5

abbrev pub decreases-compound::block : goal.decreases-compound::block
decreases-compound::block l = 8 * l.left + 4

abbrev pub decreases-compound::statements : goal.decreases-compound::statements
decreases-compound::statements l = 8 * l.left + 2

abbrev pub decreases-compound::if_statement : goal.decreases-compound::if_statement
decreases-compound::if_statement l = 8 * l.left + 4

abbrev pub decreases-repetition::while_loop : goal.decreases-repetition::while_loop
decreases-repetition::while_loop l = 8 * l.left + 4

abbrev pub decreases-repetition::repeat_loop : goal.decreases-repetition::repeat_loop
decreases-repetition::repeat_loop l = 8 * l.left + 4

abbrev pub decreases-repetition::for_loop : goal.decreases-repetition::for_loop
decreases-repetition::for_loop l = 8 * l.left + 4

abbrev pub decreases-branch::case_statement : goal.decreases-branch::case_statement
decreases-branch::case_statement l = 8 * l.left + 4

abbrev pub decreases-branch::branches : goal.decreases-branch::branches
decreases-branch::branches l = 8 * l.left + 2

abbrev pub decreases-handler::try_statement : goal.decreases-handler::try_statement
decreases-handler::try_statement l = 8 * l.left + 4

abbrev pub decreases-handler::except_part : goal.decreases-handler::except_part
decreases-handler::except_part l = 8 * l.left + 3

abbrev pub decreases-handler::handlers : goal.decreases-handler::handlers
decreases-handler::handlers l = 8 * l.left + 2

abbrev pub invariant-compound::statements-loop-statements : goal.invariant-compound::statements-loop-statements
invariant-compound::statements-loop-statements l = Reading add_stmt SomeStatements l.fn.left l.fn.end (terminals l.fn.tokens) l.statements.items (terminals l.rest) × (length l.rest ≤ length l.fn.tokens)

abbrev pub decreases-compound::statements-loop-statements : goal.decreases-compound::statements-loop-statements
decreases-compound::statements-loop-statements l = length l.rest

abbrev pub invariant-branch::branches-loop-alloc : goal.invariant-branch::branches-loop-alloc
invariant-branch::branches-loop-alloc l = Reading add_branch SomeBranches l.fn.left l.fn.end (terminals l.fn.tokens) l.branches.items (terminals l.rest) × (length l.rest ≤ length l.fn.tokens)

abbrev pub decreases-branch::branches-loop-alloc : goal.decreases-branch::branches-loop-alloc
decreases-branch::branches-loop-alloc l = length l.rest

abbrev pub invariant-handler::handlers-loop-alloc : goal.invariant-handler::handlers-loop-alloc
invariant-handler::handlers-loop-alloc l = Reading add_handler SomeHandlers l.fn.left l.fn.end (terminals l.fn.tokens) l.handlers.items (terminals l.rest) × (length l.rest ≤ length l.fn.tokens)

abbrev pub decreases-handler::handlers-loop-alloc : goal.decreases-handler::handlers-loop-alloc
decreases-handler::handlers-loop-alloc l = length l.rest
