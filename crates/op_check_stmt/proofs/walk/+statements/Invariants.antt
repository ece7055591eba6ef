use Rattle.std.proofs.Common.{◌≡◌, ◌++◌, drop}
use Rattle.op_check_expr.specs.Scopes.{here_of}
use Rattle.op_check_stmt.proofs.Parts.{Completes}
use Rattle.op_check_stmt.specs.Parts.{branch_of, items_of}
use Rattle.op_judgement.specs.Judgement.{checked}
use Rattle.op_check_stmt.specs.Statement.{all_spots, branches, statements, with_branch}
use Rattle.op_core.specs.Statement.{statements as typed_statements, stmt_of as typed_statement}
use Rattle.op_tree.specs.Lists.{branches_of}
use Rattle.op_tree.specs.Statement.{stmts_of}
use Rattle.op_check_stmt.proofs.walk.+statements.Given as goal

-- what is left gives the whole
abbrev pub invariant-statements-loop-s : goal.invariant-statements-loop-s
invariant-statements-loop-s l =
    Completes typed_statement typed_statements (items_of l.out) (checked (statements (here_of l.here.scope) (stmts_of l.list))) (checked (statements (here_of l.here.scope) (stmts_of (drop l.s-index l.list)))) l.fn.sink l.sink

abbrev pub invariant-branches-loop-branch : goal.invariant-branches-loop-branch
invariant-branches-loop-branch l = record {
  typed : Completes branch_of with_branch (items_of l.out) (checked (branches (here_of l.here.scope) l.of (branches_of l.list))) (checked (branches (here_of l.here.scope) l.of (branches_of (drop l.branch-index l.list)))) l.fn.sink l.sink;
  noted : l.spots.items ++ all_spots (here_of l.here.scope) l.of (branches_of (drop l.branch-index l.list)) ≡ l.fn.spots.items ++ all_spots (here_of l.here.scope) l.of (branches_of l.list);
}
