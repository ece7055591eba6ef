use Rattle.std.proofs.Common.{◌≡◌, drop}
use Rattle.op_print.specs.Page.{after, behind, indented, line, outdent, separated, word, ◌&◌}
use Rattle.op_print.specs.StatementDrafts.{branches_draft, handlers_draft, statement_drafts}
use Rattle.op_scan.specs.declared.token.TokenKind.TheVariants as kind
use Rattle.op_tree.specs.Lists.{branches_of, handlers_of}
use Rattle.op_tree.specs.Statement.{stmts_of}
use Rattle.op_print.proofs.statement.+statement.Given as goal

-- In each loop what is left gives the whole.
abbrev pub invariant-statements-loop-each : goal.invariant-statements-loop-each
invariant-statements-loop-each l = after l.page (behind kind.Semicolon (statement_drafts (stmts_of (drop l.each-index l.others)))) ≡ after l.fn.page (separated kind.Semicolon (statement_drafts (stmts_of l.list)))

abbrev pub invariant-branches-loop-each : goal.invariant-branches-loop-each
invariant-branches-loop-each l = after l.page (branches_draft (branches_of (drop l.each-index l.list)) & outdent & line) ≡ after l.fn.page (indented (branches_draft (branches_of l.list)))

abbrev pub invariant-handlers-loop-each : goal.invariant-handlers-loop-each
invariant-handlers-loop-each l = after l.page (handlers_draft (handlers_of (drop l.each-index l.list)) & outdent & line) ≡ after l.fn.page (word kind.Except & indented (handlers_draft (handlers_of l.list)))
