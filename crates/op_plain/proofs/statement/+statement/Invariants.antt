use Rattle.std.proofs.Common.{◌≡◌, drop}
use Rattle.op_core.specs.Nodes.{branches_of}
use Rattle.op_core.specs.Statement.{stmts_of}
use Rattle.op_plain.specs.Plain.{are_plain_branches, are_plain_statements, is_short}
use Rattle.op_typing.specs.SimpleTests.{is_short_text}
use Rattle.op_plain.proofs.statement.+statement.Given as goal

-- In each loop what is left gives the whole.
abbrev pub invariant-are_plain_statements-loop-each : goal.invariant-are_plain_statements-loop-each
invariant-are_plain_statements-loop-each l = record {
  texts : are_plain_statements is_short_text l.core (stmts_of (drop l.each-index l.list)) ≡ are_plain_statements is_short_text l.core (stmts_of l.list);
  lengths : are_plain_statements is_short l.core (stmts_of (drop l.each-index l.list)) ≡ are_plain_statements is_short l.core (stmts_of l.list);
}

abbrev pub invariant-are_plain_branches-loop-each : goal.invariant-are_plain_branches-loop-each
invariant-are_plain_branches-loop-each l = record {
  texts : are_plain_branches is_short_text l.core (branches_of (drop l.each-index l.list)) ≡ are_plain_branches is_short_text l.core (branches_of l.list);
  lengths : are_plain_branches is_short l.core (branches_of (drop l.each-index l.list)) ≡ are_plain_branches is_short l.core (branches_of l.list);
}
