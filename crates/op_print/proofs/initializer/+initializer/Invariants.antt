use Rattle.std.proofs.Common.{◌≡◌, drop}
use Rattle.op_print.specs.DenoterDrafts.{field_initial_drafts, initial_drafts}
use Rattle.op_print.specs.Page.{after, behind, separated}
use Rattle.op_scan.specs.declared.token.TokenKind.TheVariants as kind
use Rattle.op_tree.specs.Lists.{field_initials_of, initials_of}
use Rattle.op_print.proofs.initializer.+initializer.Given as goal

-- In each loop what is left gives the whole.
abbrev pub invariant-initializers-loop-each : goal.invariant-initializers-loop-each
invariant-initializers-loop-each l = after l.page (behind kind.Comma (initial_drafts (initials_of (drop l.each-index l.others)))) ≡ after l.fn.page (separated kind.Comma (initial_drafts (initials_of l.list)))

abbrev pub invariant-field_initializers-loop-each : goal.invariant-field_initializers-loop-each
invariant-field_initializers-loop-each l = after l.page (behind kind.Semicolon (field_initial_drafts (field_initials_of (drop l.each-index l.others)))) ≡ after l.fn.page (separated kind.Semicolon (field_initial_drafts (field_initials_of l.list)))
