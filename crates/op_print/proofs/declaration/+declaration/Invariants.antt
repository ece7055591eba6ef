use Rattle.std.proofs.Common.{◌≡◌, drop}
use Rattle.op_print.specs.DeclarationDrafts.{declarations_draft}
use Rattle.op_print.specs.Page.{after}
use Rattle.op_tree.specs.Declaration.{declarations_of}
use Rattle.op_print.proofs.declaration.+declaration.Given as goal

-- In each loop what is left gives the whole.
abbrev pub invariant-declarations-loop-each : goal.invariant-declarations-loop-each
invariant-declarations-loop-each l = after l.page (declarations_draft (declarations_of (drop l.each-index l.list))) ≡ after l.fn.page (declarations_draft (declarations_of l.list))
