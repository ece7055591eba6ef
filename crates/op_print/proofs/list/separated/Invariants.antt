use Rattle.std.proofs.Common.{◌≡◌, map, drop}
use Rattle.op_print.specs.Page.{after, behind, separated}
use Rattle.op_print.specs.Spelling.{spelling}
use Rattle.op_scan.specs.declared.token.TokenKind.{TokenKind}
use Rattle.op_print.proofs.list.separated.Given as goal

-- What is left gives the whole.
abbrev pub invariant-loop-part : goal.invariant-loop-part
invariant-loop-part g l = (k : TokenKind) → l.mark ≡ spelling k → after l.page (behind k (map g.T.Printed.draft (drop l.part-index l.others))) ≡ after l.fn.page (separated k (map g.T.Printed.draft l.list))
