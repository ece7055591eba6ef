use Rattle.std.proofs.Common.{◌≡◌, drop}
use Rattle.op_print.specs.DenoterDrafts.{denoter_drafts, fields_draft}
use Rattle.op_print.specs.Page.{after, behind, enclosed, tight, ◌&◌}
use Rattle.op_scan.specs.declared.token.TokenKind.TheVariants as kind
use Rattle.op_tree.specs.Lists.{denoters_of, field_lists_of}
use Rattle.op_print.proofs.denoter.+denoter.Given as goal

-- In each loop what is left gives the whole.
abbrev pub invariant-indices-loop-each : goal.invariant-indices-loop-each
invariant-indices-loop-each l = after l.page (behind kind.Comma (denoter_drafts (denoters_of (drop l.each-index l.others))) & tight kind.CloseBracket) ≡ after l.fn.page (enclosed kind.OpenBracket kind.Comma kind.CloseBracket (denoter_drafts (denoters_of l.list)))

abbrev pub invariant-fields-loop-each : goal.invariant-fields-loop-each
invariant-fields-loop-each l = after l.page (fields_draft (field_lists_of (drop l.each-index l.list))) ≡ after l.fn.page (fields_draft (field_lists_of l.list))
