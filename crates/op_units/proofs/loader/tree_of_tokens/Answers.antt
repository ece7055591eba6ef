use Rattle.std.proofs.Common.{subst}
use Rattle.op_tree.specs.Terminal.{terminals}
use Rattle.op_units.proofs.Loading.{is_shown, reads_tokens, shown_as}
use Rattle.op_units.specs.Forms.{FirstShown}
use Rattle.op_units.specs.Unbuilt.{FirstUnbuilt}
use Rattle.op_units.proofs.loader.tree_of_tokens.Goals as goal

pub returns-in-None-clause-reads : goal.returns-in-None-clause-reads
returns-in-None-clause-reads c = reads_tokens c.args.tokens.now c.in-Ok.tree c.shown.result (subst (λ ts. FirstShown (terminals ts) c.shown.result) c.as_slice-list.ensures (c.shown.ensures c.first_unbuilt-word.ensures)) c.in-None.is c.in-Ok.ensures.spells

pub returns-in-Some-clause-breaks : goal.returns-in-Some-clause-breaks
returns-in-Some-clause-breaks c = is_shown c.args.tokens.now c.in-Ok.tree c.shown.result c.in-Some.refusal (subst (λ ts. FirstShown (terminals ts) c.shown.result) c.as_slice-list.ensures (c.shown.ensures c.first_unbuilt-word.ensures)) c.in-Some.is c.in-Ok.ensures.spells

pub returns-in-Err-clause-breaks : goal.returns-in-Err-clause-breaks
returns-in-Err-clause-breaks c = shown_as c.args.tokens.now c.in-Err.error c.first_told.result c.first_unbuilt-word.result c.first_told.ensures c.in-Err.ensures.refused (subst (λ ts. FirstUnbuilt (terminals ts) c.first_unbuilt-word.result) c.as_slice-list.ensures c.first_unbuilt-word.ensures)
