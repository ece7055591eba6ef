use Rattle.std.proofs.Common.{◌∙◌}
use Rattle.op_listing.proofs.LinkedLines.{lists_linked}
use Rattle.op_listing.proofs.lines.listing.Goals as goal

pub returns-clause-linked : goal.returns-clause-linked
returns-clause-linked c =
    λ objects layout settings linkable loaded linked. c.from.ensures ∙ c.in_ok-listed.ensures ∙ lists_linked c.args.image.now objects layout settings linkable loaded linked
