use Rattle.std.proofs.Common.{ap, ◌∙◌}
use Rattle.op_mir.specs.Code.{continued}
use Rattle.op_lower.specs.Seen.{seen}
use Rattle.op_lower.proofs.blocks.Blocks.join.Goals as goal

pub returns-clause-on : goal.returns-clause-on
returns-clause-on c = λ core r. c.reached_by-on.ensures core r ∙ ap (λ k. continued k (seen core r c.args.behind.now)) c.in_ok-block.ensures
