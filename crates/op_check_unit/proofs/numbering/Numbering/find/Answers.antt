use Rattle.std.proofs.Common.{◌∙◌}
use Rattle.op_check_unit.proofs.numbering.Numbering.find.Goals as goal

pub returns : goal.returns
returns c = (c.in_ok-letters.letters, c.in_ok-letters.ensures, c.copied.ensures ∙ c.get.ensures.value)
