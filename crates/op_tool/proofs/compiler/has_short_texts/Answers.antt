use Rattle.std.proofs.Common.{sym, ◌∙◌}
use Rattle.op_accepted.proofs.Lengths.{not_short}
use Rattle.op_tool.proofs.compiler.has_short_texts.Goals as goal

pub returns-clause-long : goal.returns-clause-long
returns-clause-long c long = not_short c.args.core.now c.requires (sym c.is_plain.ensures.lengths ∙ long)
