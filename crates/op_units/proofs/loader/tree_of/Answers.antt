use Rattle.op_units.proofs.Loading.{breaks_by_tokens}
use Rattle.op_units.proofs.loader.tree_of.Goals as goal

pub returns-clause-breaks : goal.returns-clause-breaks
returns-clause-breaks c = breaks_by_tokens c.args.number c.args.bytes.now c.in_ok-tokens.tokens c.tree_of_tokens.result c.in_ok-tokens.ensures.stand c.tree_of_tokens.ensures.breaks
