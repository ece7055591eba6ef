use Rattle.std.proofs.Common.{rules}
use Rattle.std.proofs.lemmas.Int.{wraps}
use Rattle.op_base.proofs.arithmetic.wrap_add.Goals as goal

pub returns : goal.returns
returns c = search (rules, wraps)
