use Rattle.op_operators.proofs.Bits.{or_one}
use Rattle.op_operators.proofs.sets.with_bit.Goals as goal

pub returns-then-is : goal.returns-then-is
returns-then-is c = rw c.if-is.true (or_one c.args.bits c.args.k c.requires.element c.requires.below)
