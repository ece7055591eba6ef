use Rattle.std.proofs.Common.{arith}
use Rattle.op_constants.proofs.Sets.{all_bits}
use Rattle.op_constants.proofs.first_value.bits_of_elements.Goals as goal

pub returns : goal.returns
returns c = all_bits c.args.elements.now _ _ c.loop-element.invariant.bits (omega (arith, c.loop-element.invariant.few, c.loop-element-test.false))
