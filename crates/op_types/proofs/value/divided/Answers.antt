use Rattle.std.proofs.Common.{arith, to_z-of_z}
use Rattle.op_types.proofs.value.divided.Goals as goal

pub returns-else-b-eq0 : goal.returns-else-b-eq0
returns-else-b-eq0 c = let h = c.within.ensures in grind (arith, h, to_z-of_z)
