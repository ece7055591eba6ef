use Rattle.std.proofs.Common.{arith}
use Rattle.op_meaning.proofs.Charged.{begins}
use Rattle.op_meaning.proofs.charges.variables.Goals as goal

pub loop-each-init : goal.loop-each-init
loop-each-init c = record { fits = omega arith; gives = begins _ }
