use Rattle.std.proofs.Common.{arith}
use Rattle.op_mir.proofs.NeedLemmas.{begins}
use Rattle.op_mir.proofs.frame_need.bytes_of_variables.Goals as goal

pub loop-each-init : goal.loop-each-init
loop-each-init c = record { fits = omega arith; gives = begins _ }
