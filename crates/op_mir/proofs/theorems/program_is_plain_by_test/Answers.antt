use Rattle.op_mir.proofs.PlainTestLemmas.{plain_program}
use Rattle.op_mir.proofs.theorems.program_is_plain_by_test.Goals as goal

pub returns : goal.returns
returns c core stack tables bodies = plain_program core stack tables bodies
