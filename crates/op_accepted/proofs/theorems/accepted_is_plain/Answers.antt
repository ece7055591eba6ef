use Rattle.op_accepted.proofs.Accepted.{accepted_is_fit}
use Rattle.op_accepted.proofs.Lengths.{short_program}
use Rattle.op_accepted.proofs.theorems.accepted_is_plain.Goals as goal

pub returns : goal.returns
returns c = record { accepted = accepted_is_fit; short = short_program }
