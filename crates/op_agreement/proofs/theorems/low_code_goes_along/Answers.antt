use Rattle.op_agreement.proofs.Driver.{agrees_for_ever, low_code_follows}
use Rattle.op_agreement.proofs.Following.{never_bad}
use Rattle.op_agreement.proofs.Starting.{starts}
use Rattle.op_agreement.proofs.Streams.{joins_bytes}
use Rattle.op_agreement.proofs.theorems.low_code_goes_along.Goals as goal

pub returns : goal.returns
returns c = record {
  traces = joins_bytes;
  follows = low_code_follows;
  starts = starts;
  agrees = agrees_for_ever;
  fine = never_bad;
}
