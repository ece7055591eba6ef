use Rattle.op_constants.proofs.Lying.{copied, leads_arranged, leads_within, part_lies, put_lies}
use Rattle.op_constants.proofs.theorems.values_are_placed.Goals as goal

pub returns : goal.returns
returns c = record {
  part = part_lies;
  within = λ l to path d is leads. (leads_arranged l to path d is leads, leads_within l to path d is leads);
  copied = copied;
  put = put_lies;
}
