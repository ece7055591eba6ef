use Rattle.op_plain.proofs.PlainLemmas.{plain_by_items, plain_by_test}
use Rattle.op_plain.proofs.theorems.program_is_plain.Goals as goal

pub returns : goal.returns
returns c = record { test = plain_by_test; items = plain_by_items }
