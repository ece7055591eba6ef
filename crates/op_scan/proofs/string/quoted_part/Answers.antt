use Rattle.op_scan.proofs.Strings.{quoted_part_found}
use Rattle.op_scan.proofs.string.quoted_part.Goals as goal

pub returns-in-Some : goal.returns-in-Some
returns-in-Some c = quoted_part_found _ _ _ _ (rw c.in-Some.is at c.in_ok-rest.ensures.found)
