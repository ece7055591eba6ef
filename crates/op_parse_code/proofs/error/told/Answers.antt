use Rattle.std.proofs.Common.{sym, subst}
use Rattle.op_parse_code.specs.Refusal.{IsSyntax, as_it_was, by_form}
use Rattle.op_parse_code.proofs.error.told.Goals as goal

pub returns-then-refusal-eq-SYNTAX : goal.returns-then-refusal-eq-SYNTAX
returns-then-refusal-eq-SYNTAX c = by_form (subst IsSyntax (sym c.in-Refused.is) c.if-refusal-eq-SYNTAX.true) c.left_out.ensures

pub returns-else-refusal-eq-SYNTAX : goal.returns-else-refusal-eq-SYNTAX
returns-else-refusal-eq-SYNTAX c = as_it_was (sym c.in-Refused.is)

pub returns-in-NoMemory : goal.returns-in-NoMemory
returns-in-NoMemory c = as_it_was (sym c.in-NoMemory.is)
