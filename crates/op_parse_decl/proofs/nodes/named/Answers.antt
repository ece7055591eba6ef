use Rattle.std.proofs.Common.{sym, arith}
use Rattle.std.proofs.lemmas.Bool.Decides.{nat_tests}
use Rattle.op_parse_decl.proofs.Denoted.{named_alone, named_more}
use Rattle.op_parse_decl.proofs.nodes.named.Goals as goal

pub returns-in_default : goal.returns-in_default
returns-in_default c = sym (named_alone c.args.first _ _ c.in_default.ensures.items (omega (arith, c.in_default.ensures.cases.1)))

pub returns-then-not-is_empty : goal.returns-then-not-is_empty
returns-then-not-is_empty c = sym (named_more c.args.first _ _ _ c.in-Some.ensures.items (grind (arith, nat_tests)))
