use Rattle.std.proofs.Common.{rules, tests}
use Rattle.op_base.specs.Rule.{text_of_rule}
use Rattle.op_base.proofs.rule.known_text.Goals as goal

pub returns-in_default-clause-absent : goal.returns-in_default-clause-absent
unfolding text_of_rule
returns-in_default-clause-absent c = search (tests, rules)
