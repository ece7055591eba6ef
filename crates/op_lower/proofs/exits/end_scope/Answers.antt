use Rattle.std.proofs.Common.{◌∙◌}
use Rattle.op_lower.proofs.MadeLemmas.{scope_put}
use Rattle.op_lower.proofs.exits.end_scope.Goals as goal

pub returns : goal.returns
returns c = λ core r. scope_put core r _ c.from.result c.args.code.now c.end.new.self c.put.new.self (c.from.ensures ∙ c.new.ensures.items) (c.in_ok-end.ensures core r) c.in_ok-put.ensures
