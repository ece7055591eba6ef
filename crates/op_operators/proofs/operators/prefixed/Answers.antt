use Rattle.std.proofs.Common.{subst}
use Rattle.op_core.specs.Sizes.{type_at}
use Rattle.op_operators.proofs.Following.{acts_gives}
use Rattle.op_semantics.specs.Expressions.{prefix}
use Rattle.op_semantics.specs.Items.{acts}
use Rattle.op_values.specs.Adding.{Adds}
use Rattle.op_operators.proofs.operators.prefixed.Goals as goal

pub returns : goal.returns
returns c =
    acts_gives c.args.setting c.args.items.now.items c.own.new.items.items c.prefix.new.items.items c.in_ok-found.found _ (prefix c.args.operator c.args.checked (type_at c.args.setting.core.now c.args.of)) c.first.result.0 _ c.first.ensures c.in_ok-found.ensures
    (subst (λ t. Adds c.args.setting c.own.new.items.items c.prefix.new.items.items (acts (prefix c.args.operator c.args.checked t c.first.result.0))) c.type_at-of.ensures c.in_ok-prefix.ensures)
