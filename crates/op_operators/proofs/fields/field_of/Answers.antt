use Rattle.op_core.specs.Sizes.{type_at}
use Rattle.op_operators.proofs.Following.{step_gives}
use Rattle.op_semantics.specs.Expressions.{field_step}
use Rattle.op_values.specs.Setting.{here_view}
use Rattle.op_operators.proofs.fields.field_of.Goals as goal

pub returns : goal.returns
returns c = step_gives c.args.setting c.args.items.now.items c.somewhere.new.items.items c.in_ok-found.found c.field.result _ c.args.of (here_view c.args.here) (field_step c.args.setting.core.now c.args.of (type_at c.args.setting.core.now c.args.of) c.args.id) 0 c.in_ok-found.ensures c.field.ensures
