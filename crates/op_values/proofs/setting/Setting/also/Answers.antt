use Rattle.op_values.proofs.ItemsBehind.{adds_as}
use Rattle.op_values.proofs.Nodes.{item_nodes}
use Rattle.op_values.proofs.setting.Setting.also.Goals as goal

pub returns : goal.returns
returns c = adds_as c.args.self c.args.items.now.items c.item.new.items.items c.item.result ((item_nodes _ _).also_says c.args.truth c.args.temporary c.args.second) c.item.ensures
