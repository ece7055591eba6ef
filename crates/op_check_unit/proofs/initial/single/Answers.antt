use Rattle.op_check_unit.proofs.Beginning.{single_behind}
use Rattle.op_tree.specs.Expression.{expr_of}
use Rattle.op_check_unit.proofs.initial.single.Goals as goal

pub returns-in-Some : goal.returns-in-Some
returns-in-Some c =
    single_behind c.of_type.result c.args.setting.core.now c.args.setting.visible.now c.args.of (expr_of c.args.e.now) c.in-Some.constant c.start_of.result c.in_ok-needed_constant.field-0 c.args.sink.now c.needed_constant.new.sink c.of_type.new.sink
    c.in_ok-needed_constant.ensures c.in-Some.is c.start_of.ensures c.of_type.ensures
