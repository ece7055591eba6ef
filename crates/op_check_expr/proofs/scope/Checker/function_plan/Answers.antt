use Rattle.std.proofs.Common.{subst}
use Rattle.op_judgement.specs.Judgement.{Reports}
use Rattle.op_tree.specs.Lists.{arguments_of}
use Rattle.op_check_expr.proofs.Planning.{takes_value}
use Rattle.op_check_expr.specs.Scopes.{here_of}
use Rattle.op_check_expr.proofs.scope.Checker.function_plan.Goals as goal

pub returns-in_default : goal.returns-in_default
returns-in_default c =
    subst (λ j. Reports j c.args.sink.now c.sole_plan-in_default.new.sink c.sole_plan-in_default.result)
    (takes_value (here_of c.args.self.now.scope) c.args.position c.args.function (arguments_of c.args.list.now) c.in_default.not-Low c.in_default.not-High) c.sole_plan-in_default.ensures
