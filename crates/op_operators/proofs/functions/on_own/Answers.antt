use Rattle.op_operators.proofs.Following.{applied_follows, gives_both}
use Rattle.op_semantics.specs.Expressions.{applied_to}
use Rattle.op_values.specs.Adding.{env_view}
use Rattle.op_values.specs.Setting.{here_view}
use Rattle.op_operators.proofs.functions.on_own.Goals as goal

pub returns : goal.returns
returns c =
    gives_both c.args.setting c.args.items.now.items c.in_place_or_own.new.items.items c.applied_to.new.items.items c.in_ok-found.found c.applied_to.result _
    (applied_to (env_view c.args.setting) c.args.function c.args.checked c.args.of c.args.to (here_view c.args.here))
    (applied_follows (env_view c.args.setting) c.args.function c.args.checked c.args.of c.args.to (here_view c.args.here))
    c.in_ok-found.ensures c.applied_to.ensures
