use Rattle.std.proofs.Common.{ap, sym, ◌∙◌}
use Rattle.op_core.specs.Expression.{expr_of}
use Rattle.op_core.specs.Statement.{item_of, padded}
use Rattle.op_items.proofs.Storing.{padded_adds}
use Rattle.op_items.specs.Setting.{here_view}
use Rattle.op_items.proofs.setting.Setting.write_one.Goals as goal

pub returns-in_ok-make-in-Padded : goal.returns-in_ok-make-in-Padded
returns-in_ok-make-in-Padded c =
    padded_adds c.args.self c.args.items.now.items c.find-in-Padded.new.items.items c.own-in-Padded.new.items.items c.make.new.items.items c.write-in-Padded.new.items.items c.write-in-Padded.result (here_view c.args.here) (here_view c.in_ok-past-in-Padded.field-0) (item_of c.args.item.now) (expr_of c.in-Padded.value) (expr_of c.deref.result.now) c.type_of-of-in-Padded.result c.in_ok-found-in-Padded.found c.in_ok-found-in-Padded-2.found
    (ap item_of c.in-Padded.is ∙ ap (λ x. padded (expr_of c.in-Padded.value) (expr_of x)) (sym c.deref.ensures)) c.type_of-of-in-Padded.ensures c.in_ok-past-in-Padded.ensures c.in_ok-found-in-Padded.ensures c.in_ok-found-in-Padded-2.ensures c.in_ok-make-in-Padded.ensures c.write-in-Padded.ensures
