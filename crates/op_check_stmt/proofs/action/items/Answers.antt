use Rattle.std.proofs.Common.{◌∷◌, [], ◌+◌, drop, map, refl, subst, sym}
use Rattle.std.specs.Option.{option_map}
use Rattle.op_check_expr.specs.Scopes.{here_of}
use Rattle.op_judgement.specs.Judgement.{Reports, checked}
use Rattle.op_check_stmt.proofs.Parts.{Completes, ends, next}
use Rattle.op_check_stmt.proofs.Rows.{all_items, next_argument, none_left}
use Rattle.op_check_stmt.specs.Parts.{items_of}
use Rattle.op_check_stmt.specs.Procedure.{item, items}
use Rattle.op_core.specs.Statement.{item_of}
use Rattle.op_tree.specs.Expression.{argument_of}
use Rattle.op_tree.specs.Lists.{arguments_of}
use Rattle.op_check_stmt.proofs.action.items.Goals as goal

pub loop-argument-preserved : goal.loop-argument-preserved
loop-argument-preserved c =
    let here = here_of c.args.here.scope in
    let list = c.args.arguments.now in
    let k = c.loop-argument.argument-index in
    let x = c.argument-item.result in
    let s = c.loop-argument.sink in
    next item_of (λ y ys. y ∷ ys) (items_of c.loop-argument.typed) (items_of c.collect.new.list) c.in_ok-part.part (option_map item_of c.in_ok-part.part) (checked (items here (arguments_of list))) (checked (item here (argument_of x))) (checked (items here (arguments_of (drop (k + 1) list)))) c.args.sink.now s c.item.new.sink
    (subst (λ r. Completes item_of (λ y ys. y ∷ ys) (items_of c.loop-argument.typed) (checked (items here (arguments_of list))) (checked (items here r)) c.args.sink.now s) (next_argument list k x c.loop-argument-test.true c.argument-item.is) c.loop-argument.invariant)
    c.in_ok-part.ensures refl c.in_ok-collect.ensures

pub returns : goal.returns
returns c =
    let here = here_of c.args.here.scope in
    let list = c.args.arguments.now in
    let typed = items_of c.loop-argument.typed in
    subst (λ xs. Reports (items here (arguments_of list)) c.args.sink.now c.loop-argument.sink (option_map (map item_of) xs)) (sym c.fitted.ensures)
    (ends item_of (λ y ys. y ∷ ys) [] (map item_of) all_items typed (checked (items here (arguments_of list))) c.args.sink.now c.loop-argument.sink
    (subst (λ r. Completes item_of (λ y ys. y ∷ ys) typed (checked (items here (arguments_of list))) r c.args.sink.now c.loop-argument.sink) (none_left (λ xs. checked (items here (arguments_of xs))) list c.loop-argument.argument-index c.loop-argument-test.false) c.loop-argument.invariant))
