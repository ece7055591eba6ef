use Rattle.std.proofs.Common.{◌+◌, [], ◌∷◌, pos}
use Rattle.op_operators.proofs.Following.{acts_in_front, gives_both, piece_follows}
use Rattle.op_semantics.specs.Actions.{constant}
use Rattle.op_semantics.specs.Expressions.{then_piece}
use Rattle.op_values.specs.Adding.{now_view}
use Rattle.op_values.specs.Setting.{here_view}
use Rattle.op_operators.proofs.functions.whole.Goals as goal

pub returns : goal.returns
returns c =
    let here = here_view c.args.here in
    gives_both c.args.setting c.args.items.now.items c.from_first.new.items.items c.piece.new.items.items c.args.found c.piece.result _
    (then_piece c.args.setting.core.now c.args.of c.args.to here (now_view c.args.found.now))
    (piece_follows c.args.setting.core.now c.args.of c.args.to here (now_view c.args.found.now))
    (acts_in_front c.args.setting c.args.items.now.items c.from_first.new.items.items c.args.found (constant here.temp (pos 0) ∷ constant (here.temp + 1) (pos 2147483647) ∷ []) c.in_ok-from_first.ensures)
    c.piece.ensures
