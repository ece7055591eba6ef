use Rattle.op_semantics.specs.Expressions.{past}
use Rattle.op_semantics.specs.Statements.{read_integer}
use Rattle.op_stores.proofs.Lines.{then_stored}
use Rattle.op_stores.specs.Parts.{number_stored}
use Rattle.op_values.specs.Adding.{now_view}
use Rattle.op_values.specs.Setting.{here_view}
use Rattle.op_stores.proofs.reading.read_number.Goals as goal

pub returns : goal.returns
returns c =
    then_stored c.args.setting c.args.items.now.items c.read_integer.new.items.items c.store_number.new.items.items c.ready.result read_integer (λ h. number_stored c.args.setting.core.now c.args.conversion c.args.of h c.args.place.held (now_view c.args.place.now)) c.first.result.0 (past c.args.place.used (here_view c.args.here)) (here_view c.in_ok-there.there) c.args.place.held
    c.first.ensures c.in_ok-there.ensures c.ready.ensures c.in_ok-read_integer.ensures c.in_ok-store_number.ensures
