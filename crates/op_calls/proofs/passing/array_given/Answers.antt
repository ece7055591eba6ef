use Rattle.op_calls.proofs.Places.{reference_stands}
use Rattle.op_values.specs.Setting.{here_view}
use Rattle.op_values.specs.View.{view_path}
use Rattle.op_calls.proofs.passing.array_given.Goals as goal

pub returns-then-refers : goal.returns-then-refers
returns-then-refers c = reference_stands c.args.setting c.args.items.now.items c.args.row.now (here_view c.args.here) c.args.of c.args.found (view_path c.path_of-path.result) c.reference_passed.result c.refers.result c.refers.ensures c.if-refers.true c.path_of-path.ensures c.reference_passed.ensures
