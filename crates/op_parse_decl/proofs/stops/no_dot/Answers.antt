use Rattle.op_parse_decl.proofs.NameLists.{dot_stands}
use Rattle.op_parse_decl.proofs.stops.no_dot.Goals as goal

pub returns-in-Some-clause-refused : goal.returns-in-Some-clause-refused
returns-in-Some-clause-refused c = λ d. dot_stands d c.args.end _ _ _ _ c.in-Some.ensures.mark.1 c.syntax.ensures
