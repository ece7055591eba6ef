use Rattle.op_parse_code.proofs.Refusing.{no_mark_refuses}
use Rattle.op_parse_code.proofs.mark.after_mark.Goals as goal

pub returns-in-None-clause-refused : goal.returns-in-None-clause-refused
returns-in-None-clause-refused c = λ d. no_mark_refuses c.args.mark d c.args.end _ _ (rw c.in-None.is at c.behind_mark.ensures.mark) c.syntax.ensures
