use Rattle.std.proofs.Common.{sym, ap}
use Rattle.op_parse_code.proofs.Names.{none_left}
use Rattle.op_parse_decl.proofs.Headings.{kind_ahead, kind_refused}
use Rattle.op_parse_decl.specs.Headings.{is_routine_kind}
use Rattle.op_tree.specs.Terminal.{terminals}
use Rattle.op_parse_decl.proofs.heading.RoutineKindPart.read.Goals as goal

pub returns-in_default-clause-refused : goal.returns-in_default-clause-refused
returns-in_default-clause-refused c = kind_refused c.args.setting.left c.args.setting.end _ _ (ap (λ ts. kind_ahead (terminals ts)) (none_left c.args.tokens.now c.in_default.ensures.cases)) c.syntax.ensures

pub returns-in-Some-routine_kind-clause-whole : goal.returns-in-Some-routine_kind-clause-whole
returns-in-Some-routine_kind-clause-whole c = rw c.in-Some.ensures.cases.0 (is_routine_kind (sym c.in-Some-routine_kind.ensures))

pub returns-in-None-clause-refused : goal.returns-in-None-clause-refused
returns-in-None-clause-refused c = kind_refused c.args.setting.left c.args.setting.end _ _ (rw c.in-Some.ensures.cases.0 (sym c.in-None.ensures)) c.syntax-in-None.ensures
