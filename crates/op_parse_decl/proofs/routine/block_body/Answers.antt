use Rattle.std.proofs.Common.{ap, ◌∙◌}
use Rattle.op_tree.proofs.Rows.{body_says}
use Rattle.op_tree.specs.Declaration.{body, declarations_of}
use Rattle.op_tree.specs.Statement.{stmts_of}
use Rattle.op_parse_decl.proofs.routine.block_body.Goals as goal

pub returns : goal.returns
returns c = body_says c.fitted-declarations.result c.args.statements ∙ ap (λ xs. body (declarations_of xs) (stmts_of c.args.statements.items)) c.fitted-declarations.ensures
