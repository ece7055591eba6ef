use Rattle.std.proofs.Common.{IfOk, ap, sym, subst, ◌∙◌}
use Rattle.op_check_unit.specs.Steps.{Declares, here_of}
use Rattle.op_tree.proofs.Rows.{body_says}
use Rattle.op_tree.specs.Declaration.{body_of, declarations_of}
use Rattle.op_tree.specs.Statement.{stmts_of}
use Rattle.op_check_unit.proofs.declarer.Declarer.body.Goals as goal
use Rattle.op_check_unit.specs.Routines.{block_means, body_means}

pub returns-in-Block : goal.returns-in-Block
returns-in-Block c =
    let old = c.args.self.now in
    let new = c.block.new.self in
    let b = c.in-Block in
    subst (λ x. IfOk c.block.result (λ _. Declares (body_means c.args.id c.args.name.now c.args.head x (here_of old)) old new)) (sym (ap body_of b.is ∙ body_says b.declarations b.statements))
    (subst (λ ss. IfOk c.block.result (λ _. Declares (block_means c.args.id c.args.name.now c.args.head (declarations_of b.declarations.items) (stmts_of ss) (here_of old)) old new)) c.deref-in-Block.ensures.value
    (subst (λ ds. IfOk c.block.result (λ _. Declares (block_means c.args.id c.args.name.now c.args.head (declarations_of ds) (stmts_of c.deref-in-Block.result.now) (here_of old)) old new)) c.deref.ensures.value c.block.ensures))
