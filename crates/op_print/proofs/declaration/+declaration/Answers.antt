use Rattle.std.proofs.Common.{arith}
use Rattle.op_print.proofs.Nodes.{said, fused}
use Rattle.op_print.specs.DeclarationDrafts.{body_draft, constant_draft, type_declaration_draft, variables_draft}
use Rattle.op_tree.proofs.Rows.{body_says}
use Rattle.op_tree.specs.Declaration.{body_of, constant_of, type_of, variables_of}
use Rattle.op_print.proofs.declaration.+declaration.Goals as goal

pub body-returns-in_ok-begin_end-in-Block : goal.body-returns-in_ok-begin_end-in-Block
body-returns-in_ok-begin_end-in-Block t c = grind (arith, said body_draft body_of c.in-Block.is (body_says c.in-Block.list c.in-Block.statements))

pub declaration-returns-in_ok-group-in-Constants : goal.declaration-returns-in_ok-group-in-Constants
declaration-returns-in_ok-group-in-Constants t c = rw (c.in-Constants.is, fused constant_draft constant_of c.in-Constants.list.items) (grind arith)

pub declaration-returns-in_ok-group-in-Types : goal.declaration-returns-in_ok-group-in-Types
declaration-returns-in_ok-group-in-Types t c = rw (c.in-Types.is, fused type_declaration_draft type_of c.in-Types.list.items) (grind arith)

pub declaration-returns-in_ok-group-in-Variables : goal.declaration-returns-in_ok-group-in-Variables
declaration-returns-in_ok-group-in-Variables t c = rw (c.in-Variables.is, fused variables_draft variables_of c.in-Variables.list.items) (grind arith)
