use Rattle.std.proofs.Common.{subst}
use Rattle.op_units.specs.Cycles.{ClosingIs}
use Rattle.op_units.specs.Walk.{walked_of}
use Rattle.op_units.proofs.Entering.{breaks_by_text}
use Rattle.op_units.proofs.Loading.{handed_on}
use Rattle.op_units.proofs.walk.Walk.parts_of.Goals as goal

pub returns-in_err-tree-clause-refused : goal.returns-in_err-tree-clause-refused
returns-in_err-tree-clause-refused c = handed_on c.from_residual.result c.from_residual.ensures.1 (λ y e. rw e (breaks_by_text c.args.number c.args.unit.now c.args.bytes.now _ c.in_err-tree.ensures.breaks))

pub returns-in_err-uses-clause-refused : goal.returns-in_err-uses-clause-refused
returns-in_err-uses-clause-refused c = handed_on c.from_residual-in_err-uses.result c.from_residual-in_err-uses.ensures.1 (λ y e. rw e (c.in_err-uses.ensures.refused c.args.number c.args.bytes.now c.in_ok-tree.ensures.reads))

pub returns-clause-whole : goal.returns-clause-whole
returns-clause-whole c =
    let w = walked_of c.args.self.now in
    let closing = c.in_ok-closing.closing in
    (c.in_ok-tree.ensures.reads, c.in_ok-uses.ensures.whole, subst (λ n. ClosingIs w n c.in_ok-uses.uses.interface.items closing) c.name_of.ensures (subst (λ us. ClosingIs w c.name_of.result.now us closing) c.as_slice.ensures.value c.in_ok-closing.ensures))
