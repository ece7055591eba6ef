use Rattle.op_check_unit.proofs.Finding.{noted_next, tree_name}
use Rattle.op_check_unit.proofs.unit_names.UnitFiles.new.Goals as goal

pub loop-number-preserved : goal.loop-number-preserved
loop-number-preserved c =
    noted_next tree_name c.args.trees.now c.loop-number.number c.index-trees-number.result c.loop-number.numbering.numbers c.note_unit.new.numbering.numbers c.loop-number-test.true c.index-trees-number.is c.loop-number.invariant c.in_ok-note_unit.ensures
