use Rattle.std.proofs.Common.{arith}
use Rattle.op_print.proofs.Nodes.{said}
use Rattle.op_print.specs.DenoterDrafts.{initial_draft}
use Rattle.op_tree.proofs.Rows.{list_value_says, record_value_says}
use Rattle.op_tree.specs.Initial.{initial_of}
use Rattle.op_print.proofs.initializer.+initializer.Goals as goal

pub initializer-returns-in_ok-tight-in-List : goal.initializer-returns-in_ok-tight-in-List
initializer-returns-in_ok-tight-in-List t c = grind (arith, said initial_draft initial_of c.in-List.is (list_value_says c.in-List.position c.in-List.items))

pub initializer-returns-in_ok-tight-in-Record : goal.initializer-returns-in_ok-tight-in-Record
initializer-returns-in_ok-tight-in-Record t c = grind (arith, said initial_draft initial_of c.in-Record.is (record_value_says c.in-Record.position c.in-Record.fields))
