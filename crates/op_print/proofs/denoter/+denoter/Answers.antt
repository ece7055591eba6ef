use Rattle.std.proofs.Common.{arith}
use Rattle.op_print.proofs.Nodes.{said}
use Rattle.op_print.specs.DenoterDrafts.{denoter_draft}
use Rattle.op_tree.proofs.Rows.{array_says, record_type_says}
use Rattle.op_tree.specs.Denoter.{denoter_of}
use Rattle.op_print.proofs.denoter.+denoter.Goals as goal

pub denoter-returns-in_ok-denoter-in-Array : goal.denoter-returns-in_ok-denoter-in-Array
denoter-returns-in_ok-denoter-in-Array t c = grind (arith, said denoter_draft denoter_of c.in-Array.is (array_says c.in-Array.position c.in-Array.packed c.in-Array.list c.in-Array.element))

pub denoter-returns-in_ok-end-in-Record : goal.denoter-returns-in_ok-end-in-Record
denoter-returns-in_ok-end-in-Record t c = grind (arith, said denoter_draft denoter_of c.in-Record.is (record_type_says c.in-Record.position c.in-Record.packed c.in-Record.list))
