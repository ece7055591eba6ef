use Rattle.std.proofs.Common.{refl}
use Rattle.op_print.proofs.file.unit.Goals as goal

pub returns : goal.returns
returns c = simp (c.in_ok-tail.ensures, c.in_ok-part-2.ensures, c.in_ok-word-2.ensures, c.in_ok-line-2.ensures, c.in_ok-part.ensures, c.in_ok-word.ensures, c.in_ok-line.ensures, c.in_ok-tight.ensures, c.in_ok-name.ensures, c.in_ok-word_at.ensures, c.deref.ensures.value, c.as_slice.ensures, c.deref-2.ensures.value, c.as_slice-2.ensures) refl
