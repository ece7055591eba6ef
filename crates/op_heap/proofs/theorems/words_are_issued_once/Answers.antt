use Rattle.op_heap.proofs.IssuedWords.{freed_then, issued_then, next_is_new}
use Rattle.op_heap.proofs.theorems.words_are_issued_once.Goals as goal

pub returns : goal.returns
returns c = record { once = record { differ = next_is_new; issue = issued_then; free = freed_then } }
