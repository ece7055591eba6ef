use Rattle.op_rt_text.proofs.Contracts.{bytes_are_copied, memory_is_zeroed, value_is_taken, words_are_copied}
use Rattle.op_rt_text.proofs.theorems.memory_is_copied.Goals as goal

pub returns : goal.returns
returns c = record { words = words_are_copied; bytes = bytes_are_copied; take = value_is_taken; zeros = memory_is_zeroed }
