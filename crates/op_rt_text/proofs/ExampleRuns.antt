-- Calls of the run-time routines, run by computation.
use Rattle.std.proofs.Common.{◌≡◌, [], ◌∷◌, ◌++◌, codes, refl}
use Rattle.op_low.specs.Machine.{act, call, done, load, start, step, step_by_ending, store, write}
use Rattle.op_rt_text.specs.Example.{ended_call}
use Rattle.op_rt_text.specs.Names.{clear_number, copy_bytes_number, copy_words_number, take_number, write_blanks_number, write_bytes_number, write_char_number, write_number_number, write_truth_number}
use Rattle.op_rt_text.specs.Running.{blank_text}
use Rattle.op_rv.specs.State.{all_from, bytes_from}
use Rattle.op_simulation.specs.System.{run}

pub zero_alone : (ended_call write_number_number (0 ∷ 0 ∷ [])).output ≡ codes "0"
unfolding run start step step_by_ending done act call load store write all_from bytes_from
zero_alone = refl

pub least_padded : (ended_call write_number_number (2147483648 ∷ 13 ∷ [])).output ≡ codes "  -2147483648"
unfolding run start step step_by_ending done act call load store write all_from bytes_from
least_padded = refl

pub greatest_at_width : (ended_call write_number_number (2147483647 ∷ 10 ∷ [])).output ≡ codes "2147483647"
unfolding run start step step_by_ending done act call load store write all_from bytes_from
greatest_at_width = refl

pub negative_width : (ended_call write_number_number (4294967295 ∷ 4294967295 ∷ [])).output ≡ codes "-1"
unfolding run start step step_by_ending done act call load store write all_from bytes_from
negative_width = refl

pub truth_padded : (ended_call write_truth_number (0 ∷ 7 ∷ [])).output ≡ codes "  FALSE"
unfolding run start step step_by_ending done act call load store write all_from bytes_from
truth_padded = refl

pub truth_of_number : (ended_call write_truth_number (4294967295 ∷ 0 ∷ [])).output ≡ codes "TRUE"
unfolding run start step step_by_ending done act call load store write all_from bytes_from
truth_of_number = refl

pub low_bits_of_char : (ended_call write_char_number (321 ∷ 3 ∷ [])).output ≡ codes "  A"
unfolding run start step step_by_ending done act call load store write all_from bytes_from
low_bits_of_char = refl

pub bytes_padded : (ended_call write_bytes_number (65 ∷ 7 ∷ 9 ∷ [])).output ≡ codes "  RUEFALS"
unfolding run start step step_by_ending done act call load store write all_from bytes_from
bytes_padded = refl

pub blanks_in_pieces : (ended_call write_blanks_number (130 ∷ [])).output ≡ blank_text 130
unfolding run start step step_by_ending done act call load store write all_from bytes_from
blanks_in_pieces = refl

pub no_blanks : (ended_call write_blanks_number (4294967295 ∷ [])).output ≡ []
unfolding run start step step_by_ending done act call load store write all_from bytes_from
no_blanks = refl

pub bytes_copied : bytes_from (ended_call copy_bytes_number (4096 ∷ 65 ∷ 3 ∷ [])).memory 4096 3 ≡ codes "RUE"
unfolding run start step step_by_ending done act call load store write all_from bytes_from
bytes_copied = refl

pub words_copied : bytes_from (ended_call copy_words_number (4096 ∷ 64 ∷ 8 ∷ [])).memory 4096 8 ≡ codes "TRUEFALS"
unfolding run start step step_by_ending done act call load store write all_from bytes_from
words_copied = refl

pub word_cleared : bytes_from (ended_call clear_number (68 ∷ 4 ∷ [])).memory 66 8 ≡ codes "UE" ++ 0 ∷ 0 ∷ 0 ∷ 0 ∷ codes "E "
unfolding run start step step_by_ending done act call load store write all_from bytes_from
word_cleared = refl

pub value_taken : bytes_from (ended_call take_number (4096 ∷ 6 ∷ [])).memory 4096 6 ≡ codes "      "
unfolding run start step step_by_ending done act call load store write all_from bytes_from
value_taken = refl
