use Rattle.op_rt_text.proofs.ExampleRuns.{blanks_in_pieces, bytes_copied, bytes_padded, greatest_at_width, least_padded, low_bits_of_char, negative_width, no_blanks, truth_of_number, truth_padded, value_taken, word_cleared, words_copied, zero_alone}
use Rattle.op_rt_text.proofs.theorems.examples_run.Goals as goal

pub returns : goal.returns
returns c =
    record {
      zero_alone = zero_alone;
      least_padded = least_padded;
      greatest_at_width = greatest_at_width;
      negative_width = negative_width;
      truth_padded = truth_padded;
      truth_of_number = truth_of_number;
      low_bits_of_char = low_bits_of_char;
      bytes_padded = bytes_padded;
      blanks_in_pieces = blanks_in_pieces;
      no_blanks = no_blanks;
      bytes_copied = bytes_copied;
      words_copied = words_copied;
      word_cleared = word_cleared;
      value_taken = value_taken;
    }
