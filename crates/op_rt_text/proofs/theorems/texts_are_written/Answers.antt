use Rattle.op_rt_text.proofs.Contracts.{blanks_written, bytes_written, char_written, number_written, truth_written}
use Rattle.op_rt_text.proofs.theorems.texts_are_written.Goals as goal

pub returns : goal.returns
returns c =
    record {
      blanks = blanks_written;
      bytes = bytes_written;
      number = number_written;
      truth = truth_written;
      character = char_written;
    }
