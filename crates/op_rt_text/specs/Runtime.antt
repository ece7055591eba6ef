-- The run-time routines in the order of their numbers.
use Rattle.std.specs.Prelude.{List, [], ◌∷◌}
use Rattle.op_low.specs.declared.code.Routine.{Routine}
use Rattle.op_rt_text.specs.Blanks.{write_blanks}
use Rattle.op_rt_text.specs.Bytes.{write_bytes}
use Rattle.op_rt_text.specs.Char.{write_char}
use Rattle.op_rt_text.specs.Clear.{clear}
use Rattle.op_rt_text.specs.Copying.{copy_bytes, copy_words}
use Rattle.op_rt_text.specs.Number.{write_number}
use Rattle.op_rt_text.specs.Take.{take}
use Rattle.op_rt_text.specs.Truth.{write_truth}

abbrev pub runtime_routines : List Routine
runtime_routines =
    take ∷ copy_words ∷ copy_bytes ∷ write_blanks ∷ write_bytes ∷ write_number ∷ write_truth ∷ write_char ∷ clear ∷ []
