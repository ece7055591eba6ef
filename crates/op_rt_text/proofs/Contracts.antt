-- What calls of the run-time routines do.
use Rattle.std.proofs.Common.{◌≡◌, ℕ, ◌+◌, ◌*◌, ◌%◌, ◌^◌, ◌<◌, ◌≤◌, List, [], ◌∷◌, length, replicate, refl, arith}
use Rattle.std.proofs.lemmas.List.{length-replicate}
use Rattle.op_low.specs.State.{Placement, State}
use Rattle.op_low.specs.declared.code.Low.{Low}
use Rattle.op_low.specs.declared.instruction.Call.{Call as Operands}
use Rattle.op_low.specs.declared.instruction.Instruction.{Instruction}
use Rattle.op_meaning.specs.Texts.{padded, text_of_char, text_of_number, text_of_truth, width_of}
use Rattle.op_rt_text.specs.Names.{clear_number, copy_bytes_number, copy_words_number, take_number, write_blanks_number, write_bytes_number, write_char_number, write_number_number, write_truth_number}
use Rattle.op_rt_text.specs.Running.{Allowed, Called, Clearable, Clears, Copies, Copyable, HasRoom, HasTexts, StandsAt, Writes, blank_text}
use Rattle.op_rt_text.proofs.Behind.{clears, copies, writes}
use Rattle.op_rt_text.proofs.BlanksRun.{blanks_called}
use Rattle.op_rt_text.proofs.BytesRun.{bytes_called}
use Rattle.op_rt_text.proofs.CharRun.{char_called}
use Rattle.op_rt_text.proofs.ClearRun.{clear_called}
use Rattle.op_rt_text.proofs.CopyCalls.{bytes_copied, words_called}
use Rattle.op_rt_text.proofs.NumberRun.{number_called}
use Rattle.op_rt_text.proofs.TakeRun.{take_called}
use Rattle.op_rt_text.proofs.TruthRun.{truth_called}
use Rattle.op_rv.specs.Operation.{signed}
use Rattle.op_rv.specs.State.{word_at}

less_room : (p : Placement) (m : State) (least : ℕ) → least ≤ 256 → HasRoom p m 256 → HasRoom p m least
less_room p m least less room =
    let some = room.room in
    record { room = omega arith; words = room.words; readable = room.readable; writable = room.writable }

module _ (low : Low) (p : Placement) (m : State) (operands : Operands) (rest : List Instruction) where
  pub blanks_written : (count : ℕ) → HasTexts p m → Called low p m write_blanks_number (count ∷ []) operands rest → Writes low p m operands rest (blank_text (width_of (signed count)))
  blanks_written count texts called =
      let runtime = called.runtime in
      let some = called.room.room in
      let size = length-replicate {A = ℕ} (width_of (signed count)) 32 in
      writes low p m write_blanks_number (count ∷ []) operands rest called (replicate {A = ℕ} (width_of (signed count)) 32) (width_of (signed count) + 82) (omega arith)
      (blanks_called runtime.others low.entry low.counts low.globals p m operands rest count called.passed (called.words 0) texts.blanks (runtime.frames write_blanks_number (omega arith)) (omega arith))

  pub bytes_written : (at width : ℕ) (text : List ℕ) → HasTexts p m → StandsAt p m at text → length text < 2 ^ 31 → Called low p m write_bytes_number (at ∷ length text ∷ width ∷ []) operands rest → Writes low p m operands rest (padded (width_of (signed width)) text)
  bytes_written at width text texts stands short called =
      let runtime = called.runtime in
      let some = called.room.room in
      let bytes = padded (width_of (signed width)) text in
      writes low p m write_bytes_number (at ∷ length text ∷ width ∷ []) operands rest called bytes (length bytes + 155) (omega arith)
      (bytes_called runtime.others low.entry low.counts low.globals p (runtime.frames write_blanks_number (omega arith)) (runtime.frames write_bytes_number (omega arith)) m operands rest at width text called.passed stands texts.blanks short (called.words 2) (omega arith))

  pub number_written : (value width : ℕ) → HasTexts p m → Called low p m write_number_number (value ∷ width ∷ []) operands rest → Writes low p m operands rest (padded (width_of (signed width)) (text_of_number (signed value)))
  number_written value width texts called =
      let runtime = called.runtime in
      let bytes = padded (width_of (signed width)) (text_of_number (signed value)) in
      writes low p m write_number_number (value ∷ width ∷ []) operands rest called bytes (length bytes + 309) (omega arith)
      (number_called runtime.others low.entry low.counts low.globals p (runtime.frames write_blanks_number (omega arith)) (runtime.frames write_bytes_number (omega arith)) (runtime.frames write_number_number (omega arith)) m operands rest value width called.passed (called.words 0) (called.words 1) texts.blanks called.room)

  pub truth_written : (value width : ℕ) → HasTexts p m → Called low p m write_truth_number (value ∷ width ∷ []) operands rest → Writes low p m operands rest (padded (width_of (signed width)) (text_of_truth (signed value)))
  truth_written value width texts called =
      let runtime = called.runtime in
      let bytes = padded (width_of (signed width)) (text_of_truth (signed value)) in
      writes low p m write_truth_number (value ∷ width ∷ []) operands rest called bytes (length bytes + 232) (omega arith)
      (truth_called runtime.others low.entry low.counts low.globals p (runtime.frames write_blanks_number (omega arith)) (runtime.frames write_bytes_number (omega arith)) (runtime.frames write_truth_number (omega arith)) m operands rest value width called.passed (called.words 0) (called.words 1) texts called.room.room)

  pub char_written : (value width : ℕ) → HasTexts p m → Called low p m write_char_number (value ∷ width ∷ []) operands rest → Writes low p m operands rest (padded (width_of (signed width)) (text_of_char (signed value)))
  char_written value width texts called =
      let runtime = called.runtime in
      let bytes = padded (width_of (signed width)) (text_of_char (signed value)) in
      writes low p m write_char_number (value ∷ width ∷ []) operands rest called bytes (length bytes + 232) (omega arith)
      (char_called runtime.others low.entry low.counts low.globals p (runtime.frames write_blanks_number (omega arith)) (runtime.frames write_bytes_number (omega arith)) (runtime.frames write_char_number (omega arith)) m operands rest value width called.passed (called.words 0) (called.words 1) texts.blanks called.room)

  pub words_are_copied : (to from count : ℕ) → Copyable p m to from count → to % 4 ≡ 0 → from % 4 ≡ 0 → count % 4 ≡ 0 → Called low p m copy_words_number (to ∷ from ∷ count ∷ []) operands rest → Copies low p m operands rest to from count
  words_are_copied to from count can to_whole from_whole whole called =
      let runtime = called.runtime in
      copies low p m copy_words_number (to ∷ from ∷ count ∷ []) operands rest called to from count (78 + 2 * count) (omega arith)
      (words_called runtime.others low.entry low.counts low.globals p m operands rest to from count called.passed (runtime.frames copy_words_number (omega arith)) (less_room p m 64 (omega arith) called.room) can to_whole from_whole whole)

  pub bytes_are_copied : (to from count : ℕ) → Copyable p m to from count → Called low p m copy_bytes_number (to ∷ from ∷ count ∷ []) operands rest → Copies low p m operands rest to from count
  bytes_are_copied to from count can called =
      let runtime = called.runtime in
      copies low p m copy_bytes_number (to ∷ from ∷ count ∷ []) operands rest called to from count (82 + 5 * count) (omega arith)
      (bytes_copied runtime.others low.entry low.counts low.globals p m operands rest to from count called.passed (runtime.frames copy_bytes_number (omega arith)) (less_room p m 64 (omega arith) called.room) can)

  pub value_is_taken : (to size : ℕ) → Copyable p m to (word_at m.memory to) size → to % 4 ≡ 0 → Allowed p.rights.readable m.limit to 4 → Called low p m take_number (to ∷ size ∷ []) operands rest → Copies low p m operands rest to (word_at m.memory to) size
  value_is_taken to size can whole word called =
      let runtime = called.runtime in
      copies low p m take_number (to ∷ size ∷ []) operands rest called to (word_at m.memory to) size (156 + 5 * size) (omega arith)
      (take_called runtime.others low.entry low.counts low.globals p (runtime.frames copy_words_number (omega arith)) (runtime.frames copy_bytes_number (omega arith)) (runtime.frames take_number (omega arith)) m operands rest to (word_at m.memory to) size called.passed (less_room p m 128 (omega arith) called.room) can whole word refl)

  pub memory_is_zeroed : (to count : ℕ) → Clearable p m to count → Called low p m clear_number (to ∷ count ∷ []) operands rest → Clears low p m operands rest to count
  memory_is_zeroed to count can called =
      let runtime = called.runtime in
      clears low p m clear_number (to ∷ count ∷ []) operands rest called to count (80 + 2 * count) (omega arith)
      (clear_called runtime.others low.entry low.counts low.globals p m operands rest to count called.passed (runtime.frames clear_number (omega arith)) (less_room p m 64 (omega arith) called.room) can)
