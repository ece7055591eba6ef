use Rattle.std.proofs.Common.{◌≡◌, ◌++◌, drop, map}
use Rattle.op_link.specs.Linking.{words, entry_word}
use Rattle.op_link.proofs.writer.push_entries.Given as goal

abbrev pub invariant-loop-entry : goal.invariant-loop-entry
invariant-loop-entry l =
    l.image.items ++ words (map (entry_word l.routines) (drop l.entry-index l.entries)) ≡ l.fn.image.items ++ words (map (entry_word l.routines) l.entries)
