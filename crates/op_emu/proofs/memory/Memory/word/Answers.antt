use Rattle.op_emu.specs.Segments.{region_of}
use Rattle.op_emu.proofs.Regions.{word_in_found}
use Rattle.op_emu.proofs.memory.Memory.word.Goals as goal

pub returns-in-Some : goal.returns-in-Some
returns-in-Some c =
    word_in_found _ c.args.at c.word.result (region_of c.in-Some.segment.now) c.args.self.now.apart c.in-Some.ensures (c.has_word.ensures.0 c.if-has_word.true) c.word.ensures
