use Rattle.std.proofs.Common.{◌∙◌, sym}
use Rattle.op_emu.specs.Segments.{region_of}
use Rattle.op_emu.proofs.Regions.{word_of_found, word_of_other}
use Rattle.op_emu.proofs.memory.Memory.allowed_word.Goals as goal

pub returns-then-allows : goal.returns-then-allows
returns-then-allows c =
    word_of_found c.args.right _ c.args.at c.word.result (region_of c.in-Some.segment.now) c.args.self.now.apart c.in-Some.ensures (c.has_word.ensures.0 c.if-has_word.true) (sym c.allows.ensures ∙ c.if-allows.true) c.word.ensures

pub returns-else-allows : goal.returns-else-allows
returns-else-allows c =
    word_of_other c.args.right _ c.args.at (region_of c.in-Some.segment.now) c.in-Some.ensures (sym c.allows.ensures ∙ c.if-allows.false)
