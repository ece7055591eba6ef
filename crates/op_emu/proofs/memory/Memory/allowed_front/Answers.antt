use Rattle.std.proofs.Common.{arith, sym, ◌∙◌}
use Rattle.op_emu.specs.Segments.{region_of}
use Rattle.op_emu.proofs.Regions.{allowed_of_found, allowed_of_none, allowed_of_other}
use Rattle.op_emu.proofs.memory.Memory.allowed_front.Goals as goal

pub returns-in-None : goal.returns-in-None
returns-in-None c = allowed_of_none c.args.right _ c.args.at c.args.most c.in-None.ensures

pub returns-in-Some : goal.returns-in-Some
returns-in-Some c =
    allowed_of_other c.args.right _ c.args.at c.args.most (region_of c.in-Some.segment.now) c.in-Some.ensures (sym c.allows.ensures ∙ c.if-not-allows.true)

pub returns-in-Some-2 : goal.returns-in-Some-2
returns-in-Some-2 c =
    let segment = c.in-Some.segment.now in
    let above = c.in-Some.ensures.within.above in
    let below = c.in-Some.ensures.within.below in
    let count = c.min.ensures in
    allowed_of_found c.args.right _ c.args.at c.args.most c.min.result (region_of segment) c.args.self.now.apart c.in-Some.ensures (sym c.allows.ensures ∙ c.if-not-allows.false) (omega arith) (omega arith) (λ e. omega arith)
