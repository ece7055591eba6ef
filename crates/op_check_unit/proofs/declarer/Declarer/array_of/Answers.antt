use Rattle.std.proofs.Common.{arith, reverse}
use Rattle.op_check_unit.proofs.Going.{arrays_done, arrays_more}
use Rattle.op_check_unit.specs.Steps.{here_of}
use Rattle.op_check_unit.proofs.declarer.Declarer.array_of.Goals as goal
use Rattle.op_check_unit.specs.Types.{arrays}
use Rattle.op_judgement.specs.Steps.{done}

pub loop-index-preserved : goal.loop-index-preserved
loop-index-preserved c =
    arrays_more c.args.place c.loop-index.indices.items c.pop.new.self.items c.in-Some.index c.loop-index.of c.in_ok-of.of (done (arrays c.args.place c.args.element (reverse c.args.indices.items) (here_of c.args.self.now))) c.args.self.now c.loop-index.self c.one_array.new.self c.in-Some.ensures.items c.loop-index.invariant c.in_ok-of.ensures

pub returns : goal.returns
returns c =
    arrays_done c.args.place c.args.indices.items c.loop-index.indices.items c.args.element c.loop-index.of c.args.self.now c.loop-index.self
    (λ e. let h = c.if-is_empty.false in let k = c.is_empty.ensures in let o = c.args.indices.ok in grind (arith, e, h, k, o))
    (let h = c.in_default.ensures.cases.0 in let o = c.loop-index.indices.ok in grind (arith, h, o)) c.loop-index.invariant
