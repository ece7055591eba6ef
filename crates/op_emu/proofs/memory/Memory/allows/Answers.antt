use Rattle.std.proofs.Common.{◌∙◌, sym, arith}
use Rattle.op_emu.proofs.Stretches.{all_from-blocked, all_from-rest, all_from-none}
use Rattle.op_emu.proofs.memory.Memory.allows.Goals as goal

pub returns-then-front-eq0 : goal.returns-then-front-eq0
returns-then-front-eq0 c =
    let front = c.allowed_front-front.ensures in
    sym (all_from-blocked _ c.loop-left.at c.loop-left.left c.loop-left-test.true (front.stops c.if-front-eq0.true c.loop-left-test.true)) ∙ c.loop-left.invariant.same

pub loop-left-preserved : goal.loop-left-preserved
loop-left-preserved c =
    let front = c.allowed_front-front.ensures in
    record {
      end = omega (arith, front.within);
      same = all_from-rest _ c.loop-left.at c.loop-left.left c.allowed_front-front.result front.within front.allowed ∙ c.loop-left.invariant.same;
    }

pub returns : goal.returns
returns c =
    sym (all_from-none _ c.loop-left.at c.loop-left.left c.loop-left-test.false) ∙ c.loop-left.invariant.same
