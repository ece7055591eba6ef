use Rattle.std.proofs.Common.{arith}
use Rattle.op_regs.proofs.MarkLemmas.{all_marked}
use Rattle.op_regs.proofs.liveness.live_at.Goals as goal

pub returns-clause-live : goal.returns-clause-live
returns-clause-live c = record {
  live = c.pass.ensures.keeps c.loop.invariant.live;
  all = all_marked c.args.lines.now c.pass.new.marks.items (λ p. c.pass.ensures.none_lacks c.loop-test.false p (omega arith));
}
