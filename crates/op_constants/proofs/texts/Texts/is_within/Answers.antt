use Rattle.std.proofs.Common.{arith}
use Rattle.op_constants.proofs.Sums.{next_passes, none_left}
use Rattle.op_constants.proofs.texts.Texts.is_within.Goals as goal

pub returns-in-None : goal.returns-in-None
returns-in-None c =
    next_passes c.as_slice-text-items.result.now c.self.inside.texts.keys c.args.self.now c.loop-text.text-index c.loop-text.room c.args.most c.as_slice-text-items.ensures.keys c.self.view_is c.loop-text.invariant
    c.text-item.result c.len.result c.loop-text-test.true c.text-item.is (omega (arith, c.len.ensures, c.text-item.result.ok.0)) c.in-None.ensures

pub returns : goal.returns
returns c =
    none_left c.as_slice-text-items.result.now c.self.inside.texts.keys c.args.self.now c.loop-text.text-index c.loop-text.room c.args.most c.as_slice-text-items.ensures.keys c.self.view_is c.loop-text.invariant
    (omega (arith, c.loop-text-test.false, c.loop-text.auto.text-index-end))
