use Rattle.op_wholes.proofs.FramesFit.{all_named, frame_fits, need_fits}
use Rattle.op_wholes.proofs.WholesSmall.{statements_small}
use Rattle.op_wholes.proofs.theorems.wholes_are_charged.Goals as goal

pub returns : goal.returns
returns c = record {
  named = λ core stack r row b sound simple there body counted. all_named core stack r row b sound simple there body counted;
  charged = statements_small;
  frames = frame_fits;
  needs = need_fits;
}
