use Rattle.std.proofs.Common.{◌∙◌, arith}
use Rattle.std.proofs.lemmas.Grind.{common_steps}
use Rattle.op_link.proofs.Written.{routines_step}
use Rattle.op_link.proofs.items.push_routines.Goals as goal

pub loop-r-preserved : goal.loop-r-preserved
loop-r-preserved c =
    record {
      code = routines_step c.args.layout.now c.args.addresses.now c.loop-r.spot c.in_ok-spot.spot c.args.routines.now c.loop-r.r c.index-routines-r.result c.loop-r.code.items c.push_routine.new.code.items c.loop-r-test.true c.index-routines-r.is c.in_ok-spot.ensures.end c.in_ok-spot.ensures.code ∙ c.loop-r.invariant.code;
      fields = grind (arith, common_steps);
      longest = grind (arith, common_steps);
      address = grind (arith, common_steps);
    }
