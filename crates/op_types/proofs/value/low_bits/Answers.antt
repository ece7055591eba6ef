use Rattle.std.proofs.Common.{ap, ◌∙◌}
use Rattle.op_types.proofs.Wide.{low_is}
use Rattle.op_types.specs.Values.{within}
use Rattle.op_types.proofs.value.low_bits.Goals as goal

pub returns : goal.returns
returns c =
    c.within.ensures
    ∙ ap within (low_is c.args.low c.args.high c.args.n c.rem_euclid.result c.ranges.low c.ranges.high c.ranges.n (record { sfits = c.rem_euclid.type_inv }) c.requires.small c.requires.order c.rem_euclid.ensures.value c.rem_euclid.ensures.lower_bound c.rem_euclid.ensures.upper_bound)
