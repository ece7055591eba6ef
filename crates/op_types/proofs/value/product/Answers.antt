use Rattle.std.proofs.Common.{◌*ℤ◌, ap, ◌∙◌, of_z, to_z, to_z-of_z, w64}
use Rattle.op_types.proofs.Wide.{product_fits, widened}
use Rattle.op_types.specs.Values.{within}
use Rattle.op_types.proofs.value.product.Goals as goal

pub returns : goal.returns
returns c =
    c.within.ensures
    ∙ ap within ((λ i. to_z w64 (of_z w64 (widened c.args.a c.ranges.a i *ℤ widened c.args.b c.ranges.b i))) ∙ to_z-of_z (product_fits c.args.a c.args.b c.ranges.a c.ranges.b))
