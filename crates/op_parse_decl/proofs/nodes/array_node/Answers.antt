use Rattle.std.proofs.Common.{ap, ◌∙◌}
use Rattle.op_tree.proofs.Rows.{array_says}
use Rattle.op_tree.specs.Denoter.{array, denoter_of}
use Rattle.op_tree.specs.Lists.{denoters_of}
use Rattle.op_parse_decl.proofs.nodes.array_node.Goals as goal

pub returns : goal.returns
returns c = array_says c.args.position c.args.packed c.args.indices c.in_ok-element.element ∙ ap (λ z. array c.args.position c.args.packed (denoters_of c.args.indices.items) z) (ap denoter_of c.in_ok-element.ensures.ok)
