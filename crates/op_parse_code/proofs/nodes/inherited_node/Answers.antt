use Rattle.std.proofs.Common.{ap, ◌∙◌}
use Rattle.op_tree.proofs.Rows.{inherited_says}
use Rattle.op_tree.specs.Expression.{inherited}
use Rattle.op_tree.specs.Statement.{designator_of}
use Rattle.op_parse_code.proofs.nodes.inherited_node.Goals as goal

pub returns : goal.returns
returns c = inherited_says c.args.position c.in_ok-designator.designator ∙ ap (λ d. inherited c.args.position (designator_of d)) c.in_ok-designator.ensures.ok
