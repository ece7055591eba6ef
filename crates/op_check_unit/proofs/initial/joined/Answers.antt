use Rattle.std.proofs.Common.{Some, ap, sym, ◌∙◌}
use Rattle.std.specs.Option.{option_map}
use Rattle.op_check_unit.specs.Initials.{values_in}
use Rattle.op_core.proofs.Nodes.{list_nodes}
use Rattle.op_core.specs.Initial.{parts}
use Rattle.op_check_unit.proofs.initial.joined.Goals as goal

pub returns-in-Some : goal.returns-in-Some
returns-in-Some c = ap Some (list_nodes.parts_says c.in-Some.list) ∙ sym (ap (λ t. option_map parts (values_in t)) c.in-Some.is)
