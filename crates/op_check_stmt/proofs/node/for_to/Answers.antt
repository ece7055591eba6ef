use Rattle.std.proofs.Common.{ap, ◌∙◌}
use Rattle.std.specs.Option.{option_map}
use Rattle.op_check_stmt.proofs.Parts.{made_three}
use Rattle.op_check_stmt.specs.Parts.{bounds_of, boxed_of}
use Rattle.op_check_stmt.specs.Statement.{for_statement}
use Rattle.op_core.specs.Statement.{stmt_of}
use Rattle.op_check_stmt.proofs.node.for_to.Goals as goal

pub returns : goal.returns
returns c = made_three bounds_of boxed_of (for_statement c.args.direction) c.args.counter c.args.bounds c.args.body _ _ c.in_ok-parts.ensures (ap (option_map stmt_of) c.put.ensures ∙ c.in_ok-made.ensures)
