use Rattle.std.proofs.Common.{ap, ◌∙◌}
use Rattle.std.specs.Option.{option_map}
use Rattle.std.specs.Prelude.{Vec}
use Rattle.std.specs.declared.alloc.Global.{Global}
use Rattle.op_check_stmt.proofs.Parts.{made_front}
use Rattle.op_check_stmt.specs.Parts.{branch_of}
use Rattle.op_core.specs.Statement.{stmt_of}
use Rattle.op_core.specs.declared.statement.Label.{Label}
use Rattle.op_check_stmt.proofs.node.branch.Goals as goal

pub returns : goal.returns
returns c = made_front (λ (v : Vec Label Global). v.items) stmt_of (λ l s. (l, s)) c.args.labels c.args.done c.args.body _ _ c.in_ok-parts.ensures (ap (option_map branch_of) c.put.ensures ∙ c.branch_with.ensures)
