use Rattle.std.proofs.Common.{◌∷◌, drop}
use Rattle.op_check_expr.specs.Scopes.{here_of}
use Rattle.op_check_stmt.proofs.Parts.{Completes}
use Rattle.op_check_stmt.specs.Parts.{items_of}
use Rattle.op_judgement.specs.Judgement.{checked}
use Rattle.op_check_stmt.specs.Procedure.{items}
use Rattle.op_core.specs.Statement.{item_of}
use Rattle.op_tree.specs.Lists.{arguments_of}
use Rattle.op_check_stmt.proofs.action.items.Given as goal

-- what is left gives the whole
abbrev pub invariant-loop-argument : goal.invariant-loop-argument
invariant-loop-argument l =
    Completes item_of (λ y ys. y ∷ ys) (items_of l.typed) (checked (items (here_of l.here.scope) (arguments_of l.arguments))) (checked (items (here_of l.here.scope) (arguments_of (drop l.argument-index l.arguments)))) l.fn.sink l.sink
