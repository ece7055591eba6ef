use Rattle.std.proofs.Common.{◌≡◌, ◌∷◌, ◌++◌, drop}
use Rattle.op_check_expr.specs.Scopes.{here_of}
use Rattle.op_check_stmt.proofs.Parts.{Completes}
use Rattle.op_judgement.specs.Judgement.{checked}
use Rattle.op_check_stmt.specs.Case.{labels, spots}
use Rattle.op_check_stmt.specs.Parts.{items_of}
use Rattle.op_core.specs.declared.statement.Label.{Label}
use Rattle.op_tree.specs.Statement.{elements_of}
use Rattle.op_check_stmt.proofs.case.labels.Given as goal

-- what is left gives the whole
abbrev pub invariant-loop-element : goal.invariant-loop-element
invariant-loop-element l = record {
  typed : Completes (λ (x : Label). x) (λ y ys. y ∷ ys) (items_of l.typed) (checked (labels (here_of l.here.scope) l.of (elements_of l.elements))) (checked (labels (here_of l.here.scope) l.of (elements_of (drop l.element-index l.elements)))) l.fn.sink l.sink;
  noted : l.others.items ++ spots (here_of l.here.scope) l.of (elements_of (drop l.element-index l.elements)) ≡ l.fn.others.items ++ spots (here_of l.here.scope) l.of (elements_of l.elements);
}
