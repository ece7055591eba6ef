use Rattle.std.proofs.Common.{◌≡◌, List, [], ◌∷◌, length, Some, refl, ap, sym, ◌∙◌, arith}
use Rattle.op_check_stmt.specs.Procedure.{arguments_behind}
use Rattle.op_tree.proofs.Rows.{call_says}
use Rattle.op_tree.specs.Expression.{selector_of, selectors, no_selectors}
use Rattle.op_tree.specs.Lists.{arguments_of}
use Rattle.op_tree.specs.Statement.{selectors_of}
use Rattle.op_tree.specs.declared.expression.Selector.{Selector}
use Rattle.op_check_stmt.proofs.procedure.arguments_alone.Goals as goal

nil : (xs : List Selector) → length xs ≡ 0 → xs ≡ []
nil [] h = refl
nil (x ∷ xs) h = absurd (omega (arith, h))

pub returns-in-None : goal.returns-in-None
returns-in-None c =
    ap (λ xs. Some (arguments_of xs)) c.deref.ensures.value
    ∙ sym (ap (λ os. arguments_behind (selectors (selector_of c.args.first.now) (selectors_of os))) (nil c.args.others.now c.in-None.ensures.cases)
    ∙ ap (λ s. arguments_behind (selectors s no_selectors)) (ap selector_of c.in-Call.is ∙ call_says c.in-Call.arguments))
