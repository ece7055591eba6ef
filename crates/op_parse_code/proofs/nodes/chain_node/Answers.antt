use Rattle.std.proofs.Common.{◌≡◌, ◌<◌, List, [], ◌∷◌, refl, length, sym, ap, ◌∙◌, arith}
use Rattle.std.proofs.lemmas.Bool.Decides.{nat_tests}
use Rattle.op_tree.proofs.Rows.{chain_says}
use Rattle.op_tree.specs.Expression.{Expression, chain, expr_of}
use Rattle.op_tree.specs.ExpressionGrammar.{chain_of}
use Rattle.op_tree.specs.Lists.{operations_of}
use Rattle.op_tree.specs.declared.expression.Operation.{Operation}
use Rattle.op_parse_code.proofs.nodes.chain_node.Goals as goal

-- with an operation it is a chain
chain_of_some : (e : Expression) (xs : List Operation) → 0 < length xs → chain_of e (operations_of xs) ≡ chain e (operations_of xs)
chain_of_some e [] h = absurd (omega arith)
chain_of_some e (x ∷ xs) h = refl

pub returns : goal.returns
returns c =
    let some : 0 < length c.args.rest.items = grind (arith, nat_tests) in
    chain_says c.in_ok-first.first c.fitted-rest.result ∙ (ap (λ z. chain z (operations_of c.fitted-rest.result.items)) (ap expr_of c.in_ok-first.ensures.ok) ∙ (ap (λ xs. chain (expr_of c.args.first) (operations_of xs)) c.fitted-rest.ensures ∙ sym (chain_of_some (expr_of c.args.first) c.args.rest.items some)))
