use Rattle.std.proofs.Common.{◌≡◌, List, [], ◌∷◌, length, sym, refl, arith}
use Rattle.std.proofs.lemmas.Bool.Decides.{nat_tests}
use Rattle.op_parse_code.proofs.Errors.{made_none}
use Rattle.op_parse_code.specs.Refusal.{made, passed_on}
use Rattle.op_tree.specs.Expression.{Expression}
use Rattle.op_tree.specs.ExpressionGrammar.{chain_of}
use Rattle.op_tree.specs.Lists.{operations_of}
use Rattle.op_tree.specs.declared.expression.Operation.{Operation}
use Rattle.op_parse_code.proofs.chain.extend.Goals as goal

-- without an operation it is the operand
chain_of_none : (e : Expression) (xs : List Operation) → length xs ≡ 0 → e ≡ chain_of e (operations_of xs)
chain_of_none e [] h = refl
chain_of_none e (x ∷ xs) h = absurd (omega (arith, h))

pub returns-then-is_empty : goal.returns-then-is_empty
returns-then-is_empty c =
    let none : length c.args.operations.items ≡ 0 = grind (arith, nat_tests) in
    rw c.in-Ok.is (made (chain_of_none _ c.args.operations.items none, refl))

pub returns-in_err-chain-in-Ok : goal.returns-in_err-chain-in-Ok
returns-in_err-chain-in-Ok c = rw c.in-Ok.is (made_none _ c.from_residual.result c.from_residual.ensures.1)

pub returns-in-Ok : goal.returns-in-Ok
returns-in-Ok c = rw c.in-Ok.is (made (rw (sym c.replace-first.ensures.value) c.in_ok-chain-in-Ok.ensures, refl))

pub returns : goal.returns
returns c = rw c.in-Err.is (passed_on refl)
