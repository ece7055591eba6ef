-- What a node passes is what it says passes.
use Rattle.std.proofs.Common.{◌≡◌, ℕ, Bool, List, ◌∷◌, length, ap, sym, ◌∙◌}
use Rattle.std.proofs.lemmas.List.{nil_from_length}
use Rattle.op_core.proofs.Nodes.{list_nodes}
use Rattle.op_core.specs.Expression.{expr_of, expression, root_of}
use Rattle.op_core.specs.Nodes.{steps_of}
use Rattle.op_core.specs.declared.expression.CoreExpr.{CoreExpr, out-CoreExpr}
use Rattle.op_core.specs.declared.expression.Step.{Step}
use Rattle.op_core.specs.declared.program.Core.{Core}
use Rattle.op_plain.specs.Plain.{is_plain_amount, is_plain_bare, is_plain_expression}

pub says : {A B : Type 0} {x y : A} {z : B} (test : B → Bool) (of : A → B) → x ≡ y → of y ≡ z → test (of x) ≡ test z
says test of e f = ap (λ x. test (of x)) e ∙ ap test f

module _ (texts : List ℕ → Bool) (core : Core) (e : CoreExpr) where
  pub amount_bare : length (out-CoreExpr e).steps.items ≡ 0 → is_plain_amount texts core (expr_of e) ≡ is_plain_bare texts core (root_of (out-CoreExpr e).root) (out-CoreExpr e).of
  amount_bare none =
      ap (is_plain_amount texts core) (list_nodes.expr_says e)
      ∙ ap (λ xs. is_plain_amount texts core (expression (root_of (out-CoreExpr e).root) (out-CoreExpr e).of (steps_of xs))) (nil_from_length (out-CoreExpr e).steps.items none)

  pub amount_long : (x : Step) (xs : List Step) → (out-CoreExpr e).steps.items ≡ x ∷ xs → is_plain_amount texts core (expr_of e) ≡ is_plain_expression texts core (expr_of e)
  amount_long x xs some =
      let amount : is_plain_amount texts core (expr_of e) ≡ is_plain_expression texts core (expression (root_of (out-CoreExpr e).root) (out-CoreExpr e).of (steps_of (x ∷ xs))) =
      ap (is_plain_amount texts core) (list_nodes.expr_says e) ∙ ap (λ ys. is_plain_amount texts core (expression (root_of (out-CoreExpr e).root) (out-CoreExpr e).of (steps_of ys))) some in
      let whole : is_plain_expression texts core (expr_of e) ≡ is_plain_expression texts core (expression (root_of (out-CoreExpr e).root) (out-CoreExpr e).of (steps_of (x ∷ xs))) =
      ap (is_plain_expression texts core) (list_nodes.expr_says e) ∙ ap (λ ys. is_plain_expression texts core (expression (root_of (out-CoreExpr e).root) (out-CoreExpr e).of (steps_of ys))) some in
      amount ∙ sym whole
