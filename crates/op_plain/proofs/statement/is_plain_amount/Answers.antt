use Rattle.std.proofs.Common.{◌≡◌, ◌∷◌, length, sym, ◌∙◌, arith}
use Rattle.op_core.specs.declared.expression.CoreExpr.{out-CoreExpr}
use Rattle.op_plain.proofs.Nodes.{amount_bare, amount_long}
use Rattle.op_plain.specs.Plain.{is_short}
use Rattle.op_typing.specs.SimpleTests.{is_short_text}
use Rattle.op_plain.proofs.statement.is_plain_amount.Goals as goal

pub returns-in-None : goal.returns-in-None
returns-in-None c =
    let none : length (out-CoreExpr c.args.amount.now).steps.items ≡ 0 = grind arith in
    record {
      texts = c.is_plain_bare.ensures.texts ∙ sym (amount_bare is_short_text c.args.core.now c.args.amount.now none);
      lengths = c.is_plain_bare.ensures.lengths ∙ sym (amount_bare is_short c.args.core.now c.args.amount.now none);
    }

pub returns-in-Some : goal.returns-in-Some
returns-in-Some c =
    let some : (out-CoreExpr c.args.amount.now).steps.items ≡ c.in-Some.field-0.0.now ∷ c.in-Some.field-0.1.now = grind arith in
    record {
      texts = c.is_plain_expression.ensures.texts ∙ sym (amount_long is_short_text c.args.core.now c.args.amount.now c.in-Some.field-0.0.now c.in-Some.field-0.1.now some);
      lengths = c.is_plain_expression.ensures.lengths ∙ sym (amount_long is_short c.args.core.now c.args.amount.now c.in-Some.field-0.0.now c.in-Some.field-0.1.now some);
    }
