use Rattle.std.proofs.Common.{Some, ap, sym, ◌∙◌}
use Rattle.op_tree.proofs.Rows.{call_says}
use Rattle.op_tree.specs.Expression.{selector_of}
use Rattle.op_tree.specs.Lists.{arguments_of}
use Rattle.op_check_expr.specs.Phrases.{call_in}
use Rattle.op_check_expr.proofs.meaning.call_in.Goals as goal

pub returns-in-Call : goal.returns-in-Call
returns-in-Call c = ap (λ xs. Some (arguments_of xs)) c.as_slice.ensures.value ∙ sym (ap (λ s. call_in (selector_of s)) c.in-Call.is ∙ ap call_in (call_says c.in-Call.arguments))
