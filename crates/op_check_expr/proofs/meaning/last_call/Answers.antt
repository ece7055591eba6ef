use Rattle.std.proofs.Common.{ap, sym, ◌∙◌}
use Rattle.std.specs.Option.{option_map}
use Rattle.op_tree.specs.Statement.{selectors_of}
use Rattle.op_check_expr.proofs.Walking.{beside, last_given}
use Rattle.op_check_expr.specs.Phrases.{last_call}
use Rattle.op_check_expr.proofs.meaning.last_call.Goals as goal

pub returns-in-Some-call_in : goal.returns-in-Some-call_in
returns-in-Some-call_in c =
    ap (option_map (beside (selectors_of c.in-Some.front.now))) c.in-Some-call_in.ensures
    ∙ sym (ap (λ xs. last_call (selectors_of xs)) c.in-Some.ensures.cases.0 ∙ last_given c.in-Some.front.now c.in-Some.last.now)

pub returns-in-None-call_in : goal.returns-in-None-call_in
returns-in-None-call_in c =
    ap (option_map (beside (selectors_of c.in-Some.front.now))) c.in-None-call_in.ensures
    ∙ sym (ap (λ xs. last_call (selectors_of xs)) c.in-Some.ensures.cases.0 ∙ last_given c.in-Some.front.now c.in-Some.last.now)
