use Rattle.std.proofs.Common.{ℕ, ap, ◌∙◌}
use Rattle.op_semantics.specs.Items.{Items}
use Rattle.op_semantics.specs.Statements.{has_turn}
use Rattle.op_turns.proofs.Behind.{ok_as}
use Rattle.op_turns.specs.Parts.{bounded, where_turns}
use Rattle.op_values.specs.Adding.{env_view, view_in}
use Rattle.op_turns.proofs.counting.count_turns.Goals as goal

pub returns : goal.returns
returns c =
    let from : ℕ → Items = λ t. bounded (env_view c.args.setting) t c.args.variable c.args.direction (view_in c.args.setting c.args.body.items) in
    ok_as c.args.setting c.args.items.now.items c.where_turns.new.items.items c.where_turns.result
    (ap (where_turns c.has_turn.result c.first-counter.result.0) c.in_ok-first.ensures
    ∙ ap (λ o. where_turns o c.first-counter.result.0 (from c.first-counter.result.0)) c.has_turn.ensures
    ∙ ap (λ t. where_turns (has_turn c.args.direction) t (from t)) c.first-counter.ensures)
    c.where_turns.ensures
