use Rattle.std.proofs.Common.{ap, ◌∙◌}
use Rattle.op_items.proofs.Storing.{element_adds}
use Rattle.op_items.specs.Setting.{here_view}
use Rattle.op_meaning.specs.Expressions.{at_path, found, past}
use Rattle.op_meaning.specs.Items.{none}
use Rattle.op_items.proofs.setting.Setting.store_element.Goals as goal

pub returns : goal.returns
returns c =
    element_adds c.args.self c.args.items.now.items c.make.new.items.items c.convert.new.items.items c.store.new.items.items c.store.result (here_view c.args.here) (here_view c.in_ok-inner.inner) c.args.of c.args.element c.type_of_variable-to.result c.args.variable c.args.conversion c.at-place.result c.at-target.result c.in_ok-behind.field-0.0
    c.type_of_variable-to.ensures (c.in_ok-inner.ensures ∙ ap (past 3) c.in_ok-past_whole.ensures) c.in_ok-behind.ensures (c.at-place.ensures ∙ ap (λ p. found none (at_path p)) c.in_ok-element_place.ensures) (c.at-target.ensures ∙ ap (λ p. found none (at_path p)) c.variable.ensures)
    c.in_ok-make.ensures c.in_ok-convert.ensures c.store.ensures
