use Rattle.std.proofs.Common.{ap, ◌∙◌}
use Rattle.op_calls.proofs.Listing.{list_gives}
use Rattle.op_semantics.specs.Expressions.{found, owned}
use Rattle.op_semantics.specs.Items.{none}
use Rattle.op_calls.proofs.lists.list.Goals as goal

pub returns : goal.returns
returns c =
    list_gives c.args.setting c.args.items.now.items c.list_begun.new.items.items c.items.new.items.items c.new.result _ _ _ c.args.held
    (c.new.ensures ∙ ap (λ p. found none (owned p) c.args.held) c.held_path-path.ensures) c.in_ok-list_begun.ensures c.in_ok-items.ensures
