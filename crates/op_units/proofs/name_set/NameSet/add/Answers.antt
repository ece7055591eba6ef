use Rattle.std.proofs.Common.{not, ap, ◌∙◌}
use Rattle.op_units.proofs.Names.{after_adding, is_there}
use Rattle.op_units.proofs.name_set.NameSet.add.Goals as goal

pub returns-clause-added : goal.returns-clause-added
returns-clause-added c = c.in_ok-insert.ensures.added ∙ ap not (is_there c.self.inside.names.keys c.in_ok-key.key c.args.name.now c.args.self.now c.in_ok-key.ensures.items c.self.view_is)

pub returns-clause-after : goal.returns-clause-after
returns-clause-after c = after_adding c.self.inside.names.keys c.insert.new.self.keys c.in_ok-key.key c.args.name.now c.args.self.now c.in_ok-key.ensures.items c.self.view_is c.in_ok-insert.ensures.keys
