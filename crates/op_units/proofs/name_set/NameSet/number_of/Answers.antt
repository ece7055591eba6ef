use Rattle.std.proofs.Common.{position, ap, ◌∙◌}
use Rattle.std.specs.Str.{bytes_eq}
use Rattle.op_units.proofs.Names.{position_items}
use Rattle.op_units.proofs.name_set.NameSet.number_of.Goals as goal

pub returns : goal.returns
returns c = c.get_index_of.ensures.index ∙ position_items (bytes_eq c.args.name.now) c.self.inside.names.keys ∙ ap (position (bytes_eq c.args.name.now)) c.self.view_is
