use Rattle.std.proofs.Common.{ap, ◌∙◌}
use Rattle.std.specs.Str.{bytes_eq}
use Rattle.op_units.proofs.Names.{any_items}
use Rattle.op_units.specs.Names.{is_among}
use Rattle.op_units.proofs.name_set.NameSet.contains.Goals as goal

pub returns : goal.returns
returns c = c.contains.ensures ∙ any_items (bytes_eq c.args.name.now) c.self.inside.names.keys ∙ ap (is_among c.args.name.now) c.self.view_is
