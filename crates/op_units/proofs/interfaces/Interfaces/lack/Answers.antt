use Rattle.op_units.proofs.Gathering.{lacks}
use Rattle.op_units.proofs.interfaces.Interfaces.lack.Goals as goal

pub returns-then-not-contains : goal.returns-then-not-contains
returns-then-not-contains c h = lacks c.self.inside.lists.items c.args.self.now c.self.inside.names c.args.unit.now c.args.uses.now c.contains.result c.is_used.result c.self.invariant c.self.view_is c.contains.ensures c.if-not-contains.true c.is_used.ensures h
