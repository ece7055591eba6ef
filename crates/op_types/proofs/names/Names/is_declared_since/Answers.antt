use Rattle.std.proofs.Common.{None, Some, take}
use Rattle.op_types.proofs.Index.{since_by}
use Rattle.op_types.proofs.names.Names.is_declared_since.Goals as goal

pub returns-in-Some : goal.returns-in-Some
returns-in-Some c =
    since_by c.args.count (take c.args.within c.args.self.now) c.args.key.now.items c.last_of.result (Some c.in-Some.at) c.last_of.ensures c.in-Some.is

pub returns-in-None : goal.returns-in-None
returns-in-None c =
    since_by c.args.count (take c.args.within c.args.self.now) c.args.key.now.items c.last_of.result None c.last_of.ensures c.in-None.is
