use Rattle.std.proofs.Common.{◌++◌, map, ◌∙◌}
use Rattle.op_types.specs.Names.{named}
use Rattle.op_types.proofs.Index.{copied}
use Rattle.op_types.proofs.names.Names.enter_copies.Goals as goal

pub loop-one-preserved : goal.loop-one-preserved
loop-one-preserved c =
    copied c.args.declared.now c.loop-one.one-index c.one-item.result c.in_ok-name.name.items c.in_ok-meaning.meaning c.loop-one.self c.enter.new.self (c.args.self.now ++ map named c.args.declared.now) c.loop-one-test.true c.one-item.is (c.in_ok-name.ensures.items ∙ c.as_slice.ensures.value) c.in_ok-meaning.ensures c.in_ok-enter.ensures.entered c.loop-one.invariant
