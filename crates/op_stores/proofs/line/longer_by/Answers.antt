use Rattle.op_stores.proofs.Lines.{longer}
use Rattle.op_stores.proofs.line.longer_by.Goals as goal

pub returns : goal.returns
returns c =
    longer c.args.setting c.args.items.now.items c.add_byte.new.items.items c.choose.new.items.items c.choose.result c.args.of c.args.byte.0 c.args.line c.in_ok-old.old c.new-wider.result.items c.replace_by.new.items.items c.new.result.items
    c.in_ok-old.ensures c.new-wider.ensures.items c.new.ensures.items c.in_ok-replace_by.ensures c.in_ok-add_byte.ensures c.choose.ensures
