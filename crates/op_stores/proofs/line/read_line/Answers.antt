use Rattle.op_stores.proofs.Lines.{a_line}
use Rattle.op_stores.proofs.line.read_line.Goals as goal

pub returns : goal.returns
returns c =
    a_line c.args.setting c.args.items.now.items c.begin_text.new.items.items c.is_in_line.new.items.items c.choose.new.items.items c.choose.result c.args.of c.args.byte.0 c.in_ok-next.field-0.0 c.args.held c.in_ok-sum.field-0 c.in_ok-inner.inner.items c.new-first.result.items c.scope.new.items.items c.new.result.items
    c.in_ok-sum.ensures c.in_ok-next.ensures c.new-first.ensures.items c.new.ensures.items c.in_ok-inner.ensures c.in_ok-scope.ensures c.in_ok-begin_text.ensures c.in_ok-is_in_line.ensures c.choose.ensures
