use Rattle.op_semantics.specs.Statements.{is_in_line, longer_by}
use Rattle.op_stores.proofs.Lines.{built, while_as}
use Rattle.op_stores.proofs.line.read_bytes.Goals as goal

pub returns : goal.returns
returns c =
    while_as c.args.setting c.args.items.now.items c.while_next.new.items.items c.while_next.result c.args.byte.0 c.is_in_line.new.items.items c.longer_by.new.items.items (is_in_line c.args.byte.0) (longer_by c.args.of c.args.byte.0 c.args.line)
    (built c.args.setting c.new-test.result.items c.is_in_line.new.items.items (is_in_line c.args.byte.0) c.new-test.ensures.items c.in_ok-is_in_line.ensures)
    (built c.args.setting c.new-body.result.items c.longer_by.new.items.items (longer_by c.args.of c.args.byte.0 c.args.line) c.new-body.ensures.items c.in_ok-longer_by.ensures)
    c.while_next.ensures
