use Rattle.std.proofs.Common.{take}
use Rattle.op_scan.specs.Item.{a_name, stands}
use Rattle.op_scan.proofs.Fronts.{name_front}
use Rattle.op_scan.proofs.name.name.Goals as goal

pub returns : goal.returns
returns c =
    let n = c.run_length-length in
    stands (a_name (take n.result c.args.bytes.now)) n.ensures.within (name_front c.args.bytes.now n.result c.requires n.ensures.run) (rw c.split_at.ensures.front at c.in_ok-effect.ensures)
