use Rattle.std.proofs.Common.{map}
use Rattle.op_sound.proofs.Sound.{answer_sound}
use Rattle.op_tree.specs.File.{file_of}
use Rattle.op_sound.proofs.program.check.Goals as goal

pub returns : goal.returns
returns c =
    let e = c.check.ensures in
    record { means = e.means; law = e.law; told = e.told; sound = answer_sound (map file_of c.args.trees.now) c.args.order.now c.check.result e.means }
