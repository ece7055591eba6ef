use Rattle.std.proofs.Common.{arith, length, take}
use Rattle.std.proofs.lemmas.List.{length-take-le}
use Rattle.op_emu.proofs.FillingLemmas.{FrontIs-most}
use Rattle.op_emu.proofs.Stretches.{all_from-front}
use Rattle.op_emu.proofs.memory.Memory.fill_front.Goals as goal

pub fill_through-requires : goal.fill_through-requires
fill_through-requires g c =
    let count = length-take-le c.min-want.result c.args.buffer.now (omega arith) in
    let room = c.requires.room in
    let some = c.requires.some in
    record {
      some = omega arith;
      few = omega arith;
      near = c.requires.near;
      may = all_from-front _ c.args.at c.args.most (length (take c.min-want.result c.args.buffer.now)) (omega arith) c.requires.may;
    }

pub returns : goal.returns
returns g c =
    let count = length-take-le c.min-want.result c.args.buffer.now (omega arith) in
    record {
      counts = c.fill_through.ensures.counts;
      front = FrontIs-most c.fill_through.result _ _ c.args.at (length (take c.min-want.result c.args.buffer.now)) c.args.most _ _ _ _ (omega arith) c.fill_through.ensures.front;
    }
