use Rattle.std.proofs.Common.{◌≡◌, arith, length, take}
use Rattle.std.proofs.lemmas.List.{length-take-le}
use Rattle.op_emu.proofs.Stretches.{all_from-front}
use Rattle.op_emu.proofs.memory.Memory.fill_through.Goals as goal

pub write-requires : goal.write-requires
write-requires g c =
    let gave = c.in-Gave.ensures.gave in
    let room : length c.take.new.into ≡ length c.args.buffer.now = c.take.auto.into in
    let count = length-take-le c.in-Gave.count c.take.new.into gave.1 in
    record {
      near = c.requires.near;
      few = omega (arith, count, gave.1, room, c.requires.few);
      may = all_from-front _ c.args.at (length c.args.buffer.now) (length (take c.in-Gave.count c.take.new.into)) (omega (arith, count, gave.1, room)) c.requires.may;
    }

pub returns-in-Gave : goal.returns-in-Gave
returns-in-Gave g c =
    let gave = c.in-Gave.ensures.gave in
    let room : length c.take.new.into ≡ length c.args.buffer.now = c.take.auto.into in
    record {
      counts = c.take.ensures.counts;
      front = (
        gave.0,
        omega (arith, gave.1, room),
        record {
          bytes = take c.in-Gave.count c.take.new.into;
          many = length-take-le c.in-Gave.count c.take.new.into gave.1;
          bounded = c.are_bytes.ensures;
          parts = gave.2;
          written = c.write.ensures;
        },
      );
    }
