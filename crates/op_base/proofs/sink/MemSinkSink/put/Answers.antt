use Rattle.std.proofs.Common.{take, drop, ◌-◌, rules, vec_len}
use Rattle.std.proofs.lemmas.List.{take-append-drop}
use Rattle.op_base.proofs.sink.MemSinkSink.put.Goals as goal

pub returns-then-free-bytes-clause-front : goal.returns-then-free-bytes-clause-front
returns-then-free-bytes-clause-front c =
    let sink = c.args.self.now in
    let bytes = c.args.bytes.now in
    let free = sink.room - vec_len sink.bytes in
    λ _.
    record {
      front = take free bytes;
      rest = drop free bytes;
      parts = take-append-drop free bytes;
      appends = search rules;
    }
