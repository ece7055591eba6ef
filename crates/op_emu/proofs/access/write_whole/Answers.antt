use Rattle.std.proofs.Common.{ap, get_or}
use Rattle.op_emu.proofs.Decoded.{apart_whole, decoded_whole, wrote_whole}
use Rattle.op_emu.proofs.Writing.{place_within}
use Rattle.op_emu.proofs.access.write_whole.Goals as goal

pub write_whole-requires : goal.write_whole-requires
write_whole-requires c =
    let ss = c.args.segments.now in
    let s = c.index-segments-k in
    place_within ss c.args.at c.args.k (get_or ss c.args.k s.result) c.requires.there (ap (get_or ss c.args.k) s.is)

pub returns-clause-done : goal.returns-clause-done
returns-clause-done c =
    let ss = c.args.segments.now in
    let s = c.index-segments-k in
    λ done.
    wrote_whole ss c.args.at c.args.k (get_or ss c.args.k s.result) c.requires.there (ap (get_or ss c.args.k) s.is) c.requires.apart c.write_whole.new.self c.args.bytes.now (c.write_whole.ensures.done done)

pub returns-clause-apart : goal.returns-clause-apart
returns-clause-apart c =
    let ss = c.args.segments.now in
    let s = c.index-segments-k in
    apart_whole ss c.args.at c.args.k (get_or ss c.args.k s.result) c.requires.there (ap (get_or ss c.args.k) s.is) c.requires.apart c.write_whole.new.self c.args.bytes.now c.write_whole.result c.write_whole.ensures.done c.write_whole.ensures.kept

pub returns-clause-decoded : goal.returns-clause-decoded
returns-clause-decoded c =
    let ss = c.args.segments.now in
    let s = c.index-segments-k in
    λ base rows is.
    decoded_whole ss c.args.at c.args.k (get_or ss c.args.k s.result) c.requires.there (ap (get_or ss c.args.k) s.is) c.requires.apart c.write_whole.new.self c.args.bytes.now c.write_whole.result c.write_whole.ensures.done c.write_whole.ensures.kept base rows is
