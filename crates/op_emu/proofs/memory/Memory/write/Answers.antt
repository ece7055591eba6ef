use Rattle.std.proofs.Common.{◌+◌, ◌-◌, ◌∙◌, ap, subst, arith, take, drop, length, length-drop}
use Rattle.std.proofs.lemmas.List.{take_rest, length-take-le, take_all}
use Rattle.op_emu.specs.Segments.{regions_of, IsWritten}
use Rattle.op_emu.proofs.Stretches.{all_from-at}
use Rattle.op_emu.proofs.Writing.{written_none, written_more, still_writable}
use Rattle.op_emu.proofs.memory.Memory.write.Goals as goal

pub loop-done-init : goal.loop-done-init
loop-done-init c =
    record { within = omega arith; written = written_none (regions_of c.args.self.now.segments.items) c.args.at }

pub write_front-done-requires : goal.write_front-done-requires
write_front-done-requires c =
    let now = c.loop-done.invariant in
    ap (λ may. may (c.args.at + c.loop-done.done)) (still_writable _ _ _ _ now.written) ∙ all_from-at _ c.args.at (length c.args.bytes.now) c.loop-done.done c.loop-done-test.true c.requires.may

pub loop-done-preserved : goal.loop-done-preserved
loop-done-preserved c =
    let now = c.loop-done.invariant in
    let step = c.write_front-done.ensures in
    let bytes = c.args.bytes.now in
    let done = c.loop-done.done in
    let count = c.write_front-done.result in
    let rest = take_rest bytes done in
    let most = step.most in
    let room = length-take-le (length bytes - done) (drop done bytes) (omega (arith, length-drop done bytes)) in
    let next = subst (λ bs. IsWritten (regions_of c.loop-done.self.segments.items) (regions_of c.write_front-done.new.self.segments.items) (c.args.at + done) (take count bs)) rest step.wrote in
    record {
      within = omega (arith, most, room);
      written = written_more _ _ _ c.args.at done count bytes now.within now.written next;
    }

pub returns : goal.returns
returns c =
    let now = c.loop-done.invariant in
    subst (IsWritten (regions_of c.args.self.now.segments.items) (regions_of c.loop-done.self.segments.items) c.args.at) (take_all c.loop-done.done c.args.bytes.now c.loop-done-test.false) now.written
