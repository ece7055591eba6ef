use Rattle.std.proofs.Common.{◌≡◌, ◌-◌, ◌+◌, ◌++◌, [], ◌∙◌, sym, ap, subst, arith, refl, length}
use Rattle.std.proofs.lemmas.List.{append-nil, append_assoc}
use Rattle.op_base.proofs.Tests.{rose_since}
use Rattle.op_base.specs.Outside.{appended, AppendsFront}
use Rattle.op_rv.specs.State.{bytes_from}
use Rattle.op_emu.specs.Region.{byte_in}
use Rattle.op_emu.specs.Segments.{regions_of}
use Rattle.op_emu.proofs.Stretches.{all_from-rest, bytes_from-none, bytes_from-rest, appended-append, appended-nil, AppendsFront-after, AppendsFront-longer, front_is_some}
use Rattle.op_emu.proofs.memory.Memory.put.Goals as goal

pub loop-left-init : goal.loop-left-init
loop-left-init g c =
    record {
      end = refl;
      counts = omega arith;
      readable = c.requires;
      sent = ([], sym (appended-nil _), refl);
    }

pub returns-in-Failed-clause-counts : goal.returns-in-Failed-clause-counts
returns-in-Failed-clause-counts g c =
    let before = c.loop-left.invariant.counts in
    let after = c.in-Failed.ensures.counts in
    omega (arith, before, after)

pub returns-in-Failed-clause-failed : goal.returns-in-Failed-clause-failed
returns-in-Failed-clause-failed g c =
    λ failed. rose_since _ _ _ c.loop-left.invariant.counts (c.in-Failed.ensures.failed failed)

pub returns-in-Failed-clause-front : goal.returns-in-Failed-clause-front
returns-in-Failed-clause-front g c =
    let regions = regions_of c.args.self.now.segments.items in
    let memory = byte_in regions in
    let front = c.readable_front-front.result.now in
    let is = c.readable_front-front.ensures in
    let at = c.loop-left.at in
    let left = c.loop-left.left in
    let more = bytes_from memory (at + length front) (left - length front) in
    let split : front ++ more ≡ bytes_from memory at left =
    ap (λ xs. xs ++ more) is.bytes ∙ bytes_from-rest memory at left (length front) is.within
    in
    let sent = c.loop-left.invariant.sent in
    let sink = g.W.Sink in
    λ failed.
    let part = AppendsFront-longer _ _ front more (c.in-Failed.ensures.front failed) in
    let part' : AppendsFront (sink.written c.loop-left.to) (bytes_from memory at left) (sink.written c.put.new.self) =
    subst (λ bytes. AppendsFront (sink.written c.loop-left.to) bytes (sink.written c.put.new.self)) split part
    in
    subst (λ bytes. AppendsFront (sink.written c.args.to.now) bytes (sink.written c.put.new.self)) sent.2 (AppendsFront-after _ _ _ sent.0 (bytes_from memory at left) sent.1 part')

pub loop-left-smaller : goal.loop-left-smaller
loop-left-smaller g c =
    let is = c.readable_front-front.ensures in
    let some = front_is_some _ c.loop-left.at c.loop-left.left _ c.loop-left-test.true c.loop-left.invariant.readable is in
    omega (arith, some, is.within)

pub loop-left-preserved : goal.loop-left-preserved
loop-left-preserved g c =
    let memory = byte_in (regions_of c.args.self.now.segments.items) in
    let front = c.readable_front-front.result.now in
    let is = c.readable_front-front.ensures in
    let at = c.loop-left.at in
    let left = c.loop-left.left in
    let now = c.loop-left.invariant in
    let more = bytes_from memory (at + length front) (left - length front) in
    let before = now.counts in
    let after = c.in-Done.ensures.counts in
    record {
      end = omega (arith, is.within);
      counts = omega (arith, before, after);
      readable = all_from-rest _ at left (length front) is.within is.readable ∙ now.readable;
      sent = (
        now.sent.0 ++ front,
        c.in-Done.ensures.done refl ∙ ap (λ o. appended o front) now.sent.1 ∙ sym (appended-append _ now.sent.0 front),
        append_assoc now.sent.0 front more ∙ ap (λ xs. now.sent.0 ++ xs) (ap (λ xs. xs ++ more) is.bytes ∙ bytes_from-rest memory at left (length front) is.within) ∙ now.sent.2,
      );
    }

pub returns-clause-counts : goal.returns-clause-counts
returns-clause-counts g c = c.loop-left.invariant.counts

pub returns-clause-done : goal.returns-clause-done
returns-clause-done g c =
    let sent = c.loop-left.invariant.sent in
    let none = bytes_from-none (byte_in (regions_of c.args.self.now.segments.items)) c.loop-left.at c.loop-left.left c.loop-left-test.false in
    λ _. sent.1 ∙ ap (appended (g.W.Sink.written c.args.to.now)) (sym (append-nil sent.0) ∙ ap (λ xs. sent.0 ++ xs) (sym none) ∙ sent.2)
