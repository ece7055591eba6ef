use Rattle.std.proofs.Common.{◌∷◌, refl, arith}
use Rattle.std.proofs.lemmas.List.{nil_from_length}
use Rattle.op_scan.proofs.Nesting.{means_at}
use Rattle.op_scan.proofs.Outer.{passes_byte, opens_comment, closes_inner, closes_last, never_closes}
use Rattle.op_scan.proofs.comment.after_comment.Goals as goal

pub loop-byte-preserved-in-Plain : goal.loop-byte-preserved-in-Plain
loop-byte-preserved-in-Plain c =
    let l = c.loop-byte in
    let s = c.in-Some in
    let plain = means_at l.marks (s.byte.now ∷ s.after.now) s.byte.now s.after.now _ refl c.in-Plain.ensures in
    passes_byte _ _ _ _ _ l.invariant s.byte.now s.after.now s.ensures.cases.0 plain

pub loop-byte-preserved-in-Opens : goal.loop-byte-preserved-in-Opens
loop-byte-preserved-in-Opens c =
    let l = c.loop-byte in
    let s = c.in-Some in
    let opened = means_at l.marks l.rest.now s.byte.now s.after.now _ s.ensures.cases.0 c.in-Opens.ensures in
    rw (c.in_ok-push-in-Opens.ensures.items, c.split_at.ensures.back, c.mark_length.ensures) (opens_comment _ _ _ _ _ l.invariant c.in-Opens.inner _ opened)

pub loop-byte-preserved : goal.loop-byte-preserved
loop-byte-preserved c =
    let l = c.loop-byte in
    let s = c.in-Some in
    let closed = means_at l.marks l.rest.now s.byte.now s.after.now _ s.ensures.cases.0 c.in-Closes.ensures in
    rw (c.split_at-in-Closes.ensures.back, c.mark_length-in-Closes.ensures) (closes_inner _ _ _ _ _ l.invariant _ _ _ c.in-Some-pop.ensures.items closed)

pub returns-in-None : goal.returns-in-None
returns-in-None c =
    let l = c.loop-byte in
    let s = c.in-Some in
    let closed = means_at l.marks l.rest.now s.byte.now s.after.now _ s.ensures.cases.0 c.in-Closes.ensures in
    let empty = nil_from_length l.outer.items (omega (arith, l.outer.ok.0, c.in-None.ensures.cases.0)) in
    rw (c.split_at-in-Closes.ensures.back, c.mark_length-in-Closes.ensures) (closes_last _ _ _ _ _ l.invariant _ empty closed)

pub returns : goal.returns
returns c = never_closes _ _ _ _ _ c.loop-byte.invariant (nil_from_length c.loop-byte.rest.now c.in_default.ensures.cases)
