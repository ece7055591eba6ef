use Rattle.std.proofs.Common.{◌%◌, sym, ◌∙◌, eq-eqb, arith}
use Rattle.std.proofs.lemmas.Bool.{ne_eqb}
use Rattle.op_link.specs.Image.{gives_execute, segments}
use Rattle.op_listing.proofs.Segments.{code_segment-is, code_segment-none, find_behind, find_here, find_none, length-segments}
use Rattle.op_listing.proofs.lines.code_segment.Goals as goal

pub returns-then-segment-eq1-clause-is : goal.returns-then-segment-eq1-clause-is
returns-then-segment-eq1-clause-is c =
    let image = c.args.image.now in
    let s = c.segment-segment.result in
    sym (code_segment-is image c.in-Ok.ensures.header.meets ∙ find_here gives_execute (segments image) c.loop-k.k s c.segment-segment.ensures.is c.loop-k.invariant (eq-eqb (s.flags % 2) 1 c.if-segment-eq1.true))

pub loop-k-preserved : goal.loop-k-preserved
loop-k-preserved c =
    let s = c.segment-segment.result in
    find_behind gives_execute (segments c.args.image.now) c.loop-k.k s c.segment-segment.ensures.is c.loop-k.invariant (ne_eqb (s.flags % 2) 1 c.if-segment-eq1.false)

pub returns-after-loop-k-clause-is : goal.returns-after-loop-k-clause-is
returns-after-loop-k-clause-is c =
    let image = c.args.image.now in
    let long = length-segments image in
    sym (code_segment-is image c.in-Ok.ensures.header.meets ∙ find_none gives_execute (segments image) c.loop-k.k (omega (arith, c.in-Ok.ensures.header.number)) c.loop-k.invariant)

pub returns-in-Err-clause-is : goal.returns-in-Err-clause-is
returns-in-Err-clause-is c = sym (code_segment-none c.args.image.now c.in-Err.field-0 c.in-Err.ensures.condition)
