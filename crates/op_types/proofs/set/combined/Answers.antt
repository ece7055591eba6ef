use Rattle.std.proofs.Common.{◌∙◌, arith}
use Rattle.op_types.proofs.Members.{no_more, one_more}
use Rattle.op_types.specs.Sets.{combined, has, is_kept}
use Rattle.op_types.proofs.set.combined.Goals as goal

pub loop-n-preserved : goal.loop-n-preserved
loop-n-preserved c =
    one_more c.loop-n.set.items c.push_if.new.set.items c.loop-n.n c.is_kept.result (λ n. is_kept c.args.operator (has c.args.a.now n) (has c.args.b.now n)) (combined c.args.operator c.args.a.now c.args.b.now) c.loop-n-test.true
    (c.is_kept.ensures ∙ (λ i. is_kept c.args.operator (c.has.ensures i) (c.has-in-loop-n.ensures i))) c.in_ok-push_if.ensures c.loop-n.invariant

pub returns : goal.returns
returns c =
    no_more c.loop-n.set.items c.loop-n.n (λ n. is_kept c.args.operator (has c.args.a.now n) (has c.args.b.now n)) (combined c.args.operator c.args.a.now c.args.b.now) (omega (arith, c.loop-n-test.false, c.loop-n.auto.n-end)) c.loop-n.invariant
