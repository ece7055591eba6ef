use Rattle.std.proofs.Common.{◌≡◌, ◌≢◌, ◌∙◌, sym, arith, ◌+◌}
use Rattle.std.proofs.lemmas.Bool.{false≢true}
use Rattle.op_emu.specs.declared.stop.Stepped.TheVariants.{Went}
use Rattle.op_emu.proofs.RunsLemmas.{does_nothing, glides, goes_on, stops}
use Rattle.op_emu.proofs.machine.Machine.run.Goals as goal

pub loop-done-init : goal.loop-done-init
loop-done-init g c =
    record {
      within = omega arith;
      goes = c.goes_on.ensures.0 c.if-not-goes_on.false;
      does = does_nothing c.args.self.now _ _ _;
      counts = (omega arith, omega arith, omega arith);
    }

pub returns-then-not-goes_on-2-clause-runs : goal.returns-then-not-goes_on-2-clause-runs
returns-then-not-goes_on-2-clause-runs g c =
    let now = c.loop-done.invariant in
    let glide = c.glide-glided.ensures in
    let mid = c.glide-glided.new.self in
    let step = c.step-stepped.ensures in
    let went : mid.last ≡ Went = glide.last ∙ now.goes in
    let does = glides c.loop-done.done c.glide-glided.result c.args.self.now c.loop-done.self mid _ _ _ _ _ _ now.does now.goes went glide.counted glide.leads in
    let stopped : c.step-stepped.result ≢ Went =
    λ went. false≢true (sym c.if-not-goes_on-2.true ∙ c.goes_on-in-loop-done.ensures.1 (step.stands ∙ went))
    in
    λ _.
    stops (c.loop-done.done + c.glide-glided.result) c.args.self.now mid c.step-stepped.new.self _ _ _ _ _ _ _ _ _ does went glide.below c.args.n c.step-stepped.result _ _ _ _ _ _ _ _ _ _ c.stop-then-not-goes_on-2.ensures (omega (arith, glide.bounded, c.loop-done-test.true)) now.counts.0 now.counts.1 now.counts.2 stopped step.stands (step.counted went) (step.acts went)

pub loop-done-preserved : goal.loop-done-preserved
loop-done-preserved g c =
    let now = c.loop-done.invariant in
    let glide = c.glide-glided.ensures in
    let mid = c.glide-glided.new.self in
    let step = c.step-stepped.ensures in
    let went : mid.last ≡ Went = glide.last ∙ now.goes in
    let does = glides c.loop-done.done c.glide-glided.result c.args.self.now c.loop-done.self mid _ _ _ _ _ _ now.does now.goes went glide.counted glide.leads in
    let goes : c.step-stepped.new.self.last ≡ Went = c.goes_on-in-loop-done.ensures.0 c.if-not-goes_on-2.false in
    record {
      within = omega (arith, glide.bounded, c.loop-done-test.true);
      goes = goes;
      does = goes_on (c.loop-done.done + c.glide-glided.result) c.args.self.now mid c.step-stepped.new.self _ _ _ _ _ _ _ _ _ does went glide.below c.step-stepped.result _ _ (omega arith) (sym step.stands ∙ goes) step.stands (step.counted went) (step.acts went);
      counts = (omega (arith, now.counts.0, step.counts.0), omega (arith, now.counts.1, step.counts.1), omega (arith, now.counts.2, step.counts.2));
    }
