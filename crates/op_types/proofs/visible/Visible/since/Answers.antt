use Rattle.std.proofs.Common.{◌≡◌, ◌+◌, ◌-◌, ◌++◌, drop, ap, ◌∙◌}
use Rattle.std.proofs.lemmas.Result.{IfOk-weaker}
use Rattle.op_types.specs.Names.{all_of}
use Rattle.op_types.proofs.Stretches.{copied_all, copied_on}
use Rattle.op_types.proofs.visible.Visible.since.Goals as goal

pub loop-stretch-init : goal.loop-stretch-init
loop-stretch-init c =
    ap (λ v. v ++ drop c.args.count (all_of c.deref-stretch-items.result.now)) c.new-copy.ensures ∙ ap (λ v. drop c.args.count (all_of v)) c.deref-stretch-items.ensures.value ∙ ap (drop c.args.count) c.self.view_is

pub loop-stretch-preserved : goal.loop-stretch-preserved
loop-stretch-preserved c =
    ap (λ n. c.copy_since.new.copy ++ drop n (all_of (drop (c.loop-stretch.stretch-index + 1) c.deref-stretch-items.result.now))) (c.saturating_sub-left.ensures ∙ ap (λ n. c.loop-stretch.left - n) c.len.ensures)
    ∙ copied_on c.deref-stretch-items.result.now c.loop-stretch.stretch-index c.stretch-item.result c.loop-stretch.copy c.copy_since.new.copy (drop c.args.count c.args.self.now) c.loop-stretch.left c.loop-stretch-test.true c.stretch-item.is c.in_ok-copy_since.ensures c.loop-stretch.invariant

pub returns : goal.returns
returns c =
    IfOk-weaker c.of.result (λ v. v ≡ c.loop-stretch.copy) (λ v. v ≡ drop c.args.count c.args.self.now)
    (λ v e. e ∙ copied_all c.deref-stretch-items.result.now c.loop-stretch.stretch-index c.loop-stretch.copy (drop c.args.count c.args.self.now) c.loop-stretch.left c.loop-stretch-test.false c.loop-stretch.invariant)
    c.of.ensures
