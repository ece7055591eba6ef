use Rattle.std.proofs.Common.{◌≡◌, ◌++◌, drop, take, ap, ◌∙◌}
use Rattle.std.proofs.lemmas.Result.{IfOk-weaker}
use Rattle.op_types.specs.Names.{taken_over}
use Rattle.op_types.proofs.Stretches.{both_copied}
use Rattle.op_types.proofs.stretch.Stretch.copy_since.Goals as goal

pub returns : goal.returns
returns c =
    IfOk-weaker c.copy_since.result
    (λ _. c.copy_since.new.copy ≡ c.copy_shared.new.copy ++ drop c.saturating_sub-behind.result (take c.len.result c.self.inside.own))
    (λ _. c.copy_since.new.copy ≡ c.args.copy.now ++ drop c.args.count c.args.self.now)
    (λ _ w. both_copied (taken_over c.self.inside.shared) c.self.inside.own c.args.self.now c.args.copy.now c.copy_shared.new.copy c.copy_since.new.copy c.args.count c.len.result c.len_of.result c.len_of.ensures.counts c.len.ensures.counts c.self.view_is c.in_ok-copy_shared.ensures (w ∙ ap (λ n. c.copy_shared.new.copy ++ drop n (take c.len.result c.self.inside.own)) c.saturating_sub-behind.ensures))
    c.copy_since.ensures
