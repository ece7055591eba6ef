use Rattle.std.proofs.Common.{[], ◌∷◌, ◌++◌, ap, ◌∙◌}
use Rattle.op_types.proofs.enter.push_type.Goals as goal

pub returns-clause-row : goal.returns-clause-row
returns-clause-row c =
    let e = c.in_ok-push.ensures ∙ ap (λ e. c.args.core.now.extents ++ e ∷ []) c.extent_by-extent.ensures in
    (λ i. record c.args.core.now { types = c.in_ok-push-2.ensures i; extents = e i })
