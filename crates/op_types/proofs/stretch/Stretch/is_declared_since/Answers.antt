use Rattle.std.proofs.Common.{drop, is_some, take, sym, ap, ◌∙◌}
use Rattle.op_types.specs.Names.{meaning_of, taken_over}
use Rattle.op_types.proofs.Stretches.{own_since, shared_since}
use Rattle.op_types.proofs.stretch.Stretch.is_declared_since.Goals as goal

pub returns-then-is_declared_since : goal.returns-then-is_declared_since
returns-then-is_declared_since c =
    own_since (taken_over c.self.inside.shared) c.self.inside.own c.args.self.now c.len.result c.args.count c.len_of.result c.args.key.now.items c.len.ensures.counts c.len_of.ensures.counts c.self.view_is
    (sym c.if-is_declared_since.true ∙ c.is_declared_since.ensures ∙ ap (λ n. is_some (meaning_of (drop n (take c.len.result c.self.inside.own)) c.args.key.now.items)) c.saturating_sub-behind.ensures)

pub returns-in-Some : goal.returns-in-Some
returns-in-Some c =
    shared_since (taken_over c.self.inside.shared) c.self.inside.own c.args.self.now c.len.result c.args.count c.len_of.result c.args.key.now.items c.is_declared_since-in-Some.result c.len.ensures.counts c.len_of.ensures.counts c.self.view_is
    (sym c.if-is_declared_since.false ∙ c.is_declared_since.ensures ∙ ap (λ n. is_some (meaning_of (drop n (take c.len.result c.self.inside.own)) c.args.key.now.items)) c.saturating_sub-behind.ensures)
    (c.is_declared_since-in-Some.ensures ∙ ap (λ s. is_some (meaning_of (drop c.args.count (taken_over s)) c.args.key.now.items)) (sym c.in-Some.is))
