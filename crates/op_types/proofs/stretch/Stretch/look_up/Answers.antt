use Rattle.std.proofs.Common.{sym, ap, ◌∙◌}
use Rattle.std.specs.Option.{option_copied}
use Rattle.op_types.specs.Names.{meaning_of, taken_over}
use Rattle.op_types.proofs.Stretches.{own_tells, shared_tells}
use Rattle.op_types.proofs.stretch.Stretch.look_up.Goals as goal

pub returns-in-Some : goal.returns-in-Some
returns-in-Some c =
    own_tells (taken_over c.self.inside.shared) c.self.inside.own c.args.self.now c.len.result c.args.key.now.items c.in-Some.meaning.now c.len.ensures.counts c.self.view_is c.in-Some.ensures

pub returns-in-Some-shared : goal.returns-in-Some-shared
returns-in-Some-shared c =
    shared_tells (taken_over c.self.inside.shared) c.self.inside.own c.args.self.now c.len.result c.args.key.now.items (option_copied c.look_up-in-Some-shared.result) c.len.ensures.counts c.self.view_is c.in-None.ensures
    (c.look_up-in-Some-shared.ensures ∙ ap (λ s. meaning_of (taken_over s) c.args.key.now.items) (sym c.in-Some-shared.is))
