use Rattle.std.proofs.Common.{◌-◌, take, sym, ap, ◌∙◌}
use Rattle.op_types.specs.Names.{taken_over}
use Rattle.op_types.specs.contracts.stretch.Stretch.{the_view}
use Rattle.op_types.proofs.Stretches.{both_leave, nothing_leaves}
use Rattle.op_types.proofs.stretch.Stretch.leave.Goals as goal
use Rattle.op_types.proofs.stretch.Stretch.leave.Goals.{in-None, in-Some}

pub returns : goal.returns
returns c =
    let own = c.leave.ensures ∙ ap (λ n. take n c.self.inside.own) c.saturating_sub.ensures in
    elim c.match-self.branch [
      | in-None w ↦
          ap the_view w.self-inside-is
          ∙ both_leave (taken_over c.self.inside.shared) c.self.inside.own c.args.self.now (taken_over c.self.inside.shared) c.leave.new.self c.args.count c.len_of.result c.len_of.ensures.counts c.self.view_is own
          (ap taken_over w.in-None.is ∙ nothing_leaves c.args.count ∙ sym (ap (λ s. take c.args.count (taken_over s)) w.in-None.is))
      | in-Some w ↦
          ap the_view w.self-inside-is
          ∙ both_leave (taken_over c.self.inside.shared) c.self.inside.own c.args.self.now w.leave-in-Some.new.self c.leave.new.self c.args.count c.len_of.result c.len_of.ensures.counts c.self.view_is own
          (w.leave-in-Some.ensures ∙ sym (ap (λ s. take c.args.count (taken_over s)) w.in-Some.is))
    ]
