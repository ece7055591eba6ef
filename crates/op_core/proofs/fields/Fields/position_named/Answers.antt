use Rattle.std.proofs.Common.{◌∙◌, ap, sym}
use Rattle.std.specs.Option.{option_copied}
use Rattle.op_core.proofs.FieldIndex.{looked_up}
use Rattle.op_core.proofs.fields.Fields.position_named.Goals as goal

pub returns-then-names-run : goal.returns-then-names-run
returns-then-names-run c =
    c.copied.ensures
    ∙ c.get-then-names-run.ensures.value
    ∙ looked_up c.self.inside.rows c.args.self.now c.self.inside.records c.args.run c.args.name.now c.in-Some.names.now c.in_ok-key.key c.self.invariant (sym c.get.ensures.value ∙ ap option_copied c.in-Some.is) c.if-names-run.true c.in_ok-key.ensures c.self.view_is
