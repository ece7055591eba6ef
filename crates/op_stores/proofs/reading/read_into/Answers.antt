use Rattle.std.proofs.Common.{ap, sym, Some, ◌∙◌}
use Rattle.op_core.specs.Expression.{expr_of}
use Rattle.op_core.specs.Sizes.{type_at}
use Rattle.op_core.specs.Statement.{target_of}
use Rattle.op_core.specs.StatementTyping.{host}
use Rattle.op_core.specs.Typing.{type_of}
use Rattle.op_core.specs.declared.types.CoreType.TheVariants.{String}
use Rattle.op_stores.proofs.Lines.{read_as}
use Rattle.op_values.specs.Adding.{found_view}
use Rattle.op_values.specs.Setting.{here_view}
use Rattle.op_stores.proofs.reading.read_into.Goals as goal

pub returns-in-Some-String : goal.returns-in-Some-String
returns-in-Some-String c =
    read_as c.args.setting c.args.items.now.items c.read_text.new.items.items c.read_text.result (here_view c.args.here) (target_of c.args.target.now) c.type_of-of.result (type_of (expr_of c.args.target.now.place)) (Some String) (host c.args.setting.core.now (type_at c.args.setting.core.now (type_of (expr_of c.args.target.now.place)))) (found_view c.args.place)
    c.type_of-of.ensures (sym (ap Some c.in-Some-String.field-0-is) ∙ sym c.in-Some-String.is ∙ c.host.ensures ∙ ap (λ t. host c.args.setting.core.now (type_at c.args.setting.core.now t)) c.type_of-of.ensures) (c.read_text.ensures (target_of c.args.target.now))
