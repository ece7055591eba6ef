use Rattle.std.proofs.Common.{[], ◌∷◌}
use Rattle.op_operators.proofs.Following.{gives_both, value_follows}
use Rattle.op_semantics.specs.Expressions.{then_value}
use Rattle.op_semantics.specs.Primitives.{from_temp}
use Rattle.op_semantics.specs.declared.primitive.Primitive.TheVariants.{TextOfChar}
use Rattle.op_values.specs.Setting.{here_view}
use Rattle.op_operators.proofs.conversions.text_of_char.Goals as goal

pub returns : goal.returns
returns c =
    let here = here_view c.args.here in
    gives_both c.args.setting c.args.items.now.items c.own.new.items.items c.text_by_char.new.items.items c.in_ok-found.found c.text_by_char.result _
    (then_value c.args.setting.core.now c.args.to here TextOfChar (from_temp here.temp ∷ []))
    (value_follows c.args.setting.core.now c.args.to here TextOfChar (from_temp here.temp ∷ []))
    c.in_ok-found.ensures c.text_by_char.ensures
