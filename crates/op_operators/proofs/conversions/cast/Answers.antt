use Rattle.std.proofs.Common.{[], ◌∷◌}
use Rattle.op_operators.proofs.Following.{gives_both, value_follows}
use Rattle.op_semantics.specs.Expressions.{operand_of, then_value}
use Rattle.op_semantics.specs.Primitives.{a_type}
use Rattle.op_values.specs.Setting.{here_view}
use Rattle.op_operators.proofs.conversions.cast.Goals as goal

pub returns : goal.returns
returns c =
    let here = here_view c.args.here in
    gives_both c.args.setting c.args.items.now.items c.own.new.items.items c.reference.new.items.items c.in_ok-found.found c.reference.result _
    (λ f. then_value c.args.setting.core.now c.args.to here c.args.primitive (a_type c.args.to ∷ operand_of c.args.of here f.now ∷ []) f)
    (λ xs f. value_follows c.args.setting.core.now c.args.to here c.args.primitive (a_type c.args.to ∷ operand_of c.args.of here f.now ∷ []) xs f)
    c.in_ok-found.ensures c.reference.ensures
