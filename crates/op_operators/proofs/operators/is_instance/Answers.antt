use Rattle.std.proofs.Common.{[], ◌∷◌}
use Rattle.op_operators.proofs.Following.{gives_both, number_follows}
use Rattle.op_semantics.specs.Expressions.{operand_of, then_number}
use Rattle.op_semantics.specs.Primitives.{a_type}
use Rattle.op_semantics.specs.declared.primitive.Primitive.TheVariants.{IsInstance}
use Rattle.op_values.specs.Setting.{here_view}
use Rattle.op_operators.proofs.operators.is_instance.Goals as goal

pub returns : goal.returns
returns c =
    let here = here_view c.args.here in
    gives_both c.args.setting c.args.items.now.items c.own.new.items.items c.looked_up.new.items.items c.in_ok-found.found c.looked_up.result _
    (λ f. then_number here IsInstance (a_type c.args.other ∷ operand_of c.args.of here f.now ∷ []) f)
    (λ xs f. number_follows here IsInstance (a_type c.args.other ∷ operand_of c.args.of here f.now ∷ []) xs f)
    c.in_ok-found.ensures c.looked_up.ensures
